-- What was granted is begun by its storage site, or it is open as it was granted.
use Rattle.std.proofs.Common.{◌≡◌, ℕ, ◌==◌, Bool, true, false, not, ◌&&◌, cond, List, [], ◌∷◌, ◌++◌, Option, Some, None, refl, sym, ap, ◌∙◌, subst, ◌⊎◌, inl, inr}
use Rattle.std.specs.List.{find}
use Rattle.tree_laws.proofs.of_plain_facts.Numbers.{equal, equal_self}
use Rattle.tree_laws.proofs.of_plain_facts.Options.{none_some, some_same}
use Rattle.tree_laws.proofs.of_plain_facts.Tests.{and_first, and_second, true_false}
use Rattle.locus_ids.specs.declared.config.Config.{Config}
use Rattle.locus_ids.specs.declared.ids.CallId.{CallId}
use Rattle.locus_ids.specs.declared.ids.EpochId.{EpochId}
use Rattle.locus_ids.specs.declared.ids.FileId.{FileId}
use Rattle.locus_ids.specs.declared.ids.Mode.{Mode}
use Rattle.locus_ids.specs.declared.ids.Mode.TheVariants as mode
use Rattle.locus_ids.specs.declared.ids.Serial.{Serial}
use Rattle.locus_ids.specs.declared.ids.Stamp.{Stamp}
use Rattle.commit_graph.specs.Grants.{is_read}
use Rattle.commit_graph.specs.Versions.{same_file}
use Rattle.trace_book.specs.Same.{same_epoch, same_serial}
use Rattle.trace_book.specs.declared.record.Record.{Record}
use Rattle.trace_book.specs.declared.record.Record.TheVariants as says
use Rattle.tree_model.specs.of_file_effects.Works.{begun}
use Rattle.tree_model.specs.of_file_effects.declared.work.Work.{Work}
use Rattle.site_laws.specs.of_role_steps.Views.{Told, Shown, Shuts}
use Rattle.tree_laws.specs.of_the_run.Worlds.{Line}
use Rattle.tree_model.specs.declared.instance.Instance.{Instance}
use Rattle.tree_model.specs.Epochs.{is_in}
use Rattle.tree_model.specs.Folds.{Trace}
use Rattle.tree_model.specs.Histories.{history, stamped_content}
use Rattle.tree_model.specs.State.{TreeState, held_at, instance_in, is_inside, is_named, is_writer}
use Rattle.tree_model.specs.Tree.{grant_of, opened, tree_of}
use Rattle.tree_laws.specs.of_lawful_trace.TreeRows.{granted_group}
use Rattle.tree_laws.specs.Following.{CommitsInTime, IsFollowed, MakesInTime, MayTell}
use Rattle.tree_laws.specs.Frames.{IsFresh}
use Rattle.tree_laws.specs.Instances.{IsOpenAt, instance_now}
use Rattle.tree_laws.specs.Past.{GrantRecord, Printed, ShutsIt, WasBegun, WasGranted, WasNamed, WasShut}
use Rattle.tree_laws.specs.Printed.{entries, onto_entries}
use Rattle.tree_laws.proofs.Grants.{in_tree_named, open_named}
use Rattle.tree_laws.proofs.Histories.{content_same}
use Rattle.tree_laws.proofs.Kinship.{StaysOpen, open_stays}
use Rattle.tree_laws.proofs.Names.{same_epoch_eq, same_epoch_own, same_serial_eq, same_serial_own}
use Rattle.tree_laws.proofs.Opened.{ActsOn, CommitsOn, EndsIt, GoesOn}
use Rattle.tree_laws.proofs.Owing.{inside_is}
use Rattle.tree_laws.proofs.Rows.{followed_rows}
use Rattle.tree_laws.proofs.Orders.Alone.{rows_apart, tree_named}
use Rattle.tree_laws.proofs.Orders.Keeping.{changes_alone}
use Rattle.tree_laws.proofs.Orders.Lists.{all_found}
use Rattle.tree_laws.proofs.Orders.Standing.{same_file_eq}
use Rattle.store_laws.specs.Holdings.Granted.{IsAsGranted}
use Rattle.store_laws.proofs.Holdings.Below.{line_fresh}
use Rattle.store_laws.proofs.Holdings.Made.{CommitsAreNew, held_stand}
use Rattle.store_laws.proofs.Holdings.Seats.{Seat, rows_seated}

-- open with the work of its beginning, and no site has begun to close it
pub record Untouched (c : Config) (trace : List Line) (e : EpochId) (i : Serial) (m : Mode) (f : FileId) (stamp : Option Stamp) (ss : ℕ) : Type 0 where
  pub at : Instance
  pub open_at : IsOpenAt c trace e i ss at
  pub file_is : at.grant.file ≡ f
  pub mode_is : at.grant.mode ≡ m
  pub work_is : at.work ≡ begun m stamp (stamped_content (history c (entries trace)) f stamp)
  pub unshut : (s : ℕ) → WasShut trace s e i → ⊥

abbrev pub BegunOrOpen : Config → List Line → EpochId → Serial → Mode → FileId → Option Stamp → ℕ → Type 0
BegunOrOpen c trace e i m f stamp ss = WasBegun trace ss e i f ⊎ Untouched c trace e i m f stamp ss

-- ---- what is open in a tree is in that of its grant ----

-- the seat of an open instance
pub open_seat : (c : Config) (trace : List Line) → IsFollowed c trace → (e : EpochId) (i : Serial) (x : Instance) → instance_now c trace e i ≡ Some x →
    Seat e (granted_group (entries trace) e i) (entries trace) (tree_of c e (granted_group (entries trace) e i) (entries trace)) x
open_seat c trace followed e i x k = all_found (Seat e (granted_group (entries trace) e i) (entries trace) (tree_of c e (granted_group (entries trace) e i) (entries trace))) (is_named i) (tree_of c e (granted_group (entries trace) e i) (entries trace)).instances x
    (rows_seated c (entries trace) (followed_rows c trace followed) e (granted_group (entries trace) e i)) k

-- it is found in the tree of its file's group
pub open_in_group : (c : Config) (trace : List Line) → IsFollowed c trace → (e : EpochId) (i : Serial) (x : Instance) → instance_now c trace e i ≡ Some x → instance_in (tree_of c e x.grant.file.group (entries trace)) i ≡ Some x
open_in_group c trace followed e i x k = subst (λ (g : ℕ). instance_in (tree_of c e g (entries trace)) i ≡ Some x) (sym (open_seat c trace followed e i x k).group_is) k

shut_named : (c : Config) (trace : List Line) → IsFollowed c trace → (s : ℕ) (e : EpochId) (i : Serial) → WasShut trace s e i → WasNamed trace e i
shut_named c [] followed s e i k = absurd k
shut_named c (x ∷ older) followed s e i (inr k) = inr (shut_named c older followed.1 s e i k)
shut_named c (x ∷ older) followed s e i (inl k) = inr (over x.told followed.0 k)
  where
    over : (y : Told) → MayTell c older y → ShutsIt s e i older y → WasNamed older e i
    over (Shuts site at inst) may k = open_named c older e i may.at (subst (λ (z : EpochId). instance_now c older z i ≡ Some may.at) k.epoch_is (subst (λ (z : Serial). instance_now c older at z ≡ Some may.at) k.serial_is may.open_at.found))
    over _ may k = absurd k

-- ---- a grant ----

module _ (c : Config) (older : List Line) (n : ℕ) (followed : IsFollowed c older) (at : EpochId) (call : CallId) (number : ℕ) (inst : Serial) (how : Mode) (file : FileId) (on : Option Stamp) (place : ℕ) (may : MayTell c older (Shown (says.Grant at call number inst how file on place))) where
  abbrev now : List Line
  now = record { number = n; told = Shown (says.Grant at call number inst how file on place) } ∷ older

  abbrev before : Trace
  before = entries older

  abbrev t : TreeState
  t = tree_of c at file.group before

  abbrev y : Instance
  y = opened (history c before) (grant_of t call inst how file place) on

  named : (t.epoch ≡ at) × (t.group ≡ file.group)
  named = tree_named c at file.group before

  -- nobody was open under the name
  none_before : (o : Option Instance) → instance_in t inst ≡ o → o ≡ None
  none_before None k = refl
  none_before (Some x) k = absurd (may.in_time.new (in_tree_named c at file.group inst older x k))

  added : (xs : List Instance) → find (is_named inst) xs ≡ None → find (is_named inst) (xs ++ y ∷ []) ≡ Some y
  added [] k = ap (λ (b : Bool). cond b (Some y) None) (same_serial_own inst)
  added (x ∷ xs) k = over (is_named inst x) k (added xs)
    where
      over : (b : Bool) → cond b (Some x) (find (is_named inst) xs) ≡ None → (find (is_named inst) xs ≡ None → find (is_named inst) (xs ++ y ∷ []) ≡ Some y) → cond b (Some x) (find (is_named inst) (xs ++ y ∷ [])) ≡ Some y
      over true k later = absurd (none_some x (sym k))
      over false k later = later k

  group_is : granted_group (entries now) at inst ≡ file.group
  group_is = ap (λ (b : Bool). cond (b && same_serial inst inst) file.group (granted_group before at inst)) (same_epoch_own at) ∙ ap (λ (b : Bool). cond b file.group (granted_group before at inst)) (same_serial_own inst)

  found : instance_in (tree_of c at file.group (entries now)) inst ≡ Some y
  found = over (same_epoch at t.epoch) (same_epoch_is at named.0) (file.group == t.group) (subst (λ (g : ℕ). (file.group == g) ≡ true) (sym named.1) (equal_self file.group))
    where
      same_epoch_is : (d : EpochId) → t.epoch ≡ d → same_epoch d t.epoch ≡ true
      same_epoch_is d k = subst (λ (z : EpochId). same_epoch d z ≡ true) (sym k) (same_epoch_own d)

      over : (a : Bool) → a ≡ true → (b : Bool) → b ≡ true → find (is_named inst) (cond a (record t { grants = t.grants ++ grant_of t call inst how file place ∷ []; instances = cond b (t.instances ++ y ∷ []) t.instances }) t).instances ≡ Some y
      over true k true l = added t.instances (none_before (instance_in t inst) refl)
      over true k false l = absurd (true_false (sym l))
      over false k b l = absurd (true_false (sym k))

  pub granted_open : Untouched c now at inst how file on place
  granted_open = record {
    at = y;
    open_at = record { found = subst (λ (g : ℕ). instance_in (tree_of c at g (entries now)) inst ≡ Some y) (sym group_is) found; place = refl };
    file_is = refl;
    mode_is = refl;
    work_is = refl;
    unshut = λ s k. unshut_now s k;
  }
    where
      unshut_now : (s : ℕ) → WasShut now s at inst → ⊥
      unshut_now s (inl k) = k
      unshut_now s (inr k) = may.in_time.new (shut_named c older followed s at inst k)

  pub granted_now : (m : Mode) → how ≡ m → BegunOrOpen c now at inst how file on place
  granted_now mode.Make k = inl (inr (subst (λ (z : Mode). MakesInTime older at inst file place z) k may.in_time.makes))
  granted_now m k = inr granted_open

-- ---- a line more ----

-- the instance stays untouched, or was begun
module _ (c : Config) (older : List Line) (n : ℕ) (x : Told) (followed : IsFollowed c older) (may : MayTell c older x) (fresh : IsFresh c older x) (e : EpochId) (i : Serial) (m : Mode) (f : FileId) (stamp : Option Stamp) (ss : ℕ) (u : Untouched c older e i m f stamp ss) where
  abbrev so_far : Trace
  so_far = entries older

  abbrev after : List Line
  after = record { number = n; told = x } ∷ older

  -- an instance under the name is this one
  same_open : (z : Instance) → instance_now c older e i ≡ Some z → z ≡ u.at
  same_open z k = some_same z u.at (sym k ∙ u.open_at.found)

  begun_same : (z : Instance) → instance_now c older e i ≡ Some z → WasBegun older z.grant.ss e i z.grant.file → WasBegun older ss e i f
  begun_same z k w = subst (λ (g : FileId). WasBegun older ss e i g) (ap (λ (v : Instance). v.grant.file) (same_open z k) ∙ u.file_is) (subst (λ (q : ℕ). WasBegun older q e i z.grant.file) (ap (λ (v : Instance). v.grant.ss) (same_open z k) ∙ u.open_at.place) w)

  -- the version of the beginning stands
  seat : Seat e (granted_group so_far e i) so_far (tree_of c e (granted_group so_far e i) so_far) u.at
  seat = open_seat c older followed e i u.at u.open_at.found

  content_is : (o : Option Stamp) → u.at.work.last ≡ o → stamped_content (history c (entries after)) f o ≡ stamped_content (history c so_far) f o
  content_is None k = refl
  content_is (Some s) k = content_same c n x older f s fresh
      (held_stand c so_far (followed_rows c older followed) e f u.at.grant.ss s (subst (λ (g : FileId). held_at (tree_of c e g.group so_far) u.at.grant.ss g.ino ≡ Some s) u.file_is
      (subst (λ (g : ℕ). held_at (tree_of c e g so_far) u.at.grant.ss u.at.grant.file.ino ≡ Some s) (sym seat.group_is) (sym seat.last_is ∙ k))))

  last_is : u.at.work.last ≡ stamp
  last_is = ap (λ (w : Work). w.last) u.work_is

  stays : (z : Instance) → instance_now c after e i ≡ Some z → z ≡ u.at → ((s : ℕ) → WasShut after s e i → ⊥) → Untouched c after e i m f stamp ss
  stays z found same unshut = record {
    at = z;
    open_at = record { found = found; place = ap (λ (v : Instance). v.grant.ss) same ∙ u.open_at.place };
    file_is = ap (λ (v : Instance). v.grant.file) same ∙ u.file_is;
    mode_is = ap (λ (v : Instance). v.grant.mode) same ∙ u.mode_is;
    work_is = ap (λ (v : Instance). v.work) same ∙ (u.work_is ∙ ap (λ (b : List ℕ). begun m stamp b) (sym (content_is stamp last_is)));
    unshut = unshut;
  }

-- by what is told
commit_begins : (c : Config) (older : List Line) (followed : IsFollowed c older) (e : EpochId) (i : Serial) (m : Mode) (f : FileId) (stamp : Option Stamp) (ss : ℕ) (u : Untouched c older e i m f stamp ss) (g : FileId) (z : ℕ) → CommitsInTime c older g z →
    is_inside (tree_of c e (granted_group (entries older) e i) (entries older)) z ≡ true → is_writer g z u.at ≡ true → WasBegun older ss e i f
commit_begins c older followed e i m f stamp ss u g z w inside writes =
    subst (λ (q : ℕ). WasBegun older q e i f) site_is (subst (λ (q : FileId). WasBegun older z e i q) (sym mine ∙ u.file_is) (subst (λ (q : Serial). WasBegun older z e q g) inst_is (subst (λ (q : EpochId). WasBegun older z q w.inst g) epoch_is w.runs.begun)))
  where
    mine : u.at.grant.file ≡ g
    mine = same_file_eq u.at.grant.file g (and_first (same_file u.at.grant.file g) _ writes)

    site_is : z ≡ ss
    site_is = sym (equal u.at.grant.ss z (and_first (u.at.grant.ss == z) _ (and_second (same_file u.at.grant.file g) _ writes))) ∙ u.open_at.place

    epoch_is : w.epoch ≡ e
    epoch_is = same_epoch_eq w.epoch e (sym (ap (λ (o : Option EpochId). is_in o e) w.inside) ∙ (sym (inside_is c (entries older) e (granted_group (entries older) e i) z) ∙ inside))

    unread : (b : Bool) → not b ≡ true → b ≡ false
    unread true k = absurd (true_false (sym k))
    unread false k = refl

    there : instance_now c older e w.inst ≡ Some w.at
    there = subst (λ (q : EpochId). instance_now c older q w.inst ≡ Some w.at) epoch_is w.open_at.found

    mine_in : instance_in (tree_of c e g.group (entries older)) i ≡ Some u.at
    mine_in = subst (λ (q : FileId). instance_in (tree_of c e q.group (entries older)) i ≡ Some u.at) mine (open_in_group c older followed e i u.at u.open_at.found)

    its_in : instance_in (tree_of c e g.group (entries older)) w.inst ≡ Some w.at
    its_in = subst (λ (q : FileId). instance_in (tree_of c e q.group (entries older)) w.inst ≡ Some w.at) w.file_is (open_in_group c older followed e w.inst w.at there)

    inst_is : w.inst ≡ i
    inst_is = changes_alone (tree_of c e g.group (entries older)).instances i w.inst u.at w.at (rows_apart c (entries older) (followed_rows c older followed) e g.group).alone mine_in its_in (mine ∙ sym w.file_is)
        (unread (is_read u.at.grant.mode) (and_second (u.at.grant.ss == z) _ (and_second (same_file u.at.grant.file g) _ writes)))

-- a printed record
record_begins : (c : Config) (older : List Line) (n : ℕ) (r : Record) (followed : IsFollowed c older) (may : MayTell c older (Shown r)) (fresh : IsFresh c older (Shown r)) (e : EpochId) (i : Serial) (m : Mode) (f : FileId) (stamp : Option Stamp) (ss : ℕ) →
    (u : Untouched c older e i m f stamp ss) → BegunOrOpen c (record { number = n; told = Shown r } ∷ older) e i m f stamp ss
record_begins c older n r followed may fresh e i m f stamp ss u = over (open_stays c older n (Shown r) e i u.at may (open_named c older e i u.at u.open_at.found) u.open_at.found)
  where
    abbreviated : (z : Instance) → instance_now c (record { number = n; told = Shown r } ∷ older) e i ≡ Some z → z ≡ u.at → Untouched c (record { number = n; told = Shown r } ∷ older) e i m f stamp ss
    abbreviated z found same = stays c older n (Shown r) followed may fresh e i m f stamp ss u z found same (λ s k. unshut s k)
      where
        unshut : (s : ℕ) → WasShut (record { number = n; told = Shown r } ∷ older) s e i → ⊥
        unshut s (inl k) = k
        unshut s (inr k) = u.unshut s k

    released : (r : Record) → MayTell c older (Shown r) → EndsIt e i r → ⊥
    released (says.Release at inst g last) may k = u.unshut may.in_time.at.grant.ss (subst (λ (q : EpochId). WasShut older may.in_time.at.grant.ss q i) k.0 (subst (λ (q : Serial). WasShut older may.in_time.at.grant.ss at q) k.1 may.in_time.shut))
    released _ may k = absurd k

    acted : (r : Record) → MayTell c older (Shown r) → (z : Instance) → ActsOn (history c (entries older)) (tree_of c e (granted_group (entries older) e i) (entries older)) e i u.at z r → WasBegun older ss e i f
    acted (says.Act at inst k o result) may z w = begun_same c older n (Shown (says.Act at inst k o result)) followed may tt e i m f stamp ss u may.in_time.at
        (subst (λ (q : EpochId). instance_now c older q i ≡ Some may.in_time.at) w.0.0 (subst (λ (q : Serial). instance_now c older at q ≡ Some may.in_time.at) w.0.1 may.in_time.open_at.found))
        (subst (λ (q : EpochId). WasBegun older may.in_time.at.grant.ss q i may.in_time.at.grant.file) w.0.0 (subst (λ (q : Serial). WasBegun older may.in_time.at.grant.ss at q may.in_time.at.grant.file) w.0.1 may.in_time.runs.begun))
    acted _ may z w = absurd w

    committed : (r : Record) → MayTell c older (Shown r) → (z : Instance) → CommitsOn (tree_of c e (granted_group (entries older) e i) (entries older)) u.at z r → WasBegun older ss e i f
    committed (says.Commit g z made parents content) may y w = commit_begins c older followed e i m f stamp ss u g z may.in_time w.0 w.1
    committed _ may y w = absurd w

    goes : (st : StaysOpen c older n (Shown r) e i u.at) → GoesOn (history c (entries older)) (tree_of c e (granted_group (entries older) e i) (entries older)) e i u.at st.new r → BegunOrOpen c (record { number = n; told = Shown r } ∷ older) e i m f stamp ss
    goes st (inl same) = inr (abbreviated st.new st.found same)
    goes st (inr (inl w)) = inl (inr (acted r may st.new w))
    goes st (inr (inr w)) = inl (inr (committed r may st.new w))

    over : StaysOpen c older n (Shown r) e i u.at ⊎ EndsIt e i r → BegunOrOpen c (record { number = n; told = Shown r } ∷ older) e i m f stamp ss
    over (inl st) = goes st st.goes
    over (inr k) = absurd (released r may k)

-- a storage site begins to close an instance
shut_begins : (c : Config) (older : List Line) (n : ℕ) (s : ℕ) (d : EpochId) (j : Serial) (followed : IsFollowed c older) (may : MayTell c older (Shuts s d j)) (e : EpochId) (i : Serial) (m : Mode) (f : FileId) (stamp : Option Stamp) (ss : ℕ) →
    (u : Untouched c older e i m f stamp ss) → BegunOrOpen c (record { number = n; told = Shuts s d j } ∷ older) e i m f stamp ss
shut_begins c older n s d j followed may e i m f stamp ss u = over (same_epoch d e) refl (same_serial j i) refl
  where
    abbreviated : ((z : ℕ) → WasShut (record { number = n; told = Shuts s d j } ∷ older) z e i → ⊥) → Untouched c (record { number = n; told = Shuts s d j } ∷ older) e i m f stamp ss
    abbreviated unshut = record { at = u.at; open_at = record { found = u.open_at.found; place = u.open_at.place }; file_is = u.file_is; mode_is = u.mode_is; work_is = u.work_is; unshut = unshut }

    begins : d ≡ e → j ≡ i → WasBegun older ss e i f
    begins p q = begun_same c older n (Shuts s d j) followed may tt e i m f stamp ss u may.at found
        (subst (λ (z : ℕ). WasBegun older z e i may.at.grant.file) (sym may.open_at.place) (subst (λ (z : EpochId). WasBegun older s z i may.at.grant.file) p (subst (λ (z : Serial). WasBegun older s d z may.at.grant.file) q may.runs.begun)))
      where
        found : instance_now c older e i ≡ Some may.at
        found = subst (λ (z : EpochId). instance_now c older z i ≡ Some may.at) p (subst (λ (z : Serial). instance_now c older d z ≡ Some may.at) q may.open_at.found)

    other_epoch : same_epoch d e ≡ false → (z : ℕ) → WasShut (record { number = n; told = Shuts s d j } ∷ older) z e i → ⊥
    other_epoch p z (inl k) = true_false (sym (subst (λ (q : EpochId). same_epoch d q ≡ true) k.epoch_is (same_epoch_own d)) ∙ p)
    other_epoch p z (inr k) = u.unshut z k

    other_serial : same_serial j i ≡ false → (z : ℕ) → WasShut (record { number = n; told = Shuts s d j } ∷ older) z e i → ⊥
    other_serial p z (inl k) = true_false (sym (subst (λ (q : Serial). same_serial j q ≡ true) k.serial_is (same_serial_own j)) ∙ p)
    other_serial p z (inr k) = u.unshut z k

    over : (a : Bool) → same_epoch d e ≡ a → (b : Bool) → same_serial j i ≡ b → BegunOrOpen c (record { number = n; told = Shuts s d j } ∷ older) e i m f stamp ss
    over true p true q = inl (inr (begins (same_epoch_eq d e p) (same_serial_eq j i q)))
    over true p false q = inr (abbreviated (other_serial q))
    over false p b q = inr (abbreviated (other_epoch p))

line_begins : (c : Config) (older : List Line) (n : ℕ) (x : Told) (followed : IsFollowed c older) (may : MayTell c older x) (fresh : IsFresh c older x) (e : EpochId) (i : Serial) (m : Mode) (f : FileId) (stamp : Option Stamp) (ss : ℕ) →
    BegunOrOpen c older e i m f stamp ss → BegunOrOpen c (record { number = n; told = x } ∷ older) e i m f stamp ss
line_begins c older n x followed may fresh e i m f stamp ss (inl k) = inl (inr k)
line_begins c older n (Shown r) followed may fresh e i m f stamp ss (inr u) = record_begins c older n r followed may fresh e i m f stamp ss u
line_begins c older n (Shuts s d j) followed may fresh e i m f stamp ss (inr u) = shut_begins c older n s d j followed may e i m f stamp ss u
line_begins c older n _ followed may fresh e i m f stamp ss (inr u) = inr (record { at = u.at; open_at = record { found = u.open_at.found; place = u.open_at.place }; file_is = u.file_is; mode_is = u.mode_is; work_is = u.work_is; unshut = λ s k. other s k })
  where
    other : (s : ℕ) → ⊥ ⊎ WasShut older s e i → ⊥
    other s (inl k) = k
    other s (inr k) = u.unshut s k

-- ---- every trace ----

-- what is told is the grant
now_granted : (c : Config) (older : List Line) (n : ℕ) (x : Told) (followed : IsFollowed c older) (may : MayTell c older x) (e : EpochId) (d : CallId) (request : ℕ) (i : Serial) (m : Mode) (f : FileId) (stamp : Option Stamp) (ss : ℕ) →
    Printed (GrantRecord e d request i m f stamp ss) older x → BegunOrOpen c (record { number = n; told = x } ∷ older) e i m f stamp ss
now_granted c older n (Shown r) followed may e d request i m f stamp ss k = over r may k
  where
    over : (r : Record) → MayTell c older (Shown r) → GrantRecord e d request i m f stamp ss older r → BegunOrOpen c (record { number = n; told = Shown r } ∷ older) e i m f stamp ss
    over (says.Grant at call number inst how file on place) may k =
        subst (λ (q : EpochId). BegunOrOpen c (record { number = n; told = Shown (says.Grant at call number inst how file on place) } ∷ older) q i m f stamp ss) k.epoch_is
        (subst (λ (q : Serial). BegunOrOpen c (record { number = n; told = Shown (says.Grant at call number inst how file on place) } ∷ older) at q m f stamp ss) k.serial_is
        (subst (λ (q : Mode). BegunOrOpen c (record { number = n; told = Shown (says.Grant at call number inst how file on place) } ∷ older) at inst q f stamp ss) k.mode_is
        (subst (λ (q : FileId). BegunOrOpen c (record { number = n; told = Shown (says.Grant at call number inst how file on place) } ∷ older) at inst how q stamp ss) k.file_is
        (subst (λ (q : Option Stamp). BegunOrOpen c (record { number = n; told = Shown (says.Grant at call number inst how file on place) } ∷ older) at inst how file q ss) k.stamp_is
        (subst (λ (q : ℕ). BegunOrOpen c (record { number = n; told = Shown (says.Grant at call number inst how file on place) } ∷ older) at inst how file on q) k.place_is
        (granted_now c older n followed at call number inst how file on place may how refl))))))
    over _ may k = absurd k
now_granted c older n _ followed may e d request i m f stamp ss k = absurd k

pub begun_or_open : (c : Config) (trace : List Line) → IsFollowed c trace → CommitsAreNew c (entries trace) → (e : EpochId) (d : CallId) (request : ℕ) (i : Serial) (m : Mode) (f : FileId) (stamp : Option Stamp) (ss : ℕ) → WasGranted trace e d request i m f stamp ss → BegunOrOpen c trace e i m f stamp ss
begun_or_open c [] followed new e d request i m f stamp ss k = absurd k
begun_or_open c (x ∷ older) followed new e d request i m f stamp ss k = over k (begun_or_open c older followed.1 (older_new x.told new) e d request i m f stamp ss)
  where
    older_new : (y : Told) → CommitsAreNew c (onto_entries x.number y (entries older)) → CommitsAreNew c (entries older)
    older_new (Shown r) p = p.1
    older_new _ p = p

    over : WasGranted (x ∷ older) e d request i m f stamp ss → (WasGranted older e d request i m f stamp ss → BegunOrOpen c older e i m f stamp ss) → BegunOrOpen c (x ∷ older) e i m f stamp ss
    over (inl k) later = now_granted c older x.number x.told followed.1 followed.0 e d request i m f stamp ss k
    over (inr k) later = line_begins c older x.number x.told followed.1 followed.0 (line_fresh c older x.number x.told new) e i m f stamp ss (later k)

-- and its site holds the version on which it was granted
pub as_granted : (c : Config) (trace : List Line) → IsFollowed c trace → (e : EpochId) (i : Serial) (m : Mode) (f : FileId) (stamp : Option Stamp) (ss : ℕ) → Untouched c trace e i m f stamp ss → IsAsGranted c trace e i m f stamp ss
as_granted c trace followed e i m f stamp ss u = record {
  at = u.at;
  open_at = u.open_at;
  file_is = u.file_is;
  mode_is = u.mode_is;
  work_is = u.work_is;
  held_is = sym (ap (λ (w : Work). w.last) (sym u.work_is) ∙ (seat.last_is ∙ (ap (λ (g : ℕ). held_at (tree_of c e g (entries trace)) u.at.grant.ss u.at.grant.file.ino) (sym seat.group_is)
      ∙ (ap (λ (g : FileId). held_at (tree_of c e g.group (entries trace)) u.at.grant.ss g.ino) u.file_is ∙ ap (λ (q : ℕ). held_at (tree_of c e f.group (entries trace)) q f.ino) u.open_at.place))));
}
  where
    seat : Seat e (granted_group (entries trace) e i) (entries trace) (tree_of c e (granted_group (entries trace) e i) (entries trace)) u.at
    seat = open_seat c trace followed e i u.at u.open_at.found

pub waits_as_granted : (c : Config) (trace : List Line) → IsFollowed c trace → CommitsAreNew c (entries trace) → (e : EpochId) (d : CallId) (request : ℕ) (i : Serial) (m : Mode) (f : FileId) (stamp : Option Stamp) (ss : ℕ) → WasGranted trace e d request i m f stamp ss →
    WasBegun trace ss e i f ⊎ IsAsGranted c trace e i m f stamp ss
waits_as_granted c trace followed new e d request i m f stamp ss k = over (begun_or_open c trace followed new e d request i m f stamp ss k)
  where
    over : BegunOrOpen c trace e i m f stamp ss → WasBegun trace ss e i f ⊎ IsAsGranted c trace e i m f stamp ss
    over (inl b) = inl b
    over (inr u) = inr (as_granted c trace followed e i m f stamp ss u)
