-- A writer that is ahead of what was told stays so until it is released, and whoever commits is ahead.
use Rattle.std.proofs.Common.{◌≡◌, ℕ, ◌==◌, Bool, true, false, not, ◌&&◌, cond, List, [], ◌∷◌, filter, Option, Some, None, refl, sym, ap, ◌∙◌, subst, ◌⊎◌, inl, inr, arith}
use Rattle.std.proofs.lemmas.Bool.Decides.{nat_tests}
use Rattle.std.specs.List.{find, AllByRecursion}
use Rattle.std.specs.Option.{is_some}
use Rattle.role_steps.proofs.of_plain_facts.Numbers.{equal_self}
use Rattle.role_steps.proofs.of_plain_facts.Options.{some_same}
use Rattle.role_steps.proofs.of_plain_facts.Tests.{and_first, and_second, true_false}
use Rattle.locus_ids.specs.declared.config.Config.{Config}
use Rattle.locus_ids.specs.declared.ids.EpochId.{EpochId}
use Rattle.locus_ids.specs.declared.ids.FileId.{FileId}
use Rattle.locus_ids.specs.declared.ids.Serial.{Serial}
use Rattle.locus_ids.specs.declared.ids.Stamp.{Stamp}
use Rattle.commit_graph.specs.Grants.{is_read}
use Rattle.commit_graph.specs.Versions.{same_file}
use Rattle.commit_graph.specs.declared.history.Version.{Version}
use Rattle.trace_book.specs.Same.{same_epoch}
use Rattle.trace_book.specs.declared.record.Record.{Record}
use Rattle.trace_book.specs.declared.record.Record.TheVariants as says
use Rattle.role_steps.specs.Views.{Frame, Told, Shown}
use Rattle.the_run.specs.Worlds.{Line}
use Rattle.tree_model.specs.declared.instance.Instance.{Instance}
use Rattle.tree_model.specs.Epochs.{is_in}
use Rattle.tree_model.specs.Given.{instance_ends}
use Rattle.tree_model.specs.Histories.{history}
use Rattle.tree_model.specs.Lists.{change_first}
use Rattle.tree_model.specs.State.{TreeState, instance_in, is_inside, is_named, is_writer}
use Rattle.tree_model.specs.Tree.{next, tree_of, once_committed}
use Rattle.lawful_trace.specs.TreeRows.{granted_group, is_writing}
use Rattle.tree_laws.specs.Printed.{entries}
use Rattle.tree_laws.specs.Following.{MayTell, IsFollowed}
use Rattle.tree_laws.specs.Instances.{instance_now}
use Rattle.tree_laws.specs.Tables.{IsAhead}
use Rattle.tree_laws.proofs.CarriedLooks.{More}
use Rattle.tree_laws.proofs.Grants.{open_named}
use Rattle.tree_laws.proofs.Kinship.{GoesOnTold, StaysOpen, Ends, open_stays}
use Rattle.tree_laws.proofs.Names.{same_epoch_own}
use Rattle.tree_laws.proofs.Rows.{followed_rows}
use Rattle.tree_laws.proofs.Opened.{GoesOn, EndsIt}
use Rattle.tree_laws.proofs.Owing.{InGroup, in_group, found_every, none_left, writer_writes, inside_is}
use Rattle.tree_laws.specs.Orders.Alone.{AreAlone, MayStandBy}
use Rattle.tree_laws.proofs.Orders.Alone.{rows_apart}
use Rattle.tree_laws.proofs.Orders.Lists.{all_filtered, all_found}
use Rattle.tree_laws.proofs.Orders.Standing.{same_file_eq, acted_keeps}
use Rattle.tree_laws.specs.Syncs.Staying.{Releases}

-- ---- an instance that has committed has committed ----

committed_goes : (h : List Version) (t : TreeState) (e : EpochId) (i : Serial) (old new : Instance) (r : Record) → GoesOn h t e i old new r → is_some old.work.committed ≡ true → is_some new.work.committed ≡ true
committed_goes h t e i old new r (inl same) k = subst (λ (y : Instance). is_some y.work.committed ≡ true) (sym same) k
committed_goes h t e i old new (says.Act at inst n o result) (inr (inl acts)) k = subst (λ (y : Instance). is_some y.work.committed ≡ true) (sym acts.1) (subst (λ (s : Option Stamp). is_some s ≡ true) (sym (acted_keeps h t o result old)) k)
committed_goes h t e i old new (says.Commit f s stamp parents content) (inr (inr commits)) k = subst (λ (y : Instance). is_some y.work.committed ≡ true) (sym commits.2) refl
committed_goes h t e i old new r (inr (inl acts)) k = absurd acts
committed_goes h t e i old new r (inr (inr commits)) k = absurd commits

committed_told : (c : Config) (older : List Line) (e : EpochId) (i : Serial) (old new : Instance) (x : Told) → GoesOnTold c older e i old new x → is_some old.work.committed ≡ true → is_some new.work.committed ≡ true
committed_told c older e i old new (Shown r) goes k = committed_goes (history c (entries older)) (tree_of c e (granted_group (entries older) e i) (entries older)) e i old new r goes k
committed_told c older e i old new _ goes k = subst (λ (y : Instance). is_some y.work.committed ≡ true) (sym goes) k

-- ---- who releases it tells it of its table ----

ends_file : (h : List Version) (t : TreeState) (file : FileId) (stamp : Option Stamp) (o : Option Instance) (at : Instance) → o ≡ Some at → instance_ends h t file stamp o ≡ true → at.grant.file ≡ file
ends_file h t file stamp None at e k = absurd (true_false (sym k))
ends_file h t file stamp (Some x) at e k = ap (λ (y : Instance). y.grant.file) (sym (some_same x at e)) ∙ same_file_eq x.grant.file file (and_first (same_file x.grant.file file) _ k)

end_of_record : (c : Config) (older : List Line) (r : Record) (f : Frame) (file : FileId) (i : Serial) (at : Instance) → MayTell c older (Shown r) → instance_now c older f.epoch i ≡ Some at → at.grant.file ≡ file → EndsIt f.epoch i r → Releases f file.group (Shown r)
end_of_record c older (says.Release e inst g stamp) f file i at may found is ends = (ends.0, ap (λ (y : FileId). y.group) (sym its ∙ is))
  where
    group_is : granted_group (entries older) f.epoch i ≡ g.group
    group_is = subst (λ (j : Serial). granted_group (entries older) f.epoch j ≡ g.group) ends.1 (subst (λ (y : EpochId). granted_group (entries older) y inst ≡ g.group) ends.0 may.in_time.group_is)

    here : instance_in (tree_of c e g.group (entries older)) inst ≡ Some at
    here = subst (λ (j : Serial). instance_in (tree_of c e g.group (entries older)) j ≡ Some at) (sym ends.1)
        (subst (λ (y : EpochId). instance_in (tree_of c y g.group (entries older)) i ≡ Some at) (sym ends.0)
        (subst (λ (k : ℕ). instance_in (tree_of c f.epoch k (entries older)) i ≡ Some at) group_is found))

    its : at.grant.file ≡ g
    its = ends_file (history c (entries older)) (tree_of c e g.group (entries older)) g stamp (instance_in (tree_of c e g.group (entries older)) inst) at here may.row.gives
end_of_record c older r f file i at may found is ends = absurd ends

end_of_table : (c : Config) (older : List Line) (x : Told) (f : Frame) (file : FileId) (i : Serial) (at : Instance) → MayTell c older x → instance_now c older f.epoch i ≡ Some at → at.grant.file ≡ file → Ends f.epoch i x → Releases f file.group x
end_of_table c older (Shown r) f file i at may found is ends = end_of_record c older r f file i at may found is ends
end_of_table c older x f file i at may found is ends = absurd ends

pub ahead_stays : (c : Config) (n : ℕ) (x : Told) (older : List Line) → MayTell c older x → (f : Frame) (site : ℕ) (file : FileId) → (Releases f file.group x → ⊥) → IsAhead c older f.epoch site file → IsAhead c (More n x older) f.epoch site file
ahead_stays c n x older may f site file apart a = over (open_stays c older n x f.epoch a.inst a.at may (open_named c older f.epoch a.inst a.at a.open_at.found) a.open_at.found)
  where
    over : StaysOpen c older n x f.epoch a.inst a.at ⊎ Ends f.epoch a.inst x → IsAhead c (More n x older) f.epoch site file
    over (inl s) = record {
      inst = a.inst;
      at = s.new;
      open_at = record { found = s.found; place = ap (λ g. g.ss) s.grant_same ∙ a.open_at.place };
      file_is = ap (λ g. g.file) s.grant_same ∙ a.file_is;
      committed = committed_told c older f.epoch a.inst a.at s.new x s.goes a.committed;
    }
    over (inr ends) = absurd (apart (end_of_table c older x f file a.inst a.at may a.open_at.found a.file_is ends))

-- ---- who commits is ahead ----

-- the one that passes is changed, where it is found by its name
changed_found : {X : Type 0} (p q r : X → Bool) (change : X → X) (xs : List X) (a b : X) → ((x : X) → p (change x) ≡ p x) → ((x : X) → q x ≡ true → r x ≡ true) → find p xs ≡ Some a → q a ≡ true → filter r xs ≡ b ∷ [] → find p (change_first q change xs) ≡ Some (change a)
changed_found p q r change [] a b passes more e k one = absurd (none e)
  where
    none : ◌≡◌ {A = Option _} None (Some a) → ⊥
    none e = cc
changed_found p q r change (x ∷ xs) a b passes more e k one = at (λ (m : find p xs ≡ Some a) (z : filter r xs ≡ b ∷ []). changed_found p q r change xs a b passes more m k z) (p x) (q x) (r x) refl refl refl e one
  where
    rest : (y : _) (ys : List _) → y ∷ ys ≡ b ∷ [] → ys ≡ []
    rest y ys z = cc

    at : (find p xs ≡ Some a → filter r xs ≡ b ∷ [] → find p (change_first q change xs) ≡ Some (change a)) → (u v w : Bool) → p x ≡ u → q x ≡ v → r x ≡ w → cond u (Some x) (find p xs) ≡ Some a → cond w (x ∷ filter r xs) (filter r xs) ≡ b ∷ []
        → find p (cond v (change x ∷ xs) (x ∷ change_first q change xs)) ≡ Some (change a)
    at later true true w pu qv rw_is e z = rw (passes x) (rw pu (ap (λ y. Some (change y)) (some_same x a e)))
    at later true false w pu qv rw_is e z = absurd (true_false (sym k ∙ (ap q (sym (some_same x a e)) ∙ qv)))
    at later false true true pu qv rw_is e z = absurd (none_left p r xs a e (more a k) (rest x (filter r xs) z))
    at later false true false pu qv rw_is e z = absurd (true_false (sym (more x qv) ∙ rw_is))
    at later false false true pu qv rw_is e z = absurd (none_left p r xs a e (more a k) (rest x (filter r xs) z))
    at later false false false pu qv rw_is e z = rw pu (later e z)

-- ---- beside a writer nobody is ----

passes_of : {X : Type 0} (r : X → Bool) (xs : List X) → AllByRecursion (λ (x : X). r x ≡ true) (filter r xs)
passes_of r [] = tt
passes_of r (x ∷ xs) = at (r x) refl (passes_of r xs)
  where
    at : (b : Bool) → r x ≡ b → AllByRecursion (λ y. r y ≡ true) (filter r xs) → AllByRecursion (λ y. r y ≡ true) (cond b (x ∷ filter r xs) (filter r xs))
    at true k later = (k, later)
    at false k later = later

beside : (p r : Instance → Bool) (xs : List Instance) (a w : Instance) → AreAlone xs → find p xs ≡ Some a → filter r xs ≡ w ∷ [] → (a ≡ w) ⊎ (MayStandBy a w ⊎ MayStandBy w a)
beside p r [] a w alone e one = absurd (none e)
  where
    none : ◌≡◌ {A = Option Instance} None (Some a) → ⊥
    none e = cc
beside p r (x ∷ xs) a w alone e one = at (λ (m : find p xs ≡ Some a) (z : filter r xs ≡ w ∷ []). beside p r xs a w alone.1 m z) (p x) (r x) e one
  where
    first : (ys : List Instance) → x ∷ ys ≡ w ∷ [] → x ≡ w
    first ys z = cc

    at : (find p xs ≡ Some a → filter r xs ≡ w ∷ [] → (a ≡ w) ⊎ (MayStandBy a w ⊎ MayStandBy w a)) → (u v : Bool) → cond u (Some x) (find p xs) ≡ Some a → cond v (x ∷ filter r xs) (filter r xs) ≡ w ∷ [] → (a ≡ w) ⊎ (MayStandBy a w ⊎ MayStandBy w a)
    at later true true e z = inl (sym (some_same x a e) ∙ first (filter r xs) z)
    at later true false e z = inr (inl (subst (λ (y : Instance). MayStandBy y w) (some_same x a e) (subst (λ (ys : List Instance). AllByRecursion (MayStandBy x) ys) z (all_filtered (MayStandBy x) r xs alone.0)).0))
    at later false true e z = inr (inr (subst (λ (y : Instance). MayStandBy y a) (first (filter r xs) z) (all_found (MayStandBy x) p xs a alone.0 e)))
    at later false false e z = later e z

module _ (c : Config) (n : ℕ) (older : List Line) (h : IsFollowed c older) (g : FileId) (s : ℕ) (stamp : Stamp) (parents : List Stamp) (content : List ℕ) (may : MayTell c older (Shown (says.Commit g s stamp parents content))) (e : EpochId) (same : may.in_time.epoch ≡ e) where
  abbrev t : TreeState
  t = tree_of c e g.group (entries older)

  abbrev it : Instance
  it = may.in_time.at

  in_epoch : instance_now c older e may.in_time.inst ≡ Some it
  in_epoch = subst (λ (y : EpochId). instance_now c older y may.in_time.inst ≡ Some it) same may.in_time.open_at.found

  group_is : granted_group (entries older) e may.in_time.inst ≡ g.group
  group_is = sym (found_every (InGroup (granted_group (entries older) e may.in_time.inst)) (is_named may.in_time.inst) (tree_of c e (granted_group (entries older) e may.in_time.inst) (entries older)).instances it in_epoch
      (in_group c e (granted_group (entries older) e may.in_time.inst) (entries older))) ∙ ap (λ (y : FileId). y.group) may.in_time.file_is

  found : find (is_named may.in_time.inst) t.instances ≡ Some it
  found = subst (λ (k : ℕ). instance_in (tree_of c e k (entries older)) may.in_time.inst ≡ Some it) group_is in_epoch

  row_epoch : may.row.epoch ≡ e
  row_epoch = some_same may.row.epoch e (sym may.row.inside ∙ (may.in_time.inside ∙ ap (λ (y : EpochId). Some y) same))

  one : filter (is_writing g) t.instances ≡ may.row.instance ∷ []
  one = subst (λ (y : EpochId). filter (is_writing g) (tree_of c y g.group (entries older)).instances ≡ may.row.instance ∷ []) row_epoch may.row.one

  writes : is_writing g may.row.instance ≡ true
  writes = (subst (λ (ys : List Instance). AllByRecursion (λ (x : Instance). is_writing g x ≡ true) ys) one (passes_of (is_writing g) t.instances)).0

  own_file : (y : FileId) → same_file y y ≡ true
  own_file y = grind (arith, nat_tests)

  -- the instance that is committed is the one that writes
  is_one : it ≡ may.row.instance
  is_one = over (beside (is_named may.in_time.inst) (is_writing g) t.instances it may.row.instance (rows_apart c (entries older) (followed_rows c older h) e g.group).alone found one)
    where
      w : Instance
      w = may.row.instance

      of : w.grant.file ≡ g
      of = same_file_eq w.grant.file g (and_first (same_file w.grant.file g) _ writes)

      not_read : is_read w.grant.mode ≡ true → ⊥
      not_read k = true_false (sym (and_second (same_file w.grant.file g) _ writes) ∙ ap not k)

      over : (it ≡ w) ⊎ (MayStandBy it w ⊎ MayStandBy w it) → it ≡ w
      over (inl k) = k
      over (inr (inl k)) = absurd (not_read (k (subst (λ (y : FileId). same_file y w.grant.file ≡ true) (of ∙ sym may.in_time.file_is) (own_file w.grant.file))).1)
      over (inr (inr k)) = absurd (not_read (k (subst (λ (y : FileId). same_file w.grant.file y ≡ true) (of ∙ sym may.in_time.file_is) (own_file w.grant.file))).0)

  its_writer : is_writer g s it ≡ true
  its_writer = three (same_file it.grant.file g) (it.grant.ss == s) (not (is_read it.grant.mode)) (subst (λ (y : Instance). is_writing g y ≡ true) (sym is_one) writes) (subst (λ (k : ℕ). (k == s) ≡ true) (sym may.in_time.open_at.place) (equal_self s))
    where
      three : (a b d : Bool) → a && d ≡ true → b ≡ true → a && (b && d) ≡ true
      three true true d k l = k
      three true false d k l = absurd (true_false (sym l))
      three false b d k l = absurd (true_false (sym k))

  inside : is_inside t s ≡ true
  inside = inside_is c (entries older) e g.group s ∙ (ap (λ (o : Option EpochId). is_in o e) may.in_time.inside ∙ subst (λ (y : EpochId). same_epoch y e ≡ true) (sym same) (same_epoch_own e))

  changed : instance_in (next (history c (entries older)) (says.Commit g s stamp parents content) t) may.in_time.inst ≡ Some (once_committed stamp it)
  changed = ap (λ (b : Bool). find (is_named may.in_time.inst) (cond b (change_first (is_writer g s) (once_committed stamp) t.instances) t.instances)) inside
      ∙ changed_found (is_named may.in_time.inst) (is_writer g s) (is_writing g) (once_committed stamp) t.instances it may.row.instance (λ x. refl) (λ x k. writer_writes g s x k) found its_writer one

  pub commit_ahead : (file : FileId) → g ≡ file → (site : ℕ) → s ≡ site → IsAhead c (More n (Shown (says.Commit g s stamp parents content)) older) e site file
  commit_ahead file of site place = record {
    inst = may.in_time.inst;
    at = once_committed stamp it;
    open_at = record {
      found = subst (λ (k : ℕ). instance_in (tree_of c e k (entries (More n (Shown (says.Commit g s stamp parents content)) older))) may.in_time.inst ≡ Some (once_committed stamp it)) (sym group_is) changed;
      place = may.in_time.open_at.place ∙ place;
    };
    file_is = may.in_time.file_is ∙ of;
    committed = refl;
  }
