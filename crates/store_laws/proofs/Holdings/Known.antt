-- What a site holds in an epoch is known there, or a writer at the site is ahead: it has committed, and isn't released.
use Rattle.std.proofs.Common.{◌≡◌, ℕ, ◌==◌, Bool, true, false, ◌&&◌, cond, List, [], ◌∷◌, ◌++◌, filter, Option, Some, None, refl, sym, ap, ◌∙◌, subst, ◌⊎◌, inl, inr}
use Rattle.std.specs.List.{list_any}
use Rattle.std.specs.Option.{is_some, option_map}
use Rattle.tree_laws.proofs.of_plain_facts.Numbers.{equal, equal_self}
use Rattle.tree_laws.proofs.of_plain_facts.Options.{none_some, some_same}
use Rattle.tree_laws.proofs.of_plain_facts.Tests.{and_first, and_second, true_false}
use Rattle.locus_ids.specs.declared.config.Config.{Config}
use Rattle.locus_ids.specs.declared.ids.EpochId.{EpochId}
use Rattle.locus_ids.specs.declared.ids.FileId.{FileId}
use Rattle.locus_ids.specs.declared.ids.Serial.{Serial}
use Rattle.locus_ids.specs.declared.ids.Stamp.{Stamp}
use Rattle.locus_ids.specs.declared.sites.Members.{Members}
use Rattle.commit_graph.specs.declared.history.Version.{Version}
use Rattle.commit_graph.specs.Versions.{same_file}
use Rattle.trace_book.specs.Same.{same_epoch}
use Rattle.trace_book.specs.declared.record.Record.{Record}
use Rattle.trace_book.specs.declared.record.Record.TheVariants as says
use Rattle.site_laws.specs.of_role_steps.Views.{Told, Shown}
use Rattle.tree_laws.specs.of_the_run.Worlds.{Line}
use Rattle.tree_model.specs.declared.copy.HeldCopy.{HeldCopy}
use Rattle.tree_model.specs.declared.instance.Instance.{Instance}
use Rattle.tree_model.specs.Epochs.{epoch_of, is_in}
use Rattle.tree_model.specs.Folds.{Trace}
use Rattle.tree_model.specs.Given.{gives_release, instance_ends}
use Rattle.tree_model.specs.Histories.{history}
use Rattle.tree_model.specs.Lists.{change_first, without_first}
use Rattle.tree_model.specs.Packs.{has_pack}
use Rattle.tree_model.specs.Same.{same_version}
use Rattle.tree_model.specs.State.{TreeState, copy_of, held_at, held_of, is_granted_here, is_inside, is_make, is_named, is_writer, with_all, with_brought}
use Rattle.tree_model.specs.Tree.{acted, entered, grant_of, joined, left, next, once_acted, once_committed, opened, published, tree_of, with_root, without_make}
use Rattle.tree_laws.specs.of_lawful_trace.Lawful.{MayCome}
use Rattle.tree_laws.specs.of_lawful_trace.TreeRows.{MayCommit, MayRelease, is_writing}
use Rattle.tree_laws.specs.Following.{IsFollowed, MayTell, RowsAreLawful}
use Rattle.tree_laws.specs.Instances.{IsKnown, held_in}
use Rattle.tree_laws.specs.Printed.{entries, onto_entries}
use Rattle.tree_laws.proofs.Knowing.{Knows, known_stays}
use Rattle.tree_laws.proofs.Names.{same_epoch_eq}
use Rattle.tree_laws.proofs.Owing.{inside_is}
use Rattle.tree_laws.proofs.Rows.{followed_rows}
use Rattle.tree_laws.proofs.Orders.Alone.{tree_is, tree_named}
use Rattle.tree_laws.proofs.Orders.Knowing.{tree_config}
use Rattle.tree_laws.proofs.Orders.Lists.{all_found, any_more}
use Rattle.tree_laws.proofs.Orders.Standing.{acted_keeps, same_file_eq}
use Rattle.store_laws.proofs.Holdings.Copies.{copies_are, copy_after, copy_found, copy_next, join_other}
use Rattle.store_laws.proofs.Holdings.Packed.{PacksHold, holder_packed}
use Rattle.store_laws.proofs.Holdings.Seats.{Seat, held_written, rows_seated, same_version_is}
use Rattle.store_laws.proofs.Holdings.Bringing.{Taken, any_changed, any_turned, any_without, copy_known, knows_new, one_writes}

-- an open instance of the inode at the site that has committed
abbrev pub is_ahead : ℕ → ℕ → Instance → Bool
is_ahead s i x = ((x.grant.ss == s) && (x.grant.file.ino == i)) && is_some x.work.committed

abbrev pub AheadAt : TreeState → ℕ → ℕ → Type 0
AheadAt t s i = list_any (is_ahead s i) t.instances ≡ true

-- what a site has in the epoch after a commit or an adoption, by who and what it is
abbrev Cases : TreeState → ℕ → ℕ → Stamp → Bool → Bool → Bool → Bool → Option Stamp
Cases t s ino stamp i a d b = cond i (cond a (cond (d && b) (Some stamp) (held_at t s ino)) (held_at t s ino)) (held_at t s ino)

-- ---- line by line ----

-- what a site holds of a file in an epoch
abbrev pub HeldIsKnown : Config → List Line → EpochId → ℕ → FileId → Type 0
HeldIsKnown c trace e s f = (v : Stamp) → held_in c (entries trace) e s f ≡ Some v → IsKnown c trace e f v ⊎ AheadAt (tree_of c e f.group (entries trace)) s f.ino

module _ (c : Config) (older : List Line) (n : ℕ) (rows : RowsAreLawful c (entries older)) (packs : PacksHold c (entries older)) (e : EpochId) (s : ℕ) (f : FileId) (old : HeldIsKnown c older e s f) where
  abbrev before : Trace
  before = entries older

  abbrev t : TreeState
  t = tree_of c e f.group before

  abbrev h : List Version
  h = history c before

  named : (t.epoch ≡ e) × (t.group ≡ f.group)
  named = tree_named c e f.group before

  abbrev Then : Record → Type 0
  Then r = (v : Stamp) → held_at (next h r t) s f.ino ≡ Some v → IsKnown c (record { number = n; told = Shown r } ∷ older) e f v ⊎ AheadAt (next h r t) s f.ino

  -- the site holds what it held, and who was ahead is
  stays : (r : Record) → copy_after r t s f.ino ≡ copy_of t.copies s f.ino → (AheadAt t s f.ino → AheadAt (next h r t) s f.ino) → Then r
  stays r same ahead v k = over (old v (sym (ap held_of (copy_next h t r s f.ino ∙ same)) ∙ k))
    where
      over : IsKnown c older e f v ⊎ AheadAt t s f.ino → IsKnown c (record { number = n; told = Shown r } ∷ older) e f v ⊎ AheadAt (next h r t) s f.ino
      over (inl known) = inl (known_stays c n (Shown r) older e f v known)
      over (inr a) = inr (ahead a)

  held_stays : (r : Record) → held_at (next h r t) s f.ino ≡ held_at t s f.ino → (AheadAt t s f.ino → AheadAt (next h r t) s f.ino) → Then r
  held_stays r same ahead v k = over (old v (sym same ∙ k))
    where
      over : IsKnown c older e f v ⊎ AheadAt t s f.ino → IsKnown c (record { number = n; told = Shown r } ∷ older) e f v ⊎ AheadAt (next h r t) s f.ino
      over (inl known) = inl (known_stays c n (Shown r) older e f v known)
      over (inr a) = inr (ahead a)

  epoch_named : (z : ℕ) (d : EpochId) → is_inside t z ≡ true → epoch_of before z ≡ Some d → d ≡ e
  epoch_named z d inside at = same_epoch_eq d e (sym (ap (λ (o : Option EpochId). is_in o e) at) ∙ (sym (inside_is c before e f.group z) ∙ inside))

  file_is : (g : FileId) → (g.group == t.group) ≡ true → (g.ino == f.ino) ≡ true → g ≡ f
  file_is g a b = (λ i. record { group = (equal g.group t.group a ∙ named.1) i; ino = equal g.ino f.ino b i })

  -- ---- joins ----

  join_knows : (z : ℕ) (d : EpochId) (m : Members) → Then (says.Join z d m)
  join_knows z d m v k = over (same_epoch d t.epoch) refl (z == s) refl
    where
      brings : same_epoch d t.epoch ≡ true → (z == s) ≡ true → (o : Option HeldCopy) → copy_of (with_root t s) s f.ino ≡ o → held_of (option_map (entered s) o) ≡ Some v → has_pack c f.group s ≡ true → (b : Bool) → has_pack t.config t.group s ≡ b → Knows f.ino v (cond b (with_all (filter (λ (y : HeldCopy). y.site == s) (with_root t s)) t.known) t.known)
      brings q p None w holds pack b l = absurd (none_some v holds)
      brings q p (Some x) w holds pack true l = subst (λ (y : Stamp). Knows f.ino y (with_all (filter (λ (y : HeldCopy). y.site == s) (with_root t s)) t.known)) (some_same x.now v (sym (ap (λ (b : Bool). (cond b (record x { held = Some x.now }) x).held) (and_first (x.site == s) _ (copy_found (with_root t s) s f.ino x w))) ∙ holds))
          (copy_known (with_root t s) s f.ino x t.known w)
      brings q p (Some x) w holds pack false l = absurd (true_false (sym pack ∙ (ap (λ (g : ℕ). has_pack c g s) (sym named.1) ∙ (ap (λ (y : Config). has_pack y t.group s) (sym (tree_config c e f.group before)) ∙ l))))

      -- what is there now lies in a pack
      pack : same_epoch d t.epoch ≡ true → (z == s) ≡ true → has_pack c f.group s ≡ true
      pack q p = holder_packed c (record { line = n; what = (says.Join z d m) } ∷ before) (tt, packs) s f v
          (sym ((copies_are c (record { line = n; what = (says.Join z d m) } ∷ before) e f.group s f.ino).held_is (ap (λ (b : Bool). cond b (Some d) (epoch_of before s)) p ∙ ap (λ (y : EpochId). Some y) (same_epoch_eq d t.epoch q ∙ named.0))) ∙ k)

      knows : same_epoch d t.epoch ≡ true → (z == s) ≡ true → Knows f.ino v (joined s m t).known
      knows q p = brings q p (copy_of (with_root t s) s f.ino) refl
          (sym (ap (λ (b : Bool). held_of (cond b (option_map (entered s) (copy_of (with_root t s) s f.ino)) (copy_of t.copies s f.ino))) q)
          ∙ (ap (λ (y : ℕ). held_of (cond (same_epoch d t.epoch) (option_map (entered y) (copy_of (with_root t y) s f.ino)) (copy_of t.copies s f.ino))) (sym (equal z s p))
          ∙ (sym (ap held_of (copy_next h t (says.Join z d m) s f.ino)) ∙ k))) (pack q p) (has_pack t.config t.group s) refl

      same : (b : Bool) → AheadAt t s f.ino → list_any (is_ahead s f.ino) (cond b (joined z m t) (left z t)).instances ≡ true
      same true a = a
      same false a = a

      over : (a : Bool) → same_epoch d t.epoch ≡ a → (b : Bool) → (z == s) ≡ b → IsKnown c (record { number = n; told = Shown (says.Join z d m) } ∷ older) e f v ⊎ AheadAt (next h (says.Join z d m) t) s f.ino
      over true q true p = inl (rw q (subst (λ (y : ℕ). Knows f.ino v (joined y m t).known) (sym (equal z s p)) (knows q p)))
      over true q false p = stays (says.Join z d m) (ap (λ (b : Bool). cond b (option_map (entered z) (copy_of (with_root t z) s f.ino)) (copy_of t.copies s f.ino)) q ∙ join_other t z s f.ino p) (same (same_epoch d t.epoch)) v k
      over false q b p = stays (says.Join z d m) (ap (λ (b : Bool). cond b (option_map (entered z) (copy_of (with_root t z) s f.ino)) (copy_of t.copies s f.ino)) q) (same (same_epoch d t.epoch)) v k

  -- ---- commits and adoptions ----

  committed_ahead : (stamp : Stamp) (x : Instance) → is_ahead s f.ino x ≡ true → is_ahead s f.ino (once_committed stamp x) ≡ true
  committed_ahead stamp x k = both ((x.grant.ss == s) && (x.grant.file.ino == f.ino)) (is_some x.work.committed) k
    where
      both : (a b : Bool) → a && b ≡ true → a && true ≡ true
      both true b k = refl
      both false b k = absurd (true_false (sym k))

  commit_knows : (g : FileId) (z : ℕ) (stamp : Stamp) (parents : List Stamp) (content : List ℕ) → MayCommit c before g z stamp parents content → Then (says.Commit g z stamp parents content)
  commit_knows g z stamp parents content may v k = over (is_inside t z) refl (g.group == t.group) refl (z == s) refl (g.ino == f.ino) refl
    where
      ahead : AheadAt t s f.ino → AheadAt (next h (says.Commit g z stamp parents content) t) s f.ino
      ahead a = at (is_inside t z)
        where
          at : (b : Bool) → list_any (is_ahead s f.ino) (cond b (change_first (is_writer g z) (once_committed stamp) t.instances) t.instances) ≡ true
          at true = any_changed (is_ahead s f.ino) (is_writer g z) (once_committed stamp) (committed_ahead stamp) t.instances a
          at false = a

      held_is : held_at (next h (says.Commit g z stamp parents content) t) s f.ino ≡ cond (is_inside t z) (cond (g.group == t.group) (cond ((z == s) && (g.ino == f.ino)) (Some stamp) (held_at t s f.ino)) (held_at t s f.ino)) (held_at t s f.ino)
      held_is = ap held_of (copy_next h t (says.Commit g z stamp parents content) s f.ino) ∙ held_written t g z stamp s f.ino

      -- the one that commits is ahead from then on
      writer : is_inside t z ≡ true → (g.group == t.group) ≡ true → list_any (is_writer g z) t.instances ≡ true
      writer inside same = one_writes g z may.instance may.at t.instances (subst (λ (u : TreeState). filter (is_writing g) u.instances ≡ may.instance ∷ []) (tree_is c e may.epoch f.group g.group before (epoch_named z may.epoch inside may.inside) (equal g.group t.group same ∙ named.1)) may.one)

      hit : is_inside t z ≡ true → (g.group == t.group) ≡ true → (z == s) ≡ true → (g.ino == f.ino) ≡ true → AheadAt (next h (says.Commit g z stamp parents content) t) s f.ino
      hit inside same at ino = rw inside (any_turned (is_ahead s f.ino) (is_writer g z) (once_committed stamp) turned t.instances (writer inside same))
        where
          both : (a b : Bool) → a ≡ true → b ≡ true → (a && b) && true ≡ true
          both true true p q = refl
          both true false p q = absurd (true_false (sym q))
          both false b p q = absurd (true_false (sym p))

          turned : (x : Instance) → is_writer g z x ≡ true → is_ahead s f.ino (once_committed stamp x) ≡ true
          turned x w = both (x.grant.ss == s) (x.grant.file.ino == f.ino)
              (subst (λ (m : ℕ). (x.grant.ss == m) ≡ true) (equal x.grant.ss z (and_first (x.grant.ss == z) _ (and_second (same_file x.grant.file g) _ w)) ∙ equal z s at) (equal_self x.grant.ss))
              (subst (λ (m : ℕ). (x.grant.file.ino == m) ≡ true) (ap (λ (y : FileId). y.ino) (same_file_eq x.grant.file g (and_first (same_file x.grant.file g) _ w)) ∙ equal g.ino f.ino ino) (equal_self x.grant.file.ino))

      pick : (i a d b : Bool) → is_inside t z ≡ i → (g.group == t.group) ≡ a → (z == s) ≡ d → (g.ino == f.ino) ≡ b → held_at (next h (says.Commit g z stamp parents content) t) s f.ino ≡ (Cases t s f.ino stamp i a d b)
      pick i a d b p q l m = held_is ∙ (ap (λ (x : Bool). (Cases t s f.ino stamp x (g.group == t.group) (z == s) (g.ino == f.ino))) p ∙ (ap (λ (x : Bool). (Cases t s f.ino stamp i x (z == s) (g.ino == f.ino))) q ∙ (ap (λ (x : Bool). (Cases t s f.ino stamp i a x (g.ino == f.ino))) l ∙ ap (λ (x : Bool). (Cases t s f.ino stamp i a d x)) m)))

      over : (i : Bool) → is_inside t z ≡ i → (a : Bool) → (g.group == t.group) ≡ a → (d : Bool) → (z == s) ≡ d → (b : Bool) → (g.ino == f.ino) ≡ b → IsKnown c (record { number = n; told = Shown (says.Commit g z stamp parents content) } ∷ older) e f v ⊎ AheadAt (next h (says.Commit g z stamp parents content) t) s f.ino
      over true p true q true l true m = inr (hit p q l m)
      over true p true q true l false m = held_stays (says.Commit g z stamp parents content) (pick true true true false p q l m) ahead v k
      over true p true q false l b m = held_stays (says.Commit g z stamp parents content) (pick true true false b p q l m) ahead v k
      over true p false q d l b m = held_stays (says.Commit g z stamp parents content) (pick true false d b p q l m) ahead v k
      over false p a q d l b m = held_stays (says.Commit g z stamp parents content) (pick false a d b p q l m) ahead v k

  adopt_knows : (g : FileId) (z : ℕ) (stamp : Stamp) → MayCome c before (says.Adopt g z stamp) → Then (says.Adopt g z stamp)
  adopt_knows g z stamp may v k = over (is_inside t z) refl (g.group == t.group) refl (z == s) refl (g.ino == f.ino) refl
    where
      held_is : held_at (next h (says.Adopt g z stamp) t) s f.ino ≡ cond (is_inside t z) (cond (g.group == t.group) (cond ((z == s) && (g.ino == f.ino)) (Some stamp) (held_at t s f.ino)) (held_at t s f.ino)) (held_at t s f.ino)
      held_is = ap held_of (copy_next h t (says.Adopt g z stamp) s f.ino) ∙ held_written t g z stamp s f.ino

      pick : (i a d b : Bool) → is_inside t z ≡ i → (g.group == t.group) ≡ a → (z == s) ≡ d → (g.ino == f.ino) ≡ b → held_at (next h (says.Adopt g z stamp) t) s f.ino ≡ (Cases t s f.ino stamp i a d b)
      pick i a d b p q l m = held_is ∙ (ap (λ (x : Bool). (Cases t s f.ino stamp x (g.group == t.group) (z == s) (g.ino == f.ino))) p ∙ (ap (λ (x : Bool). (Cases t s f.ino stamp i x (z == s) (g.ino == f.ino))) q ∙ (ap (λ (x : Bool). (Cases t s f.ino stamp i a x (g.ino == f.ino))) l ∙ ap (λ (x : Bool). (Cases t s f.ino stamp i a d x)) m)))

      -- what is adopted is known
      known : is_inside t z ≡ true → (g.group == t.group) ≡ true → (g.ino == f.ino) ≡ true → stamp ≡ v → IsKnown c older e f v
      known p q m is = subst (λ (y : Stamp). IsKnown c older e f y) is (subst (λ (y : EpochId). IsKnown c older y f stamp) (epoch_named z may.epoch p may.inside) (subst (λ (y : FileId). IsKnown c older may.epoch y stamp) (file_is g q m) may.known))

      over : (i : Bool) → is_inside t z ≡ i → (a : Bool) → (g.group == t.group) ≡ a → (d : Bool) → (z == s) ≡ d → (b : Bool) → (g.ino == f.ino) ≡ b → IsKnown c (record { number = n; told = Shown (says.Adopt g z stamp) } ∷ older) e f v ⊎ AheadAt (next h (says.Adopt g z stamp) t) s f.ino
      over true p true q true l true m = inl (known_stays c n (Shown (says.Adopt g z stamp)) older e f v (known p q m (some_same stamp v (sym (pick true true true true p q l m) ∙ k))))
      over true p true q true l false m = held_stays (says.Adopt g z stamp) (pick true true true false p q l m) (λ a. a) v k
      over true p true q false l b m = held_stays (says.Adopt g z stamp) (pick true true false b p q l m) (λ a. a) v k
      over true p false q d l b m = held_stays (says.Adopt g z stamp) (pick true false d b p q l m) (λ a. a) v k
      over false p a q d l b m = held_stays (says.Adopt g z stamp) (pick false a d b p q l m) (λ a. a) v k

  -- ---- releases ----

  release_knows : (d : EpochId) (i : Serial) (g : FileId) (stamp : Option Stamp) → MayRelease c before d i g stamp → Then (says.Release d i g stamp)
  release_knows d i g stamp may v k = over (same_epoch d t.epoch && (g.group == t.group)) refl (old v (sym (ap held_of (copy_next h t (says.Release d i g stamp) s f.ino)) ∙ k))
    where
      held_is : held_at t s f.ino ≡ Some v
      held_is = sym (ap held_of (copy_next h t (says.Release d i g stamp) s f.ino)) ∙ k

      ends : same_epoch d t.epoch && (g.group == t.group) ≡ true → gives_release h t i g stamp ≡ true
      ends b = subst (λ (u : TreeState). gives_release h u i g stamp ≡ true) (tree_is c e d f.group g.group before (same_epoch_eq d t.epoch (and_first (same_epoch d t.epoch) _ b) ∙ named.0) (equal g.group t.group (and_second (same_epoch d t.epoch) _ b) ∙ named.1)) may.gives

      -- who was ahead and is released has published what the site holds
      published_is : (b : same_epoch d t.epoch && (g.group == t.group) ≡ true) → Taken (is_ahead s f.ino) (is_named i) t.instances → Knows f.ino v (published g stamp t.known)
      published_is b w = at stamp (same_version_is stamp w.one.work.committed (and_first (same_version stamp w.one.work.committed) _ (and_second (same_file w.one.grant.file g) _ ending)))
        where
          ending : instance_ends h t g stamp (Some w.one) ≡ true
          ending = subst (λ (o : Option Instance). instance_ends h t g stamp o ≡ true) w.found (ends b)

          seat : Seat e f.group before t w.one
          seat = all_found (Seat e f.group before t) (is_named i) t.instances w.one (rows_seated c before rows e f.group) w.found

          place : (w.one.grant.ss == s) && (w.one.grant.file.ino == f.ino) ≡ true
          place = and_first ((w.one.grant.ss == s) && (w.one.grant.file.ino == f.ino)) _ w.passes

          last_is : w.one.work.last ≡ Some v
          last_is = seat.last_is ∙ (ap (λ (m : ℕ). held_at t m w.one.grant.file.ino) (equal w.one.grant.ss s (and_first (w.one.grant.ss == s) _ place)) ∙ (ap (λ (m : ℕ). held_at t s m) (equal w.one.grant.file.ino f.ino (and_second (w.one.grant.ss == s) _ place)) ∙ held_is))

          some_made : (o : Option Stamp) → w.one.work.committed ≡ o → is_some o ≡ true → w.one.work.committed ≡ Some v
          some_made None q l = absurd (true_false (sym l))
          some_made (Some y) q l = q ∙ (sym (seat.made y q) ∙ last_is)

          made : w.one.work.committed ≡ Some v
          made = some_made w.one.work.committed refl (and_second ((w.one.grant.ss == s) && (w.one.grant.file.ino == f.ino)) _ w.passes)

          ino_is : g.ino ≡ f.ino
          ino_is = ap (λ (y : FileId). y.ino) (sym (same_file_eq w.one.grant.file g (and_first (same_file w.one.grant.file g) _ ending))) ∙ equal w.one.grant.file.ino f.ino (and_second (w.one.grant.ss == s) _ place)

          at : (o : Option Stamp) → o ≡ w.one.work.committed → Knows f.ino v (published g o t.known)
          at None q = absurd (none_some v (q ∙ made))
          at (Some y) q = subst (λ (m : ℕ). Knows f.ino v (with_brought (record { ino = m; stamp = y }) t.known)) (sym ino_is) (subst (λ (x : Stamp). Knows f.ino v (with_brought (record { ino = f.ino; stamp = x }) t.known)) (sym (some_same y v (q ∙ made))) (knows_new f.ino v t.known))

      gone : (b : same_epoch d t.epoch && (g.group == t.group) ≡ true) → (list_any (is_ahead s f.ino) (without_first (is_named i) t.instances) ≡ true) ⊎ Taken (is_ahead s f.ino) (is_named i) t.instances → IsKnown c (record { number = n; told = Shown (says.Release d i g stamp) } ∷ older) e f v ⊎ AheadAt (next h (says.Release d i g stamp) t) s f.ino
      gone b (inl a) = inr (rw b a)
      gone b (inr w) = inl (rw b (published_is b w))

      over : (b : Bool) → same_epoch d t.epoch && (g.group == t.group) ≡ b → IsKnown c older e f v ⊎ AheadAt t s f.ino → IsKnown c (record { number = n; told = Shown (says.Release d i g stamp) } ∷ older) e f v ⊎ AheadAt (next h (says.Release d i g stamp) t) s f.ino
      over b q (inl known) = inl (known_stays c n (Shown (says.Release d i g stamp)) older e f v known)
      over true q (inr a) = gone q (any_without (is_ahead s f.ino) (is_named i) t.instances a)
      over false q (inr a) = inr (rw q a)

  -- ---- any record ----

  next_knows : (r : Record) → MayCome c before r → Then r
  next_knows (says.Join z d m) may = join_knows z d m
  next_knows (says.Commit g z stamp parents content) may = commit_knows g z stamp parents content may
  next_knows (says.Adopt g z stamp) may = adopt_knows g z stamp may
  next_knows (says.Release d i g stamp) may = release_knows d i g stamp may
  next_knows (says.Start d k copies) may = stays (says.Start d k copies) refl (λ a. over a (same_epoch d t.epoch && (k == t.group)))
    where
      over : AheadAt t s f.ino → (b : Bool) → list_any (is_ahead s f.ino) (cond b (record t { started = true }) t).instances ≡ true
      over a true = a
      over a false = a
  next_knows (says.Refuse d call request i m g why) may = stays (says.Refuse d call request i m g why) refl (λ a. over a (same_epoch d t.epoch && ((g.group == t.group) && is_make m)))
    where
      over : AheadAt t s f.ino → (b : Bool) → list_any (is_ahead s f.ino) (cond b (record t { makes = without_make call t.makes }) t).instances ≡ true
      over a true = a
      over a false = a
  next_knows (says.Grant d call request i m g stamp ss) may = stays (says.Grant d call request i m g stamp ss) refl (λ a. over a (same_epoch d t.epoch) (g.group == t.group))
    where
      over : AheadAt t s f.ino → (a b : Bool) → list_any (is_ahead s f.ino) (cond a (record t { grants = t.grants ++ grant_of t call i m g ss ∷ []; instances = cond b (t.instances ++ opened h (grant_of t call i m g ss) stamp ∷ []) t.instances }) t).instances ≡ true
      over a true true = any_more (is_ahead s f.ino) t.instances (opened h (grant_of t call i m g ss) stamp ∷ []) a
      over a true false = a
      over a false b = a
  next_knows (says.Act d i k o result) may = stays (says.Act d i k o result) refl (λ a. over a (same_epoch d t.epoch && is_granted_here t i))
    where
      keeps : (x : Instance) → is_ahead s f.ino x ≡ true → is_ahead s f.ino (once_acted h t o result x) ≡ true
      keeps x q = ap (λ (y : Option Stamp). ((x.grant.ss == s) && (x.grant.file.ino == f.ino)) && is_some y) (acted_keeps h t o result x) ∙ q

      over : AheadAt t s f.ino → (b : Bool) → list_any (is_ahead s f.ino) (cond b (acted h i o result t) t).instances ≡ true
      over a true = any_changed (is_ahead s f.ino) (is_named i) (once_acted h t o result) keeps t.instances a
      over a false = a
  next_knows r may = stays r refl (λ a. a)

pub held_known : (c : Config) (trace : List Line) → IsFollowed c trace → PacksHold c (entries trace) → (e : EpochId) (s : ℕ) (f : FileId) → HeldIsKnown c trace e s f
held_known c [] followed packs e s f = λ v k. absurd (none_some v k)
held_known c (x ∷ older) followed packs e s f = over x.told followed.0 packs (held_known c older followed.1 (packs_before x.told packs) e s f)
  where
    packs_before : (y : Told) → PacksHold c (onto_entries x.number y (entries older)) → PacksHold c (entries older)
    packs_before (Shown r) p = p.1
    packs_before _ p = p

    over : (y : Told) → MayTell c older y → PacksHold c (onto_entries x.number y (entries older)) → HeldIsKnown c older e s f → HeldIsKnown c (record { number = x.number; told = y } ∷ older) e s f
    over (Shown r) may p old = next_knows c older x.number (followed_rows c older followed.1) p.1 e s f old r may.row
    over _ may p old = old
