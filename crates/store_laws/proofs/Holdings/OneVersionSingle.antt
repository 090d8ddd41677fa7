-- Where one version of a file is kept in an epoch that has started, one is kept from then on.
use Rattle.std.proofs.Common.{◌≡◌, ℕ, ◌==◌, Bool, true, false, not, ◌&&◌, ◌||◌, cond, List, [], ◌∷◌, filter, length, map, Option, Some, None, refl, sym, ap, ◌∙◌, subst, ◌⊎◌, inl, inr}
use Rattle.std.specs.List.{AllByRecursion, list_any}
use Rattle.tree_laws.proofs.of_plain_facts.Numbers.{equal_self, equal as test_same}
use Rattle.tree_laws.proofs.of_plain_facts.Options.{none_some, some_same}
use Rattle.tree_laws.proofs.of_plain_facts.Tests.{or_second, true_false}
use Rattle.locus_ids.specs.declared.config.Config.{Config}
use Rattle.locus_ids.specs.declared.ids.Brought.{Brought}
use Rattle.locus_ids.specs.declared.ids.EpochId.{EpochId}
use Rattle.locus_ids.specs.declared.ids.FileId.{FileId}
use Rattle.locus_ids.specs.declared.ids.Serial.{Serial}
use Rattle.locus_ids.specs.declared.ids.Stamp.{Stamp}
use Rattle.commit_graph.specs.declared.history.Version.{Version}
use Rattle.commit_graph.specs.Versions.{is_ancestor, is_covered, is_in, is_proper_ancestor, kept, same_stamp}
use Rattle.commit_graph.proofs.Names.{same_stamp_refl, same_stamp_eq}
use Rattle.trace_book.specs.Same.{same_epoch}
use Rattle.trace_book.specs.declared.record.Record.{Record}
use Rattle.trace_book.specs.declared.record.Record.TheVariants as says
use Rattle.site_laws.specs.of_role_steps.Views.{Told, Shown}
use Rattle.tree_laws.specs.of_the_run.Worlds.{Line}
use Rattle.tree_model.specs.Folds.{Trace}
use Rattle.tree_model.specs.Histories.{history}
use Rattle.tree_model.specs.State.{TreeState, has_stamp, held_at, is_named, kept_of, stamps_of, with_brought}
use Rattle.tree_model.specs.Tree.{candidates, kept_in, published, released, tree_of}
use Rattle.tree_laws.specs.Following.{IsFollowed, MayTell, RowsAreLawful}
use Rattle.tree_laws.specs.Instances.{IsStarted}
use Rattle.tree_laws.specs.Printed.{entries, onto_entries}
use Rattle.tree_laws.proofs.Rows.{followed_rows}
use Rattle.tree_laws.specs.Orders.Joining.{PacksAreOfSites}
use Rattle.tree_laws.proofs.Orders.Keeping.{EndsIn, IsNew, PublishesNone, ends_in, file_eq, kept_by, published_same}
use Rattle.tree_laws.proofs.Orders.Lists.{all_found, all_then}
use Rattle.store_laws.specs.Holdings.Order.{IsWellMade}
use Rattle.store_laws.proofs.Holdings.OneVersionAbove.{BelowLast, IsAbove, open_above}
use Rattle.store_laws.proofs.Holdings.Ancestors.{ancestor_own, ancestor_through, ancestors_one, any_then}
use Rattle.store_laws.proofs.Holdings.OneVersionAscending.{Differ, all_brought, known_ascends, published_ascends, stamps_differ}
use Rattle.store_laws.proofs.Holdings.Holding.{below_kept}
use Rattle.store_laws.proofs.Holdings.Bringing.{knows_new}
use Rattle.store_laws.proofs.Holdings.Made.{CommitsAreNew, held_stand, rows_made}
use Rattle.store_laws.proofs.Holdings.Rising.{member_stands}
use Rattle.store_laws.proofs.Holdings.Seats.{Seat, rows_seated, same_version_is}
use Rattle.store_laws.specs.Holdings.Held.{IsBelowKept}

-- ---- a version above all of a list is all that is kept of it ----

module _ (h : List Version) (made : IsWellMade h) (f : FileId) (v : Stamp) (stands : is_in h f v ≡ true) where
  abbrev IsUnder : Stamp → Type 0
  IsUnder s = is_ancestor h f s v ≡ true

  -- only itself isn't covered
  kept_test : (ss : List Stamp) → has_stamp ss v ≡ true → AllByRecursion IsUnder ss → (s : Stamp) → IsUnder s → not (is_covered h f ss s) ≡ same_stamp s v
  kept_test ss mine all s under = at (same_stamp s v) refl
    where
      proper_below : (u : Stamp) → is_proper_ancestor h f v u ≡ true → IsUnder u → true ≡ false
      proper_below u p k = over (same_stamp v u) refl p
        where
          over : (b : Bool) → same_stamp v u ≡ b → not b && is_ancestor h f v u ≡ true → true ≡ false
          over true q p = sym p
          over false q p = sym (subst (λ (y : Stamp). same_stamp v y ≡ true) (sym (ancestors_one h made f u v stands k p)) (same_stamp_refl v)) ∙ q

      uncovered : (b : Bool) → list_any (is_proper_ancestor h f v) ss ≡ b → b ≡ false
      uncovered false q = refl
      uncovered true q = of ss all q
        where
          either : (a b : Bool) → a || b ≡ true → (a ≡ true) ⊎ (b ≡ true)
          either true b k = inl refl
          either false b k = inr k

          of : (xs : List Stamp) → AllByRecursion IsUnder xs → list_any (is_proper_ancestor h f v) xs ≡ true → true ≡ false
          of [] all k = sym k
          of (x ∷ xs) all k = over (either (is_proper_ancestor h f v x) _ k) (of xs all.1)
            where
              over : (is_proper_ancestor h f v x ≡ true) ⊎ (list_any (is_proper_ancestor h f v) xs ≡ true) → (list_any (is_proper_ancestor h f v) xs ≡ true → true ≡ false) → true ≡ false
              over (inl p) later = proper_below x p all.0
              over (inr p) later = later p

      covered : same_stamp s v ≡ false → list_any (is_proper_ancestor h f s) ss ≡ true
      covered q = any_then (λ a. same_stamp a v) (is_proper_ancestor h f s) (λ (a : Stamp). Unit {0}) (λ a u k. subst (λ (y : Stamp). is_proper_ancestor h f s y ≡ true) (sym (same_stamp_eq a v k)) (ap (λ (b : Bool). not b && is_ancestor h f s v) q ∙ under)) ss (units ss) mine
        where
          units : (xs : List Stamp) → AllByRecursion (λ (a : Stamp). Unit {0}) xs
          units [] = tt
          units (x ∷ xs) = (tt, units xs)

      at : (b : Bool) → same_stamp s v ≡ b → not (is_covered h f ss s) ≡ b
      at true q = ap not (ap (λ (y : Stamp). list_any (is_proper_ancestor h f y) ss) (same_stamp_eq s v q) ∙ uncovered (list_any (is_proper_ancestor h f v) ss) refl)
      at false q = ap not (covered q)

  -- a stamp stands once in a list whose stamps differ
  count_none : (s : Stamp) (ss : List Stamp) → (s ≡ v) → AllByRecursion (λ (u : Stamp). same_stamp s u ≡ false) ss → filter (λ a. same_stamp a v) ss ≡ []
  count_none s [] is all = refl
  count_none s (u ∷ us) is all = at (same_stamp u v) refl (count_none s us is all.1)
    where
      at : (b : Bool) → same_stamp u v ≡ b → filter (λ a. same_stamp a v) us ≡ [] → cond b (u ∷ filter (λ a. same_stamp a v) us) (filter (λ a. same_stamp a v) us) ≡ []
      at true q later = absurd (true_false (sym (subst (λ (y : Stamp). same_stamp s y ≡ true) (is ∙ sym (same_stamp_eq u v q)) (same_stamp_refl s)) ∙ all.0))
      at false q later = later

  count_one : (ss : List Stamp) → Differ ss → has_stamp ss v ≡ true → length (filter (λ a. same_stamp a v) ss) ≡ 1
  count_one [] differ mine = absurd (true_false (sym mine))
  count_one (s ∷ ss) differ mine = at (same_stamp s v) refl mine (count_one ss differ.1)
    where
      at : (b : Bool) → same_stamp s v ≡ b → b || has_stamp ss v ≡ true → (has_stamp ss v ≡ true → length (filter (λ a. same_stamp a v) ss) ≡ 1) → length (cond b (s ∷ filter (λ a. same_stamp a v) ss) (filter (λ a. same_stamp a v) ss)) ≡ 1
      at true q k later = ap (λ (xs : List Stamp). length (s ∷ xs)) (count_none s ss (same_stamp_eq s v q) differ.0)
      at false q k later = later k

  filter_alike : (p q : Stamp → Bool) (ss : List Stamp) → AllByRecursion (λ (s : Stamp). p s ≡ q s) ss → filter p ss ≡ filter q ss
  filter_alike p q [] all = refl
  filter_alike p q (s ∷ ss) all = ap (λ (b : Bool). cond b (s ∷ filter p ss) (filter p ss)) all.0 ∙ ap (λ ys. cond (q s) (s ∷ ys) ys) (filter_alike p q ss all.1)

  tests : (ss xs : List Stamp) → has_stamp ss v ≡ true → AllByRecursion IsUnder ss → AllByRecursion IsUnder xs → AllByRecursion (λ (s : Stamp). not (is_covered h f ss s) ≡ same_stamp s v) xs
  tests ss [] mine all xs_all = tt
  tests ss (x ∷ xs) mine all xs_all = (kept_test ss mine all x xs_all.0, tests ss xs mine all xs_all.1)

  pub one_kept : (ss : List Stamp) → Differ ss → has_stamp ss v ≡ true → AllByRecursion IsUnder ss → length (kept h f ss) ≡ 1
  one_kept ss differ mine all = ap length (filter_alike (λ a. not (is_covered h f ss a)) (λ a. same_stamp a v) ss (tests ss ss mine all all)) ∙ count_one ss differ mine

-- ---- what is published ----

-- of the stamps of a file, by all that is known
stamps_under : (P : Stamp → Type 0) (ino : ℕ) (bs : List Brought) → AllByRecursion (λ (b : Brought). b.ino ≡ ino → P b.stamp) bs → AllByRecursion P (stamps_of bs ino)
stamps_under P ino [] all = tt
stamps_under P ino (b ∷ bs) all = at (b.ino == ino) refl (stamps_under P ino bs all.1)
  where
    at : (x : Bool) → (b.ino == ino) ≡ x → AllByRecursion P (stamps_of bs ino) → AllByRecursion P (map (λ (y : Brought). y.stamp) (cond x (b ∷ filter (λ (y : Brought). y.ino == ino) bs) (filter (λ (y : Brought). y.ino == ino) bs)))
    at true e later = (all.0 (test_same b.ino ino e), later)
    at false e later = later

-- and back
known_under : (P : Stamp → Type 0) (ino : ℕ) (bs : List Brought) → AllByRecursion P (stamps_of bs ino) → AllByRecursion (λ (b : Brought). b.ino ≡ ino → P b.stamp) bs
known_under P ino [] all = tt
known_under P ino (b ∷ bs) all = at (b.ino == ino) refl all (known_under P ino bs)
  where
    equal : (m n : ℕ) → m ≡ n → (m == n) ≡ true
    equal m n e = subst (λ (k : ℕ). (m == k) ≡ true) e (equal_self m)

    at : (x : Bool) → (b.ino == ino) ≡ x → AllByRecursion P (map (λ (y : Brought). y.stamp) (cond x (b ∷ filter (λ (y : Brought). y.ino == ino) bs) (filter (λ (y : Brought). y.ino == ino) bs))) → (AllByRecursion P (stamps_of bs ino) → AllByRecursion (λ (d : Brought). d.ino ≡ ino → P d.stamp) bs) →
        (b.ino ≡ ino → P b.stamp) × AllByRecursion (λ (d : Brought). d.ino ≡ ino → P d.stamp) bs
    at true e all later = ((λ k. all.0), later all.1)
    at false e all later = ((λ k. absurd (true_false (sym (equal b.ino ino k) ∙ e))), later all)

-- each is below the only kept one
all_under : (P : Stamp → Type 0) (ss : List Stamp) → ((s : Stamp) → has_stamp ss s ≡ true → P s) → AllByRecursion P ss
all_under P [] each = tt
all_under P (s ∷ ss) each = (each s (ap (λ (b : Bool). b || has_stamp ss s) (same_stamp_refl s)), all_under P ss (λ u k. each u (or_second (same_stamp s u) (has_stamp ss u) k)))

module _ (c : Config) (few : PacksAreOfSites c) (older : List Line) (n : ℕ) (followed : IsFollowed c older) (new : CommitsAreNew c (entries older)) (e : EpochId) (f : FileId) (started : (tree_of c e f.group (entries older)).started ≡ true) (single : length (kept_in c (entries older) e f) ≡ 1) where
  abbrev before : Trace
  before = entries older

  abbrev t : TreeState
  t = tree_of c e f.group before

  abbrev h : List Version
  h = history c before

  abbrev rows : RowsAreLawful c before
  rows = followed_rows c older followed

  -- all that is known is below what the released instance has committed
  module _ (d : EpochId) (j : Serial) (q : FileId) (v : Stamp) (w : EndsIn c before e f d j q (Some v)) (mine : q ≡ f) where
    file_is : w.ended.grant.file ≡ f
    file_is = w.file_is ∙ mine

    made_is : w.ended.work.committed ≡ Some v
    made_is = sym (same_version_is (Some v) w.ended.work.committed w.made)

    seat : Seat e f.group before t w.ended
    seat = all_found (Seat e f.group before t) (is_named j) t.instances w.ended (rows_seated c before rows e f.group) w.found

    last_is : w.ended.work.last ≡ Some v
    last_is = seat.made v made_is

    v_stands : is_in h f v ≡ true
    v_stands = held_stand c before rows e f w.ended.grant.ss v (sym (ap (λ (y : FileId). held_at t w.ended.grant.ss y.ino) file_is) ∙ (sym seat.last_is ∙ last_is))

    kept_below : AllByRecursion (λ (k : Stamp). is_ancestor h f k v ≡ true) (kept_in c before e f)
    kept_below = over (all_found (IsAbove h t) (is_named j) t.instances w.ended (open_above c older few followed new e f.group) w.found)
      where
        of : (k : Stamp) → BelowLast h w.ended.grant.file w.ended.work.last k → is_ancestor h f k v ≡ true
        of k b = subst (λ (y : FileId). is_ancestor h y k v ≡ true) file_is (subst (λ (y : Stamp). is_ancestor h w.ended.grant.file k y ≡ true) (some_same b.top v (sym b.last_is ∙ last_is)) b.below)

        over : IsAbove h t w.ended → AllByRecursion (λ (k : Stamp). is_ancestor h f k v ≡ true) (kept_in c before e f)
        over (inl p) = absurd (none_some v (sym p.1 ∙ made_is))
        over (inr p) = subst (λ (y : FileId). AllByRecursion (λ (k : Stamp). is_ancestor h f k v ≡ true) (kept_of h t y)) file_is (all_then (BelowLast h w.ended.grant.file w.ended.work.last) (λ (k : Stamp). is_ancestor h f k v ≡ true) of (kept_of h t w.ended.grant.file) p)

    known_below : (s : Stamp) → has_stamp (candidates c before e f) s ≡ true → is_ancestor h f s v ≡ true
    known_below s k = over (below_kept c before rows new e f s k)
      where
        over : IsBelowKept c before e f s → is_ancestor h f s v ≡ true
        over b = ancestor_through h (rows_made c before rows new) f s b.top v v_stands b.above (member_stands (λ (a : Stamp). is_ancestor h f a v ≡ true) (kept_in c before e f) b.top b.is_kept kept_below)

    published_under : AllByRecursion (λ (s : Stamp). is_ancestor h f s v ≡ true) (stamps_of (published q (Some v) t.known) f.ino)
    published_under = stamps_under (λ (s : Stamp). is_ancestor h f s v ≡ true) f.ino (published q (Some v) t.known)
        (all_brought (λ (b : Brought). b.ino ≡ f.ino → is_ancestor h f b.stamp v ≡ true) (record { ino = q.ino; stamp = v }) t.known (λ k. ancestor_own h f v)
        (known_under (λ (s : Stamp). is_ancestor h f s v ≡ true) f.ino t.known (all_under (λ (s : Stamp). is_ancestor h f s v ≡ true) (stamps_of t.known f.ino) known_below)))

    published_has : has_stamp (stamps_of (published q (Some v) t.known) f.ino) v ≡ true
    published_has = subst (λ (m : ℕ). has_stamp (stamps_of (with_brought (record { ino = m; stamp = v }) t.known) f.ino) v ≡ true) (ap (λ (y : FileId). y.ino) (sym mine)) (knows_new f.ino v t.known)

    pub released_single : length (kept h f (stamps_of (published q (Some v) t.known) f.ino)) ≡ 1
    released_single = one_kept h (rows_made c before rows new) f v v_stands (stamps_of (published q (Some v) t.known) f.ino) (stamps_differ f.ino (published q (Some v) t.known) (published_ascends q (Some v) t.known (known_ascends c before e f.group))) published_has published_under

  -- what isn't published leaves what is kept
  unpublished : (r : Record) → MayTell c older (Shown r) → IsNew c before r → PublishesNone c before e f r → length (kept_in c (record { line = n; what = r } ∷ before) e f) ≡ 1
  unpublished r may fresh none = ap length (kept_by c before few rows e f started n r may.row fresh none) ∙ single

  release_single : (d : EpochId) (j : Serial) (q : FileId) (stamp : Option Stamp) → MayTell c older (Shown (says.Release d j q stamp)) → length (kept_in c (record { line = n; what = says.Release d j q stamp } ∷ before) e f) ≡ 1
  release_single d j q stamp may = over (same_epoch d t.epoch && (q.group == t.group)) refl (q.ino == f.ino) refl stamp refl
    where
      over : (a : Bool) → same_epoch d t.epoch && (q.group == t.group) ≡ a → (b : Bool) → (q.ino == f.ino) ≡ b → (o : Option Stamp) → stamp ≡ o → length (kept_of h (cond (same_epoch d t.epoch && (q.group == t.group)) (released j q stamp t) t) f) ≡ 1
      over false p b l o k = ap (λ (x : Bool). length (kept_of h (cond x (released j q stamp t) t) f)) p ∙ single
      over true p false l o k = ap (λ (x : Bool). length (kept_of h (cond x (released j q stamp t) t) f)) p ∙ (ap (λ (ss : List Stamp). length (kept h f ss)) (published_same q stamp f.ino t.known l) ∙ single)
      over true p true l None k = ap (λ (x : Bool). length (kept_of h (cond x (released j q stamp t) t) f)) p ∙ (ap (λ (o : Option Stamp). length (kept h f (stamps_of (published q o t.known) f.ino))) k ∙ single)
      over true p true l (Some v) k = (let w : EndsIn c before e f d j q stamp = ends_in c before e f d j q stamp may.row.gives p in
          ap (λ (x : Bool). length (kept_of h (cond x (released j q stamp t) t) f)) p ∙ (ap (λ (o : Option Stamp). length (kept h f (stamps_of (published q o t.known) f.ino))) k
          ∙ released_single d j q v (subst (EndsIn c before e f d j q) k w) (file_eq q f w.group_is (test_same q.ino f.ino l))))

  next_single : (r : Record) → MayTell c older (Shown r) → IsNew c before r → length (kept_in c (record { line = n; what = r } ∷ before) e f) ≡ 1
  next_single (says.Release d j q stamp) may fresh = release_single d j q stamp may
  next_single r may fresh = unpublished r may fresh tt

pub single_stays : (c : Config) (older : List Line) (n : ℕ) (x : Told) → PacksAreOfSites c → IsFollowed c older → MayTell c older x → CommitsAreNew c (onto_entries n x (entries older)) → (e : EpochId) (f : FileId) → IsStarted c older e f.group → length (kept_in c (entries older) e f) ≡ 1 →
    length (kept_in c (entries (record { number = n; told = x } ∷ older)) e f) ≡ 1
single_stays c older n (Shown r) few followed may new e f started single = next_single c few older n followed new.1 e f started single r may new.0
single_stays c older n _ few followed may new e f started single = single
