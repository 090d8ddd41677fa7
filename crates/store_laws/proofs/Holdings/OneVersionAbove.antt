-- An open instance is above what is kept of its file: each kept version is below its last one, but where it merges and hasn't
-- committed yet.
use Rattle.std.proofs.Common.{◌≡◌, ℕ, ◌==◌, Bool, true, false, not, ◌&&◌, ◌||◌, cond, List, [], ◌∷◌, ◌++◌, filter, Option, Some, None, refl, sym, ap, ◌∙◌, subst, arith, ◌⊎◌, inl, inr}
use Rattle.std.proofs.lemmas.Bool.Decides.{nat_tests}
use Rattle.std.specs.List.{AllByRecursion, find, list_any}
use Rattle.std.specs.Option.{is_none}
use Rattle.tree_laws.proofs.of_plain_facts.Numbers.{equal, equal_self}
use Rattle.tree_laws.proofs.of_plain_facts.Options.{none_some, some_same}
use Rattle.tree_laws.proofs.of_plain_facts.Tests.{and_first, or_second, true_false}
use Rattle.locus_ids.specs.declared.config.Config.{Config}
use Rattle.locus_ids.specs.declared.ids.CallId.{CallId}
use Rattle.locus_ids.specs.declared.ids.EpochId.{EpochId}
use Rattle.locus_ids.specs.declared.ids.FileId.{FileId}
use Rattle.locus_ids.specs.declared.ids.Mode.{Mode}
use Rattle.locus_ids.specs.declared.ids.Mode.TheVariants as mode
use Rattle.locus_ids.specs.declared.ids.Serial.{Serial}
use Rattle.locus_ids.specs.declared.ids.Stamp.{Stamp}
use Rattle.commit_graph.specs.declared.history.Version.{Version}
use Rattle.commit_graph.specs.Grants.{is_read}
use Rattle.commit_graph.specs.Versions.{is_ancestor, is_in, is_version, kept, same_file, same_stamp}
use Rattle.commit_graph.proofs.Names.{same_stamp_refl, same_stamp_eq}
use Rattle.trace_book.specs.Same.{same_epoch}
use Rattle.trace_book.specs.declared.record.Record.{Record}
use Rattle.trace_book.specs.declared.record.Record.TheVariants as says
use Rattle.site_laws.specs.of_role_steps.Views.{Told, Shown}
use Rattle.tree_laws.specs.of_the_run.Worlds.{Line}
use Rattle.tree_model.specs.declared.instance.Instance.{Instance}
use Rattle.tree_model.specs.Epochs.{is_in as is_at}
use Rattle.tree_model.specs.Folds.{Trace}
use Rattle.tree_model.specs.Given.{gives_grant}
use Rattle.tree_model.specs.Histories.{history}
use Rattle.tree_model.specs.Lists.{change_first, without_first}
use Rattle.tree_model.specs.Opening.{is_only}
use Rattle.tree_model.specs.State.{TreeState, has_stamp, held_at, is_granted_here, is_inside, is_make, is_named, is_writer, kept_of, stamps_of}
use Rattle.tree_model.specs.Tree.{acted, grant_of, granted, joined, left, next, once_acted, once_committed, opened, published, released, tree_of, without_make}
use Rattle.tree_model.specs.Working.{list_of, merges, parents_of}
use Rattle.tree_laws.specs.of_lawful_trace.TreeRows.{is_writing}
use Rattle.tree_laws.specs.Following.{IsFollowed, MakesInTime, MayTell, RowsAreLawful}
use Rattle.tree_laws.specs.Printed.{entries, onto_entries}
use Rattle.tree_laws.proofs.Names.{same_epoch_eq}
use Rattle.tree_laws.proofs.Owing.{inside_is}
use Rattle.tree_laws.proofs.Rows.{followed_rows}
use Rattle.tree_laws.specs.Orders.Alone.{MayStandBy}
use Rattle.tree_laws.specs.Orders.Joining.{PacksAreOfSites}
use Rattle.tree_laws.proofs.Orders.Alone.{rows_apart, tree_is, tree_named}
use Rattle.tree_laws.proofs.Orders.Keeping.{EndsIn, IsNew, PublishesNone, ends_in, file_eq, kept_by, published_same}
use Rattle.tree_laws.proofs.Orders.Lists.{all_changed, all_found, all_more, all_then, all_without}
use Rattle.tree_laws.proofs.Orders.Standing.{acted_keeps, same_file_eq}
use Rattle.tree_laws.proofs.Orders.Started.{rows_started}
use Rattle.store_laws.proofs.Holdings.Ancestors.{ancestor_before, ancestor_newest, ancestor_own, any_then}
use Rattle.store_laws.proofs.Holdings.Made.{CommitsAreNew, held_stand}
use Rattle.store_laws.proofs.Holdings.OneVersionMakes.{Free, free_or_named}
use Rattle.store_laws.proofs.Holdings.Seats.{Seat, granted_placed, rows_seated, same_version_is}
use Rattle.store_laws.proofs.Holdings.Turning.{acted_last, all_turned}
use Rattle.tree_laws.specs.Past.{WasBegun, WasNamed}
use Rattle.store_laws.proofs.Holdings.OneVersionLists.{all_among, all_both, all_unit, beside_found, none_kept, only_one}

-- the version is below the last one
pub record BelowLast (h : List Version) (f : FileId) (last : Option Stamp) (k : Stamp) : Type 0 where
  pub top : Stamp
  pub last_is : last ≡ Some top
  pub below : is_ancestor h f k top ≡ true

-- it merges, and hasn't committed; or each kept version is below its last one
abbrev pub IsAbove : List Version → TreeState → Instance → Type 0
IsAbove h t x = ((merges x.grant.mode ≡ true) × (x.work.committed ≡ None)) ⊎ AllByRecursion (BelowLast h x.grant.file x.work.last) (kept_of h t x.grant.file)

-- ---- a printed record ----

module _ (c : Config) (few : PacksAreOfSites c) (older : List Line) (n : ℕ) (followed : IsFollowed c older) (e : EpochId) (g : ℕ) (old : AllByRecursion (IsAbove (history c (entries older)) (tree_of c e g (entries older))) (tree_of c e g (entries older)).instances) where
  abbrev before : Trace
  before = entries older

  abbrev t : TreeState
  t = tree_of c e g before

  abbrev h : List Version
  h = history c before

  abbrev rows : RowsAreLawful c before
  rows = followed_rows c older followed

  named : (t.epoch ≡ e) × (t.group ≡ g)
  named = tree_named c e g before

  abbrev After : Record → Instance → Type 0
  After r x = IsAbove (history c (record { line = n; what = r } ∷ before)) (next h r t) x

  -- what an instance rests on stays
  moved : (r : Record) (x : Instance) → kept_of (history c (record { line = n; what = r } ∷ before)) (next h r t) x.grant.file ≡ kept_of h t x.grant.file → ((k l : Stamp) → x.work.last ≡ Some l → is_ancestor h x.grant.file k l ≡ true → is_ancestor (history c (record { line = n; what = r } ∷ before)) x.grant.file k l ≡ true) → IsAbove h t x → After r x
  moved r x same grows (inl k) = inl k
  moved r x same grows (inr k) = inr (subst (AllByRecursion (BelowLast (history c (record { line = n; what = r } ∷ before)) x.grant.file x.work.last)) (sym same)
      (all_then (BelowLast h x.grant.file x.work.last) (BelowLast (history c (record { line = n; what = r } ∷ before)) x.grant.file x.work.last) (λ s b. record { top = b.top; last_is = b.last_is; below = grows s b.top b.last_is b.below }) (kept_of h t x.grant.file) k))

  -- of a file of the group what is kept stays where nothing is published
  kept_same : (r : Record) → MayTell c older (Shown r) → IsNew c before r → (f : FileId) → f.group ≡ g → t.started ≡ true → PublishesNone c before e f r → kept_of (history c (record { line = n; what = r } ∷ before)) (next h r t) f ≡ kept_of h t f
  kept_same r may new f same started none = subst (λ (q : ℕ). kept_of (history c (record { line = n; what = r } ∷ before)) (next h r (tree_of c e q before)) f ≡ kept_of h (tree_of c e q before) f) same
      (kept_by c before few rows e f (subst (λ (q : ℕ). (tree_of c e q before).started ≡ true) (sym same) started) n r may.row new none)

  -- ---- records that release nothing and commit nothing ----

  abbrev Plain : Record → Type 0
  Plain r = (f : FileId) → PublishesNone c before e f r

  calm : (r : Record) → MayTell c older (Shown r) → IsNew c before r → Plain r → ((f : FileId) (k l : Stamp) → is_ancestor h f k l ≡ true → is_ancestor (history c (record { line = n; what = r } ∷ before)) f k l ≡ true) → AllByRecursion (After r) t.instances
  calm r may new plain grows = all_both (λ (x : Instance). t.started ≡ true) (λ (x : Instance). Seat e g before t x × IsAbove h t x) (After r)
      (λ x started k. moved r x (kept_same r may new x.grant.file k.0.group_is started (plain x.grant.file)) (λ a l q b. grows x.grant.file a l b) k.1)
      t.instances (rows_started c before rows e g) (all_both (Seat e g before t) (IsAbove h t) (λ (x : Instance). Seat e g before t x × IsAbove h t x) (λ x p q. (p, q)) t.instances (rows_seated c before rows e g) old)

  -- ---- commits ----

  module _ (f : FileId) (z : ℕ) (stamp : Stamp) (parents : List Stamp) (content : List ℕ) (may : MayTell c older (Shown (says.Commit f z stamp parents content))) (fresh : is_in h f stamp ≡ false) where
    abbrev r : Record
    r = says.Commit f z stamp parents content

    abbrev w : Version
    w = record { file = f; site = z; stamp = stamp; parents = parents; content = content }

    abbrev P : Instance → Type 0
    P x = (t.started ≡ true) × (Seat e g before t x × (IsAbove h t x × (is_writing f x ≡ true → x ≡ may.row.instance)))

    own : (y : FileId) → same_file y y ≡ true
    own y = grind (arith, nat_tests)

    last_stands : (x : Instance) (l : Stamp) → Seat e g before t x → x.work.last ≡ Some l → is_in h x.grant.file l ≡ true
    last_stands x l seat k = held_stand c before rows e x.grant.file x.grant.ss l (subst (λ (q : ℕ). held_at (tree_of c e q before) x.grant.ss x.grant.file.ino ≡ Some l) (sym seat.group_is) (sym seat.last_is ∙ k))

    keep : (x : Instance) → P x → After r x
    keep x p = moved r x (kept_same r may fresh x.grant.file p.1.0.group_is p.0 tt) (λ k l q b. ancestor_before w h x.grant.file k l fresh (last_stands x l p.1.0 q) ∙ b) p.1.1.0

    epoch_is : is_inside t z ≡ true → may.row.epoch ≡ e
    epoch_is inside = same_epoch_eq may.row.epoch e (sym (ap (λ (o : Option EpochId). is_at o e) may.row.inside) ∙ (sym (inside_is c before e g z) ∙ inside))

    tree_same : is_inside t z ≡ true → (f.group == t.group) ≡ true → tree_of c may.row.epoch f.group before ≡ t
    tree_same inside same = tree_is c e may.row.epoch g f.group before (epoch_is inside) (equal f.group t.group same ∙ named.1)

    one : is_inside t z ≡ true → (f.group == t.group) ≡ true → filter (is_writing f) t.instances ≡ may.row.instance ∷ []
    one inside same = subst (λ (u : TreeState). filter (is_writing f) u.instances ≡ may.row.instance ∷ []) (tree_same inside same) may.row.one

    -- the one that commits is above what is kept, as its parents were
    turn : is_inside t z ≡ true → (f.group == t.group) ≡ true → (x : Instance) → is_writer f z x ≡ true → P x → After r (once_committed stamp x)
    turn inside same x writes p = inr (subst (AllByRecursion (BelowLast (history c (record { line = n; what = r } ∷ before)) x.grant.file (Some stamp))) (sym (kept_same r may fresh x.grant.file p.1.0.group_is p.0 tt)) (above (merges x.grant.mode && is_none x.work.committed) refl))
      where
        mine : x.grant.file ≡ f
        mine = same_file_eq x.grant.file f (and_first (same_file x.grant.file f) _ writes)

        writing : is_writing f x ≡ true
        writing = drop (same_file x.grant.file f) (x.grant.ss == z) (not (is_read x.grant.mode)) writes
          where
            drop : (a b d : Bool) → a && (b && d) ≡ true → a && d ≡ true
            drop true true d k = k
            drop true false d k = absurd (true_false (sym k))
            drop false b d k = absurd (true_false (sym k))

        is : x ≡ may.row.instance
        is = p.1.1.1 writing

        parents_are : parents ≡ cond (merges x.grant.mode && is_none x.work.committed) (kept_of h t x.grant.file) (list_of x.work.last)
        parents_are = may.row.above ∙ (ap (λ (u : TreeState). parents_of h u may.row.instance) (tree_same inside same) ∙ ap (λ (y : Instance). parents_of h t y) (sym is))

        newest : is_version x.grant.file stamp w ≡ true
        newest = ap (λ (y : FileId). same_file f y && same_stamp stamp stamp) mine ∙ (ap (λ (b : Bool). b && same_stamp stamp stamp) (own f) ∙ same_stamp_refl stamp)

        step : (k : Stamp) → list_any (is_ancestor h x.grant.file k) parents ≡ true → BelowLast (w ∷ h) x.grant.file (Some stamp) k
        step k any = record { top = stamp; last_is = refl; below = ancestor_newest w h x.grant.file k stamp newest ∙ or_second (same_stamp k stamp) _ any }

        among : (k : Stamp) → has_stamp (kept_of h t x.grant.file) k ≡ true → list_any (is_ancestor h x.grant.file k) (kept_of h t x.grant.file) ≡ true
        among k m = any_then (λ a. same_stamp a k) (is_ancestor h x.grant.file k) (λ (a : Stamp). Unit {0}) (λ a u q. subst (λ (y : Stamp). is_ancestor h x.grant.file k y ≡ true) (sym (same_stamp_eq a k q)) (ancestor_own h x.grant.file k)) (kept_of h t x.grant.file) (all_unit (kept_of h t x.grant.file)) m

        alone : (a b : Bool) → a ≡ true → a || b ≡ true
        alone true b q = refl
        alone false b q = absurd (true_false (sym q))

        of_last : (k : Stamp) → BelowLast h x.grant.file x.work.last k → list_any (is_ancestor h x.grant.file k) (list_of x.work.last) ≡ true
        of_last k b = subst (λ (o : Option Stamp). list_any (is_ancestor h x.grant.file k) (list_of o) ≡ true) (sym b.last_is) (alone (is_ancestor h x.grant.file k b.top) false b.below)

        both_true : (a b : Bool) → a ≡ true → b ≡ true → a && b ≡ true
        both_true true b q s = s
        both_true false b q s = absurd (true_false (sym q))

        rest : merges x.grant.mode && is_none x.work.committed ≡ false → IsAbove h t x → AllByRecursion (BelowLast h x.grant.file x.work.last) (kept_of h t x.grant.file)
        rest q (inl k) = absurd (true_false (sym (both_true (merges x.grant.mode) (is_none x.work.committed) k.0 (ap (λ (o : Option Stamp). is_none o) k.1)) ∙ q))
        rest q (inr k) = k

        above : (b : Bool) → merges x.grant.mode && is_none x.work.committed ≡ b → AllByRecursion (BelowLast (w ∷ h) x.grant.file (Some stamp)) (kept_of h t x.grant.file)
        above true q = all_then (λ (k : Stamp). has_stamp (kept_of h t x.grant.file) k ≡ true) (BelowLast (w ∷ h) x.grant.file (Some stamp)) (λ k m. step k (subst (λ (ps : List Stamp). list_any (is_ancestor h x.grant.file k) ps ≡ true) (sym (parents_are ∙ ap (λ (b : Bool). cond b (kept_of h t x.grant.file) (list_of x.work.last)) q)) (among k m)))
            (kept_of h t x.grant.file) (all_among (kept_of h t x.grant.file))
        above false q = all_then (BelowLast h x.grant.file x.work.last) (BelowLast (w ∷ h) x.grant.file (Some stamp)) (λ k b. step k (subst (λ (ps : List Stamp). list_any (is_ancestor h x.grant.file k) ps ≡ true) (sym (parents_are ∙ ap (λ (b : Bool). cond b (kept_of h t x.grant.file) (list_of x.work.last)) q)) (of_last k b)))
            (kept_of h t x.grant.file) (rest q p.1.1.0)

    gather : AllByRecursion (λ (x : Instance). is_writing f x ≡ true → x ≡ may.row.instance) t.instances → AllByRecursion P t.instances
    gather only = all_both (λ (x : Instance). t.started ≡ true) (λ (x : Instance). Seat e g before t x × (IsAbove h t x × (is_writing f x ≡ true → x ≡ may.row.instance))) P (λ x a b. (a, b)) t.instances (rows_started c before rows e g)
        (all_both (Seat e g before t) (λ (x : Instance). IsAbove h t x × (is_writing f x ≡ true → x ≡ may.row.instance)) (λ (x : Instance). Seat e g before t x × (IsAbove h t x × (is_writing f x ≡ true → x ≡ may.row.instance))) (λ x a b. (a, b)) t.instances (rows_seated c before rows e g)
        (all_both (IsAbove h t) (λ (x : Instance). is_writing f x ≡ true → x ≡ may.row.instance) (λ (x : Instance). IsAbove h t x × (is_writing f x ≡ true → x ≡ may.row.instance)) (λ x a b. (a, b)) t.instances old only))

    kept_all : AllByRecursion (After r) t.instances
    kept_all = all_both (λ (x : Instance). t.started ≡ true) (λ (x : Instance). Seat e g before t x × IsAbove h t x) (After r)
        (λ x started k. moved r x (kept_same r may fresh x.grant.file k.0.group_is started tt) (λ a l q b. ancestor_before w h x.grant.file a l fresh (last_stands x l k.0 q) ∙ b) k.1)
        t.instances (rows_started c before rows e g) (all_both (Seat e g before t) (IsAbove h t) (λ (x : Instance). Seat e g before t x × IsAbove h t x) (λ x p q. (p, q)) t.instances (rows_seated c before rows e g) old)

    -- a file of another group is nobody's here
    strange : (f.group == t.group) ≡ false → (xs : List Instance) → AllByRecursion (Seat e g before t) xs → AllByRecursion (After r) xs → AllByRecursion (After r) (change_first (is_writer f z) (once_committed stamp) xs)
    strange apart [] seats all = tt
    strange apart (x ∷ xs) seats all = at (is_writer f z x) refl (strange apart xs seats.1 all.1)
      where
        at : (b : Bool) → is_writer f z x ≡ b → AllByRecursion (After r) (change_first (is_writer f z) (once_committed stamp) xs) → AllByRecursion (After r) (cond b (once_committed stamp x ∷ xs) (x ∷ change_first (is_writer f z) (once_committed stamp) xs))
        at true q later = absurd (true_false (sym (subst (λ (m : ℕ). (f.group == m) ≡ true) (ap (λ (y : FileId). y.group) (sym (same_file_eq x.grant.file f (and_first (same_file x.grant.file f) _ q))) ∙ (seats.0.group_is ∙ sym named.1)) (equal_self f.group)) ∙ apart))
        at false q later = (all.0, later)

    commit_above : AllByRecursion (After r) (next h r t).instances
    commit_above = over (is_inside t z) refl (f.group == t.group) refl
      where
        over : (n : Bool) → is_inside t z ≡ n → (a : Bool) → (f.group == t.group) ≡ a → AllByRecursion (After r) (cond n (change_first (is_writer f z) (once_committed stamp) t.instances) t.instances)
        over true inside true same = all_turned f z may.row.instance (once_committed stamp) P (After r) (λ x apart p. keep x p) (turn inside same) may.row.at t.instances (rows_apart c before rows e g).alone (one inside same) (gather (only_one (is_writing f) t.instances may.row.instance (one inside same)))
        over true inside false apart = strange apart t.instances (rows_seated c before rows e g) kept_all
        over false outside a same = kept_all

  -- ---- releases ----

  module _ (d : EpochId) (j : Serial) (q : FileId) (stamp : Option Stamp) (may : MayTell c older (Shown (says.Release d j q stamp))) where
    abbrev release : Record
    release = says.Release d j q stamp

    own_name : (y : FileId) → same_file y y ≡ true
    own_name y = grind (arith, nat_tests)

    -- what stands beside the released one reads, if it is of its file
    beside_none : (y : Instance) → (find (is_named j) t.instances ≡ Some y) → (x : Instance) → MayStandBy x y ⊎ MayStandBy y x → x.grant.file ≡ y.grant.file → y.work.committed ≡ None
    beside_none y found x by same = (all_found (Seat e g before t) (is_named j) t.instances y (rows_seated c before rows e g) found).reads (reads by)
      where
        reads : MayStandBy x y ⊎ MayStandBy y x → is_read y.grant.mode ≡ true
        reads (inl k) = (k (subst (λ (z : FileId). same_file x.grant.file z ≡ true) same (own_name x.grant.file))).1
        reads (inr k) = (k (subst (λ (z : FileId). same_file y.grant.file z ≡ true) (sym same) (own_name y.grant.file))).0

    publishes : (x : Instance) → x.grant.file.group ≡ g → ((y : Instance) → find (is_named j) t.instances ≡ Some y → MayStandBy x y ⊎ MayStandBy y x) → PublishesNone c before e x.grant.file release
    publishes x group_is by same = at (ends_in c before e x.grant.file d j q stamp may.row.gives same) (q.ino == x.grant.file.ino) refl
      where
        at : EndsIn c before e x.grant.file d j q stamp → (b : Bool) → (q.ino == x.grant.file.ino) ≡ b → stamps_of (published q stamp (tree_of c e x.grant.file.group before).known) x.grant.file.ino ≡ stamps_of (tree_of c e x.grant.file.group before).known x.grant.file.ino
        at w false k = published_same q stamp x.grant.file.ino (tree_of c e x.grant.file.group before).known k
        at w true k = ap (λ (o : Option Stamp). stamps_of (published q o (tree_of c e x.grant.file.group before).known) x.grant.file.ino)
            (same_version_is stamp w.ended.work.committed w.made ∙ beside_none w.ended found x (by w.ended found) (sym (w.file_is ∙ file_eq q x.grant.file w.group_is (equal q.ino x.grant.file.ino k))))
          where
            found : find (is_named j) t.instances ≡ Some w.ended
            found = subst (λ (m : ℕ). find (is_named j) (tree_of c e m before).instances ≡ Some w.ended) group_is w.found

    still : (x : Instance) → t.started ≡ true → Seat e g before t x → IsAbove h t x → ((y : Instance) → find (is_named j) t.instances ≡ Some y → MayStandBy x y ⊎ MayStandBy y x) → After release x
    still x started seat above by = moved release x (kept_same release may tt x.grant.file seat.group_is started (publishes x seat.group_is by)) (λ a l p b. b) above

    -- those that are left stand beside the one that is found
    left_beside : (o : Option Instance) → find (is_named j) t.instances ≡ o → AllByRecursion (λ (x : Instance). (y : Instance) → find (is_named j) t.instances ≡ Some y → MayStandBy x y ⊎ MayStandBy y x) (without_first (is_named j) t.instances)
    left_beside None k = anything (without_first (is_named j) t.instances)
      where
        anything : (xs : List Instance) → AllByRecursion (λ (x : Instance). (y : Instance) → find (is_named j) t.instances ≡ Some y → MayStandBy x y ⊎ MayStandBy y x) xs
        anything [] = tt
        anything (x ∷ xs) = ((λ y l. absurd (none_some y (sym k ∙ l))), anything xs)
    left_beside (Some y) k = all_then (λ (x : Instance). MayStandBy x y ⊎ MayStandBy y x) (λ (x : Instance). (w : Instance) → find (is_named j) t.instances ≡ Some w → MayStandBy x w ⊎ MayStandBy w x) (λ x p w l. subst (λ (v : Instance). MayStandBy x v ⊎ MayStandBy v x) (some_same y w (sym k ∙ l)) p)
        (without_first (is_named j) t.instances) (beside_found (is_named j) t.instances y (rows_apart c before rows e g).alone k)

    abbrev Base : Instance → Type 0
    Base x = (t.started ≡ true) × (Seat e g before t x × IsAbove h t x)

    base : AllByRecursion Base t.instances
    base = all_both (λ (x : Instance). t.started ≡ true) (λ (x : Instance). Seat e g before t x × IsAbove h t x) Base (λ x a b. (a, b)) t.instances (rows_started c before rows e g)
        (all_both (Seat e g before t) (IsAbove h t) (λ (x : Instance). Seat e g before t x × IsAbove h t x) (λ x a b. (a, b)) t.instances (rows_seated c before rows e g) old)

    release_above : AllByRecursion (After release) (next h release t).instances
    release_above = over (same_epoch d t.epoch && (q.group == t.group)) refl
      where
        elsewhere : same_epoch d t.epoch && (q.group == t.group) ≡ false → (x : Instance) → Base x → After release x
        elsewhere apart x p = moved release x (ap (λ (u : TreeState). kept_of h u x.grant.file) (ap (λ (b : Bool). cond b (released j q stamp t) t) apart)) (λ a l k b. b) p.1.1

        over : (b : Bool) → same_epoch d t.epoch && (q.group == t.group) ≡ b → AllByRecursion (After release) (cond b (released j q stamp t) t).instances
        over true k = all_both Base (λ (x : Instance). (y : Instance) → find (is_named j) t.instances ≡ Some y → MayStandBy x y ⊎ MayStandBy y x) (After release) (λ x p by. still x p.0 p.1.0 p.1.1 by) (without_first (is_named j) t.instances)
            (all_without Base (is_named j) t.instances base) (left_beside (find (is_named j) t.instances) refl)
        over false k = all_then Base (After release) (elsewhere k) t.instances base

  -- ---- grants ----

  grant_above : (d : EpochId) (call : CallId) (request : ℕ) (i : Serial) (m : Mode) (f : FileId) (stamp : Option Stamp) (ss : ℕ) → MayTell c older (Shown (says.Grant d call request i m f stamp ss)) → AllByRecursion (After (says.Grant d call request i m f stamp ss)) (next h (says.Grant d call request i m f stamp ss) t).instances
  grant_above d call request i m f stamp ss may = over (same_epoch d t.epoch) refl (f.group == t.group) refl
    where
      others : AllByRecursion (After (says.Grant d call request i m f stamp ss)) t.instances
      others = calm (says.Grant d call request i m f stamp ss) may tt (λ y. tt) (λ y k l b. b)

      given : same_epoch d t.epoch ≡ true → (f.group == t.group) ≡ true → gives_grant h t call i m f stamp ss ≡ true
      given p q = subst (λ (u : TreeState). gives_grant h u call i m f stamp ss ≡ true) (tree_is c e d g f.group before (same_epoch_eq d t.epoch p ∙ named.0) (equal f.group t.group q ∙ named.1)) may.row.gives

      kept_is : (u : TreeState) → u.known ≡ t.known → kept_of h u f ≡ kept_of h t f
      kept_is u k = ap (λ bs. kept h f (stamps_of bs f.ino)) k

      known_is : (a : Bool) → (cond a (granted h (grant_of t call i m f ss) stamp t) t).known ≡ t.known
      known_is true = refl
      known_is false = refl

      -- the only kept version is the one that it is on
      on_only : (ks : List Stamp) (o : Option Stamp) → is_only ks o ≡ true → AllByRecursion (BelowLast h f o) ks
      on_only [] o k = absurd (true_false (sym k))
      on_only (a ∷ []) (Some s) k = (record { top = s; last_is = refl; below = subst (λ (y : Stamp). is_ancestor h f a y ≡ true) (same_stamp_eq a s k) (ancestor_own h f a) }, tt)
      on_only (a ∷ []) None k = absurd (true_false (sym k))
      on_only (a ∷ b ∷ more) o k = absurd (true_false (sym k))

      -- of a make's file nothing is known
      make_none : d ≡ e → f.group ≡ g → WasNamed older e i ⊎ Free c older ss e f → kept_of h t f ≡ []
      make_none p q (inl k) = absurd (may.in_time.new (subst (λ (y : EpochId). WasNamed older y i) (sym p) k))
      make_none p q (inr k) = none_kept h f (stamps_of t.known f.ino) (λ s l. k.known s (subst (λ (m : ℕ). has_stamp (stamps_of (tree_of c e m before).known f.ino) s ≡ true) (sym q) l))

      above : (m : Mode) → MakesInTime older d i f ss m → gives_grant h t call i m f stamp ss ≡ true → d ≡ e → f.group ≡ g → ((merges m ≡ true) × (◌≡◌ {A = Option Stamp} None None)) ⊎ AllByRecursion (BelowLast h f stamp) (kept_of h t f)
      above mode.Resolve makes k p q = inl (refl, refl)
      above mode.Mend makes k p q = inl (refl, refl)
      above mode.Read makes k p q = inr (on_only (kept_of h t f) stamp (and_first (is_only (kept_of h t f) stamp) _ (granted_placed h t call i mode.Read f stamp ss k)))
      above mode.Write makes k p q = inr (on_only (kept_of h t f) stamp (and_first (is_only (kept_of h t f) stamp) _ (granted_placed h t call i mode.Write f stamp ss k)))
      above mode.Make makes k p q = inr (subst (AllByRecursion (BelowLast h f stamp)) (sym (make_none p q (free_or_named c older few followed ss e i f (subst (λ (y : EpochId). WasBegun older ss y i f) p makes)))) tt)

      new : (a : Bool) → same_epoch d t.epoch ≡ true → (f.group == t.group) ≡ true → IsAbove h (cond a (granted h (grant_of t call i m f ss) stamp t) t) (opened h (grant_of t call i m f ss) stamp)
      new a p q = at (above m may.in_time.makes (given p q) (same_epoch_eq d t.epoch p ∙ named.0) (equal f.group t.group q ∙ named.1))
        where
          at : ((merges m ≡ true) × (◌≡◌ {A = Option Stamp} None None)) ⊎ AllByRecursion (BelowLast h f stamp) (kept_of h t f) → IsAbove h (cond a (granted h (grant_of t call i m f ss) stamp t) t) (opened h (grant_of t call i m f ss) stamp)
          at (inl k) = inl (k.0, refl)
          at (inr k) = inr (subst (AllByRecursion (BelowLast h f stamp)) (sym (kept_is (cond a (granted h (grant_of t call i m f ss) stamp t) t) (known_is a))) k)

      over : (a : Bool) → same_epoch d t.epoch ≡ a → (b : Bool) → (f.group == t.group) ≡ b → AllByRecursion (After (says.Grant d call request i m f stamp ss)) (cond a (record t { grants = t.grants ++ grant_of t call i m f ss ∷ []; instances = cond b (t.instances ++ opened h (grant_of t call i m f ss) stamp ∷ []) t.instances }) t).instances
      over true p true q = all_more (After (says.Grant d call request i m f stamp ss)) t.instances (opened h (grant_of t call i m f ss) stamp) others (new (same_epoch d t.epoch) p q)
      over true p false q = others
      over false p b q = others

  -- ---- any record ----

  next_above : (r : Record) → MayTell c older (Shown r) → IsNew c before r → AllByRecursion (After r) (next h r t).instances
  next_above (says.Commit f z stamp parents content) may fresh = commit_above f z stamp parents content may fresh
  next_above (says.Release d j q stamp) may fresh = release_above d j q stamp may
  next_above (says.Grant d call request i m f stamp ss) may fresh = grant_above d call request i m f stamp ss may
  next_above (says.Join z d m) may fresh = over (same_epoch d t.epoch)
    where
      over : (b : Bool) → AllByRecursion (After (says.Join z d m)) (cond b (joined z m t) (left z t)).instances
      over true = calm (says.Join z d m) may tt (λ y. tt) (λ y k l b. b)
      over false = calm (says.Join z d m) may tt (λ y. tt) (λ y k l b. b)
  next_above (says.Start d k copies) may fresh = over (same_epoch d t.epoch && (k == t.group))
    where
      over : (b : Bool) → AllByRecursion (After (says.Start d k copies)) (cond b (record t { started = true }) t).instances
      over true = calm (says.Start d k copies) may tt (λ y. tt) (λ y k l b. b)
      over false = calm (says.Start d k copies) may tt (λ y. tt) (λ y k l b. b)
  next_above (says.Refuse d call request i m f why) may fresh = over (same_epoch d t.epoch && ((f.group == t.group) && is_make m))
    where
      over : (b : Bool) → AllByRecursion (After (says.Refuse d call request i m f why)) (cond b (record t { makes = without_make call t.makes }) t).instances
      over true = calm (says.Refuse d call request i m f why) may tt (λ y. tt) (λ y k l b. b)
      over false = calm (says.Refuse d call request i m f why) may tt (λ y. tt) (λ y k l b. b)
  next_above (says.Act d i k o result) may fresh = over (same_epoch d t.epoch && is_granted_here t i)
    where
      acts : (x : Instance) → After (says.Act d i k o result) x → After (says.Act d i k o result) (once_acted h t o result x)
      acts x (inl p) = inl (p.0, acted_keeps h t o result x ∙ p.1)
      acts x (inr p) = inr (subst (λ (l : Option Stamp). AllByRecursion (BelowLast h x.grant.file l) (kept_of h (next h (says.Act d i k o result) t) x.grant.file)) (sym (acted_last h t o result x)) p)

      over : (b : Bool) → AllByRecursion (After (says.Act d i k o result)) (cond b (acted h i o result t) t).instances
      over true = all_changed (After (says.Act d i k o result)) (is_named i) (once_acted h t o result) acts t.instances (calm (says.Act d i k o result) may tt (λ y. tt) (λ y k l b. b))
      over false = calm (says.Act d i k o result) may tt (λ y. tt) (λ y k l b. b)
  next_above r may fresh = calm r may tt (λ y. tt) (λ y k l b. b)

pub open_above : (c : Config) (trace : List Line) → PacksAreOfSites c → IsFollowed c trace → CommitsAreNew c (entries trace) → (e : EpochId) (g : ℕ) → AllByRecursion (IsAbove (history c (entries trace)) (tree_of c e g (entries trace))) (tree_of c e g (entries trace)).instances
open_above c [] few followed new e g = tt
open_above c (x ∷ older) few followed new e g = over x.told followed.0 new (λ k. open_above c older few followed.1 k e g)
  where
    over : (y : Told) → MayTell c older y → CommitsAreNew c (onto_entries x.number y (entries older)) → (CommitsAreNew c (entries older) → AllByRecursion (IsAbove (history c (entries older)) (tree_of c e g (entries older))) (tree_of c e g (entries older)).instances) →
        AllByRecursion (IsAbove (history c (onto_entries x.number y (entries older))) (tree_of c e g (onto_entries x.number y (entries older)))) (tree_of c e g (onto_entries x.number y (entries older))).instances
    over (Shown r) may k later = next_above c few older x.number followed.1 e g (later k.1) r may k.0
    over _ may k later = later k
