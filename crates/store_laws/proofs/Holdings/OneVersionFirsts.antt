-- While its storage site is in the epoch, an open make is the first to commit its file.
use Rattle.std.proofs.Common.{◌≡◌, ℕ, ◌==◌, Bool, true, false, not, ◌&&◌, ◌||◌, cond, List, [], ◌∷◌, ◌++◌, filter, Option, Some, None, refl, sym, ap, ◌∙◌, subst, arith, ◌⊎◌, inl, inr}
use Rattle.std.proofs.lemmas.Bool.Decides.{nat_tests}
use Rattle.std.specs.List.{AllByRecursion, find, list_any}
use Rattle.std.specs.Option.{option_map, option_or}
use Rattle.tree_laws.proofs.of_plain_facts.Numbers.{equal}
use Rattle.tree_laws.proofs.of_plain_facts.Options.{none_some, some_same}
use Rattle.tree_laws.proofs.of_plain_facts.Tests.{and_first, or_second, true_false}
use Rattle.locus_ids.specs.declared.config.Config.{Config}
use Rattle.locus_ids.specs.declared.ids.CallId.{CallId}
use Rattle.locus_ids.specs.declared.ids.EpochId.{EpochId}
use Rattle.locus_ids.specs.declared.ids.FileId.{FileId}
use Rattle.locus_ids.specs.declared.ids.Mode.{Mode}
use Rattle.locus_ids.specs.declared.ids.Mode.TheVariants as mode
use Rattle.locus_ids.specs.declared.ids.Serial.{Serial}
use Rattle.locus_ids.specs.declared.ids.Stamp.{Stamp}
use Rattle.commit_graph.specs.declared.history.Version.{Version}
use Rattle.commit_graph.specs.Grants.{is_read}
use Rattle.commit_graph.specs.Versions.{is_in, is_version, same_file, same_stamp}
use Rattle.commit_graph.proofs.Names.{same_stamp_refl}
use Rattle.trace_book.specs.Same.{same_epoch}
use Rattle.trace_book.specs.declared.record.Record.{Record}
use Rattle.trace_book.specs.declared.record.Record.TheVariants as says
use Rattle.site_laws.specs.of_role_steps.Views.{Told, Shown}
use Rattle.tree_laws.specs.of_the_run.Worlds.{Line}
use Rattle.tree_model.specs.declared.instance.Instance.{Instance}
use Rattle.tree_model.specs.Epochs.{epoch_of, has_joined}
use Rattle.tree_model.specs.Files.{committing, committing_in, first_call}
use Rattle.tree_model.specs.Folds.{Trace}
use Rattle.tree_model.specs.Histories.{history}
use Rattle.tree_model.specs.Lists.{change_first}
use Rattle.tree_model.specs.Opening.{is_given_by}
use Rattle.tree_model.specs.State.{TreeState, is_granted_here, is_inside, is_make, is_named, is_writer}
use Rattle.tree_model.specs.Tree.{acted, grant_of, joined, left, next, once_acted, once_committed, opened, released, tree_of, without_make}
use Rattle.tree_laws.specs.of_lawful_trace.TreeRows.{MayCommit, granted_group, is_writing}
use Rattle.tree_laws.specs.Following.{IsFollowed, MakesInTime, MayTell, RowsAreLawful}
use Rattle.tree_laws.specs.Instances.{instance_now}
use Rattle.tree_laws.specs.Past.{WasBegun, WasNamed}
use Rattle.tree_laws.specs.Printed.{entries, onto_entries}
use Rattle.tree_laws.proofs.Names.{same_epoch_eq}
use Rattle.tree_laws.proofs.Rows.{followed_rows}
use Rattle.tree_laws.specs.Orders.Joining.{PacksAreOfSites}
use Rattle.tree_laws.proofs.Orders.Alone.{tree_is, tree_named}
use Rattle.tree_laws.proofs.Orders.Lists.{all_changed, all_found, all_more, all_then, all_without}
use Rattle.tree_laws.proofs.Orders.Standing.{same_file_eq}
use Rattle.store_laws.proofs.Holdings.OneVersionLists.{all_both, only_one}
use Rattle.store_laws.proofs.Holdings.OneVersionHomes.{IsRooted, one_home, rows_rooted}
use Rattle.store_laws.proofs.Holdings.Holding.{some_found}
use Rattle.store_laws.proofs.Holdings.Bringing.{one_writes}
use Rattle.store_laws.proofs.Holdings.Made.{committed_file, filter_one}
use Rattle.store_laws.proofs.Holdings.OneVersionMakes.{Free, free_or_named, still_there}
use Rattle.store_laws.proofs.Holdings.Seats.{Seat, rows_seated}

-- ---- a file that has a first call stands ----

called_stands : (c : Config) (before : Trace) (f : FileId) (d : CallId) → first_call c before f ≡ Some d → (v : Stamp) × (is_in (history c before) f v ≡ true)
called_stands c [] f d k = absurd (none_some d k)
called_stands c (r ∷ before) f d k = step r.what k (called_stands c before f d)
  where
    here : (g : FileId) (z : ℕ) (stamp : Stamp) (parents : List Stamp) (content : List ℕ) (b : Bool) → same_file g f ≡ b → (o : Option CallId) → first_call c before f ≡ o → option_or o (cond b (option_map (λ (x : Instance). x.grant.call) (committing c before f z)) None) ≡ Some d →
        (first_call c before f ≡ Some d → (v : Stamp) × (is_in (history c before) f v ≡ true)) → (v : Stamp) × (is_version f v (record { file = g; site = z; stamp = stamp; parents = parents; content = content }) || is_in (history c before) f v ≡ true)
    here g z stamp parents content b q (Some y) l k later = (let w = later (l ∙ k) in (w.0, or_second (is_version f w.0 (record { file = g; site = z; stamp = stamp; parents = parents; content = content })) (is_in (history c before) f w.0) w.1))
    here g z stamp parents content true q None l k later = (stamp, ap (λ (a : Bool). (a && same_stamp stamp stamp) || is_in (history c before) f stamp) q ∙ ap (λ (a : Bool). a || is_in (history c before) f stamp) (same_stamp_refl stamp))
    here g z stamp parents content false q None l k later = absurd (none_some d k)

    step : (r : Record) → first_call c (record { line = 0; what = r } ∷ before) f ≡ Some d → (first_call c before f ≡ Some d → (v : Stamp) × (is_in (history c before) f v ≡ true)) → (v : Stamp) × (is_in (history c (record { line = 0; what = r } ∷ before)) f v ≡ true)
    step (says.Commit g z stamp parents content) k later = here g z stamp parents content (same_file g f) refl (first_call c before f) refl k later
    step r k later = later k

pub uncalled : (c : Config) (before : Trace) (f : FileId) → ((v : Stamp) → is_in (history c before) f v ≡ true → ⊥) → first_call c before f ≡ None
uncalled c before f none = at (first_call c before f) refl
  where
    at : (o : Option CallId) → first_call c before f ≡ o → o ≡ None
    at None k = refl
    at (Some d) k = (let w = called_stands c before f d k in absurd (none w.0 w.1))

-- ---- open makes ----

-- nobody has committed the file, or the make's call did so first
abbrev pub IsFirst : Config → Trace → FileId → CallId → Type 0
IsFirst c before f call = ((v : Stamp) → is_in (history c before) f v ≡ true → ⊥) ⊎ (first_call c before f ≡ Some call)

abbrev pub MakesFirst : Config → Trace → EpochId → Instance → Type 0
MakesFirst c before e x = x.grant.mode ≡ mode.Make → (is_given_by x.grant.ss x.grant.file.ino ≡ true) × (epoch_of before x.grant.ss ≡ Some e → IsFirst c before x.grant.file x.grant.call)

module _ (c : Config) (few : PacksAreOfSites c) (older : List Line) (n : ℕ) (followed : IsFollowed c older) (e : EpochId) (g : ℕ) (old : AllByRecursion (MakesFirst c (entries older) e) (tree_of c e g (entries older)).instances) where
  abbrev before : Trace
  before = entries older

  abbrev t : TreeState
  t = tree_of c e g before

  abbrev h : List Version
  h = history c before

  abbrev rows : RowsAreLawful c before
  rows = followed_rows c older followed

  named : (t.epoch ≡ e) × (t.group ≡ g)
  named = tree_named c e g before

  abbrev After : Record → Instance → Type 0
  After r x = MakesFirst c (record { line = n; what = r } ∷ before) e x

  -- a record that commits nothing
  stays : (r : Record) → ((f : FileId) (call : CallId) → IsFirst c before f call → IsFirst c (record { line = n; what = r } ∷ before) f call) → ((x : Instance) → Seat e g before t x → epoch_of (record { line = n; what = r } ∷ before) x.grant.ss ≡ Some e → epoch_of before x.grant.ss ≡ Some e) → AllByRecursion (After r) t.instances
  stays r first inside = all_both (Seat e g before t) (MakesFirst c before e) (After r) (λ x seat k make. ((k make).0, λ at. first x.grant.file x.grant.call ((k make).1 (inside x seat at)))) t.instances (rows_seated c before rows e g) old

  join_inside : (z : ℕ) (d : EpochId) → has_joined before z d ≡ false → (x : Instance) → Seat e g before t x → cond (z == x.grant.ss) (Some d) (epoch_of before x.grant.ss) ≡ Some e → epoch_of before x.grant.ss ≡ Some e
  join_inside z d new x seat k = over (z == x.grant.ss) refl k
    where
      over : (b : Bool) → (z == x.grant.ss) ≡ b → cond b (Some d) (epoch_of before x.grant.ss) ≡ Some e → epoch_of before x.grant.ss ≡ Some e
      over true q l = absurd (true_false (sym seat.joined ∙ (ap (λ (y : ℕ). has_joined before y e) (sym (equal z x.grant.ss q)) ∙ (ap (λ (y : EpochId). has_joined before z y) (sym (some_same d e l)) ∙ new))))
      over false q l = l

  -- ---- commits ----

  module _ (f : FileId) (z : ℕ) (stamp : Stamp) (parents : List Stamp) (content : List ℕ) (may : MayCommit c before f z stamp parents content) where
    abbrev r : Record
    r = says.Commit f z stamp parents content

    abbrev w : Version
    w = record { file = f; site = z; stamp = stamp; parents = parents; content = content }

    own : (y : FileId) → same_file y y ≡ true
    own y = grind (arith, nat_tests)

    either : (a b : Bool) → a || b ≡ true → (a ≡ true) ⊎ (b ≡ true)
    either true b k = inl refl
    either false b k = inr k

    -- another file is as it was
    other : (y : FileId) (call : CallId) → same_file f y ≡ false → IsFirst c before y call → IsFirst c (record { line = n; what = r } ∷ before) y call
    other y call apart (inl none) = inl (λ v k. over v (either (is_version y v w) (is_in h y v) k))
      where
        over : (v : Stamp) → (is_version y v w ≡ true) ⊎ (is_in h y v ≡ true) → ⊥
        over v (inl q) = true_false (sym (and_first (same_file f y) (same_stamp stamp v) q) ∙ apart)
        over v (inr q) = none v q
    other y call apart (inr is) = inr (ap (λ (o : Option CallId). option_or o (cond (same_file f y) (option_map (λ (x : Instance). x.grant.call) (committing c before y z)) None)) is)

    rooted : IsRooted h may.instance
    rooted = filter_one (IsRooted h) (is_writing f) (tree_of c may.epoch f.group before).instances may.instance may.one (rows_rooted c before rows may.epoch f.group)

    file_of : may.instance.grant.file ≡ f
    file_of = committed_file c before rows f z stamp parents content may

    -- the make of a file that nobody has committed is the one that commits
    first_now : (x : Instance) → Seat e g before t x → (filter (is_writing f) t.instances ≡ may.instance ∷ [] → is_writing f x ≡ true → x ≡ may.instance) → x.grant.mode ≡ mode.Make → x.grant.file ≡ f → is_given_by x.grant.ss x.grant.file.ino ≡ true → epoch_of before x.grant.ss ≡ Some e →
        ((v : Stamp) → is_in h x.grant.file v ≡ true → ⊥) → first_call c (record { line = n; what = r } ∷ before) x.grant.file ≡ Some x.grant.call
    first_now x seat only make mine given inside none = at rooted
      where
        at : IsRooted h may.instance → first_call c (record { line = n; what = r } ∷ before) x.grant.file ≡ Some x.grant.call
        at (inl k) = absurd (none k.0 (subst (λ (y : FileId). is_in h y k.0 ≡ true) (file_of ∙ sym mine) k.1))
        at (inr k) = ap (λ (o : Option CallId). option_or o (cond (same_file f x.grant.file) (option_map (λ (y : Instance). y.grant.call) (committing c before x.grant.file z)) None)) (uncalled c before x.grant.file none)
            ∙ (ap (λ (b : Bool). cond b (option_map (λ (y : Instance). y.grant.call) (committing c before x.grant.file z)) None) (subst (λ (y : FileId). same_file f y ≡ true) (sym mine) (own f))
            ∙ (ap (λ (o : Option EpochId). option_map (λ (y : Instance). y.grant.call) (committing_in c before x.grant.file z o)) (ap (λ (y : ℕ). epoch_of before y) site_is ∙ inside)
            ∙ ap (λ (o : Option Instance). option_map (λ (y : Instance). y.grant.call) o) found))
          where
            site_is : z ≡ x.grant.ss
            site_is = sym may.at ∙ one_home may.instance.grant.ss x.grant.ss x.grant.file.ino (subst (λ (y : FileId). is_given_by may.instance.grant.ss y.ino ≡ true) (file_of ∙ sym mine) k) given

            epoch_is : may.epoch ≡ e
            epoch_is = some_same may.epoch e (sym may.inside ∙ (ap (λ (y : ℕ). epoch_of before y) site_is ∙ inside))

            group_is : f.group ≡ g
            group_is = ap (λ (y : FileId). y.group) (sym mine) ∙ seat.group_is

            one : filter (is_writing f) t.instances ≡ may.instance ∷ []
            one = subst (λ (u : TreeState). filter (is_writing f) u.instances ≡ may.instance ∷ []) (tree_is c e may.epoch g f.group before epoch_is group_is) may.one

            writing : is_writing f x ≡ true
            writing = both (same_file x.grant.file f) (is_read x.grant.mode) (subst (λ (y : FileId). same_file x.grant.file y ≡ true) mine (own x.grant.file)) (ap is_read make)
              where
                both : (a b : Bool) → a ≡ true → b ≡ false → a && not b ≡ true
                both true true p q = absurd (true_false q)
                both true false p q = refl
                both false b p q = absurd (true_false (sym p))

            is : x ≡ may.instance
            is = only one writing

            drop : (a b d : Bool) → a && (b && d) ≡ true → a && d ≡ true
            drop true true d p = p
            drop true false d p = absurd (true_false (sym p))
            drop false b d p = absurd (true_false (sym p))

            -- who is found writing the file there is this one
            found_is : (y : Instance) → find (is_writer x.grant.file z) (tree_of c e x.grant.file.group before).instances ≡ Some y → is_writer x.grant.file z y ≡ true → y ≡ x
            found_is y l passes = all_found (λ (v : Instance). is_writing f v ≡ true → v ≡ may.instance) (is_writer x.grant.file z) t.instances y (only_one (is_writing f) t.instances may.instance one)
                (subst (λ (m : ℕ). find (is_writer x.grant.file z) (tree_of c e m before).instances ≡ Some y) seat.group_is l)
                (subst (λ (q : FileId). is_writing q y ≡ true) mine (drop (same_file y.grant.file x.grant.file) (y.grant.ss == z) (not (is_read y.grant.mode)) passes)) ∙ sym is

            there : list_any (is_writer x.grant.file z) (tree_of c e x.grant.file.group before).instances ≡ true
            there = subst (λ (m : ℕ). list_any (is_writer x.grant.file z) (tree_of c e m before).instances ≡ true) (sym seat.group_is) (subst (λ (q : FileId). list_any (is_writer q z) t.instances ≡ true) (sym mine) (one_writes f z may.instance may.at t.instances one))

            found : find (is_writer x.grant.file z) (tree_of c e x.grant.file.group before).instances ≡ Some x
            found = (let k = some_found (is_writer x.grant.file z) (tree_of c e x.grant.file.group before).instances there in k.1 ∙ ap (λ (y : Instance). Some y) (found_is k.0 k.1 k.2))

    commit_first : (x : Instance) → Seat e g before t x → MakesFirst c before e x → (filter (is_writing f) t.instances ≡ may.instance ∷ [] → is_writing f x ≡ true → x ≡ may.instance) → After r x
    commit_first x seat k only make = ((k make).0, λ inside. over (same_file f x.grant.file) refl inside ((k make).1 inside))
      where
        over : (b : Bool) → same_file f x.grant.file ≡ b → epoch_of before x.grant.ss ≡ Some e → IsFirst c before x.grant.file x.grant.call → IsFirst c (record { line = n; what = r } ∷ before) x.grant.file x.grant.call
        over b q inside (inr is) = inr (ap (λ (o : Option CallId). option_or o (cond (same_file f x.grant.file) (option_map (λ (y : Instance). y.grant.call) (committing c before x.grant.file z)) None)) is)
        over true q inside (inl none) = inr (first_now x seat only make (sym (same_file_eq f x.grant.file q)) (k make).0 inside none)
        over false q inside (inl none) = other x.grant.file x.grant.call q (inl none)

    all_first : AllByRecursion (After r) t.instances
    all_first = all_both (Seat e g before t) (λ (x : Instance). MakesFirst c before e x × (filter (is_writing f) t.instances ≡ may.instance ∷ [] → is_writing f x ≡ true → x ≡ may.instance)) (After r)
        (λ x seat k. commit_first x seat k.0 k.1) t.instances (rows_seated c before rows e g)
        (all_both (MakesFirst c before e) (λ (x : Instance). filter (is_writing f) t.instances ≡ may.instance ∷ [] → is_writing f x ≡ true → x ≡ may.instance) (λ (x : Instance). MakesFirst c before e x × (filter (is_writing f) t.instances ≡ may.instance ∷ [] → is_writing f x ≡ true → x ≡ may.instance))
        (λ x a b. (a, b)) t.instances old (onlys (filter (is_writing f) t.instances) refl))
      where
        never : (xs : List Instance) → (filter (is_writing f) t.instances ≡ may.instance ∷ [] → ⊥) → AllByRecursion (λ (x : Instance). filter (is_writing f) t.instances ≡ may.instance ∷ [] → is_writing f x ≡ true → x ≡ may.instance) xs
        never [] un = tt
        never (x ∷ xs) un = ((λ l. absurd (un l)), never xs un)

        head : (a : Instance) (rest : List Instance) → ◌≡◌ {A = List Instance} (a ∷ rest) (may.instance ∷ []) → a ≡ may.instance
        head a rest k = cc

        empty : ◌≡◌ {A = List Instance} [] (may.instance ∷ []) → ⊥
        empty k = cc

        long : (a b : Instance) (rest : List Instance) → ◌≡◌ {A = List Instance} (a ∷ b ∷ rest) (may.instance ∷ []) → ⊥
        long a b rest k = cc

        onlys : (ys : List Instance) → filter (is_writing f) t.instances ≡ ys → AllByRecursion (λ (x : Instance). filter (is_writing f) t.instances ≡ may.instance ∷ [] → is_writing f x ≡ true → x ≡ may.instance) t.instances
        onlys [] k = never t.instances (λ l. empty (sym k ∙ l))
        onlys (a ∷ b ∷ rest) k = never t.instances (λ l. long a b rest (sym k ∙ l))
        onlys (a ∷ []) k = all_then (λ (x : Instance). is_writing f x ≡ true → x ≡ a) (λ (x : Instance). filter (is_writing f) t.instances ≡ may.instance ∷ [] → is_writing f x ≡ true → x ≡ may.instance) (λ x p l q. p q ∙ head a [] (sym k ∙ l)) t.instances (only_one (is_writing f) t.instances a k)

  -- ---- grants ----

  granted_first : (d : EpochId) (call : CallId) (request : ℕ) (i : Serial) (m : Mode) (f : FileId) (stamp : Option Stamp) (ss : ℕ) → MayTell c older (Shown (says.Grant d call request i m f stamp ss)) → same_epoch d t.epoch ≡ true → After (says.Grant d call request i m f stamp ss) (opened h (grant_of t call i m f ss) stamp)
  granted_first d call request i m f stamp ss may same make = (given, λ inside. inl (λ v k. unmade (free_or_named c older few followed ss e i f begun) inside v k))
    where
      epoch_is : d ≡ e
      epoch_is = same_epoch_eq d t.epoch same ∙ named.0

      begun : WasBegun older ss e i f
      begun = subst (λ (y : EpochId). WasBegun older ss y i f) epoch_is (subst (λ (q : Mode). MakesInTime older d i f ss q) make may.in_time.makes)

      free : WasNamed older e i ⊎ Free c older ss e f → Free c older ss e f
      free (inl k) = absurd (may.in_time.new (subst (λ (y : EpochId). WasNamed older y i) (sym epoch_is) k))
      free (inr k) = k

      given : is_given_by ss f.ino ≡ true
      given = (free (free_or_named c older few followed ss e i f begun)).given

      unmade : WasNamed older e i ⊎ Free c older ss e f → epoch_of before ss ≡ Some e → (v : Stamp) → is_in h f v ≡ true → ⊥
      unmade k inside v l = (free k).unmade inside v l

  -- ---- any record ----

  next_first : (r : Record) → MayTell c older (Shown r) → AllByRecursion (After r) (next h r t).instances
  next_first (says.Commit f z stamp parents content) may = over (is_inside t z)
    where
      over : (b : Bool) → AllByRecursion (After (says.Commit f z stamp parents content)) (cond b (change_first (is_writer f z) (once_committed stamp) t.instances) t.instances)
      over true = all_changed (After (says.Commit f z stamp parents content)) (is_writer f z) (once_committed stamp) (λ x k. k) t.instances (all_first f z stamp parents content may.row)
      over false = all_first f z stamp parents content may.row
  next_first (says.Grant d call request i m f stamp ss) may = over (same_epoch d t.epoch) refl (f.group == t.group)
    where
      others : AllByRecursion (After (says.Grant d call request i m f stamp ss)) t.instances
      others = stays (says.Grant d call request i m f stamp ss) (λ y q k. k) (λ x seat k. k)

      over : (a : Bool) → same_epoch d t.epoch ≡ a → (b : Bool) → AllByRecursion (After (says.Grant d call request i m f stamp ss)) (cond a (record t { grants = t.grants ++ grant_of t call i m f ss ∷ []; instances = cond b (t.instances ++ opened h (grant_of t call i m f ss) stamp ∷ []) t.instances }) t).instances
      over true p true = all_more (After (says.Grant d call request i m f stamp ss)) t.instances (opened h (grant_of t call i m f ss) stamp) others (granted_first d call request i m f stamp ss may p)
      over true p false = others
      over false p b = others
  next_first (says.Join z d m) may = over (same_epoch d t.epoch)
    where
      over : (b : Bool) → AllByRecursion (After (says.Join z d m)) (cond b (joined z m t) (left z t)).instances
      over true = stays (says.Join z d m) (λ y q k. k) (join_inside z d may.row.new)
      over false = stays (says.Join z d m) (λ y q k. k) (join_inside z d may.row.new)
  next_first (says.Leave z d) may = stays (says.Leave z d) (λ y q k. k) (λ x seat k. still_there (epoch_of before x.grant.ss) e (z == x.grant.ss) k)
  next_first (says.Stopped z cause) may = stays (says.Stopped z cause) (λ y q k. k) (λ x seat k. still_there (epoch_of before x.grant.ss) e (z == x.grant.ss) k)
  next_first (says.Up z boot) may = stays (says.Up z boot) (λ y q k. k) (λ x seat k. still_there (epoch_of before x.grant.ss) e (z == x.grant.ss) k)
  next_first (says.Start d k copies) may = over (same_epoch d t.epoch && (k == t.group))
    where
      over : (b : Bool) → AllByRecursion (After (says.Start d k copies)) (cond b (record t { started = true }) t).instances
      over true = stays (says.Start d k copies) (λ y q k. k) (λ x seat k. k)
      over false = stays (says.Start d k copies) (λ y q k. k) (λ x seat k. k)
  next_first (says.Refuse d call request i m f why) may = over (same_epoch d t.epoch && ((f.group == t.group) && is_make m))
    where
      over : (b : Bool) → AllByRecursion (After (says.Refuse d call request i m f why)) (cond b (record t { makes = without_make call t.makes }) t).instances
      over true = stays (says.Refuse d call request i m f why) (λ y q k. k) (λ x seat k. k)
      over false = stays (says.Refuse d call request i m f why) (λ y q k. k) (λ x seat k. k)
  next_first (says.Act d i k o result) may = over (same_epoch d t.epoch && is_granted_here t i)
    where
      over : (b : Bool) → AllByRecursion (After (says.Act d i k o result)) (cond b (acted h i o result t) t).instances
      over true = all_changed (After (says.Act d i k o result)) (is_named i) (once_acted h t o result) (λ x p. p) t.instances (stays (says.Act d i k o result) (λ y q k. k) (λ x seat k. k))
      over false = stays (says.Act d i k o result) (λ y q k. k) (λ x seat k. k)
  next_first (says.Release d i f stamp) may = over (same_epoch d t.epoch && (f.group == t.group))
    where
      over : (b : Bool) → AllByRecursion (After (says.Release d i f stamp)) (cond b (released i f stamp t) t).instances
      over true = all_without (After (says.Release d i f stamp)) (is_named i) t.instances (stays (says.Release d i f stamp) (λ y q k. k) (λ x seat k. k))
      over false = stays (says.Release d i f stamp) (λ y q k. k) (λ x seat k. k)
  next_first r may = stays r (λ y q k. k) (λ x seat k. k)

pub makes_first : (c : Config) (trace : List Line) → PacksAreOfSites c → IsFollowed c trace → (e : EpochId) (g : ℕ) → AllByRecursion (MakesFirst c (entries trace) e) (tree_of c e g (entries trace)).instances
makes_first c [] few followed e g = tt
makes_first c (x ∷ older) few followed e g = over x.told followed.0 (makes_first c older few followed.1 e g)
  where
    over : (y : Told) → MayTell c older y → AllByRecursion (MakesFirst c (entries older) e) (tree_of c e g (entries older)).instances → AllByRecursion (MakesFirst c (onto_entries x.number y (entries older)) e) (tree_of c e g (onto_entries x.number y (entries older))).instances
    over (Shown r) may old = next_first c few older x.number followed.1 e g old r may
    over _ may old = old

pub open_make_first : (c : Config) (trace : List Line) → PacksAreOfSites c → IsFollowed c trace → (e : EpochId) (i : Serial) (x : Instance) → instance_now c trace e i ≡ Some x → x.grant.mode ≡ mode.Make → epoch_of (entries trace) x.grant.ss ≡ Some e → IsFirst c (entries trace) x.grant.file x.grant.call
open_make_first c trace few followed e i x found make inside = (all_found (MakesFirst c (entries trace) e) (is_named i) (tree_of c e (granted_group (entries trace) e i) (entries trace)).instances x (makes_first c trace few followed e (granted_group (entries trace) e i)) found make).1 inside

-- the call that makes a file is the first to commit it, once it commits it
pub commit_called : (c : Config) (packs : PacksAreOfSites c) (older : List Line) (n : ℕ) (followed : IsFollowed c older) (f : FileId) (z : ℕ) (stamp : Stamp) (parents : List Stamp) (content : List ℕ) (may : MayCommit c (entries older) f z stamp parents content) → may.instance.grant.mode ≡ mode.Make →
    first_call c (record { line = n; what = says.Commit f z stamp parents content } ∷ entries older) f ≡ Some may.instance.grant.call
commit_called c packs older n followed f z stamp parents content may make = subst (λ (y : FileId). first_call c now y ≡ Some may.instance.grant.call) file_is (over ((first make).1 (subst (λ (s : ℕ). epoch_of (entries older) s ≡ Some may.epoch) (sym may.at) may.inside)))
  where
    now : Trace
    now = record { line = n; what = says.Commit f z stamp parents content } ∷ entries older

    old : AllByRecursion (MakesFirst c (entries older) may.epoch) (tree_of c may.epoch f.group (entries older)).instances
    old = makes_first c older packs followed may.epoch f.group

    first : MakesFirst c now may.epoch may.instance
    first = filter_one (MakesFirst c now may.epoch) (is_writing f) (tree_of c may.epoch f.group (entries older)).instances may.instance may.one (all_first c packs older n followed may.epoch f.group old f z stamp parents content may)

    file_is : may.instance.grant.file ≡ f
    file_is = file_of c packs older n followed may.epoch f.group old f z stamp parents content may

    stands : is_in (history c now) f stamp ≡ true
    stands = ap (λ (a : Bool). (a && same_stamp stamp stamp) || is_in (history c (entries older)) f stamp) (own c packs older n followed may.epoch f.group old f z stamp parents content may f) ∙ ap (λ (a : Bool). a || is_in (history c (entries older)) f stamp) (same_stamp_refl stamp)

    over : IsFirst c now may.instance.grant.file may.instance.grant.call → first_call c now may.instance.grant.file ≡ Some may.instance.grant.call
    over (inl none) = absurd (none stamp (subst (λ (y : FileId). is_in (history c now) y stamp ≡ true) (sym file_is) stands))
    over (inr is) = is
