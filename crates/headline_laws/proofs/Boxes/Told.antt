-- What a commit and a grant do: a version has the names of what was done for it and of its parents, and an instance begins with those of its version.
use Rattle.std.proofs.Common.{◌≡◌, ℕ, ◌==◌, Bool, true, false, not, ◌&&◌, ◌||◌, cond, List, [], ◌∷◌, ◌++◌, filter, Option, Some, None, refl, sym, ◌∙◌, ap, subst, inl, inr, append-nil, arith}
use Rattle.std.specs.List.{find, flat_map}
use Rattle.std.specs.Str.{bytes_eq}
use Rattle.plain_facts.proofs.Tests.{and_first, and_second, false_unless, true_false, and_false, and_true}
use Rattle.locus_ids.specs.declared.config.Config.{Config}
use Rattle.locus_ids.specs.declared.ids.CallId.{CallId}
use Rattle.locus_ids.specs.declared.ids.EpochId.{EpochId}
use Rattle.locus_ids.specs.declared.ids.FileId.{FileId}
use Rattle.locus_ids.specs.declared.ids.Mode.{Mode}
use Rattle.locus_ids.specs.declared.ids.Mode.TheVariants as mode
use Rattle.locus_ids.specs.declared.ids.Serial.{Serial}
use Rattle.locus_ids.specs.declared.ids.Stamp.{Stamp}
use Rattle.commit_graph.specs.Versions.{content_of, is_version, same_file, same_stamp}
use Rattle.commit_graph.specs.declared.history.Version.{Version}
use Rattle.trace_book.specs.Same.{same_serial}
use Rattle.trace_book.specs.declared.operation.Op.{Op}
use Rattle.trace_book.specs.declared.record.Record.{Record}
use Rattle.trace_book.specs.declared.record.Record.TheVariants as says
use Rattle.dir_format.specs.Contents.{entries_of}
use Rattle.file_effects.specs.declared.work.Work.{Work}
use Rattle.role_steps.specs.Views.{Told, Shown}
use Rattle.the_run.specs.Worlds.{Line}
use Rattle.tree_model.specs.declared.instance.Instance.{Instance}
use Rattle.tree_model.specs.Epochs.{epoch_of, is_in as is_in_epoch}
use Rattle.tree_model.specs.Files.{committing, committing_in}
use Rattle.tree_model.specs.Folds.{Trace}
use Rattle.tree_model.specs.Histories.{history, stamped_content}
use Rattle.tree_model.specs.State.{TreeState, instance_in, is_named, is_writer, kept_of, is_inside}
use Rattle.tree_model.specs.Tree.{once_committed, tree_of}
use Rattle.tree_model.specs.Working.{list_of, merges, parents_of}
use Rattle.lawful_trace.specs.TreeRows.{MayCommit, granted_group, is_writing}
use Rattle.tree_laws.specs.Following.{IsFollowed, MayTell}
use Rattle.tree_laws.specs.Frames.{IsFresh}
use Rattle.tree_laws.specs.Instances.{instance_now}
use Rattle.tree_laws.specs.Printed.{entries}
use Rattle.tree_laws.proofs.Names.{same_epoch_eq, same_epoch_own, same_serial_own}
use Rattle.tree_laws.proofs.Opened.{found_named}
use Rattle.tree_laws.proofs.Rows.{followed_rows}
use Rattle.tree_laws.specs.Orders.Joining.{PacksAreOfSites}
use Rattle.rest_laws.proofs.of_store_laws.Holdings.Begun.{open_in_group, Untouched, granted_open}
use Rattle.rest_laws.proofs.of_store_laws.Holdings.Made.{committed_file, filter_passes}
use Rattle.rest_laws.specs.Fits.EntryEntries.{MakesMessage}
use Rattle.rest_laws.proofs.Fits.EntryFacts.{IsPlain, plain_stays}
use Rattle.headline_laws.specs.Boxes.Boxes.{deeds, deeds_by, inserted, is_among, makings, named_in, names_inserted, names_removed, removed}
use Rattle.headline_laws.proofs.Boxes.Boxing.{box_same}
use Rattle.headline_laws.proofs.Boxes.Puts.{MadeOnce, Put, Saw}
use Rattle.std.proofs.lemmas.Bool.Decides.{nat_tests}
use Rattle.plain_facts.proofs.Numbers.{equal_test}
use Rattle.row_lists.proofs.Reversed.{any_append}
use Rattle.file_effects.specs.Effects.{puts}
use Rattle.file_effects.specs.Works.{begins_owing}
use Rattle.tree_laws.proofs.Owing.{inside_is, only_one, writer_writes}
use Rattle.tree_laws.proofs.Orders.Standing.{same_file_eq}
use Rattle.rest_laws.proofs.of_store_laws.Holdings.Distinct.{found_own, open_now, rows_names_apart}
use Rattle.rest_laws.proofs.Fits.EntryNamed.{trace_named, made_plain}
use Rattle.headline_laws.proofs.Boxes.Granting.{resolved_plain}
use Rattle.headline_laws.proofs.Boxes.Keeping.{AllBoxes, AtWork, BoxOf, HasBox, Holds, Idle, IsOrdinary, Mended, OfFile, OfMessage, Ordinary, bases, box_later, holds_later, said, mended_later}
use Rattle.headline_laws.proofs.Boxes.Merging.{nothing_box}
use Rattle.row_lists.proofs.ByPlace.{kept_finds}
use Rattle.commit_graph.specs.Grants.{is_read}
use Rattle.headline_laws.proofs.Boxes.Acting.{ordinary_bases}

abbrev With : ℕ → Told → List Line → List Line
With n x older = record { number = n; told = x } ∷ older

-- ---- lists ----

first_passing : {X : Type 0} (p q : X → Bool) (xs : List X) (y : X) → ((x : X) → p x ≡ true → q x ≡ true) → filter q xs ≡ y ∷ [] → p y ≡ true → find p xs ≡ Some y
first_passing {X} p q [] y more one hit = absurd (empty one)
  where
    empty : ◌≡◌ {A = List X} [] (y ∷ []) → ⊥
    empty e = cc
first_passing {X} p q (x ∷ xs) y more one hit = over (q x) refl one (first_passing p q xs y more)
  where
    head : ◌≡◌ {A = List X} (x ∷ filter q xs) (y ∷ []) → x ≡ y
    head e = cc

    over : (b : Bool) → q x ≡ b → cond b (x ∷ filter q xs) (filter q xs) ≡ y ∷ [] → (filter q xs ≡ y ∷ [] → p y ≡ true → find p xs ≡ Some y) → cond (p x) (Some x) (find p xs) ≡ Some y
    over true e k later = ap (λ (b : Bool). cond b (Some x) (find p xs)) (subst (λ (z : X). p z ≡ true) (sym (head k)) hit) ∙ ap (λ (z : X). Some z) (head k)
    over false e k later = ap (λ (b : Bool). cond b (Some x) (find p xs)) (false_unless (p x) (λ t. true_false (sym (more x t) ∙ e))) ∙ later k hit

-- names that are said twice are said
or_again : (a b : Bool) → (a || b) ≡ (a || ((a || b) || false))
or_again true b = refl
or_again false true = refl
or_again false false = refl

said_again : (xs ys : List (List ℕ)) (n : List ℕ) → is_among (xs ++ ys) n ≡ is_among (xs ++ ((xs ++ ys) ++ [])) n
said_again xs ys n = any_append (bytes_eq n) xs ys ∙ (or_again (is_among xs n) (is_among ys n) ∙ (ap (λ (b : Bool). is_among xs n || (b || false)) (sym (any_append (bytes_eq n) xs ys))
    ∙ (ap (λ (b : Bool). is_among xs n || b) (sym (any_append (bytes_eq n) (xs ++ ys) [])) ∙ sym (any_append (bytes_eq n) xs ((xs ++ ys) ++ [])))))

own_version : (f : FileId) (s : Stamp) → (same_file f f && same_stamp s s) ≡ true
own_version f s = grind (arith, nat_tests)

-- ---- a commit ----

module _ (c : Config) (packs : PacksAreOfSites c) (n : ℕ) (older : List Line) (h : IsFollowed c older) (so : AllBoxes c older) (f : FileId) (z : ℕ) (stamp : Stamp) (parents : List Stamp) (content : List ℕ) (may : MayTell c older (Shown (says.Commit f z stamp parents content))) (fresh : IsFresh c older (Shown (says.Commit f z stamp parents content))) (once : MadeOnce c (With n (Shown (says.Commit f z stamp parents content)) older)) where
  abbrev r : Record
  r = says.Commit f z stamp parents content

  abbrev before : Trace
  before = entries older

  abbrev past : List Version
  past = history c before

  abbrev now : List Line
  now = With n (Shown r) older

  abbrev row : MayCommit c before f z stamp parents content
  row = may.row

  abbrev y : Instance
  y = row.instance

  abbrev tree : TreeState
  tree = tree_of c row.epoch f.group before

  abbrev v : Version
  v = record { file = f; site = z; stamp = stamp; parents = parents; content = content }

  -- what was done for the version
  abbrev its : List Op
  its = deeds_by before (epoch_of before z) (committing c before f z)

  file_is : y.grant.file ≡ f
  file_is = committed_file c before (followed_rows c older h) f z stamp parents content row

  writing : is_writing f y ≡ true
  writing = filter_passes (is_writing f) tree.instances y row.one

  found : instance_now c older row.epoch y.grant.inst ≡ Some y
  found = open_now c older h row.epoch f.group y.grant.inst y (found_own (is_writing f) tree.instances y (rows_names_apart c before (followed_rows c older h) row.epoch f.group) (kept_finds (is_writing f) tree.instances y row.one))

  writer : is_writer f z y ≡ true
  writer = and_true (same_file y.grant.file f) ((y.grant.ss == z) && not (is_read y.grant.mode)) (and_first (same_file y.grant.file f) (not (is_read y.grant.mode)) writing)
      (and_true (y.grant.ss == z) (not (is_read y.grant.mode)) (equal_test y.grant.ss z row.at) (and_second (same_file y.grant.file f) (not (is_read y.grant.mode)) writing))

  its_are : its ≡ deeds before row.epoch y.grant.inst
  its_are = ap (λ (o : Option EpochId). deeds_by before o (committing_in c before f z o)) row.inside ∙ ap (λ (o : Option Instance). deeds_by before (Some row.epoch) o) (first_passing (is_writer f z) (is_writing f) tree.instances y (writer_writes f z) row.one writer)

  -- its names, and those of its parents
  said_new : (names : List Op → List (List ℕ)) → names its ++ flat_map (named_in names (makings c before) f) parents ≡ said names c older row.epoch y.grant.inst y
  said_new names = ap (λ (l : List Op). names l ++ flat_map (named_in names (makings c before) f) parents) its_are
      ∙ (ap (λ (ss : List Stamp). names (deeds before row.epoch y.grant.inst) ++ flat_map (named_in names (makings c before) f) ss) row.above
      ∙ ap (λ (g : FileId). names (deeds before row.epoch y.grant.inst) ++ flat_map (named_in names (makings c before) g) (parents_of past (tree_of c row.epoch g.group before) y)) (sym file_is))

  abbrev put_then : List ℕ → Bool
  put_then = is_among (names_inserted its ++ flat_map (named_in names_inserted (makings c before) f) parents)

  abbrev taken_then : List ℕ → Bool
  taken_then = is_among (names_removed its ++ flat_map (named_in names_removed (makings c before) f) parents)

  moved : HasBox c older row.epoch y.grant.inst y → BoxOf c now f.group put_then taken_then (entries_of content)
  moved b = subst (λ (g : FileId). BoxOf c now g.group put_then taken_then (entries_of content)) file_is
      (subst (λ (l : List ℕ). BoxOf c now y.grant.file.group put_then taken_then (entries_of l)) (sym row.same)
      (box_same (Put c now y.grant.file.group) (Saw c now y.grant.file.group) (is_among (said names_inserted c older row.epoch y.grant.inst y)) (is_among (said names_removed c older row.epoch y.grant.inst y)) put_then taken_then (entries_of y.work.content)
      (λ m. ap (λ (l : List (List ℕ)). is_among l m) (sym (said_new names_inserted))) (λ m. ap (λ (l : List (List ℕ)). is_among l m) (sym (said_new names_removed)))
      (box_later c n (Shown r) older h may fresh once y.grant.file.group (is_among (said names_inserted c older row.epoch y.grant.inst y)) (is_among (said names_removed c older row.epoch y.grant.inst y)) (entries_of y.work.content) b)))

  plain_made : MakesMessage older y.grant → IsPlain c now f
  plain_made m = made_plain c packs older h (trace_named c packs older h) n f z stamp parents content may m

  not_idle : (x : Instance) → x ≡ y → x.work.owes ≡ false → ⊥
  not_idle x is e = true_false (sym row.owes ∙ (ap (λ (w : Instance). w.work.owes) (sym is) ∙ e))

  holds_new : Holds c now f put_then taken_then content
  holds_new = over (so.instances row.epoch y.grant.inst y found)
    where
      over : AtWork c older row.epoch y.grant.inst y → Holds c now f put_then taken_then content
      over (OfFile p) = inl (plain_stays c n (Shown r) older h may f (subst (IsPlain c older) file_is p))
      over (OfMessage m) = inl (plain_made m)
      over (Idle id) = absurd (not_idle y refl id.idle)
      over (Mended m b) = inr (moved b)
      over (Ordinary m b) = inr (moved b)

  pub versions_now : (g : FileId) (s : Stamp) → Holds c now g (is_among (inserted (makings c (entries now)) g s)) (is_among (removed (makings c (entries now)) g s)) (content_of (history c (entries now)) g s)
  versions_now g s = over (is_version g s v) refl
    where
      over : (b : Bool) → is_version g s v ≡ b → Holds c now g (is_among (cond b (names_inserted its ++ flat_map (named_in names_inserted (makings c before) g) parents) (named_in names_inserted (makings c before) g s)))
          (is_among (cond b (names_removed its ++ flat_map (named_in names_removed (makings c before) g) parents) (named_in names_removed (makings c before) g s))) (cond b content (content_of past g s))
      over true q = subst (λ (x : FileId). Holds c now x (is_among (names_inserted its ++ flat_map (named_in names_inserted (makings c before) x) parents)) (is_among (names_removed its ++ flat_map (named_in names_removed (makings c before) x) parents)) content)
          (same_file_eq f g (and_first (same_file f g) (same_stamp stamp s) q)) holds_new
      over false q = holds_later c n (Shown r) older h may fresh once g (is_among (named_in names_inserted (makings c before) g s)) (is_among (named_in names_removed (makings c before) g s)) (content_of past g s) (so.versions g s)

  -- the instance that was committed
  module _ (e : EpochId) (i : Serial) (x : Instance) (was : instance_now c older e i ≡ Some x) (inside : is_inside (tree_of c e (granted_group before e i) before) z ≡ true) (writes : is_writer f z x ≡ true) where
    abbrev new : Instance
    new = once_committed stamp x

    epoch_same : row.epoch ≡ e
    epoch_same = same_epoch_eq row.epoch e (subst (λ (o : Option EpochId). is_in_epoch o e ≡ true) row.inside (sym (inside_is c before e (granted_group before e i) z) ∙ inside))

    x_file : x.grant.file ≡ f
    x_file = same_file_eq x.grant.file f (and_first (same_file x.grant.file f) ((x.grant.ss == z) && not (is_read x.grant.mode)) writes)

    x_named : instance_in tree i ≡ Some x
    x_named = subst (λ (d : EpochId). instance_in (tree_of c d f.group before) i ≡ Some x) (sym epoch_same) (subst (λ (g : FileId). instance_in (tree_of c e g.group before) i ≡ Some x) x_file (open_in_group c older h e i x was))

    x_is : x ≡ y
    x_is = only_one (is_named i) (is_writing f) tree.instances x y x_named (writer_writes f z x writes) row.one

    serial_is : x.grant.inst ≡ i
    serial_is = found_named i tree.instances x x_named

    bases_new : bases c now e new ≡ stamp ∷ []
    bases_new = ap (λ (b : Bool). cond b (kept_of (history c (entries now)) (tree_of c e x.grant.file.group (entries now)) x.grant.file) (stamp ∷ [])) (and_false (merges x.grant.mode))

    -- by what was done, and by the new version
    said_twice : (names : List Op → List (List ℕ)) → said names c now e i new ≡ names (deeds before e i) ++ (said names c older e i x ++ [])
    said_twice names = ap (λ (ss : List Stamp). names (deeds before e i) ++ flat_map (named_in names (makings c (entries now)) x.grant.file) ss) bases_new
        ∙ (ap (λ (g : FileId). names (deeds before e i) ++ (named_in names (makings c (entries now)) g stamp ++ [])) x_file
        ∙ (ap (λ (b : Bool). names (deeds before e i) ++ (cond b (names its ++ flat_map (named_in names (makings c before) f) parents) (named_in names (makings c before) f stamp) ++ [])) (own_version f stamp)
        ∙ (ap (λ (l : List (List ℕ)). names (deeds before e i) ++ (l ++ [])) (said_new names)
        ∙ (ap (λ (d : EpochId). names (deeds before e i) ++ (said names c older d y.grant.inst y ++ [])) epoch_same
        ∙ (ap (λ (w : Instance). names (deeds before e i) ++ (said names c older e w.grant.inst w ++ [])) (sym x_is)
        ∙ ap (λ (j : Serial). names (deeds before e i) ++ (said names c older e j x ++ [])) serial_is)))))

    boxed_again : HasBox c older e i x → HasBox c now e i new
    boxed_again b = box_same (Put c now x.grant.file.group) (Saw c now x.grant.file.group) (is_among (said names_inserted c older e i x)) (is_among (said names_removed c older e i x)) (is_among (said names_inserted c now e i new)) (is_among (said names_removed c now e i new)) (entries_of x.work.content)
        (λ m. said_again (names_inserted (deeds before e i)) (flat_map (named_in names_inserted (makings c before) x.grant.file) (bases c older e x)) m ∙ ap (λ (l : List (List ℕ)). is_among l m) (sym (said_twice names_inserted)))
        (λ m. said_again (names_removed (deeds before e i)) (flat_map (named_in names_removed (makings c before) x.grant.file) (bases c older e x)) m ∙ ap (λ (l : List (List ℕ)). is_among l m) (sym (said_twice names_removed)))
        (box_later c n (Shown r) older h may fresh once x.grant.file.group (is_among (said names_inserted c older e i x)) (is_among (said names_removed c older e i x)) (entries_of x.work.content) b)

    pub committed_work : AtWork c now e i new
    committed_work = over (so.instances e i x was)
      where
        over : AtWork c older e i x → AtWork c now e i new
        over (OfFile p) = OfFile (plain_stays c n (Shown r) older h may x.grant.file p)
        over (OfMessage m) = OfFile (subst (IsPlain c now) (sym x_file) (plain_made (subst (λ (w : Instance). MakesMessage older w.grant) x_is m)))
        over (Idle id) = absurd (not_idle x x_is id.idle)
        over (Mended m b) = Mended (record { mode_is = m.mode_is; placed = (mended_later c n (Shown r) older h may fresh once x m).placed }) (boxed_again b)
        over (Ordinary m b) = Ordinary m (boxed_again b)

-- ---- a grant ----

module _ (c : Config) (packs : PacksAreOfSites c) (n : ℕ) (older : List Line) (h : IsFollowed c older) (so : AllBoxes c older) (at : EpochId) (call : CallId) (request : ℕ) (inst : Serial) (m : Mode) (f : FileId) (stamp : Option Stamp) (ss : ℕ) (may : MayTell c older (Shown (says.Grant at call request inst m f stamp ss))) (once : MadeOnce c (With n (Shown (says.Grant at call request inst m f stamp ss)) older)) where
  abbrev granting : Record
  granting = says.Grant at call request inst m f stamp ss

  abbrev then : List Line
  then = With n (Shown granting) older

  abbrev u : Untouched c then at inst m f stamp ss
  u = granted_open c older n h at call request inst m f stamp ss may

  none_done : deeds (entries then) at inst ≡ []
  none_done = ap (λ (b : Bool). cond (b && same_serial inst inst) [] (deeds (entries older) at inst)) (same_epoch_own at) ∙ ap (λ (b : Bool). cond b [] (deeds (entries older) at inst)) (same_serial_own inst)

  abbrev AtFirst : Type 0
  AtFirst = AtWork c then at inst u.at

  ordinary_first : IsOrdinary m → AtFirst
  ordinary_first k = over stamp refl
    where
      ordinary : IsOrdinary u.at.grant.mode
      ordinary = subst IsOrdinary (sym u.mode_is) k

      said_first : (names : List Op → List (List ℕ)) → names [] ≡ [] → said names c then at inst u.at ≡ flat_map (named_in names (makings c (entries older)) f) (list_of stamp)
      said_first names none = ap (λ (l : List Op). names l ++ flat_map (named_in names (makings c (entries older)) u.at.grant.file) (bases c then at u.at)) none_done
          ∙ (ap (λ (l : List (List ℕ)). l ++ flat_map (named_in names (makings c (entries older)) u.at.grant.file) (bases c then at u.at)) none
          ∙ (ap (λ (ss : List Stamp). flat_map (named_in names (makings c (entries older)) u.at.grant.file) ss) (ordinary_bases (history c (entries then)) (tree_of c at u.at.grant.file.group (entries then)) u.at ordinary ∙ ap (λ (w : Work). list_of w.last) u.work_is)
          ∙ ap (λ (g : FileId). flat_map (named_in names (makings c (entries older)) g) (list_of stamp)) u.file_is))

      -- by the names of its version
      first : (put taken : List ℕ → Bool) → ((z : List ℕ) → put z ≡ is_among (flat_map (named_in names_inserted (makings c (entries older)) f) (list_of stamp)) z) → ((z : List ℕ) → taken z ≡ is_among (flat_map (named_in names_removed (makings c (entries older)) f) (list_of stamp)) z) →
          BoxOf c then f.group put taken (entries_of (stamped_content (history c (entries older)) f stamp)) → AtFirst
      first put taken puts takes b = Ordinary ordinary (box_same (Put c then u.at.grant.file.group) (Saw c then u.at.grant.file.group) put taken (is_among (said names_inserted c then at inst u.at)) (is_among (said names_removed c then at inst u.at)) (entries_of u.at.work.content)
          (λ z. puts z ∙ ap (λ (l : List (List ℕ)). is_among l z) (sym (said_first names_inserted refl))) (λ z. takes z ∙ ap (λ (l : List (List ℕ)). is_among l z) (sym (said_first names_removed refl)))
          (subst (λ (g : FileId). BoxOf c then g.group put taken (entries_of u.at.work.content)) (sym u.file_is) (subst (λ (w : Work). BoxOf c then f.group put taken (entries_of w.content)) (sym u.work_is) b)))

      below : (names : List Op → List (List ℕ)) (s : Stamp) → stamp ≡ Some s → (z : List ℕ) → is_among (named_in names (makings c (entries older)) f s) z ≡ is_among (flat_map (named_in names (makings c (entries older)) f) (list_of stamp)) z
      below names s is z = ap (λ (l : List (List ℕ)). is_among l z) (sym (append-nil (named_in names (makings c (entries older)) f s))) ∙ ap (λ (o : Option Stamp). is_among (flat_map (named_in names (makings c (entries older)) f) (list_of o)) z) (sym is)

      over : (o : Option Stamp) → stamp ≡ o → AtFirst
      over None is = first (λ z. false) (λ z. false) (λ z. ap (λ (o : Option Stamp). is_among (flat_map (named_in names_inserted (makings c (entries older)) f) (list_of o)) z) (sym is)) (λ z. ap (λ (o : Option Stamp). is_among (flat_map (named_in names_removed (makings c (entries older)) f) (list_of o)) z) (sym is))
          (subst (λ (o : Option Stamp). BoxOf c then f.group (λ z. false) (λ z. false) (entries_of (stamped_content (history c (entries older)) f o))) (sym is) (nothing_box (Put c then f.group) (Saw c then f.group)))
      over (Some s) is = by (so.versions f s)
        where
          by : Holds c older f (is_among (named_in names_inserted (makings c (entries older)) f s)) (is_among (named_in names_removed (makings c (entries older)) f s)) (content_of (history c (entries older)) f s) → AtFirst
          by (inl p) = OfFile (subst (IsPlain c then) (sym u.file_is) (plain_stays c n (Shown granting) older h may f p))
          by (inr b) = first (is_among (named_in names_inserted (makings c (entries older)) f s)) (is_among (named_in names_removed (makings c (entries older)) f s)) (below names_inserted s is) (below names_removed s is)
              (subst (λ (o : Option Stamp). BoxOf c then f.group (is_among (named_in names_inserted (makings c (entries older)) f s)) (is_among (named_in names_removed (makings c (entries older)) f s)) (entries_of (stamped_content (history c (entries older)) f o))) (sym is)
              (box_later c n (Shown granting) older h may tt once f.group (is_among (named_in names_inserted (makings c (entries older)) f s)) (is_among (named_in names_removed (makings c (entries older)) f s)) (entries_of (content_of (history c (entries older)) f s)) b))

  pub granted_work : AtFirst
  granted_work = by m refl
    where
      by : (k : Mode) → m ≡ k → AtFirst
      by mode.Read is = ordinary_first (subst IsOrdinary (sym is) tt)
      by mode.Write is = ordinary_first (subst IsOrdinary (sym is) tt)
      by mode.Make is = ordinary_first (subst IsOrdinary (sym is) tt)
      by mode.Resolve is = OfFile (subst (IsPlain c then) (sym u.file_is) (resolved_plain c packs then (may, h) at call request inst f stamp ss (inl (record { epoch_is = refl; call_is = refl; request_is = refl; serial_is = refl; mode_is = is; file_is = refl; stamp_is = refl; place_is = refl }))))
      by mode.Mend is = Idle (record {
        mode_is = u.mode_is ∙ is;
        first = ap (λ (w : Work). w.committed) u.work_is;
        idle = ap (λ (w : Work). w.owes) u.work_is ∙ ap begins_owing is;
        bare = none_done;
      })
