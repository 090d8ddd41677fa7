-- A mend that a site starts may be accepted: it is of a directory of a group that the site synchronizes, which is to be mended.
use Rattle.std.proofs.Common.{◌≡◌, ℕ, suc, arith, ◌+◌, ◌==◌, Bool, true, false, not, cond, nat_lt, ◌&&◌, ◌||◌, List, [], ◌∷◌, map, filter, length, Option, Some, None, refl, sym, ◌∙◌, ap, subst}
use Rattle.std.proofs.lemmas.Bool.Decides.{nat_tests}
use Rattle.std.specs.List.{find, list_all, list_any}
use Rattle.std.specs.Option.{option_map}
use Rattle.role_steps.proofs.of_plain_facts.Numbers.{equal}
use Rattle.role_steps.proofs.of_plain_facts.Options.{none_some, some_same}
use Rattle.role_steps.proofs.of_plain_facts.Tests.{and_first, and_second, true_false}
use Rattle.locus_ids.specs.declared.config.Config.{Config}
use Rattle.locus_ids.specs.declared.ids.FileId.{FileId}
use Rattle.locus_ids.specs.declared.ids.Kind.{Kind}
use Rattle.locus_ids.specs.declared.ids.Kind.TheVariants as kind
use Rattle.locus_ids.specs.declared.ids.Stamp.{Stamp}
use Rattle.commit_graph.specs.declared.history.Version.{Version}
use Rattle.commit_graph.specs.Versions.{content_of, same_file, same_stamp}
use Rattle.dir_format.specs.declared.entry.Entry.{Entry}
use Rattle.dir_format.specs.Contents.{entries_from, entries_of}
use Rattle.dir_format.specs.Entries.{is_live}
use Rattle.dir_reconcile.specs.Joins.{joined_dirs}
use Rattle.dir_reconcile.specs.Rescues.{rescue_wanted}
use Rattle.trace_book.specs.declared.call.Call.{Call}
use Rattle.trace_book.specs.declared.call.Call.TheVariants as call
use Rattle.role_steps.specs.Mends.{has_mend_in, is_dir, is_mend_in, may_mend, mends_in, row_file, wants_mend, wants_mend_dir, wants_mend_of, wants_rescue_in, wants_rescue_of}
use Rattle.role_steps.specs.Mends as role
use Rattle.role_steps.specs.Opens.{is_open_on}
use Rattle.role_steps.specs.Storage.{copy_of}
use Rattle.role_steps.specs.Tables.{first_that}
use Rattle.role_steps.specs.Using.{own_call}
use Rattle.role_steps.specs.Versions.{file_row, kept}
use Rattle.role_steps.specs.Views.{Frame, SiteView}
use Rattle.role_steps.specs.Views as views
use Rattle.role_steps.specs.declared.copies.FileCopy.{FileCopy}
use Rattle.role_steps.specs.declared.synchronizing.FileRow.{FileRow}
use Rattle.role_steps.specs.declared.synchronizing.SyncTable.{SyncTable}
use Rattle.role_steps.specs.declared.synchronizing.VersionRow.{VersionRow}
use Rattle.the_run.specs.Kept.{Among}
use Rattle.the_run.specs.Worlds.{Line}
use Rattle.tree_model.specs.declared.accepted.Waiting.{Waiting}
use Rattle.tree_model.specs.declared.instance.Instance.{Instance}
use Rattle.tree_model.specs.Calls.{waiting}
use Rattle.tree_model.specs.Epochs.{boot_of, members_of}
use Rattle.tree_model.specs.Files.{version_of}
use Rattle.tree_model.specs.Histories.{held, history}
use Rattle.tree_model.specs.Mending.{joined_all, kept_vectors}
use Rattle.tree_model.specs.Mending as mending
use Rattle.tree_model.specs.Opening.{is_only}
use Rattle.tree_model.specs.Packs.{sync_site}
use Rattle.tree_model.specs.State.{TreeState, held_at, kept_of}
use Rattle.tree_model.specs.Tree.{tree_of}
use Rattle.tree_model.specs.Working.{are_several}
use Rattle.lawful_trace.specs.CallRows.{MayMend, has_open, is_mend_wanted, mend_waits}
use Rattle.lawful_trace.specs.CallRows as rows
use Rattle.tree_laws.specs.Instances.{held_in}
use Rattle.tree_laws.specs.Printed.{entries}
use Rattle.tree_laws.specs.Stores.{copy_for}
use Rattle.tree_laws.specs.Tables.{FileFact, FilesFact, StartedFiles, TableFact, named_instance, named_row, row_stamp}
use Rattle.tree_laws.proofs.Rows.{followed_rows}
use Rattle.tree_laws.proofs.Waiting.{found_among}
use Rattle.store_laws.proofs.of_tree_laws.Orders.Standing.{same_stamp_eq}
use Rattle.store_laws.proofs.of_tree_laws.Orders.ProcessSynchronizing.{sync_same}
use Rattle.store_laws.proofs.Holdings.Below.{packs_hold}
use Rattle.store_laws.proofs.Holdings.Holding.{sites_hold, some_found}
use Rattle.store_laws.proofs.of_tree_laws.Syncs.Notices.{rows_found}
use Rattle.store_laws.proofs.of_tree_laws.Syncs.Rows.{every_among}
use Rattle.store_laws.proofs.Users.Tabled.{first_found}
use Rattle.store_laws.specs.OneTree.Places.{InsideFact}
use Rattle.store_laws.specs.OneTree.Rest.{Past}
use Rattle.store_laws.proofs.OneTree.Parts.{synced_one}
use Rattle.store_laws.proofs.OneTree.Staying.{rest_below}
use Rattle.rest_laws.proofs.MendStepNarrow.{stands_narrow}
use Rattle.rest_laws.proofs.MendStepKeptVectors.{vectors_agree}
use Rattle.rest_laws.proofs.MendStepLists.{own_stamp}
use Rattle.rest_laws.proofs.MendStepNumbered.{files_numbered}
use Rattle.rest_laws.proofs.MendStepRows.{HasRow, any_among, has_row}

-- ---- tests ----

either_false : (a b : Bool) → not (a || b) ≡ true → (a ≡ false) × (b ≡ false)
either_false true b h = absurd (true_false (sym h))
either_false false true h = absurd (true_false (sym h))
either_false false false h = (refl, refl)

more_than_one : (n : ℕ) → nat_lt 1 (suc (suc n)) ≡ true
more_than_one n = grind (arith, nat_tests)

-- a list none of which passes
none_passes : {A : Type 0} (p : A → Bool) (xs : List A) → list_any p xs ≡ false → filter p xs ≡ []
none_passes p [] h = refl
none_passes p (x ∷ xs) h = at (none_passes p xs) (p x) refl h
  where
    at : (list_any p xs ≡ false → filter p xs ≡ []) → (b : Bool) → p x ≡ b → (b || list_any p xs) ≡ false → filter p (x ∷ xs) ≡ []
    at later true e k = absurd (true_false k)
    at later false e k = ap (λ (b : Bool). cond b (x ∷ filter p xs) (filter p xs)) e ∙ later k

passes_none : {A B : Type 0} (p : A → Bool) (g : A → B) (xs : List A) → map g (filter p xs) ≡ [] → list_any p xs ≡ false
passes_none p g [] h = refl
passes_none {A} {B} p g (x ∷ xs) h = at (passes_none p g xs) (p x) refl h
  where
    full : (y : B) (ys : List B) → y ∷ ys ≡ [] → ⊥
    full y ys e = cc

    at : (map g (filter p xs) ≡ [] → list_any p xs ≡ false) → (b : Bool) → p x ≡ b → map g (cond b (x ∷ filter p xs) (filter p xs)) ≡ [] → (p x || list_any p xs) ≡ false
    at later true e k = absurd (full (g x) (map g (filter p xs)) k)
    at later false e k = ap (λ (b : Bool). b || list_any p xs) e ∙ later k

-- ---- joins of one directory ----

pub joined_none : (ds : List Entry) → joined_dirs ds [] ≡ ds
joined_none [] = refl
joined_none (d ∷ ds) = ap (λ (es : List Entry). d ∷ es) (joined_none ds)

-- ---- a copy that a mend looks at ----

record IsLookedAt (v : SiteView) (tab : SyncTable) (stamp : Stamp) (file : FileId) : Type 0 where
  copy : FileCopy
  there : copy_of v.store file ≡ Some copy
  stamp_is : copy.stamp ≡ stamp
  wanted : rescue_wanted (entries_of copy.content) (role.kept_vectors tab) ≡ true

looked_at : (v : SiteView) (tab : SyncTable) (stamp : Stamp) (file : FileId) (o : Option FileCopy) → copy_of v.store file ≡ o → wants_rescue_of tab stamp o ≡ true → IsLookedAt v tab stamp file
looked_at v tab stamp file None e w = absurd (true_false (sym w))
looked_at v tab stamp file (Some x) e w = same (same_stamp x.stamp stamp) refl w
  where
    live : (b : Bool) → elim b [ true ↦ false | false ↦ rescue_wanted (entries_of x.content) (role.kept_vectors tab) ] ≡ true → rescue_wanted (entries_of x.content) (role.kept_vectors tab) ≡ true
    live true k = absurd (true_false (sym k))
    live false k = k

    same : (b : Bool) → same_stamp x.stamp stamp ≡ b → elim b [ true ↦ wants_rescue_in tab x.content | false ↦ false ] ≡ true → IsLookedAt v tab stamp file
    same true s k = record { copy = x; there = e; stamp_is = same_stamp_eq x.stamp stamp s; wanted = live (list_all is_live (entries_from (length x.content) x.content)) k }
    same false s k = absurd (true_false (sym k))

-- ---- what is held ----

record IsHeldAs (c : Config) (t : List Line) (me : ℕ) (file : FileId) (x : FileCopy) : Type 0 where
  stamp : Stamp
  is : held c (entries t) me file ≡ Some stamp
  stamp_is : x.stamp ≡ stamp
  content_is : x.content ≡ content_of (history c (entries t)) file stamp

held_as : (c : Config) (t : List Line) (me : ℕ) (file : FileId) (x : FileCopy) (o : Option Stamp) → held c (entries t) me file ≡ o → option_map (copy_for file) (option_map (version_of c (entries t) file) o) ≡ Some x → IsHeldAs c t me file x
held_as c t me file x None e k = absurd (none_some x k)
held_as c t me file x (Some s) e k = record { stamp = s; is = e; stamp_is = ap (λ (y : FileCopy). y.stamp) (sym same); content_is = ap (λ (y : FileCopy). y.content) (sym same) }
  where
    same : copy_for file (version_of c (entries t) file s) ≡ x
    same = some_same (copy_for file (version_of c (entries t) file s)) x k

-- ---- the mend ----

module _ (c : Config) (t : List Line) (f : Frame) (v : SiteView) (past : Past c t) (k : InsideFact c f t v) (tab : SyncTable) (here : Among tab v.tables) (started : tab.started ≡ true) (alone : has_mend_in v.users tab.group ≡ false)
    (r : FileRow) (found : first_that (wants_mend v tab) tab.files ≡ Some r) where
  abbrev file : FileId
  file = row_file tab r

  abbrev tree : TreeState
  tree = tree_of c f.epoch tab.group (entries t)

  abbrev h : List Version
  h = history c (entries t)

  table : TableFact c t f tab
  table = every_among (TableFact c t f) v.tables tab k.tables here

  files : StartedFiles c t f tab
  files = subst (λ (b : Bool). FilesFact c t f tab b) started table.files

  at_row : Among r tab.files × (wants_mend v tab r ≡ true)
  at_row = first_found (wants_mend v tab) tab.files r found

  fact : FileFact c t f.epoch tab.group r
  fact = every_among (FileFact c t f.epoch tab.group) tab.files r table.rows at_row.0

  row_found : file_row tab r.ino ≡ Some r
  row_found = every_among (λ (q : FileRow). file_row tab q.ino ≡ Some q) tab.files r (rows_found tab.files table.rise) at_row.0

  kept_are : map row_stamp r.kept ≡ kept_of h tree file
  kept_are = sym (ap (λ (o : Option FileRow). map row_stamp (kept o)) row_found) ∙ files.kept_is r.ino

  -- ---- it is a directory that is wanted ----

  record Asked : Type 0 where
    directory : r.kind ≡ kind.Dir
    wanted : wants_mend_of v tab file r.kept ≡ true
    free : may_mend v tab file ≡ true

  dir_is : (x : Kind) → is_dir x ≡ true → x ≡ kind.Dir
  dir_is kind.Dir e = refl
  dir_is kind.File e = absurd (true_false (sym e))

  asked : Asked
  asked = outer (is_dir r.kind) refl at_row.1
    where
      inner : r.kind ≡ kind.Dir → (b : Bool) → wants_mend_of v tab file r.kept ≡ b → elim b [ true ↦ may_mend v tab file | false ↦ false ] ≡ true → Asked
      inner d true e m = record { directory = d; wanted = e; free = m }
      inner d false e m = absurd (true_false (sym m))

      outer : (b : Bool) → is_dir r.kind ≡ b → elim b [ true ↦ wants_mend_dir v tab r | false ↦ false ] ≡ true → Asked
      outer true e m = inner (dir_is r.kind e) (wants_mend_of v tab file r.kept) refl m
      outer false e m = absurd (true_false (sym m))

  frees : (list_any (is_open_on file) tab.opens ≡ false) × (list_any (same_file file) v.users.hopeless ≡ false)
  frees = either_false (list_any (is_open_on file) tab.opens) (list_any (same_file file) v.users.hopeless) asked.free

  -- ---- nobody has it open ----

  numbered : r.ino ≡ 0 → ⊥
  numbered = (files_numbered c (entries t) (followed_rows c t past.followed)).stand file fact.some fact.stands

  shut : has_open tree file ≡ false
  shut = passes_none (λ (x : Instance). same_file x.grant.file file) named_instance tree.instances
      (sym (table.openers_are r.ino numbered) ∙ ap (map named_row) (none_passes (is_open_on file) tab.opens frees.0))

  -- ---- it is wanted ----

  held_same : held_in c (entries t) f.epoch f.me file ≡ held c (entries t) f.me file
  held_same = (sites_hold c (entries t) (packs_hold c t (rest_below c t past.rest).packed)).now f.epoch f.me file k.frame.inside

  several : (one other : VersionRow) (others : List VersionRow) → r.kept ≡ one ∷ other ∷ others → are_several (kept_of h tree file) ≡ true
  several one other others e = ap are_several (sym kept_are ∙ ap (map row_stamp) e) ∙ more_than_one (length (map row_stamp others))

  rescue : (one : VersionRow) → r.kept ≡ one ∷ [] → wants_rescue_of tab one.stamp (copy_of v.store file) ≡ true → mending.wants_rescue_in h tree file && is_only (kept_of h tree file) (held_at tree f.me r.ino) ≡ true
  rescue one e w = both (mending.wants_rescue_in h tree file) (is_only (kept_of h tree file) (held_at tree f.me r.ino)) rescues only
    where
      both : (a b : Bool) → a ≡ true → b ≡ true → a && b ≡ true
      both true true p q = refl
      both true false p q = q
      both false b p q = p

      l : IsLookedAt v tab one.stamp file
      l = looked_at v tab one.stamp file (copy_of v.store file) refl w

      q : IsHeldAs c t f.me file l.copy
      q = held_as c t f.me file l.copy (held c (entries t) f.me file) refl (sym (k.store.copies.are file (stands_narrow c file fact.some t past.rest.each fact.stands)) ∙ l.there)

      kept_one : kept_of h tree file ≡ one.stamp ∷ []
      kept_one = sym kept_are ∙ ap (map row_stamp) e

      stamp_is : q.stamp ≡ one.stamp
      stamp_is = sym q.stamp_is ∙ l.stamp_is

      rescues : mending.wants_rescue_in h tree file ≡ true
      rescues = ap (λ (ss : List Stamp). rescue_wanted (joined_all (map (λ (s : Stamp). entries_of (content_of h file s)) ss)) (kept_vectors h tree)) kept_one
          ∙ (ap (λ (es : List Entry). rescue_wanted es (kept_vectors h tree)) (joined_none (entries_of (content_of h file one.stamp)))
          ∙ (ap (λ (s : Stamp). rescue_wanted (entries_of (content_of h file s)) (kept_vectors h tree)) (sym stamp_is)
          ∙ (ap (λ (bytes : List ℕ). rescue_wanted (entries_of bytes) (kept_vectors h tree)) (sym q.content_is)
          ∙ (ap (rescue_wanted (entries_of l.copy.content)) (sym (vectors_agree c t f tab table files)) ∙ l.wanted))))

      only : is_only (kept_of h tree file) (held_at tree f.me r.ino) ≡ true
      only = ap (λ (ss : List Stamp). is_only ss (held_at tree f.me r.ino)) kept_one
          ∙ (ap (is_only (one.stamp ∷ [])) (held_same ∙ q.is) ∙ (ap (same_stamp one.stamp) stamp_is ∙ own_stamp one.stamp))

  is_wanted : is_mend_wanted h tree f.me file ≡ true
  is_wanted = over r.kept refl asked.wanted
    where
      or_true : (a : Bool) → a || true ≡ true
      or_true true = refl
      or_true false = refl

      over : (vs : List VersionRow) → r.kept ≡ vs → wants_mend_of v tab file vs ≡ true → is_mend_wanted h tree f.me file ≡ true
      over [] e w = absurd (true_false (sym w))
      over (one ∷ []) e w = ap (λ (b : Bool). are_several (kept_of h tree file) || b) (rescue one e w) ∙ or_true (are_several (kept_of h tree file))
      over (one ∷ other ∷ others) e w = ap (λ (b : Bool). b || (mending.wants_rescue_in h tree file && is_only (kept_of h tree file) (held_at tree f.me r.ino))) (several one other others e)

  -- ---- no other mend of the group waits ----

  unmended : mend_waits (entries t) f.me tab.group ≡ false
  unmended = over (mend_waits (entries t) f.me tab.group) refl
    where
      same_words : (words : Call) → rows.is_mend_in tab.group words ≡ mends_in tab.group words
      same_words (call.Mend g) = refl
      same_words _ = refl

      another : (w : Waiting) → Among w (waiting (entries t)) → ((w.site == f.me) && rows.is_mend_in tab.group w.words) ≡ true → ⊥
      another w m p = true_false (sym (any_among (is_mend_in tab.group) v.users.waiting q.row q.among mends) ∙ alone)
        where
          q : HasRow f v.users w
          q = has_row c t f v.users past.followed k.users.inside.inside w m (equal w.site f.me (and_first (w.site == f.me) _ p))

          mends : mends_in tab.group q.row.words ≡ true
          mends = sym (same_words q.row.words) ∙ (ap (λ (x : Waiting). rows.is_mend_in tab.group x.words) (sym q.same) ∙ and_second (w.site == f.me) _ p)

      over : (b : Bool) → mend_waits (entries t) f.me tab.group ≡ b → b ≡ false
      over false e = refl
      over true e = absurd (another one.0 (found_among (λ (w : Waiting). (w.site == f.me) && rows.is_mend_in tab.group w.words) (waiting (entries t)) one.0 one.1) one.2)
        where
          one : (x : Waiting) × (find (λ (w : Waiting). (w.site == f.me) && rows.is_mend_in tab.group w.words) (waiting (entries t)) ≡ Some x) × (((x.site == f.me) && rows.is_mend_in tab.group x.words) ≡ true)
          one = some_found (λ (w : Waiting). (w.site == f.me) && rows.is_mend_in tab.group w.words) (waiting (entries t)) e

  -- ---- it may be accepted ----

  pub synced : sync_site c tab.group (members_of (entries t) f.epoch) ≡ Some f.me
  synced = ap (sync_site c tab.group) k.frame.members_are ∙ (sym (sync_same c f.members tab.group) ∙ (ap (λ (x : Config). views.sync_site x f.members tab.group) (sym k.frame.config_is) ∙ synced_one f v.tables k.groups tab here))

  pub may_mend_it : MayMend c (entries t) f.me 0 (own_call f.me f.boot (v.users.calls + 1)) file
  may_mend_it = record {
    system = refl;
    epoch = f.epoch;
    inside = k.frame.inside;
    synchronizes = synced;
    directory = sym fact.kind_is ∙ asked.directory;
    started = sym table.started ∙ started;
    shut = shut;
    unrefused = sym (k.users.inside.inside.hopeless file synced) ∙ frees.1;
    alone = unmended;
    wanted = is_wanted;
    numbered = ap (λ (b : ℕ). own_call f.me b (v.users.calls + 1)) k.users.inside.always.boot_is ∙ ap (λ (m : ℕ). own_call f.me (boot_of (entries t) f.me) (m + 1)) k.users.inside.always.calls;
  }
