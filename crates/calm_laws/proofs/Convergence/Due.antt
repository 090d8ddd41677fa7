-- A file with one kept version that a member is to hold: what its synchronization site knows of it, and whom it has notified.
use Rattle.std.proofs.Common.{Bool, List, None, Option, Some, [], ap, arith, cond, false, inl, inr, length, map, refl, subst, sym, true, ℕ, ◌∙◌, ◌∷◌, ◌≡◌, ◌⊎◌}
use Rattle.calm_laws.proofs.Calm.{calm_in_round}
use Rattle.calm_laws.proofs.Events.{Under}
use Rattle.calm_laws.proofs.Lists.{every_among, row_key}
use Rattle.calm_laws.proofs.Members.{sync_is}
use Rattle.calm_laws.proofs.Packed.{sync_of}
use Rattle.calm_laws.proofs.TableThere.{table_there}
use Rattle.calm_laws.proofs.Ticks.{sites_apart}
use Rattle.calm_laws.specs.Carrying.{IsMember, frame_of}
use Rattle.calm_laws.specs.Rounds.{IsCalm, IsInRound, after}
use Rattle.calm_laws.proofs.Convergence.Midst.{Midst}
use Rattle.calm_laws.proofs.Convergence.Named.{named_there}
use Rattle.calm_laws.proofs.Convergence.Noticing.{HasNotified, among_flat, member_passes, notice_names, notice_there, table_notices, ticks_notify}
use Rattle.calm_laws.proofs.Convergence.Starting.{within_after}
use Rattle.calm_laws.proofs.Convergence.Telling.{tables_tell}
use Rattle.calm_laws.specs.Convergence.Converging.{TellsHolders}
use Rattle.calm_laws.specs.Convergence.Offers.{IsToHold, Offer, is_above, named, names}
use Rattle.run_laws.proofs.Epochs.Run.{run_good}
use Rattle.lawful_trace.specs.Places.{lines_before}
use Rattle.locus_ids.specs.Sites.{has}
use Rattle.locus_ids.specs.declared.config.Config.{Config}
use Rattle.locus_ids.specs.declared.ids.FileId.{FileId}
use Rattle.locus_ids.specs.declared.sites.Sites.{Sites}
use Rattle.row_laws.proofs.Orderly.Formed.{among_right}
use Rattle.row_laws.specs.Orderly.Calm.{AreTogether, IsInside}
use Rattle.calm_laws.proofs.Pulls.Served.{started_packed}
use Rattle.store_laws.specs.OneTree.Places.{InsideFact}
use Rattle.role_steps.specs.Adoption.{table_group}
use Rattle.role_steps.specs.Notices.{file_notices, notice, notices}
use Rattle.role_steps.specs.Reports.{sync_repeats}
use Rattle.role_steps.specs.Storage.{copy_of, store_repeats}
use Rattle.role_steps.specs.Tables.{row}
use Rattle.role_steps.specs.Versions.{file_row, holders_of, is_among, kept, row_ino}
use Rattle.role_steps.specs.Views.{Frame, SiteView, all_sites, boot_in, sync_site}
use Rattle.role_steps.specs.declared.rounds.InEpoch.{InEpoch}
use Rattle.role_steps.specs.declared.synchronizing.FileRow.{FileRow}
use Rattle.role_steps.specs.declared.synchronizing.SyncTable.{SyncTable}
use Rattle.role_steps.specs.declared.synchronizing.VersionRow.{VersionRow}
use Rattle.schedule_lines.specs.declared.line.ScheduleLine.{ScheduleLine}
use Rattle.the_run.specs.Kept.{Among}
use Rattle.the_run.specs.Runs.{run_in}
use Rattle.the_run.specs.Worlds.{Line, Running, World, place_at}
use Rattle.tree_laws.specs.Instances.{IsStarted}
use Rattle.tree_laws.specs.Packets.{file_in}
use Rattle.tree_laws.specs.Printed.{entries}
use Rattle.tree_laws.specs.Tables.{FileFact, FilesFact, StartedFiles, TableFact, VersionFact, row_stamp}
use Rattle.tree_model.specs.Files.{set_of_file}
use Rattle.tree_model.specs.Tree.{kept_in, tree_of}
use Rattle.wire_messages.specs.declared.packet.Packet.{Packet}

-- the member is to hold the version, and the file's group has started
pub record IsDueTo (c : Config) (e : InEpoch) (w : World) (s : ℕ) (d : Offer) : Type 0 where
  pub hold : IsToHold c e (place_at w) s d
  pub started : hold.known.table.started ≡ true

-- its copy isn't below the version
pub record HasIt (w : World) (s : ℕ) (d : Offer) : Type 0 where
  pub view : SiteView
  pub here : place_at w s ≡ Some (Running view)
  pub low : is_above d.vector (copy_of view.store d.file) ≡ false

-- or it is named by a notice under way
abbrev pub HasOrNamed : InEpoch → World → ℕ → Offer → Type 0
HasOrNamed e w s d = HasIt w s d ⊎ Among d (named e s w.underway)

-- ---- what the table says of it ----

-- the synchronization site knows one kept version of the file, which is for the site
pub record OnlyOf (c : Config) (e : InEpoch) (w : World) (s : ℕ) (file : FileId) : Type 0 where
  pub version : VersionRow
  pub due : IsDueTo c e w s (record { file = file; stamp = version.stamp; vector = version.vector })
  pub only : kept_in c (entries w.trace) e.id file ≡ version.stamp ∷ []
  pub fact : VersionFact c w.trace file version

only_one : {A B : Type 0} (g : A → B) (xs : List A) → length (map g xs) ≡ 1 → (x : A) × (xs ≡ x ∷ [])
only_one g [] h = absurd (omega (arith, h))
only_one g (x ∷ []) h = (x, refl)
only_one g (x ∷ y ∷ ys) h = absurd (omega (arith, h))

some_row : (t : SyncTable) (ino : ℕ) (v : VersionRow) → kept (file_row t ino) ≡ v ∷ [] → (r : FileRow) × (file_row t ino ≡ Some r) × (r.kept ≡ v ∷ [])
some_row t ino v h = over (file_row t ino) refl h
  where
    none_kept : (v : VersionRow) → [] ≡ v ∷ [] → ⊥
    none_kept v e = cc

    over : (o : Option FileRow) → file_row t ino ≡ o → kept o ≡ v ∷ [] → (r : FileRow) × (file_row t ino ≡ Some r) × (r.kept ≡ v ∷ [])
    over None q k = absurd (none_kept v k)
    over (Some r) q k = (r, q, k)

pub only_of : (c : Config) (e : InEpoch) (w : World) → Midst c e w → ((t : ℕ) → IsMember e t → IsInside w e t) → (s : ℕ) → IsMember e s → (file : FileId) → IsStarted c w.trace e.id file.group → length (kept_in c (entries w.trace) e.id file) ≡ 1 → has (set_of_file c (entries w.trace) file) s ≡ true → OnlyOf c e w s file
only_of c e w k all s member file begun single in_set = record { version = only.0; due = record { hold = hold; started = started }; only = kept_one; fact = version }
  where
    t : List Line
    t = w.trace

    mine : IsInside w e s
    mine = all s member

    css : (css : ℕ) × (sync_site c e.members file.group ≡ Some css)
    css = sync_of c t (frame_of c e s) file.group (k.site s mine.view member mine.here).frame (started_packed c t k.past.followed e.id file.group begun)

    css_in : IsMember e css.0
    css_in = (sync_is c e file.group css.0 css.1).1

    i : IsInside w e css.0
    i = all css.0 css_in

    theirs : InsideFact c (frame_of c e css.0) t i.view
    theirs = k.site css.0 i.view css_in i.here

    there : (table : SyncTable) × (row table_group file.group i.view.tables ≡ Some table)
    there = table_there c t e file.group css.0 (boot_in e.members.boot css.0) i.view k.groups theirs css.1

    table : SyncTable
    table = there.0

    at_table : Among table i.view.tables × (table.group ≡ file.group)
    at_table = row_key table_group file.group i.view.tables table there.1

    of_table : TableFact c t (frame_of c e css.0) table
    of_table = every_among (TableFact c t (frame_of c e css.0)) table i.view.tables at_table.0 theirs.tables

    started : table.started ≡ true
    started = of_table.started ∙ subst (λ (g : ℕ). (tree_of c e.id g (entries t)).started ≡ true) (sym at_table.1) begun

    files : StartedFiles c t (frame_of c e css.0) table
    files = subst (FilesFact c t (frame_of c e css.0) table) started of_table.files

    is_file : file_in table.group file.ino ≡ file
    is_file = ap (λ (g : ℕ). file_in g file.ino) at_table.1

    kept_there : map row_stamp (kept (file_row table file.ino)) ≡ kept_in c (entries t) e.id file
    kept_there = files.kept_is file.ino ∙ ap (λ (f : FileId). kept_in c (entries t) e.id f) is_file

    only : (x : VersionRow) × (kept (file_row table file.ino) ≡ x ∷ [])
    only = only_one row_stamp (kept (file_row table file.ino)) (ap length kept_there ∙ single)

    kept_one : kept_in c (entries t) e.id file ≡ only.0.stamp ∷ []
    kept_one = sym kept_there ∙ ap (map row_stamp) only.1

    r : (r : FileRow) × (file_row table file.ino ≡ Some r) × (r.kept ≡ only.0 ∷ [])
    r = some_row table file.ino only.0 only.1

    at_row : Among r.0 table.files × (r.0.ino ≡ file.ino)
    at_row = row_key row_ino file.ino table.files r.0 r.1

    of_row : FileFact c t e.id table.group r.0
    of_row = every_among (FileFact c t e.id table.group) r.0 table.files at_row.0 of_table.rows

    row_is : file_in table.group r.0.ino ≡ file
    row_is = ap (λ (j : ℕ). file_in table.group j) at_row.1 ∙ is_file

    version : VersionFact c t file only.0
    version = subst (λ (f : FileId). VersionFact c t f only.0) row_is (every_among (VersionFact c t (file_in table.group r.0.ino)) only.0 r.0.kept (subst (λ (vs : List VersionRow). Among only.0 vs) (sym r.2) (inl refl)) of_row.keeps)

    hold : IsToHold c e (place_at w) s (record { file = file; stamp = only.0.stamp; vector = only.0.vector })
    hold = record {
      file_known = r.0;
      known = record { css = css.0; synced = css.1; view = i.view; here = i.here; table = table; found = there.1; is_row = r.1 };
      version = only.0;
      only = r.2;
      stamp = refl;
      vector = refl;
      in_set = ap (λ (x : Sites). has x s) (of_row.set_is ∙ ap (λ (f : FileId). set_of_file c (entries t) f) row_is) ∙ in_set;
    }

-- whom the synchronization site has notified of it, unless its table says that the member has it
pub told_of : (c : Config) (lines : List ScheduleLine) (n : ℕ) (e : InEpoch) (w : World) → IsInRound c lines n w → AreTogether w e → (s : ℕ) (d : Offer) → IsMember e s → Among s all_sites → (h : IsToHold c e (place_at w) s d) →
    ((z : Packet) → Among z (file_notices (frame_of c e h.known.css) d.file.group h.file_known) → Under w.underway z) → HasOrNamed e w s d
told_of c lines n e w round together s d m site h under = by_holder (is_among s (holders_of r h.version.stamp)) refl
  where
    r : FileRow
    r = h.file_known

    tells : TellsHolders e (place_at w) d.file r h.version
    tells = tables_tell c lines n e w round together d.file r h.version h.known h.only

    i : IsInside w e s
    i = together.inside s m

    by_holder : (b : Bool) → is_among s (holders_of r h.version.stamp) ≡ b → HasOrNamed e w s d
    by_holder true q = inl (record { view = i.view; here = i.here; low = ap (λ (x : List ℕ). is_above x (copy_of i.view.store d.file)) (sym h.vector) ∙ tells.hold s i.view m q i.here })
    by_holder false q =
        let f = frame_of c e h.known.css in
        let z : (holder : ℕ) × Among (notice f d.file.group r h.version holder s) (file_notices f d.file.group r) = notice_there f d.file.group r h.version s h.only tells.some_holder site (member_passes e s m) h.in_set q in
        let u : Under w.underway (notice f d.file.group r h.version z.0 s) = under (notice f d.file.group r h.version z.0 s) z.1 in
        inr (named_there e s d u.letter w.underway u.there (subst (λ (p : Packet). Among d (names e s p)) (sym u.is) (notice_names c e h.known.css s d d.file.group r h.version z.0 refl (row_key row_ino d.file.ino h.known.table.files r h.known.is_row).1 h.stamp h.vector)))

-- ---- the ticks of a round ----

pub calm_notifies : (c : Config) (lines : List ScheduleLine) (n : ℕ) (e : InEpoch) (k : ℕ) → IsCalm c lines n e k → (t : ℕ) → IsMember e t → HasNotified c e (after c lines n 0) t
calm_notifies c lines n e k calm t i = ticks_notify c e n all_sites (run_in c (lines_before lines n)) (run_good c (lines_before lines n)) sites_apart (λ z a q. calm.first.inside z q) (λ z a q. (calm.each 0 (omega arith)).inside z q) (within_after c lines n e k calm 0 (omega arith)) t i (inl (calm.sites t i))

-- after them whoever is to hold a version has it, or a notice of it is under way
pub ticks_name : (c : Config) (lines : List ScheduleLine) (n : ℕ) (e : InEpoch) (k : ℕ) → IsCalm c lines n e k → (s : ℕ) (o : Offer) → IsMember e s → IsDueTo c e (after c lines n 0) s o → HasOrNamed e (after c lines n 0) s o
ticks_name c lines n e k calm s o member due = told_of c lines n e w (calm_in_round c lines n e k 0 calm (omega arith)) (calm.each 0 (omega arith)) s o member (calm.sites s member) h told
  where
    w : World
    w = after c lines n 0

    h : IsToHold c e (place_at w) s o
    h = due.hold

    t : SyncTable
    t = h.known.table

    f : Frame
    f = frame_of c e h.known.css

    css : IsMember e h.known.css
    css = (sync_is c e o.file.group h.known.css h.known.synced).1

    at_table : Among t h.known.view.tables × (t.group ≡ o.file.group)
    at_table = row_key table_group o.file.group h.known.view.tables t h.known.found

    at_row : Among h.file_known t.files × (h.file_known.ino ≡ o.file.ino)
    at_row = row_key row_ino o.file.ino t.files h.file_known h.known.is_row

    notified : HasNotified c e w h.known.css
    notified = calm_notifies c lines n e k calm h.known.css css

    told : (q : Packet) → Among q (file_notices f o.file.group h.file_known) → Under w.underway q
    told q a = notified h.known.view h.known.here q
        (among_right q (store_repeats f h.known.view.store) (table_notices f h.known.view) (among_flat (sync_repeats f) t q h.known.view.tables at_table.0 (subst (λ (b : Bool). Among q (cond b (notices f t) [])) (sym due.started) (among_flat (file_notices f t.group) h.file_known q t.files at_row.0 (subst (λ (g : ℕ). Among q (file_notices f g h.file_known)) (sym at_table.1) a)))))
