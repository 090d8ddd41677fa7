-- What the synchronization site of a file knows of it at the end of a calm round, by the records up to there.
use Rattle.std.proofs.Common.{◌≡◌, ℕ, ◌<◌, true, List, [], ◌∷◌, map, length, Option, Some, None, refl, sym, ◌∙◌, ap, subst, inl}
use Rattle.locus_ids.specs.declared.config.Config.{Config}
use Rattle.locus_ids.specs.declared.ids.FileId.{FileId}
use Rattle.locus_ids.specs.declared.ids.Stamp.{Stamp}
use Rattle.locus_ids.specs.declared.sites.Members.{Members}
use Rattle.locus_ids.specs.Sizes.{inode_span}
use Rattle.commit_graph.specs.Versions.{content_of}
use Rattle.schedule_lines.specs.Cluster.{config_of}
use Rattle.schedule_lines.specs.declared.line.ScheduleLine.{ScheduleLine}
use Rattle.role_steps.specs.Adoption.{table_group}
use Rattle.role_steps.specs.Tables.{row}
use Rattle.role_steps.specs.Versions.{file_row, row_ino, kept}
use Rattle.role_steps.specs.Views.{SiteView, boot_in, sync_site}
use Rattle.role_steps.specs.declared.rounds.InEpoch.{InEpoch}
use Rattle.role_steps.specs.declared.synchronizing.FileRow.{FileRow}
use Rattle.role_steps.specs.declared.synchronizing.SyncTable.{SyncTable}
use Rattle.role_steps.specs.declared.synchronizing.VersionRow.{VersionRow}
use Rattle.the_run.specs.Kept.{Among}
use Rattle.the_run.specs.Runs.{run}
use Rattle.the_run.specs.Worlds.{World, Running, place_at}
use Rattle.tree_model.specs.Epochs.{members_of}
use Rattle.tree_model.specs.Files.{HeldVersion, kind_of_file, set_of_file, version_of}
use Rattle.tree_model.specs.Folds.{Trace}
use Rattle.tree_model.specs.Histories.{history}
use Rattle.tree_model.specs.Packs as tree
use Rattle.tree_model.specs.Tree.{kept_in}
use Rattle.lawful_trace.specs.CallRows.{has_lost_mend}
use Rattle.lawful_trace.specs.Places.{through_line}
use Rattle.row_laws.specs.Shown.{trace_of}
use Rattle.tree_laws.specs.Instances.{Stands}
use Rattle.tree_laws.specs.Packets.{file_in}
use Rattle.tree_laws.specs.Printed.{entries}
use Rattle.tree_laws.specs.Tables.{FileFact, FilesFact, StartedFiles, TableFact, VersionFact, row_stamp}
use Rattle.tree_laws.proofs.Rows.{followed_rows}
use Rattle.tree_laws.proofs.Orders.ProcessSynchronizing.{sync_same}
use Rattle.store_laws.specs.OneTree.Places.{InsideFact}
use Rattle.store_laws.specs.OneTree.Rest.{Past}
use Rattle.rest_laws.proofs.MendStepNumbered.{files_numbered}
use Rattle.rest_laws.proofs.Shown.{shown_entries}
use Rattle.rest_laws.proofs.StoreStepKnown.{stands_narrow}
use Rattle.row_laws.specs.Orderly.Calm.{IsInside}
use Rattle.calm_laws.specs.Carrying.{IsMember, frame_of}
use Rattle.calm_laws.specs.Rounds.{CalmLeft, after}
use Rattle.calm_laws.proofs.Delivered.{inside_fact}
use Rattle.calm_laws.proofs.Lists.{every_among, row_key}
use Rattle.calm_laws.proofs.Members.{sync_is}
use Rattle.calm_laws.proofs.TableThere.{table_there}
use Rattle.calm_laws.specs.Convergence.Copies.{Knows}
use Rattle.calm_laws.specs.Convergence.Directories.{WasRefused}
use Rattle.calm_laws.proofs.Convergence.Started.{all_started}
use Rattle.calm_laws.proofs.Convergence.TraceMoments.{IsMidway, at_end}
use Rattle.calm_laws.proofs.Convergence.TracePlayed.{IsPlayed}

-- ---- lists ----

-- the one that is kept
only_kept : (vs : List VersionRow) (stamp : Stamp) → map row_stamp vs ≡ stamp ∷ [] → (v : VersionRow) × (vs ≡ v ∷ []) × (v.stamp ≡ stamp)
only_kept [] stamp h = absurd (nil_not stamp h)
  where
    nil_not : (s : Stamp) → ◌≡◌ {A = List Stamp} [] (s ∷ []) → ⊥
    nil_not s q = cc
only_kept (v ∷ []) stamp h = (v, refl, head (row_stamp v) stamp h)
  where
    head : (a b : Stamp) → ◌≡◌ {A = List Stamp} (a ∷ []) (b ∷ []) → a ≡ b
    head a b q = cc
only_kept (v ∷ u ∷ us) stamp h = absurd (two_not (row_stamp v) (row_stamp u) (map row_stamp us) stamp h)
  where
    two_not : (a b : Stamp) (xs : List Stamp) (s : Stamp) → ◌≡◌ {A = List Stamp} (a ∷ b ∷ xs) (s ∷ []) → ⊥
    two_not a b xs s q = cc

some_row : (t : SyncTable) (ino : ℕ) (v : VersionRow) → kept (file_row t ino) ≡ v ∷ [] → (r : FileRow) × (file_row t ino ≡ Some r) × (r.kept ≡ v ∷ [])
some_row t ino v h = over (file_row t ino) refl h
  where
    none_kept : (v : VersionRow) → ◌≡◌ {A = List VersionRow} [] (v ∷ []) → ⊥
    none_kept v e = cc

    over : (o : Option FileRow) → file_row t ino ≡ o → kept o ≡ v ∷ [] → (r : FileRow) × (file_row t ino ≡ Some r) × (r.kept ≡ v ∷ [])
    over None q k = absurd (none_kept v k)
    over (Some r) q k = (r, q, k)

-- ---- the table ----

-- the view of the synchronization site, and the started table of the group there
pub record HasTable (lines : List ScheduleLine) (n : ℕ) (e : InEpoch) (p : IsPlayed lines n e) (group css : ℕ) : Type 0 where
  pub told : through_line (trace_of (run lines)) n ≡ entries (after (config_of lines) lines n p.deliveries).trace
  pub past : Past (config_of lines) (after (config_of lines) lines n p.deliveries).trace
  pub synced : sync_site (config_of lines) e.members group ≡ Some css
  pub member : IsMember e css
  pub view : SiteView
  pub here : place_at (after (config_of lines) lines n p.deliveries) css ≡ Some (Running view)
  pub inside : InsideFact (config_of lines) (frame_of (config_of lines) e css) (after (config_of lines) lines n p.deliveries).trace view
  pub table : SyncTable
  pub found : row table_group group view.tables ≡ Some table
  pub is_group : table.group ≡ group
  pub fact : TableFact (config_of lines) (after (config_of lines) lines n p.deliveries).trace (frame_of (config_of lines) e css) table
  pub files : StartedFiles (config_of lines) (after (config_of lines) lines n p.deliveries).trace (frame_of (config_of lines) e css) table

pub has_table : (lines : List ScheduleLine) (calm : CalmLeft (config_of lines)) (n : ℕ) (e : InEpoch) (p : IsPlayed lines n e) (group css : ℕ) → tree.sync_site (config_of lines) group (Some e.members) ≡ Some css → HasTable lines n e p group css
has_table lines calm n e p group css traced = record {
  told = p.ends ∙ shown_entries w.trace;
  past = now.past;
  synced = synced;
  member = member;
  view = i.view;
  here = i.here;
  inside = inside;
  table = table.0;
  found = table.1;
  is_group = at_table.1;
  fact = fact;
  files = subst (FilesFact c w.trace (frame_of c e css) table.0) (all_started c lines n e p.deliveries calm p.calm css group i.view table.0 member i.here table.1) fact.files;
}
  where
    c : Config
    c = config_of lines

    w : World
    w = after c lines n p.deliveries

    now : IsMidway c e w
    now = at_end lines n e p

    synced : sync_site c e.members group ≡ Some css
    synced = sync_same c e.members group ∙ traced

    member : IsMember e css
    member = (sync_is c e group css synced).1

    i : IsInside w e css
    i = now.together.inside css member

    inside : InsideFact c (frame_of c e css) w.trace i.view
    inside = inside_fact c e w css i.view now.fact now.together member i.here

    table : (t : SyncTable) × (row table_group group i.view.tables ≡ Some t)
    table = table_there c w.trace e group css (boot_in e.members.boot css) i.view p.calm.groups inside synced

    at_table : Among table.0 i.view.tables × (table.0.group ≡ group)
    at_table = row_key table_group group i.view.tables table.0 table.1

    fact : TableFact c w.trace (frame_of c e css) table.0
    fact = every_among (TableFact c w.trace (frame_of c e css)) table.0 i.view.tables at_table.0 inside.tables

-- ---- a file of it ----

module _ (lines : List ScheduleLine) (n : ℕ) (e : InEpoch) (p : IsPlayed lines n e) (f : FileId) (css : ℕ) (t : HasTable lines n e p f.group css) where
  abbrev c : Config
  c = config_of lines

  abbrev upto : Trace
  upto = through_line (trace_of (run lines)) n

  abbrev end : World
  end = after c lines n p.deliveries

  is_file : file_in t.table.group f.ino ≡ f
  is_file = ap (λ (g : ℕ). file_in g f.ino) t.is_group

  -- what is kept there is what is kept by the tree
  pub kept_there : map row_stamp (kept (file_row t.table f.ino)) ≡ kept_in c upto e.id f
  kept_there = t.files.kept_is f.ino ∙ (ap (λ (g : FileId). kept_in c (entries end.trace) e.id g) is_file ∙ ap (λ (tr : Trace). kept_in c tr e.id f) (sym t.told))

  -- a mend that was refused there is lost
  pub lost_there : WasRefused t.view f → has_lost_mend upto e.id f ≡ true
  lost_there lost = ap (λ (tr : Trace). has_lost_mend tr e.id f) t.told ∙ (sym (t.inside.users.inside.inside.hopeless f synced_there) ∙ lost)
    where
      synced_there : tree.sync_site c f.group (members_of (entries end.trace) e.id) ≡ Some css
      synced_there = ap (λ (m : Option Members). tree.sync_site c f.group m) t.inside.frame.members_are ∙ (sym (sync_same c e.members f.group) ∙ t.synced)

  -- so it knows the row of a file
  abbrev pub known_row : (r : FileRow) → file_row t.table f.ino ≡ Some r → Knows c e (place_at end) f r
  known_row r found = record { css = css; synced = t.synced; view = t.view; here = t.here; table = t.table; found = t.found; is_row = found }

  pub record IsRow (r : FileRow) : Type 0 where
    pub found : file_row t.table f.ino ≡ Some r
    pub fact : FileFact c end.trace e.id t.table.group r
    pub is_file : file_in t.table.group r.ino ≡ f
    pub kind_is : r.kind ≡ kind_of_file c upto f
    pub set_is : r.set ≡ set_of_file c upto f

  pub is_row : (r : FileRow) → file_row t.table f.ino ≡ Some r → IsRow r
  is_row r found = record {
    found = found;
    fact = fact;
    is_file = row_is;
    kind_is = fact.kind_is ∙ (ap (λ (g : FileId). kind_of_file c (entries end.trace) g) row_is ∙ ap (λ (tr : Trace). kind_of_file c tr f) (sym t.told));
    set_is = fact.set_is ∙ (ap (λ (g : FileId). set_of_file c (entries end.trace) g) row_is ∙ ap (λ (tr : Trace). set_of_file c tr f) (sym t.told));
  }
    where
      at_row : Among r t.table.files × (r.ino ≡ f.ino)
      at_row = row_key row_ino f.ino t.table.files r found

      fact : FileFact c end.trace e.id t.table.group r
      fact = every_among (FileFact c end.trace e.id t.table.group) r t.table.files at_row.0 t.fact.rows

      row_is : file_in t.table.group r.ino ≡ f
      row_is = ap (λ (j : ℕ). file_in t.table.group j) at_row.1 ∙ is_file

-- ---- a file with one kept version ----

pub record HasOne (lines : List ScheduleLine) (n : ℕ) (e : InEpoch) (p : IsPlayed lines n e) (f : FileId) (css : ℕ) (t : HasTable lines n e p f.group css) (stamp : Stamp) : Type 0 where
  pub row : FileRow
  pub is_row : IsRow lines n e p f css t row
  pub version : VersionRow
  pub only : row.kept ≡ version ∷ []
  pub stamp_is : version.stamp ≡ stamp
  pub size_is : version.size ≡ length (content_of (history (config_of lines) (through_line (trace_of (run lines)) n)) f stamp)
  pub narrow : f.ino < inode_span
  pub numbered : f.ino ≡ 0 → ⊥

pub has_one : (lines : List ScheduleLine) (n : ℕ) (e : InEpoch) (p : IsPlayed lines n e) (f : FileId) (css : ℕ) (t : HasTable lines n e p f.group css) (stamp : Stamp) → kept_in (config_of lines) (through_line (trace_of (run lines)) n) e.id f ≡ stamp ∷ [] → HasOne lines n e p f css t stamp
has_one lines n e p f css t stamp one = record {
  row = r.0;
  is_row = q;
  version = only.0;
  only = r.2;
  stamp_is = only.2;
  size_is = ap (λ (v : VersionRow). v.size) version.same ∙ (ap (λ (x : HeldVersion). length x.content) version.is_version.same ∙ (ap (λ (x : Stamp). length (version_of c (entries w.trace) f x).content) stamp_is ∙ ap (λ (tr : Trace). length (content_of (history c tr) f stamp)) (sym t.told)));
  narrow = stands_narrow c w.trace t.past.rest.each f stamp stands;
  numbered = (files_numbered c (entries w.trace) (followed_rows c w.trace t.past.followed)).stand f stamp stands;
}
  where
    c : Config
    c = config_of lines

    w : World
    w = after c lines n p.deliveries

    only : (v : VersionRow) × (kept (file_row t.table f.ino) ≡ v ∷ []) × (v.stamp ≡ stamp)
    only = only_kept (kept (file_row t.table f.ino)) stamp (kept_there lines n e p f css t ∙ one)

    r : (r : FileRow) × (file_row t.table f.ino ≡ Some r) × (r.kept ≡ only.0 ∷ [])
    r = some_row t.table f.ino only.0 only.1

    q : IsRow lines n e p f css t r.0
    q = is_row lines n e p f css t r.0 r.1

    version : VersionFact c w.trace f only.0
    version = subst (λ (g : FileId). VersionFact c w.trace g only.0) q.is_file (every_among (VersionFact c w.trace (file_in t.table.group r.0.ino)) only.0 r.0.kept (subst (λ (vs : List VersionRow). Among only.0 vs) (sym r.2) (inl refl)) q.fact.keeps)

    stamp_is : version.version.stamp ≡ stamp
    stamp_is = ap (λ (v : VersionRow). v.stamp) (sym version.same) ∙ only.2

    stands : Stands c w.trace f stamp
    stands = subst (λ (x : Stamp). Stands c w.trace f x) stamp_is version.is_version.stands
