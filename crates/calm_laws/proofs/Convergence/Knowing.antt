-- What a synchronization site knows of a file, by the one tree.
use Rattle.std.proofs.Common.{List, Option, Some, [], ap, inl, map, refl, subst, sym, true, ℕ, ◌<◌, ◌∙◌, ◌∷◌, ◌≡◌}
use Rattle.calm_laws.proofs.Delivered.{inside_fact}
use Rattle.calm_laws.proofs.Facts.{RoundFacts, round_facts}
use Rattle.calm_laws.proofs.Lists.{every_among, row_key}
use Rattle.calm_laws.proofs.Members.{sync_is}
use Rattle.calm_laws.proofs.SentFacts.{known}
use Rattle.rest_laws.proofs.StoreStepKnown.{stands_narrow}
use Rattle.calm_laws.specs.Carrying.{IsMember, frame_of}
use Rattle.calm_laws.specs.Rounds.{IsInRound}
use Rattle.calm_laws.proofs.Convergence.Started.{started}
use Rattle.calm_laws.proofs.Convergence.TraceKnown.{is_row}
use Rattle.calm_laws.specs.Convergence.Copies.{Knows}
use Rattle.locus_ids.specs.Sizes.{inode_span}
use Rattle.locus_ids.specs.declared.config.Config.{Config}
use Rattle.locus_ids.specs.declared.ids.FileId.{FileId}
use Rattle.row_laws.specs.Orderly.Calm.{AreTogether}
use Rattle.store_laws.proofs.OneTree.ToldVectorOnly.{row_stands}
use Rattle.store_laws.specs.OneTree.Places.{InsideFact}
use Rattle.role_steps.specs.Adoption.{table_group}
use Rattle.role_steps.specs.Versions.{file_row, kept, row_ino}
use Rattle.role_steps.specs.declared.rounds.InEpoch.{InEpoch}
use Rattle.role_steps.specs.declared.synchronizing.FileRow.{FileRow}
use Rattle.role_steps.specs.declared.synchronizing.SyncTable.{SyncTable}
use Rattle.role_steps.specs.declared.synchronizing.VersionRow.{VersionRow}
use Rattle.schedule_lines.specs.declared.line.ScheduleLine.{ScheduleLine}
use Rattle.the_run.specs.Kept.{Among}
use Rattle.the_run.specs.Worlds.{World, place_at}
use Rattle.tree_laws.specs.Packets.{file_in}
use Rattle.tree_laws.specs.Printed.{entries}
use Rattle.tree_laws.specs.Tables.{FileFact, FilesFact, StartedFiles, TableFact, VersionFact, row_stamp}
use Rattle.tree_model.specs.Tree.{kept_in}

pub record Known (c : Config) (e : InEpoch) (w : World) (css : ℕ) (table : SyncTable) (file : FileId) (r : FileRow) : Type 0 where
  pub member : IsMember e css
  pub group : table.group ≡ file.group
  pub ino : r.ino ≡ file.ino
  pub there : Among r table.files
  pub table_fact : TableFact c w.trace (frame_of c e css) table
  pub file_fact : FileFact c w.trace e.id file.group r
  pub is_file : file_in file.group r.ino ≡ file

pub knows : (c : Config) (lines : List ScheduleLine) (n : ℕ) (e : InEpoch) (w : World) → IsInRound c lines n w → AreTogether w e → (file : FileId) (r : FileRow) → (k : Knows c e (place_at w) file r) → Known c e w k.css k.table file r
knows c lines n e w round together file r k = record {
  member = css;
  group = at_table.1;
  ino = at_row.1;
  there = at_row.0;
  table_fact = table;
  file_fact = subst (λ (g : ℕ). FileFact c w.trace e.id g r) at_table.1 (every_among (FileFact c w.trace e.id k.table.group) r k.table.files at_row.0 table.rows);
  is_file = ap (λ (i : ℕ). file_in file.group i) at_row.1;
}
  where
    facts : RoundFacts c w
    facts = round_facts c lines n w round

    css : IsMember e k.css
    css = (sync_is c e file.group k.css k.synced).1

    inside : InsideFact c (frame_of c e k.css) w.trace k.view
    inside = inside_fact c e w k.css k.view facts.fact together css k.here

    at_table : Among k.table k.view.tables × (k.table.group ≡ file.group)
    at_table = row_key table_group file.group k.view.tables k.table k.found

    at_row : Among r k.table.files × (r.ino ≡ file.ino)
    at_row = row_key row_ino file.ino k.table.files r k.is_row

    table : TableFact c w.trace (frame_of c e k.css) k.table
    table = every_among (TableFact c w.trace (frame_of c e k.css)) k.table k.view.tables at_table.0 inside.tables

-- its only kept version
pub only_fact : (c : Config) (e : InEpoch) (w : World) (css : ℕ) (table : SyncTable) (file : FileId) (r : FileRow) (v : VersionRow) → Known c e w css table file r → r.kept ≡ v ∷ [] → VersionFact c w.trace file v
only_fact c e w css table file r v k only = subst (λ (f : FileId). VersionFact c w.trace f v) k.is_file (every_among (VersionFact c w.trace (file_in file.group r.ino)) v r.kept (subst (λ (vs : List VersionRow). Among v vs) (sym only) (inl refl)) k.file_fact.keeps)

-- the file has a number of 16 bits
pub only_narrow : (c : Config) (lines : List ScheduleLine) (n : ℕ) (e : InEpoch) (w : World) → IsInRound c lines n w → AreTogether w e → (file : FileId) (r : FileRow) (v : VersionRow) → Knows c e (place_at w) file r → r.kept ≡ v ∷ [] → file.ino < inode_span
only_narrow c lines n e w round together file r v k only = stands_narrow c w.trace (round_facts c lines n w round).rest.each file v.stamp (row_stands c w.trace file v (only_fact c e w k.css k.table file r v (knows c lines n e w round together file r k) only))

-- ---- what a table that has started says ----

pub kept_of_row : (c : Config) (e : InEpoch) (w : World) (css : ℕ) (table : SyncTable) (file : FileId) (r : FileRow) (v : VersionRow) → Known c e w css table file r → file_row table file.ino ≡ Some r → r.kept ≡ v ∷ [] → table.started ≡ true → kept_in c (entries w.trace) e.id file ≡ v.stamp ∷ []
kept_of_row c e w css table file r v known is_row only started =
    sym (subst (λ (f : FileId). map row_stamp (kept (file_row table file.ino)) ≡ kept_in c (entries w.trace) e.id f) (ap (λ (g : ℕ). file_in g file.ino) known.group) (files.kept_is file.ino))
    ∙ (ap (λ (o : Option FileRow). map row_stamp (kept o)) is_row ∙ ap (λ (vs : List VersionRow). map row_stamp vs) only)
  where
    files : StartedFiles c w.trace (frame_of c e css) table
    files = subst (FilesFact c w.trace (frame_of c e css) table) started known.table_fact.files
