-- Copies of a file among the members of an epoch: what its synchronization site knows of it, who holds the only kept version, where
-- there is no room for it, and whether anybody has the file open.
use Rattle.std.specs.Prelude.{ℕ, ◌≡◌, true, false, nat_le, [], ◌∷◌, Some}
use Rattle.locus_ids.specs.declared.config.Config.{Config}
use Rattle.locus_ids.specs.declared.ids.FileId.{FileId}
use Rattle.locus_ids.specs.declared.sites.Sites.{Sites}
use Rattle.commit_graph.specs.Versions.{same_file}
use Rattle.file_content.specs.Pages.{pages_of}
use Rattle.role_steps.specs.Adoption.{table_group}
use Rattle.role_steps.specs.Storage.{copy_of, free_pages}
use Rattle.role_steps.specs.Tables.{row}
use Rattle.role_steps.specs.Versions.{file_row}
use Rattle.role_steps.specs.Views.{SiteView, sync_site}
use Rattle.role_steps.specs.declared.copies.FileCopy.{FileCopy}
use Rattle.role_steps.specs.declared.rounds.InEpoch.{InEpoch}
use Rattle.role_steps.specs.declared.synchronizing.FileRow.{FileRow}
use Rattle.role_steps.specs.declared.synchronizing.OpenRow.{OpenRow}
use Rattle.role_steps.specs.declared.synchronizing.OpenStage.{OpenStage}
use Rattle.role_steps.specs.declared.synchronizing.OpenStage.TheVariants as stage
use Rattle.role_steps.specs.declared.synchronizing.SyncTable.{SyncTable}
use Rattle.role_steps.specs.declared.synchronizing.VersionRow.{VersionRow}
use Rattle.the_run.specs.Kept.{Among}
use Rattle.the_run.specs.Worlds.{Running}
use Rattle.run_laws.specs.Epochs.Known.{Places}

-- the synchronization site of the file's group knows this of it
pub record Knows (c : Config) (e : InEpoch) (at : Places) (file : FileId) (r : FileRow) : Type 0 where
  pub css : ℕ
  pub synced : sync_site c e.members file.group ≡ Some css
  pub view : SiteView
  pub here : at css ≡ Some (Running view)
  pub table : SyncTable
  pub found : row table_group file.group view.tables ≡ Some table
  pub is_row : file_row table file.ino ≡ Some r

-- the file isn't flagged: this is its only kept version, which the sites of the set are to hold
pub record IsOnlyKept (c : Config) (e : InEpoch) (at : Places) (file : FileId) (v : VersionRow) (set : Sites) : Type 0 where
  pub file_known : FileRow
  pub known : Knows c e at file file_known
  pub only : file_known.kept ≡ v ∷ []
  pub sites : file_known.set ≡ set

-- the site holds that version
pub record HoldsTheOnly (at : Places) (s : ℕ) (file : FileId) (v : VersionRow) : Type 0 where
  pub view : SiteView
  pub here : at s ≡ Some (Running view)
  pub copy : FileCopy
  pub found : copy_of view.store file ≡ Some copy
  pub stamp : copy.stamp ≡ v.stamp
  pub vector : copy.vector ≡ v.vector

-- the site's pack has fewer free pages than the version has pages
pub record HasNoRoom (at : Places) (s : ℕ) (file : FileId) (v : VersionRow) : Type 0 where
  pub view : SiteView
  pub here : at s ≡ Some (Running view)
  pub small : nat_le (pages_of v.size) (free_pages view.store file.group) ≡ false

-- an instance is open from its open's grant until it is released
abbrev pub IsOpenStill : OpenStage → Type 0
IsOpenStill stage.Asked = Unit {0}
IsOpenStill stage.Granted = Unit {0}
IsOpenStill (stage.Refused why) = ⊥
IsOpenStill stage.Ended = ⊥

-- nobody has the file open in the epoch
abbrev pub NobodyHasOpen : Config → InEpoch → Places → FileId → Type 0
NobodyHasOpen c e at file = (css : ℕ) (v : SiteView) (t : SyncTable) (r : OpenRow) → sync_site c e.members file.group ≡ Some css → at css ≡ Some (Running v) → row table_group file.group v.tables ≡ Some t → Among r t.opens → same_file r.file file ≡ true → IsOpenStill r.stage → ⊥
