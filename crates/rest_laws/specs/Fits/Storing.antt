-- What a storage site may store as the next version of a file.
use Rattle.std.specs.Prelude.{ℕ, ◌≡◌, ◌-◌, ◌<◌, ◌≤◌, false, List, length}
use Rattle.locus_ids.specs.declared.config.Config.{Config}
use Rattle.locus_ids.specs.declared.ids.Stamp.{Stamp}
use Rattle.locus_ids.specs.Sizes.{pack_pages}
use Rattle.file_content.specs.Pages.{has_page, pages_of}
use Rattle.stored_versions.specs.Versions.{IsVersion}
use Rattle.stored_versions.specs.declared.new_version.NewVersion.{NewVersion}
use Rattle.role_steps.specs.Own.{Every}
use Rattle.role_steps.specs.Storage.{content_of, copy_of, copy_pages, next_stamp, next_vector}
use Rattle.role_steps.specs.Tables.{total}
use Rattle.role_steps.specs.Views.{Frame, Store}
use Rattle.role_steps.specs.declared.instances.Instance.{Instance}
use Rattle.role_steps.specs.declared.instances.Stage.{Stage}
use Rattle.role_steps.specs.declared.instances.Stage.TheVariants as stage
use Rattle.stored_versions.specs.Changes.{ArePages, IsKept}
use Rattle.site_laws.specs.Packs.Packs.{HasPack}
use Rattle.rest_laws.specs.Fits.Inodes.{IsInodeNumber}

-- the version that a commit of the instance makes, of this vector and stamp
abbrev pub made_of : Instance → List ℕ → Stamp → NewVersion
made_of i vector stamp = record { kind = i.kind; set = i.set; stamp = stamp; vector = vector }

-- The working content of an open instance may be stored as its next version, over the copy of the site: the site has a pack of the
-- group, the number is an inode's, a slot may say what the version is, each page that wasn't changed is that of the copy, and the changed
-- ones have room in the pack.
pub record MayStore (c : Config) (f : Frame) (s : Store) (i : Instance) : Type 0 where
  pub packed : HasPack c i.file.group f.me
  pub number : IsInodeNumber i.file.ino
  pub version : IsVersion (made_of i (next_vector f i) (next_stamp f (next_vector f i))) (length i.work.content)
  pub pages : ArePages (pages_of (length i.work.content)) i.work.changed
  pub kept : (page : ℕ) → page < pages_of (length i.work.content) → has_page i.work.changed page ≡ false → IsKept (content_of (copy_of s i.file)) i.work.content page
  pub room : length i.work.changed ≤ pack_pages - total (copy_pages i.file.group) s.copies

-- each instance that runs
abbrev pub RunsStorable : Config → Frame → Store → Instance → Stage → Type 0
RunsStorable c f s i stage.Running = MayStore c f s i
RunsStorable c f s i _ = Unit {0}

abbrev pub AreStorable : Config → Frame → Store → Type 0
AreStorable c f s = Every (λ (i : Instance). RunsStorable c f s i i.stage) s.instances
