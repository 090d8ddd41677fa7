-- Where a version of a file is to be stored.
use Rattle.std.specs.Prelude.{◌≡◌, ℕ, ◌<◌, ◌≤◌, List, length, slice_get}
use Rattle.locus_ids.specs.declared.ids.FileId.{FileId}
use Rattle.pack_layout.specs.of_stored_versions.declared.new_version.NewVersion.{NewVersion}
use Rattle.file_content.specs.Pages.{pages_of}
use Rattle.site_packs.specs.declared.planning.Plan.{Plan}
use Rattle.site_packs.specs.declared.admitting.Admitted.{Admitted}
use Rattle.site_packs.specs.Packs.{PacksState, pack_in, copy_at}
use Rattle.role_steps.specs.Storage.{content_of}
use Rattle.site_packs.specs.Committing.{IsWholeFit, IsFit, room}
use Rattle.page_marks.specs.Marking.{AreMarks}
use Rattle.site_packs.specs.Marking.{KeepsRest}

-- the site may keep the version, in the pack at this place
pub record IsPlan (p : PacksState) (file : FileId) (given : NewVersion) (bytes : ℕ) (plan : Plan) : Type 0 where
  pub inside : plan.at < length p.packs
  pub place : slice_get p.packs plan.at ≡ pack_in file.group p.packs
  pub own : plan.ino ≡ file.ino
  pub whole : IsWholeFit p file given bytes

-- a commit may be carried out so
pub record IsAdmitted (p : PacksState) (image : List ℕ) (file : FileId) (given : NewVersion) (content changed : List ℕ) (admitted : Admitted) : Type 0 where
  pub plan : IsPlan p file given (length content) admitted.plan
  pub marks : AreMarks (pages_of (length content)) changed admitted.marks
  pub keeps : KeepsRest (content_of (copy_at p image file)) content admitted.marks
  pub fit : IsFit p image file given content changed
  pub space : length changed ≤ room p image file.group
