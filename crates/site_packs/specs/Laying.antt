-- What an adoption makes of the copies of a site: pages that came are laid over the copy of their file.
use Rattle.std.specs.Prelude.{ℕ, List, length}
use Rattle.locus_ids.specs.declared.ids.FileId.{FileId}
use Rattle.pack_layout.specs.of_stored_versions.declared.new_version.NewVersion.{NewVersion}
use Rattle.inode_pack.specs.of_new_contents.declared.laid_pages.LaidPages.{LaidPages}
use Rattle.role_steps.specs.Adoption.{content_laid}
use Rattle.role_steps.specs.Storage.{content_of}
use Rattle.role_steps.specs.declared.copies.FileCopy.{FileCopy}
use Rattle.page_marks.specs.Laying.{AreLaid}
use Rattle.site_packs.specs.Committing.{IsWholeFit, copy_made}
use Rattle.site_packs.specs.Packs.{PacksState, copy_at}

-- the content that these pages make, over that of the file's copy so far
abbrev pub content_over : PacksState → List ℕ → FileId → LaidPages → List ℕ
content_over p image file came = content_laid came.size came.numbers.now came.bytes.now (content_of (copy_at p image file))

-- the copy that an adoption makes of a file
abbrev pub copy_laid : PacksState → List ℕ → FileId → NewVersion → LaidPages → FileCopy
copy_laid p image file given came = copy_made file given (content_over p image file came)

-- the site may keep the version that these pages make over the copy so far
pub record IsLaidFit (p : PacksState) (image : List ℕ) (file : FileId) (given : NewVersion) (came : LaidPages) : Type 0 where
  pub whole : IsWholeFit p file given came.size
  pub laid : AreLaid (length (content_of (copy_at p image file))) came
