-- What the marked pages of a content make of the one before it.
use Rattle.std.specs.Prelude.{◌≡◌, ℕ, ◌<◌, Bool, false, List, length, Option, None, Some}
use Rattle.file_content.specs.Pages.{pages_of}
use Rattle.inode_pack.specs.of_shadow_pages.Working.{Working, content}
use Rattle.pack_slots.specs.of_inode_switch.View.{view}
use Rattle.inode_pack.specs.of_new_contents.Marked.{is_marked}
use Rattle.inode_pack.specs.Pack.{PackState}
use Rattle.pack_slots.specs.Copies.{copy_of}
use Rattle.inode_pack.specs.Committing.{RestsOn, blocks_over, size_of, content_of}
use Rattle.pack_layout.specs.of_stored_versions.Changes.{IsKept}

-- with the new pages in the place of the inode's, its content is this one
pub record Fills (pack : PackState) (ino : ℕ) (new : List ℕ) (w : Working) (image : List ℕ) : Type 0 where
  pub rests : RestsOn (size_of (copy_of pack.copies ino)) w
  pub is : content (content_of (view image pack.base ino)) w ≡ new

abbrev pub FillsAt : Option PackState → ℕ → List ℕ → Working → List ℕ → Type 0
FillsAt None ino new w image = ⊥
FillsAt (Some pack) ino new w image = Fills pack ino new w image

-- the pages and the tables that are written with the new pages in the place of the inode's
abbrev pub blocks_at : Option PackState → ℕ → Working → ℕ
blocks_at None ino w = 0
blocks_at (Some pack) ino w = blocks_over (copy_of pack.copies ino) w

-- each page of the new content that isn't marked is that of the old one
abbrev pub KeepsRest : List ℕ → List ℕ → List Bool → Type 0
KeepsRest old new marks = (page : ℕ) → page < pages_of (length new) → is_marked marks page ≡ false → IsKept old new page
