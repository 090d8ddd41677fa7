-- What is read of a content.
use Rattle.std.specs.Prelude.{◌≡◌, ℕ, ◌<◌, ◌≤◌, List, length, Some}
use Rattle.locus_ids.specs.Sizes.{content_bytes_max}
use Rattle.file_content.specs.Pages.{pages_of}
use Rattle.pack_slots.specs.of_inode_switch.View.{Version, view}
use Rattle.inode_pack.specs.Pack.{PackState, HasPage}

-- the inode has a version there whose content has so many bytes
pub record HasContent (pack : PackState) (ino bytes : ℕ) (image : List ℕ) : Type 0 where
  pub version : Version
  pub seen : view image pack.base ino ≡ Some version
  pub size : length version.content ≡ bytes
  pub few : bytes ≤ content_bytes_max
  pub pages : (page : ℕ) → page < pages_of bytes → HasPage pack ino page
