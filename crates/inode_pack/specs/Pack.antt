-- What a pack knows of its area, and which disks it stands on.
use Rattle.std.specs.Prelude.{◌≡◌, ℕ, ◌+◌, ◌*◌, ◌<◌, ◌≤◌, List, length, slice_index, Option, None, Some}
use Rattle.locus_ids.specs.Sizes.{page_bytes}
use Rattle.disk_model.specs.Disk.{Moment, IsSettled}
use Rattle.file_content.specs.Pages.{pages_of}
use Rattle.pack_layout.specs.Layout.{area_length}
use Rattle.pack_slots.specs.declared.inode_copy.InodeCopy.{InodeCopy}
use Rattle.pack_slots.specs.Copies.{copy_of, numbers_in, IsPackOf, ShowsCopies}

-- where the area begins, the group and the site, and the copy of each inode from 1 on, where there is one
pub record PackState : Type 0 where
  pub base : ℕ
  pub group : ℕ
  pub site : ℕ
  pub copies : List (Option InodeCopy)

-- in this image the area is this pack
pub record Shows (pack : PackState) (image : List ℕ) : Type 0 where
  pub area : pack.base + area_length ≤ length image
  pub named : IsPackOf pack.base pack.group pack.site image
  pub copies : ShowsCopies pack.base image (copy_of pack.copies)

-- the pack stands on the disk: a read shows it, and a crash leaves what a read gives
pub record Stands (pack : PackState) (moment : Moment) : Type 0 where
  pub settled : IsSettled moment
  pub shows : Shows pack moment.seen

-- this inode has a copy whose content has this page
pub record HasPage (pack : PackState) (ino page : ℕ) : Type 0 where
  pub copy : InodeCopy
  pub held : copy_of pack.copies ino ≡ Some copy
  pub inside : page < pages_of copy.slot.size

-- the data page where page i of an inode's content stands; 0 where there is no copy
abbrev pub number_in : Option InodeCopy → ℕ → ℕ
number_in None i = 0
number_in (Some copy) i = slice_index (numbers_in copy) i

-- so many bytes of a page are those of the content there
abbrev pub IsPageOf : List ℕ → ℕ → List ℕ → Type 0
IsPageOf content page bytes = (k : ℕ) → k < page_bytes → page_bytes * page + k < length content → slice_index content (page_bytes * page + k) ≡ slice_index bytes k
