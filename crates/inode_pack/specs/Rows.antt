-- Pages in a row, and the least data page that may be free: what keeps a commit from passing over all pages.
use Rattle.std.specs.Prelude.{◌≡◌, ℕ, ◌<◌, ◌≤◌, List, replicate, slice_index, slice_index_or, Option, None, Some}
use Rattle.locus_ids.specs.Sizes.{inodes_max, content_pages_max, pack_pages}
use Rattle.pack_layout.specs.Layout.{none}
use Rattle.pack_slots.specs.declared.inode_copy.InodeCopy.{InodeCopy}
use Rattle.pack_slots.specs.Copies.{numbers_in}

-- two contents have the same data pages but for those from `first` up to `stop`
abbrev pub SameButFor : ℕ → ℕ → List ℕ → List ℕ → Type 0
SameButFor first stop old made = (i : ℕ) → i < content_pages_max → ((first ≤ i) × (i < stop) → ⊥) → slice_index old i ≡ slice_index made i

-- the page numbers of a copy so far: none where there is none
abbrev pub numbers_so_far : Option InodeCopy → List ℕ
numbers_so_far None = replicate content_pages_max none
numbers_so_far (Some copy) = numbers_in copy

-- no data page below this one is free
pub record NoneBelow (least : ℕ) (uses : List ℕ) : Type 0 where
  pub most : least ≤ pack_pages
  pub named : (page : ℕ) → page < least → 1 ≤ slice_index uses page

-- no inode above this one has a copy
pub record NoneAbove (last : ℕ) (copies : List (Option InodeCopy)) : Type 0 where
  pub most : last ≤ inodes_max
  pub none : (i : ℕ) → last ≤ i → slice_index_or copies i None ≡ None

-- how many copies name each data page, and how many pages no copy names
pub record PageUses : Type 0 where
  pub uses : List ℕ
  pub free : ℕ
