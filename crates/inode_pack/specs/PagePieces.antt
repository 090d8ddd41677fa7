-- The bytes that a commit writes: its changed pages, each at its data page, its new tables, and the slot behind its gate.
use Rattle.std.specs.Prelude.{◌≡◌, ℕ, zero, suc, ◌+◌, ◌<◌, List, [], ◌∷◌, ◌++◌, length, drop, filter, Bool, false, slice_index, slice_index_or, Some}
use Rattle.locus_ids.specs.Sizes.{page_bytes, content_tables_max}
use Rattle.file_content.specs.Pages.{pages_of, pages_from}
use Rattle.pack_layout.specs.Layout.{slot_at, table_at, page_at, slot_bytes, table_bytes, numbers_under}
use Rattle.new_contents.specs.of_shadow_pages.Working.{Working, page_at as shadow_page}
use Rattle.new_contents.specs.Changed.{piece_at}
use Rattle.gate_switch.specs.Switch.{Piece}
use Rattle.pack_slots.specs.declared.inode_copy.InodeCopy.{InodeCopy}
use Rattle.pack_slots.specs.Copies.{numbers_in}

-- the changed ones of the first n pages, ascending
abbrev pub page_pieces : ℕ → List ℕ → Working → ℕ → List Piece
page_pieces base numbers w zero = []
page_pieces base numbers w (suc n) = page_pieces base numbers w n ++ piece_at (page_at base (slice_index numbers n)) (shadow_page w.pages n)

-- a table with page numbers of the copy
abbrev pub table_piece : ℕ → InodeCopy → ℕ → Piece
table_piece base made k = record { at = table_at base (slice_index made.slot.tables k); bytes = table_bytes (numbers_under (numbers_in made) k) }

abbrev pub table_pieces : ℕ → InodeCopy → List ℕ → List Piece
table_pieces base made [] = []
table_pieces base made (k ∷ ks) = table_piece base made k ∷ table_pieces base made ks

-- the tables that are marked, ascending
abbrev pub marked_tables : List Bool → List ℕ
marked_tables marks = filter (λ k. slice_index_or marks k false) (pages_from 0 content_tables_max)

-- the slot but for its gate
abbrev pub body_piece : ℕ → InodeCopy → Piece
body_piece base made = record { at = slot_at base made.slot.ino made.half + 1; bytes = drop 1 (slot_bytes made.slot) }

-- the changed pages and these tables of the copy
abbrev pub block_pieces : ℕ → InodeCopy → List ℕ → Working → List Piece
block_pieces base made tables w = page_pieces base (numbers_in made) w (pages_of w.size) ++ table_pieces base made tables

abbrev pub pieces_of : ℕ → InodeCopy → List ℕ → Working → List Piece
pieces_of base made tables w = block_pieces base made tables w ++ body_piece base made ∷ []

-- each changed one of the first n pages has 1,024 bytes
abbrev pub AreWhole : Working → ℕ → Type 0
AreWhole w n = (i : ℕ) (page : List ℕ) → i < n → shadow_page w.pages i ≡ Some page → length page ≡ page_bytes
