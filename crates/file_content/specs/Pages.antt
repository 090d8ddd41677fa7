-- The pages of a content, of 1,024 bytes each, numbered from 0. The last one may be shorter.
use Rattle.std.specs.Prelude.{ℕ, zero, suc, ◌+◌, ◌-◌, ◌*◌, ◌/◌, ◌==◌, min, Bool, true, false, not, ◌&&◌, ◌||◌, cond, nat_lt, nat_le, List, [], ◌∷◌, ◌++◌, length, filter}
use Rattle.std.specs.List.{list_any}
use Rattle.std.specs.Str.{bytes_eq}
use Rattle.locus_ids.specs.Sizes.{page_bytes, slot_pages, table_pages, content_tables_max}
use Rattle.file_content.specs.Contents.{part}

-- how many pages so many bytes take
abbrev pub pages_of : ℕ → ℕ
pages_of size = (size + (page_bytes - 1)) / page_bytes

-- the bytes of a page, and none of a page past the end
abbrev pub page_of : List ℕ → ℕ → List ℕ
page_of content page = part content (page_bytes * page) page_bytes

-- so many page numbers, from this one on
abbrev pub pages_from : ℕ → ℕ → List ℕ
pages_from first zero = []
pages_from first (suc more) = first ∷ pages_from (first + 1) more

-- the pages that meet the bytes from this place up to that end
abbrev pub pages_between : ℕ → ℕ → List ℕ
pages_between from end = cond (nat_lt from end) (pages_from (from / page_bytes) (pages_of end - from / page_bytes)) []

-- the pages that a write changes: those from its place, or from the old end where that is less, up to its own end, also
-- where the bytes are the same
abbrev pub pages_written : List ℕ → ℕ → List ℕ → List ℕ
pages_written content at bytes = pages_between (min at (length content)) (at + length bytes)

-- the page isn't what it was: other bytes, or more or fewer
abbrev pub is_replaced : List ℕ → List ℕ → ℕ → Bool
is_replaced old new page = not (bytes_eq (page_of new page) (page_of old page))

-- the pages of the new content that are new or other than they were
abbrev pub pages_replaced : List ℕ → List ℕ → List ℕ
pages_replaced old new = filter (is_replaced old new) (pages_from 0 (pages_of (length new)))

-- Lists of pages that were changed: each page stands once.

abbrev pub has_page : List ℕ → ℕ → Bool
has_page changed page = list_any (λ p. p == page) changed

-- the changed pages, with this one
abbrev pub with_page : ℕ → List ℕ → List ℕ
with_page page changed = cond (has_page changed page) changed (changed ++ page ∷ [])

-- the changed pages, with these
abbrev pub with_pages : List ℕ → List ℕ → List ℕ
with_pages [] changed = changed
with_pages (page ∷ more) changed = with_pages more (with_page page changed)

-- those of the changed pages that begin before the end of a content of this size
abbrev pub pages_within : ℕ → List ℕ → List ℕ
pages_within size changed = filter (λ page. nat_lt (page_bytes * page) size) changed

-- how many of the pages weren't changed before: so many free pages are needed to change them all
abbrev pub pages_needed : List ℕ → List ℕ → ℕ
pages_needed pages changed = length (filter (λ page. not (has_page changed page)) pages)

-- What a version writes.

-- an ascending list of pages, with this one at its place
abbrev pub placed : ℕ → List ℕ → List ℕ
placed page [] = page ∷ []
placed page (p ∷ ps) = elim (nat_le page p) [ true ↦ page ∷ p ∷ ps | false ↦ p ∷ placed page ps ]

-- the pages, ascending
abbrev pub ascending : List ℕ → List ℕ
ascending [] = []
ascending (page ∷ pages) = placed page (ascending pages)

-- Page numbers stand in a slot as far as it has room, and else in tables.

-- under which table a page stands that the slot doesn't name
abbrev pub table_of : ℕ → ℕ
table_of page = (page - slot_pages) / table_pages

-- the table has the number of this page
abbrev pub is_under : ℕ → ℕ → Bool
is_under table page = nat_le slot_pages page && (table_of page == table)

-- how many pages of a content with so many stand under a table
abbrev pub pages_under : (table pages : ℕ) → ℕ
pages_under table pages = min table_pages (pages - (slot_pages + table_pages * table))

-- how many tables a content has with so many pages
abbrev pub tables_of : ℕ → ℕ
tables_of pages = (pages - slot_pages + (table_pages - 1)) / table_pages

-- a table is written anew exactly where the version has pages under it, and other ones than before: one of them is written,
-- or they are more or fewer
abbrev pub is_table_written : (before now : ℕ) → (pages : List ℕ) → ℕ → Bool
is_table_written before now pages table =
    nat_lt 0 (pages_under table now) && (not (pages_under table before == pages_under table now) || list_any (is_under table) pages)

-- The tables of page numbers that a version writes, where the version before it had so many pages (0 where there is none), it
-- has so many itself, and these of them are written.
abbrev pub tables_written : (before now : ℕ) → List ℕ → List ℕ
tables_written before now pages = filter (is_table_written before now pages) (pages_from 0 content_tables_max)
