-- Parts of versions: read out of the pages that a site keeps, and put among them.
use Rattle.std.specs.Prelude.{ℕ, zero, suc, ◌+◌, ◌-◌, ◌*◌, ◌/◌, min, Bool, ◌&&◌, cond, nat_le, nat_lt, List, [], ◌++◌, take, drop, replicate, length, Option, None, Some}
use Rattle.std.specs.Option.{is_some, option_map}
use Rattle.locus_ids.specs.Sizes.{page_bytes}
use Rattle.page_cache.specs.declared.page_name.PageName.{PageName}
use Rattle.page_cache.specs.declared.part.Part.{Part}
use Rattle.page_cache.specs.Cached.{CachedPages, brought_first, found, with_page}

-- a page of the version
abbrev pub name_in : Part → ℕ → PageName
name_in p page = record { file = p.file; stamp = p.stamp; page = page }

-- how many bytes it has: as many as are asked and the version has there
abbrev pub part_length : Part → ℕ
part_length p = min p.len (p.size - p.at)

abbrev pub first_page : Part → ℕ
first_page p = p.at / page_bytes

-- the page behind the last one that so many bytes from its place on touch; the first one where there are no bytes
abbrev pub page_end : Part → ℕ → ℕ
page_end p count = cond (nat_lt 0 count) ((p.at + count + (page_bytes - 1)) / page_bytes) (first_page p)

-- ---- read ----

-- those of its bytes that a page has
abbrev pub bytes_within : Part → ℕ → List ℕ → List ℕ
bytes_within p page bytes = drop (p.at - page_bytes * page) (take (p.at + part_length p - page_bytes * page) bytes)

abbrev pub and_behind : Option (List ℕ) → Option (List ℕ) → Option (List ℕ)
and_behind None later = None
and_behind (Some bytes) later = option_map (λ more. bytes ++ more) later

-- its bytes in so many pages from this one on, where each of them is kept
abbrev pub bytes_from : Part → (page more : ℕ) → CachedPages → Option (List ℕ)
bytes_from p page zero pages = Some []
bytes_from p page (suc more) pages = and_behind (option_map (bytes_within p page) (found (name_in p page) pages)) (bytes_from p (page + 1) more pages)

-- its bytes, where all its pages are kept; nothing where it has none
abbrev pub held_part : Part → CachedPages → Option (List ℕ)
held_part p pages = cond (nat_lt 0 (part_length p)) (bytes_from p (first_page p) (page_end p (part_length p) - first_page p) pages) None

-- so many pages are looked up from this one on, up to the first that isn't kept; each that is found comes to the front
abbrev pub looked_up_from : Part → (page more : ℕ) → CachedPages → CachedPages
looked_up_from p page zero pages = pages
looked_up_from p page (suc more) pages = cond (is_some (found (name_in p page) pages)) (looked_up_from p (page + 1) more (brought_first (name_in p page) pages)) pages

-- all its pages are
abbrev pub looked_up : Part → CachedPages → CachedPages
looked_up p pages = looked_up_from p (first_page p) (page_end p (part_length p) - first_page p) pages

-- ---- put ----

-- so many bytes from its place on bring the page whole: from its start to its end, or to that of the version
abbrev pub is_whole : Part → ℕ → ℕ → Bool
is_whole p count page = nat_le p.at (page_bytes * page) && nat_le (min (page_bytes * page + page_bytes) p.size) (p.at + count)

abbrev pub padded : List ℕ → List ℕ
padded bytes = bytes ++ replicate (page_bytes - length bytes) 0

-- a page out of the bytes from its place on, with zeros behind them
abbrev pub page_among : Part → List ℕ → ℕ → List ℕ
page_among p bytes page = padded (take page_bytes (drop (page_bytes * page - p.at) bytes))

-- a page is put, where the bytes bring it whole
abbrev pub with_whole : Part → List ℕ → ℕ → CachedPages → CachedPages
with_whole p bytes page pages = cond (is_whole p (length bytes) page) (with_page (name_in p page) (page_among p bytes page) pages) pages

-- so many pages from this one on are
abbrev pub put_from : Part → List ℕ → (page more : ℕ) → CachedPages → CachedPages
put_from p bytes page zero pages = pages
put_from p bytes page (suc more) pages = put_from p bytes (page + 1) more (with_whole p bytes page pages)

-- the pages that these bytes, which begin at its place, bring whole are put, the later ones in front
abbrev pub with_part : Part → List ℕ → CachedPages → CachedPages
with_part p bytes pages = put_from p bytes (first_page p) (page_end p (length bytes) - first_page p) pages
