-- The pages of versions that a site keeps, the one that was used last first.
use Rattle.std.specs.Prelude.{ℕ, ◌-◌, ◌==◌, Bool, ◌&&◌, List, ◌∷◌, take, Option, None, Some}
use Rattle.std.specs.Map.{lookup, remove_entry}
use Rattle.page_cache.specs.declared.page_name.PageName.{PageName}

-- how many pages a site keeps
abbrev pub cached_pages_max : ℕ
cached_pages_max = 256

-- each with its bytes, as many as a page has: zeros follow the end of its version
abbrev pub CachedPages : Type 0
CachedPages = List (PageName × List ℕ)

abbrev pub same_page : PageName → PageName → Bool
same_page a b =
    ((a.file.group == b.file.group) && (a.file.ino == b.file.ino)) && (((a.stamp.site == b.stamp.site) && (a.stamp.n == b.stamp.n)) && (a.page == b.page))

-- the bytes of a page, where it is kept
abbrev pub found : PageName → CachedPages → Option (List ℕ)
found name pages = lookup (same_page name) pages

abbrev pub without_page : PageName → CachedPages → CachedPages
without_page name pages = remove_entry (same_page name) pages

abbrev pub first_or_same : PageName → CachedPages → Option (List ℕ) → CachedPages
first_or_same name pages None = pages
first_or_same name pages (Some bytes) = (name, bytes) ∷ without_page name pages

-- a page that is kept comes to the front, and the others keep their order
abbrev pub brought_first : PageName → CachedPages → CachedPages
brought_first name pages = first_or_same name pages (found name pages)

-- where the page is a new one, all others stay that have room beside it
abbrev pub others_beside : PageName → CachedPages → Option (List ℕ) → CachedPages
others_beside name pages None = take (cached_pages_max - 1) pages
others_beside name pages (Some old) = without_page name pages

-- the page with these bytes in front, and the others in their order; the last one goes where there is no room
abbrev pub with_page : PageName → List ℕ → CachedPages → CachedPages
with_page name bytes pages = (name, bytes) ∷ others_beside name pages (found name pages)
