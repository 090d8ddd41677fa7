-- What the list of a cache holds, which is made with its first page.
use Rattle.std.specs.Prelude.{ℕ, ◌≡◌, List, [], Option, None, Some}
use Rattle.lru.specs.LruCache.{LruCache}
use Rattle.page_cache.specs.declared.page_name.PageName.{PageName}
use Rattle.page_cache.specs.Cached.{CachedPages, cached_pages_max}

abbrev pub kept_in : Option (LruCache PageName (List ℕ)) → CachedPages
kept_in None = []
kept_in (Some list) = list.entries

-- there is room for as many pages as a site keeps
abbrev pub HasRoom : Option (LruCache PageName (List ℕ)) → Type 0
HasRoom None = Unit {0}
HasRoom (Some list) = list.cap ≡ cached_pages_max
