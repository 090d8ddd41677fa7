-- What names of pages find, and how the entries of a list of pages stand after a page was used.
use Rattle.std.proofs.Common.{◌≡◌, ℕ, ◌-◌, ◌==◌, Bool, true, false, ◌&&◌, cond, List, [], ◌∷◌, take, Option, Some, None, refl, sym, ap, ◌∙◌}
use Rattle.std.specs.Map.{lookup_entry}
use Rattle.std.specs.Option.{option_map_or}
use Rattle.lru.specs.LruCache.{LruCache, lru_cache, promoted, put_entries}
use Rattle.plain_facts.proofs.Tests.{both_true}
use Rattle.plain_facts.proofs.Numbers.{equal}
use Rattle.page_cache.specs.declared.page_name.PageName.{PageName}
use Rattle.page_cache.specs.Cached.{CachedPages, cached_pages_max, brought_first, first_or_same, found, others_beside, same_page, with_page, without_page}

abbrev named : ℕ → ℕ → ℕ → ℕ → ℕ → PageName
named g i s n p = record { file = record { group = g; ino = i }; stamp = record { site = s; n = n }; page = p }

-- equal names are one name
pub same_is : (a b : PageName) → same_page a b ≡ true → a ≡ b
same_is a b e =
    let f = both_true ((a.file.group == b.file.group) && (a.file.ino == b.file.ino)) (((a.stamp.site == b.stamp.site) && (a.stamp.n == b.stamp.n)) && (a.page == b.page)) e in
    let g = both_true (a.file.group == b.file.group) (a.file.ino == b.file.ino) f.0 in
    let h = both_true ((a.stamp.site == b.stamp.site) && (a.stamp.n == b.stamp.n)) (a.page == b.page) f.1 in
    let i = both_true (a.stamp.site == b.stamp.site) (a.stamp.n == b.stamp.n) h.0 in
    ap (λ x. named x a.file.ino a.stamp.site a.stamp.n a.page) (equal a.file.group b.file.group g.0)
    ∙ (ap (λ x. named b.file.group x a.stamp.site a.stamp.n a.page) (equal a.file.ino b.file.ino g.1)
    ∙ (ap (λ x. named b.file.group b.file.ino x a.stamp.n a.page) (equal a.stamp.site b.stamp.site i.0)
    ∙ (ap (λ x. named b.file.group b.file.ino b.stamp.site x a.page) (equal a.stamp.n b.stamp.n i.1)
    ∙ ap (named b.file.group b.file.ino b.stamp.site b.stamp.n) (equal a.page b.page h.1))))

module _ (name : PageName) where
  -- the entry that is found has these bytes, and the name
  abbrev Tells : Option (List ℕ) → Option (PageName × List ℕ) → Type 0
  Tells bytes None = bytes ≡ None
  Tells bytes (Some e) = (bytes ≡ Some e.1) × (e.0 ≡ name)

  entry_tells : (pages : CachedPages) → Tells (found name pages) (lookup_entry (same_page name) pages)
  entry_tells [] = refl
  entry_tells (e ∷ es) = at (same_page name e.0) refl (entry_tells es)
    where
      at : (b : Bool) → same_page name e.0 ≡ b → Tells (found name es) (lookup_entry (same_page name) es) → Tells (cond b (Some e.1) (found name es)) (cond b (Some e) (lookup_entry (same_page name) es))
      at true t later = (refl, sym (same_is name e.0 t))
      at false t later = later

  put_so : (bytes : List ℕ) (pages : CachedPages) (b : Option (List ℕ)) (o : Option (PageName × List ℕ)) → Tells b o → option_map_or (λ e. (e.0, bytes) ∷ without_page name pages) o ((name, bytes) ∷ take (cached_pages_max - 1) pages) ≡ (name, bytes) ∷ others_beside name pages b
  put_so bytes pages b None t = ap (λ x. (name, bytes) ∷ others_beside name pages x) (sym t)
  put_so bytes pages b (Some e) t = ap (λ k. (k, bytes) ∷ without_page name pages) t.1 ∙ ap (λ x. (name, bytes) ∷ others_beside name pages x) (sym t.0)

  -- a page that is put stands in front
  pub put_is : (bytes : List ℕ) (pages : CachedPages) → put_entries same_page (lru_cache pages cached_pages_max) name bytes ≡ with_page name bytes pages
  put_is bytes pages = put_so bytes pages (found name pages) (lookup_entry (same_page name) pages) (entry_tells pages)

  promoted_so : (pages : CachedPages) (b : Option (List ℕ)) (o : Option (PageName × List ℕ)) → Tells b o → option_map_or (λ e. e ∷ without_page name pages) o pages ≡ first_or_same name pages b
  promoted_so pages b None t = ap (first_or_same name pages) (sym t)
  promoted_so pages b (Some e) t = ap (λ k. (k, e.1) ∷ without_page name pages) t.1 ∙ ap (first_or_same name pages) (sym t.0)

  -- a page that is found comes to the front
  pub promoted_is : (pages : CachedPages) → promoted (same_page name) pages ≡ brought_first name pages
  promoted_is pages = promoted_so pages (found name pages) (lookup_entry (same_page name) pages) (entry_tells pages)

-- what the list has after a page was used
pub used_by : (name : PageName) (old new : LruCache PageName (List ℕ)) → old.cap ≡ cached_pages_max → new ≡ lru_cache (promoted (same_page name) old.entries) old.cap → (new.entries ≡ brought_first name old.entries) × (new.cap ≡ cached_pages_max)
used_by name old new room e = (
  ap (λ (c : LruCache PageName (List ℕ)). c.entries) e ∙ promoted_is name old.entries,
  ap (λ (c : LruCache PageName (List ℕ)). c.cap) e ∙ room,
)

-- and after one was put into the list of these pages
pub put_to : (name : PageName) (bytes : List ℕ) (pages : CachedPages) (list new : LruCache PageName (List ℕ)) → list ≡ lru_cache pages cached_pages_max → new ≡ lru_cache (put_entries same_page list name bytes) list.cap → new.entries ≡ with_page name bytes pages
put_to name bytes pages list new l e =
    ap (λ (c : LruCache PageName (List ℕ)). c.entries) e
    ∙ (ap (λ (c : LruCache PageName (List ℕ)). put_entries same_page c name bytes) l ∙ put_is name bytes pages)

-- a list with these pages, and with room for as many as a site keeps
pub list_is : (pages : CachedPages) (list : LruCache PageName (List ℕ)) → list.entries ≡ pages → list.cap ≡ cached_pages_max → list ≡ lru_cache pages cached_pages_max
list_is pages list e room = ap (λ (es : CachedPages). lru_cache es list.cap) e ∙ ap (lru_cache pages) room
