-- Pages that are right stay so, whichever goes, comes to the front or is put.
use Rattle.std.proofs.Common.{◌≡◌, ◌≤◌, ◌<◌, ℕ, zero, suc, ◌+◌, ◌-◌, ◌*◌, min, nat_le, Bool, true, false, cond, ◌⊎◌, inl, inr, List, [], ◌∷◌, length, take, drop, Option, Some, None, refl, sym, ap, ◌∙◌, subst, arith}
use Rattle.std.proofs.lemmas.List.{length-take, length-drop, take-take, drop-drop}
use Rattle.std.specs.Option.{is_some}
use Rattle.plain_facts.proofs.Numbers.{at_most}
use Rattle.plain_facts.proofs.Options.{none_some, some_same}
use Rattle.plain_facts.proofs.Tests.{both_true}
use Rattle.locus_ids.specs.Sizes.{page_bytes}
use Rattle.locus_ids.specs.declared.ids.FileId.{FileId}
use Rattle.locus_ids.specs.declared.ids.Stamp.{Stamp}
use Rattle.page_cache.specs.declared.page_name.PageName.{PageName}
use Rattle.page_cache.specs.declared.part.Part.{Part}
use Rattle.page_cache.specs.Cached.{CachedPages, cached_pages_max, brought_first, first_or_same, found, others_beside, same_page, with_page, without_page}
use Rattle.page_cache.specs.Parts.{first_page, is_whole, looked_up, looked_up_from, name_in, padded, page_among, page_end, part_length, put_from, with_part}
use Rattle.page_cache.proofs.Names.{same_is}
use Rattle.tree_laws.specs.Caches.Right.{AreRight, HasContent, IsRight, bytes_of, page_in}
use Rattle.tree_laws.proofs.Caches.Lists.{drop_taken, order, take_same}

module _ (contents : FileId → Stamp → Option (List ℕ)) where
  right_without : (name : PageName) (pages : CachedPages) → AreRight contents pages → AreRight contents (without_page name pages)
  right_without name [] h = tt
  right_without name (e ∷ es) h = at (same_page name e.0) (right_without name es h.1)
    where
      at : (b : Bool) → AreRight contents (without_page name es) → AreRight contents (cond b es (e ∷ without_page name es))
      at true later = h.1
      at false later = (h.0, later)

  right_first_ones : (n : ℕ) (pages : CachedPages) → AreRight contents pages → AreRight contents (take n pages)
  right_first_ones zero pages h = tt
  right_first_ones (suc n) [] h = tt
  right_first_ones (suc n) (e ∷ es) h = (h.0, right_first_ones n es h.1)

  -- a page that is found is right
  pub right_found : (name : PageName) (pages : CachedPages) (bytes : List ℕ) → AreRight contents pages → found name pages ≡ Some bytes → IsRight contents name bytes
  right_found name [] bytes h f = absurd (none_some bytes f)
  right_found name (e ∷ es) bytes h f = at (same_page name e.0) refl (right_found name es bytes h.1) f
    where
      at : (b : Bool) → same_page name e.0 ≡ b → (found name es ≡ Some bytes → IsRight contents name bytes) → cond b (Some e.1) (found name es) ≡ Some bytes → IsRight contents name bytes
      at true t later g = subst (λ k. IsRight contents k bytes) (sym (same_is name e.0 t)) (subst (IsRight contents e.0) (some_same e.1 bytes g) h.0)
      at false t later g = later g

  right_first : (name : PageName) (pages : CachedPages) → AreRight contents pages → AreRight contents (brought_first name pages)
  right_first name pages h = at (found name pages) refl
    where
      at : (o : Option (List ℕ)) → found name pages ≡ o → AreRight contents (first_or_same name pages o)
      at None f = h
      at (Some bytes) f = (right_found name pages bytes h f, right_without name pages h)

  right_with : (name : PageName) (bytes : List ℕ) (pages : CachedPages) → IsRight contents name bytes → AreRight contents pages → AreRight contents (with_page name bytes pages)
  right_with name bytes pages g h = (g, at (found name pages))
    where
      at : (o : Option (List ℕ)) → AreRight contents (others_beside name pages o)
      at None = right_first_ones (cached_pages_max - 1) pages h
      at (Some old) = right_without name pages h

  right_looked : (p : Part) (page more : ℕ) (pages : CachedPages) → AreRight contents pages → AreRight contents (looked_up_from p page more pages)
  right_looked p page zero pages h = h
  right_looked p page (suc more) pages h =
      at (is_some (found (name_in p page) pages)) (right_looked p (page + 1) more (brought_first (name_in p page) pages) (right_first (name_in p page) pages h))
    where
      at : (b : Bool) → AreRight contents (looked_up_from p (page + 1) more (brought_first (name_in p page) pages)) → AreRight contents (cond b (looked_up_from p (page + 1) more (brought_first (name_in p page) pages)) pages)
      at true later = later
      at false later = h

  pub stay_looked : (p : Part) (pages : CachedPages) → AreRight contents pages → AreRight contents (looked_up p pages)
  stay_looked p pages h = right_looked p (first_page p) (page_end p (part_length p) - first_page p) pages h

  right_put : (p : Part) (bytes : List ℕ) → ((page : ℕ) → is_whole p (length bytes) page ≡ true → IsRight contents (name_in p page) (page_among p bytes page)) → (page more : ℕ) (pages : CachedPages) → AreRight contents pages → AreRight contents (put_from p bytes page more pages)
  right_put p bytes whole page zero pages h = h
  right_put p bytes whole page (suc more) pages h =
      right_put p bytes whole (page + 1) more (cond (is_whole p (length bytes) page) (with_page (name_in p page) (page_among p bytes page) pages) pages) (at (is_whole p (length bytes) page) refl)
    where
      at : (b : Bool) → is_whole p (length bytes) page ≡ b → AreRight contents (cond b (with_page (name_in p page) (page_among p bytes page) pages) pages)
      at true t = right_with (name_in p page) (page_among p bytes page) pages (whole page t) h
      at false t = h

whole_list : (xs : List ℕ) → take (length xs) xs ≡ xs
whole_list [] = refl
whole_list (x ∷ xs) = ap (λ ys. x ∷ ys) (whole_list xs)

-- so many bytes of a list are all that are wanted of it, where they go as far as these or the list
whole_by : (n s at len size got left : ℕ) (xs : List ℕ) → at ≤ s → left ≡ size - s → length xs ≡ left → got ≡ min len (size - at) → min (s + n) size ≤ at + got → (n ≤ len - (s - at)) ⊎ (len - (s - at) < n) → take n (take (len - (s - at)) xs) ≡ take n xs
whole_by n s at len size got left xs l b e g w (inl m) = take-take n (len - (s - at)) xs m
whole_by n s at len size got left xs l b e g w (inr m) =
    let all : length xs ≤ len - (s - at) = omega (arith, m, b, e, g, l, w) in
    let own : length xs ≤ length xs = omega arith in
    ap (take n) (take_same (len - (s - at)) (length xs) xs (inr (all, own)) ∙ whole_list xs)

-- so many bytes from a place on, as a part brings them, are those of the content
whole_so : (n s at len size : ℕ) (content bytes : List ℕ) → length content ≡ size → bytes ≡ take len (drop at content) → at ≤ s → min (s + n) size ≤ at + length bytes → take n (drop (s - at) bytes) ≡ take n (drop s content)
whole_so n s at len size content bytes c b l w =
    let there : at + (s - at) ≡ s = omega (arith, l) in
    let from_here : drop (s - at) bytes ≡ take (len - (s - at)) (drop s content) = ap (drop (s - at)) b ∙ (drop_taken (s - at) len (drop at content) ∙ (ap (take (len - (s - at))) (drop-drop (s - at) at content) ∙ ap (λ k. take (len - (s - at)) (drop k content)) there)) in
    let got : length bytes ≡ min len (size - at) = ap length b ∙ (length-take len (drop at content) ∙ (ap (min len) (length-drop at content) ∙ ap (λ k. min len (k - at)) c)) in
    ap (take n) from_here
    ∙ whole_by n s at len size (length bytes) (size - s) (drop s content) l refl (length-drop s content ∙ ap (λ k. k - s) c) got w (order n (len - (s - at)))

whole_page : (p : Part) (content : List ℕ) (page : ℕ) → length content ≡ p.size → is_whole p (length (bytes_of p content)) page ≡ true → page_among p (bytes_of p content) page ≡ page_in content page
whole_page p content page c w =
    let both = both_true (nat_le p.at (page_bytes * page)) (nat_le (min (page_bytes * page + page_bytes) p.size) (p.at + length (bytes_of p content))) w in
    ap padded (whole_so page_bytes (page_bytes * page) p.at p.len p.size content (bytes_of p content) c refl (at_most p.at (page_bytes * page) both.0) (at_most (min (page_bytes * page + page_bytes) p.size) (p.at + length (bytes_of p content)) both.1))

pub stay_put : (contents : FileId → Stamp → Option (List ℕ)) (p : Part) (content : List ℕ) (pages : CachedPages) → AreRight contents pages → HasContent contents p content → AreRight contents (with_part p (bytes_of p content) pages)
stay_put contents p content pages h g =
    right_put contents p (bytes_of p content) (λ page w. record { content = content; is_content = g.is_content; bytes_are = whole_page p content page g.size w }) (first_page p) (page_end p (length (bytes_of p content)) - first_page p) pages h

-- and so they do where more contents are told
pub stay_told : (old new : FileId → Stamp → Option (List ℕ)) → ((file : FileId) (stamp : Stamp) (content : List ℕ) → old file stamp ≡ Some content → new file stamp ≡ Some content) → (pages : CachedPages) → AreRight old pages → AreRight new pages
stay_told old new more [] h = tt
stay_told old new more (e ∷ es) h = (record { content = h.0.content; is_content = more e.0.file e.0.stamp h.0.content h.0.is_content; bytes_are = h.0.bytes_are }, stay_told old new more es h.1)
