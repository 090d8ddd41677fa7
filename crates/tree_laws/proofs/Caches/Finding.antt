-- What is found of a part among right pages is what its version has there.
use Rattle.std.proofs.Common.{◌≡◌, ◌≤◌, ◌<◌, ℕ, zero, suc, ◌+◌, ◌-◌, ◌*◌, ◌/◌, min, nat_lt, Bool, true, false, cond, ◌⊎◌, inl, inr, List, [], ◌++◌, length, take, drop, Option, Some, None, refl, sym, ap, ◌∙◌, arith}
use Rattle.std.proofs.lemmas.List.{length-drop, drop-drop}
use Rattle.std.specs.Option.{option_map}
use Rattle.plain_facts.proofs.Numbers.{less}
use Rattle.plain_facts.proofs.Options.{none_some, some_same}
use Rattle.locus_ids.specs.Sizes.{page_bytes}
use Rattle.locus_ids.specs.declared.ids.FileId.{FileId}
use Rattle.locus_ids.specs.declared.ids.Stamp.{Stamp}
use Rattle.page_cache.specs.declared.part.Part.{Part}
use Rattle.page_cache.specs.Cached.{CachedPages, found}
use Rattle.page_cache.specs.Parts.{and_behind, bytes_from, bytes_within, first_page, held_part, name_in, page_end, part_length}
use Rattle.tree_laws.specs.Caches.Right.{AreRight, HasContent, IsRight, bytes_of, page_in}
use Rattle.tree_laws.proofs.Caches.Lists.{drop_none, drop_taken, order, piece_split, take_padded, take_same}
use Rattle.tree_laws.proofs.Caches.Staying.{right_found}

-- the bytes of a content from a place up to an end, as far as they stand in this page or behind it
abbrev bytes_left : ℕ → ℕ → ℕ → List ℕ → List ℕ
bytes_left at end page content = drop (at - page_bytes * page) (take (end - page_bytes * page) (drop (page_bytes * page) content))

-- those of a page, and those of the pages behind it
next_piece : (at end page : ℕ) (content kept rest : List ℕ) → at ≤ end → end ≤ length content → kept ≡ page_in content page → rest ≡ bytes_left at end (page + 1) content → drop (at - page_bytes * page) (take (end - page_bytes * page) kept) ++ rest ≡ bytes_left at end page content
next_piece at end page content kept rest l inside k r =
    let s = page_bytes * page in
    let xs = drop s content in
    let long : length xs ≡ length content - s = length-drop s content in
    let within : end - s ≤ length xs = omega (arith, long, inside) in
    let ordered : at - s ≤ end - s = omega (arith, l) in
    let here : drop (at - s) (take (end - s) kept) ≡ drop (at - s) (take (min (end - s) page_bytes) xs) = ap (λ ys. drop (at - s) (take (end - s) ys)) k ∙ ap (drop (at - s)) (take_padded (end - s) page_bytes xs within) in
    let place : s + page_bytes ≡ page_bytes * (page + 1) = omega arith in
    let from : at - s - page_bytes ≡ at - page_bytes * (page + 1) = omega arith in
    let upto : end - s - page_bytes ≡ end - page_bytes * (page + 1) = omega arith in
    let later : drop (at - s - page_bytes) (take (end - s - page_bytes) (drop page_bytes xs)) ≡ bytes_left at end (page + 1) content =
    ap (λ ys. drop (at - s - page_bytes) (take (end - s - page_bytes) ys)) (drop-drop page_bytes s content ∙ ap (λ n. drop n content) place)
    ∙ (ap (λ n. drop n (take (end - s - page_bytes) (drop (page_bytes * (page + 1)) content))) from
    ∙ ap (λ n. drop (at - page_bytes * (page + 1)) (take n (drop (page_bytes * (page + 1)) content))) upto) in
    ap (λ ys. ys ++ rest) here
    ∙ (ap (λ ys. drop (at - s) (take (min (end - s) page_bytes) xs) ++ ys) (r ∙ sym later)
    ∙ sym (piece_split (at - s) (end - s) page_bytes xs ordered))

no_piece : (at end page : ℕ) (content : List ℕ) → end ≤ page_bytes * (page + 0) → [] ≡ bytes_left at end page content
no_piece at end page content h =
    let z : end - page_bytes * page ≡ 0 = omega (arith, h) in
    sym (ap (λ n. drop (at - page_bytes * page) (take n (drop (page_bytes * page) content))) z ∙ drop_none (at - page_bytes * page))

module _ (contents : FileId → Stamp → Option (List ℕ)) (p : Part) (content : List ℕ) (g : HasContent contents p content) (pages : CachedPages) (right : AreRight contents pages) where
  kept_is : (page : ℕ) (kept : List ℕ) → IsRight contents (name_in p page) kept → kept ≡ page_in content page
  kept_is page kept r = r.bytes_are ∙ ap (λ xs. page_in xs page) (some_same r.content content (sym r.is_content ∙ g.is_content))

  found_from : p.at + part_length p ≤ length content → (page more : ℕ) (bytes : List ℕ) → p.at + part_length p ≤ page_bytes * (page + more) → bytes_from p page more pages ≡ Some bytes → bytes ≡ bytes_left p.at (p.at + part_length p) page content
  found_from inside page zero bytes covers f = sym (some_same [] bytes f) ∙ no_piece p.at (p.at + part_length p) page content covers
  found_from inside page (suc more) bytes covers f =
      let further : p.at + part_length p ≤ page_bytes * (page + 1 + more) = omega (arith, covers) in
      by (found (name_in p page) pages) (bytes_from p (page + 1) more pages) refl (λ rest e. found_from inside (page + 1) more rest further e) f
    where
      by : (o r : Option (List ℕ)) → found (name_in p page) pages ≡ o → ((rest : List ℕ) → r ≡ Some rest → rest ≡ bytes_left p.at (p.at + part_length p) (page + 1) content) → and_behind (option_map (bytes_within p page) o) r ≡ Some bytes → bytes ≡ bytes_left p.at (p.at + part_length p) page content
      by None r e later q = absurd (none_some bytes q)
      by (Some kept) None e later q = absurd (none_some bytes q)
      by (Some kept) (Some rest) e later q =
          let ordered : p.at ≤ p.at + part_length p = omega arith in
          sym (some_same (bytes_within p page kept ++ rest) bytes q)
          ∙ next_piece p.at (p.at + part_length p) page content kept rest ordered inside (kept_is page kept (right_found contents (name_in p page) pages kept right e)) (later rest refl)

  -- from the first page on they are all bytes of the part
  all_left : 0 < part_length p → bytes_left p.at (p.at + part_length p) (first_page p) content ≡ bytes_of p content
  all_left some =
      let s = page_bytes * first_page p in
      let low : s ≤ p.at = omega arith in
      let place : s + (p.at - s) ≡ p.at = omega (arith, low) in
      let many : p.at + part_length p - s - (p.at - s) ≡ part_length p = omega (arith, low) in
      drop_taken (p.at - s) (p.at + part_length p - s) (drop s content)
      ∙ (ap (λ n. take n (drop (p.at - s) (drop s content))) many
      ∙ (ap (take (part_length p)) (drop-drop (p.at - s) s content ∙ ap (λ n. drop n content) place)
      ∙ take_same (part_length p) p.len (drop p.at content) (least (order p.len (p.size - p.at)) (length-drop p.at content ∙ ap (λ n. n - p.at) g.size))))
    where
      least : (p.len ≤ p.size - p.at) ⊎ (p.size - p.at < p.len) → length (drop p.at content) ≡ p.size - p.at → (part_length p ≡ p.len) ⊎ ((length (drop p.at content) ≤ part_length p) × (length (drop p.at content) ≤ p.len))
      least (inl l) e = inl (omega (arith, l))
      least (inr l) e = inr (omega (arith, l, e), omega (arith, l, e))

  pub found_right : (bytes : List ℕ) → held_part p pages ≡ Some bytes → bytes ≡ bytes_of p content
  found_right bytes f = by (nat_lt 0 (part_length p)) refl f
    where
      by : (b : Bool) → nat_lt 0 (part_length p) ≡ b → cond b (bytes_from p (first_page p) (page_end p (part_length p) - first_page p) pages) None ≡ Some bytes → bytes ≡ bytes_of p content
      by false t q = absurd (none_some bytes q)
      by true t q =
          let some : 0 < part_length p = less 0 (part_length p) t in
          let end : page_end p (part_length p) ≡ (p.at + part_length p + (page_bytes - 1)) / page_bytes = ap (λ (b : Bool). cond b ((p.at + part_length p + (page_bytes - 1)) / page_bytes) (first_page p)) t in
          let inside : p.at + part_length p ≤ length content = omega (arith, some, g.size) in
          let covers : p.at + part_length p ≤ page_bytes * (first_page p + (page_end p (part_length p) - first_page p)) = omega (arith, end) in
          found_from inside (first_page p) (page_end p (part_length p) - first_page p) bytes covers q ∙ all_left some
