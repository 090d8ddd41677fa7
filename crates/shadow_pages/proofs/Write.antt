-- What a write leaves.
use Rattle.std.proofs.Common.{◌≡◌, ℕ, ◌+◌, ◌-◌, ◌*◌, ◌/◌, ◌%◌, ◌<◌, ◌≤◌, min, max, cond, ◌&&◌, leb, ltb, IsTrue, ◌↔◌, List, [], length, get_or, Option, Some, None, refl, sym, ap, ◌∙◌, arith, inl, inr}
use Rattle.std.specs.Option.{is_none, is_some}
use Rattle.std.proofs.lemmas.Bool.{cases_lt, lt-ltb, le-ltb, le-leb, lt-leb}
use Rattle.std.proofs.lemmas.Grind.{same_number_lists}
use Rattle.locus_ids.specs.Sizes.{page_bytes}
use Rattle.file_content.specs.Contents.{written}
use Rattle.file_content.specs.Pages.{pages_of}
use Rattle.shadow_pages.specs.Working.{Working, byte_at, content, number_changed, count_below, byte_after, over, touches, needed, AreAmong, IsClean}
use Rattle.shadow_pages.specs.declared.base_page.BasePage.{BasePage}
use Rattle.shadow_pages.specs.Pages.{AreOf, AreWritten}
use Rattle.shadow_pages.proofs.Bytes.{patched, patched_is, over_before, over_past, patched_at, length_patched, content_at, length_content}
use Rattle.shadow_pages.proofs.Counts.{span_sum, count_below_same}

module _ (w : Working) (at : ℕ) (bytes : List ℕ) (handed : List BasePage) (first stop : ℕ) (made : List (List ℕ)) (grown new : List (Option (List ℕ)))
    (meets : (i : ℕ) → IsTrue (touches w at (length bytes) i) ↔ ((first ≤ i) × (i < stop)))
    (ordered : first ≤ stop)
    (len : length made ≡ stop - first)
    (wrote : AreWritten w at bytes handed first made)
    (same : (i : ℕ) → get_or grown i None ≡ get_or w.pages i None)
    (placed : (i : ℕ) → get_or new i None ≡ cond (leb first i && ltb i (first + length made)) (Some (get_or made (i - first) [])) (get_or grown i None)) where
  abbrev after : Working
  after = record { size = max w.size (at + length bytes); pages = new }

  in_span : (i : ℕ) → first ≤ i → i < stop → get_or new i None ≡ Some (get_or made (i - first) [])
  in_span i low high = placed i ∙ rw (le-leb first i low, lt-ltb i (first + length made) (omega arith)) refl

  under_span : (i : ℕ) → i < first → get_or new i None ≡ get_or w.pages i None
  under_span i lt = placed i ∙ rw (lt-leb first i lt) (same i)

  past_span : (i : ℕ) → stop ≤ i → get_or new i None ≡ get_or w.pages i None
  past_span i le = placed i ∙ rw (le-leb first i (omega arith), le-ltb i (first + length made) (omega arith)) (same i)

  -- what was changed before or is written lies in a row that has both
  pub among_after : (a b n m : ℕ) → AreAmong a b w.pages → ((i : ℕ) → a ≤ i → i < b → (n ≤ i) × (i < m)) → ((i : ℕ) → first ≤ i → i < stop → (n ≤ i) × (i < m)) → AreAmong n m new
  among_after a b n m among one other i changed = elim (cases_lt i first) [
    | inl lt ↦ kept (under_span i lt)
    | inr low ↦ elim (cases_lt i stop) [
      | inl high ↦ other i low high
      | inr le ↦ kept (past_span i le)
    ]
  ] where
    kept : get_or new i None ≡ get_or w.pages i None → (n ≤ i) × (i < m)
    kept is = let p = among i (sym (ap (λ (o : Option (List ℕ)). is_some o) is) ∙ changed) in one i p.0 p.1

  -- a byte of a page that isn't touched stays
  stays : (i k : ℕ) (old : ℕ) → ((first ≤ i) × (i < stop) → ⊥) → page_bytes * i ≤ k → k < page_bytes * i + page_bytes → k < max w.size (at + length bytes) → byte_after w.size at bytes k old ≡ old
  stays i k old off low high small =
      let missed : (max (min at w.size) (page_bytes * i) < min (at + length bytes) (page_bytes * (i + 1))) → ⊥ = λ lt. off ((meets i).0 (lt-ltb _ _ lt)) in
      let inside : k < w.size = known w.size (at + length bytes) missed low high small in
      elim (cases_lt k at) [
        | inl lt ↦ over_before at bytes k _ lt ∙ rw (lt-ltb k w.size inside) refl
        | inr le ↦ elim (cases_lt k (at + length bytes)) [
          | inl lt ↦ absurd (missed (omega arith))
          | inr past ↦ over_past at bytes k _ past ∙ rw (lt-ltb k w.size inside) refl
        ]
      ] where
        known : (size end : ℕ) → ((max (min at size) (page_bytes * i) < min end (page_bytes * (i + 1))) → ⊥) → page_bytes * i ≤ k → k < page_bytes * i + page_bytes → k < max size end → k < size
        known size end missed low high small = elim (cases_lt k size) [
          | inl lt ↦ lt
          | inr le ↦ absurd (missed (omega arith))
        ]

  byte_is : (base : List ℕ) → AreOf base w.size handed → (k : ℕ) → k < max w.size (at + length bytes) → byte_at base after k ≡ byte_after w.size at bytes k (byte_at base w k)
  byte_is base of k small = elim (cases_lt (k / page_bytes) first) [
    | inl lt ↦ rw (under_span (k / page_bytes) lt) (sym (stays (k / page_bytes) k (byte_at base w k) (λ p. absurd (omega (arith, p.0))) (omega arith) (omega arith) small))
    | inr low ↦ elim (cases_lt (k / page_bytes) stop) [
      | inl high ↦
          let place : first + (k / page_bytes - first) ≡ k / page_bytes = omega arith in
          let whole : page_bytes * (k / page_bytes) + k % page_bytes ≡ k = omega arith in
          let page = wrote.pages base of (k / page_bytes - first) (omega arith) (k % page_bytes) (omega arith) in
          rw (in_span (k / page_bytes) low high) (rw (place, whole) at page)
      | inr le ↦ rw (past_span (k / page_bytes) le) (sym (stays (k / page_bytes) k (byte_at base w k) (λ p. absurd (omega (arith, p.1))) (omega arith) (omega arith) small))
    ]
  ]

  pub content_after : (base : List ℕ) → AreOf base w.size handed → content base after ≡ written (content base w) at bytes
  content_after base of = same_number_lists (content base after) (patched at bytes (content base w)) lengths each ∙ patched_is at bytes (content base w) where
    lengths : length (content base after) ≡ length (patched at bytes (content base w))
    lengths = omega (arith, length_content base after, length_patched at bytes (content base w), length_content base w)

    each : (k : ℕ) → k < length (content base after) → get_or (content base after) k 0 ≡ get_or (patched at bytes (content base w)) k 0
    each k lt =
        let small : k < max w.size (at + length bytes) = omega (arith, length_content base after) in
        content_at base after k ∙ rw (lt-ltb k (max w.size (at + length bytes)) small) (byte_is base of k small)
        ∙ sym (patched_at at bytes (content base w) k ∙ ap (λ (b : ℕ). over at bytes k b) (content_at base w k))

  pub clean_after : IsClean w → IsClean after
  clean_after clean i k small past = elim (cases_lt i first) [
    | inl lt ↦ rw (under_span i lt) (clean i k small (omega arith))
    | inr low ↦ elim (cases_lt i stop) [
      | inl high ↦
          let place : first + (i - first) ≡ i = omega arith in
          rw (in_span i low high) (wrote.zeros (i - first) (omega arith) k small (rw place past))
      | inr le ↦ rw (past_span i le) (clean i k small (omega arith))
    ]
  ]

  pub count_after : stop ≤ pages_of (at + length bytes) → number_changed grown ≡ number_changed w.pages
      → number_changed new + count_below (λ i. is_none (get_or grown i None)) first ≡ number_changed grown + count_below (λ i. is_none (get_or grown i None)) (first + length made)
      → number_changed new ≡ number_changed w.pages + needed w at (length bytes)
  count_after most alike count =
      let up : first + length made ≡ stop = omega arith in
      let counted : number_changed new + count_below (λ i. is_none (get_or grown i None)) first ≡ number_changed grown + count_below (λ i. is_none (get_or grown i None)) stop = rw up at count in
      let low : count_below (λ i. is_none (get_or grown i None)) first ≡ count_below (λ i. is_none (get_or w.pages i None)) first = count_below_same _ _ first (λ i lt. ap (λ (p : Option (List ℕ)). is_none p) (same i)) in
      let high : count_below (λ i. is_none (get_or grown i None)) stop ≡ count_below (λ i. is_none (get_or w.pages i None)) stop = count_below_same _ _ stop (λ i lt. ap (λ (p : Option (List ℕ)). is_none p) (same i)) in
      let sum : needed w at (length bytes) + count_below (λ i. is_none (get_or w.pages i None)) first ≡ count_below (λ i. is_none (get_or w.pages i None)) stop = span_sum (λ i. touches w at (length bytes) i) (λ i. is_none (get_or w.pages i None)) first stop meets ordered (pages_of (at + length bytes)) most in
      omega (arith, counted, low, high, sum, alike)
