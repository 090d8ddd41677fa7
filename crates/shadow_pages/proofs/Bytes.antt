-- Contents byte by byte.
use Rattle.std.proofs.Common.{◌≡◌, ℕ, zero, suc, ◌+◌, ◌-◌, ◌*◌, ◌<◌, ◌≤◌, min, max, cond, ltb, List, [], ◌∷◌, ◌++◌, length, get_or, take, drop, replicate, refl, sym, ap, ◌∙◌, arith, inl, inr}
use Rattle.std.proofs.lemmas.Bool.{cases_lt, lt-ltb, le-ltb, le-leb, lt-leb}
use Rattle.std.proofs.lemmas.List.{length-append, length-take, length-drop, length-replicate, get_or-take, get_or-drop, get_or_past, get_or-replicate, get_or_append_left, get_or-append_right, append-nil, drop_all}
use Rattle.locus_ids.specs.Sizes.{page_bytes}
use Rattle.file_content.specs.Contents.{written}
use Rattle.shadow_pages.specs.Working.{Working, below, spliced, padded, over, byte_after, byte_at, content}

-- a content padded with zeros up to a place, and from there overwritten by some bytes
abbrev pub patched : ℕ → List ℕ → List ℕ → List ℕ
patched at bytes old = spliced at bytes (padded at old)

behind : (at n : ℕ) (content : List ℕ) → drop (at + n) (padded at content) ≡ drop (at + n) content
behind at n content = elim (cases_lt (length content) at) [
  | inl short ↦
      drop_all (at + n) (padded at content) (omega (arith, length-append content (replicate (at - length content) 0), length-replicate {A = ℕ} (at - length content) 0))
      ∙ sym (drop_all (at + n) content (omega arith))
  | inr long ↦
      let none : at - length content ≡ 0 = omega arith in
      ap (λ (m : ℕ). drop (at + n) (content ++ replicate m 0)) none ∙ ap (λ (l : List ℕ). drop (at + n) l) (append-nil content)
]

-- that is what a write leaves of a content
pub patched_is : (at : ℕ) (bytes content : List ℕ) → patched at bytes content ≡ written content at bytes
patched_is at bytes content = ap (λ (l : List ℕ). take at (padded at content) ++ bytes ++ l) (behind at (length bytes) content)

pub over_in : (at : ℕ) (bytes : List ℕ) (k old : ℕ) → at ≤ k → k < at + length bytes → over at bytes k old ≡ get_or bytes (k - at) 0
over_in at bytes k old low high = rw (le-leb at k low, lt-ltb k (at + length bytes) high) refl

pub over_before : (at : ℕ) (bytes : List ℕ) (k old : ℕ) → k < at → over at bytes k old ≡ old
over_before at bytes k old lt = rw (lt-leb at k lt) refl

pub over_past : (at : ℕ) (bytes : List ℕ) (k old : ℕ) → at + length bytes ≤ k → over at bytes k old ≡ old
over_past at bytes k old le = rw (le-leb at k (omega arith), le-ltb k (at + length bytes) le) refl

pub spliced_at : (at : ℕ) (bytes xs : List ℕ) (k : ℕ) → at ≤ length xs → get_or (spliced at bytes xs) k 0 ≡ over at bytes k (get_or xs k 0)
spliced_at at bytes xs k fits =
    let front : length (take at xs) ≡ at = omega (arith, length-take at xs) in
    let both : length (take at xs ++ bytes) ≡ at + length bytes = omega (arith, length-append (take at xs) bytes, front) in
    elim (cases_lt k at) [
      | inl lt ↦
          rw (over_before at bytes k (get_or xs k 0) lt)
          (get_or_append_left (take at xs ++ bytes) (drop (at + length bytes) xs) 0 k (omega arith)
          ∙ get_or_append_left (take at xs) bytes 0 k (omega arith) ∙ get_or-take at xs k 0 lt)
      | inr le ↦ elim (cases_lt k (at + length bytes)) [
        | inl lt ↦
            rw (over_in at bytes k (get_or xs k 0) le lt)
            (get_or_append_left (take at xs ++ bytes) (drop (at + length bytes) xs) 0 k (omega arith)
            ∙ get_or-append_right (take at xs) bytes at k 0 front le)
        | inr past ↦
            let back : (at + length bytes) + (k - (at + length bytes)) ≡ k = omega arith in
            rw (over_past at bytes k (get_or xs k 0) past)
            (get_or-append_right (take at xs ++ bytes) (drop (at + length bytes) xs) (at + length bytes) k 0 both past
            ∙ get_or-drop (at + length bytes) xs (k - (at + length bytes)) 0 ∙ ap (λ (n : ℕ). get_or xs n 0) back)
      ]
    ]

pub length_spliced : (at : ℕ) (bytes xs : List ℕ) → at ≤ length xs → length (spliced at bytes xs) ≡ max (length xs) (at + length bytes)
length_spliced at bytes xs fits =
    omega (arith, length-take at xs, length-append (take at xs) bytes, length-append (take at xs ++ bytes) (drop (at + length bytes) xs), length-drop (at + length bytes) xs)

pub zero_at : (n k : ℕ) → get_or (replicate {A = ℕ} n 0) k 0 ≡ 0
zero_at n k = elim (cases_lt k n) [
  | inl lt ↦ get_or-replicate {A = ℕ} n k 0 0 lt
  | inr le ↦ get_or_past (replicate {A = ℕ} n 0) k 0 (omega (arith, length-replicate {A = ℕ} n 0))
]

pub padded_at : (n : ℕ) (xs : List ℕ) (k : ℕ) → get_or (padded n xs) k 0 ≡ get_or xs k 0
padded_at n xs k = elim (cases_lt k (length xs)) [
  | inl lt ↦ get_or_append_left xs (replicate (n - length xs) 0) 0 k lt
  | inr le ↦ get_or-append_right xs (replicate (n - length xs) 0) (length xs) k 0 refl le ∙ zero_at (n - length xs) (k - length xs) ∙ sym (get_or_past xs k 0 le)
]

pub length_padded : (n : ℕ) (xs : List ℕ) → length (padded n xs) ≡ max n (length xs)
length_padded n xs = omega (arith, length-append xs (replicate (n - length xs) 0), length-replicate {A = ℕ} (n - length xs) 0)

pub patched_at : (at : ℕ) (bytes old : List ℕ) (k : ℕ) → get_or (patched at bytes old) k 0 ≡ over at bytes k (get_or old k 0)
patched_at at bytes old k =
    spliced_at at bytes (padded at old) k (omega (arith, length_padded at old)) ∙ ap (λ (b : ℕ). over at bytes k b) (padded_at at old k)

pub length_patched : (at : ℕ) (bytes old : List ℕ) → length (patched at bytes old) ≡ max (length old) (at + length bytes)
length_patched at bytes old =
    let long : length (padded at old) ≡ max at (length old) = length_padded at old in
    omega (arith, long, length_spliced at bytes (padded at old) (omega (arith, long)))

pub length_below : (f : ℕ → ℕ) (n : ℕ) → length (below f n) ≡ n
length_below f zero = refl
length_below f (suc n) = omega (arith, length-append (below f n) (f n ∷ []), length_below f n)

pub below_at : (f : ℕ → ℕ) (n k : ℕ) → get_or (below f n) k 0 ≡ cond (ltb k n) (f k) 0
below_at f zero k = rw (le-ltb k 0 (omega arith)) refl
below_at f (suc n) k = elim (cases_lt k n) [
  | inl lt ↦ rw (lt-ltb k (suc n) (omega arith)) (get_or_append_left (below f n) (f n ∷ []) 0 k (omega (arith, length_below f n)) ∙ below_at f n k ∙ rw (lt-ltb k n lt) refl)
  | inr le ↦ get_or-append_right (below f n) (f n ∷ []) n k 0 (length_below f n) le ∙ last k le
] where
  last : (k : ℕ) → n ≤ k → get_or (f n ∷ []) (k - n) 0 ≡ cond (ltb k (suc n)) (f k) 0
  last k le = elim (cases_lt n k) [
    | inl past ↦ rw (le-ltb k (suc n) (omega arith)) (get_or_past (f n ∷ []) (k - n) 0 (omega arith))
    | inr at ↦
        let same : k ≡ n = omega arith in
        rw (same, lt-ltb n (suc n) (omega arith)) (ap (λ (i : ℕ). get_or (f n ∷ []) i 0) (let none : n - n ≡ 0 = omega arith in none))
  ]

-- a content over a base, byte by byte
pub content_at : (base : List ℕ) (w : Working) (k : ℕ) → get_or (content base w) k 0 ≡ cond (ltb k w.size) (byte_at base w k) 0
content_at base w k = below_at (byte_at base w) w.size k

pub length_content : (base : List ℕ) (w : Working) → length (content base w) ≡ w.size
length_content base w = length_below (byte_at base w) w.size

-- a page as it was as far as the content goes, and zeros
first_part : (i k size kept : ℕ) (before page : List ℕ) → k < page_bytes → kept ≡ min (min (size - page_bytes * i) page_bytes) (length before) → page ≡ spliced 0 (take kept before) (replicate page_bytes 0)
    → get_or page k 0 ≡ cond (ltb (page_bytes * i + k) size) (get_or before k 0) 0
first_part i k size kept before page small is e =
    let len : length (take kept before) ≡ kept = omega (arith, length-take kept before) in
    let one : get_or page k 0 ≡ over 0 (take kept before) k (get_or (replicate page_bytes 0) k 0) = rw e (spliced_at 0 (take kept before) (replicate page_bytes 0) k (omega arith)) in
    let two : get_or page k 0 ≡ over 0 (take kept before) k 0 = one ∙ ap (λ (b : ℕ). over 0 (take kept before) k b) (zero_at page_bytes k) in
    two ∙ elim (cases_lt k kept) [
      | inl lt ↦ over_in 0 (take kept before) k 0 (omega arith) (omega arith) ∙ rw (lt-ltb (page_bytes * i + k) size (omega arith)) (ap (λ (n : ℕ). get_or (take kept before) n 0) (none k) ∙ get_or-take kept before k 0 lt)
      | inr le ↦ over_past 0 (take kept before) k 0 (omega arith) ∙ elim (cases_lt (page_bytes * i + k) size) [
        | inl lt ↦ rw (lt-ltb (page_bytes * i + k) size lt) (sym (get_or_past before k 0 (omega arith)))
        | inr past ↦ rw (le-ltb (page_bytes * i + k) size past) refl
      ]
    ] where
      none : (k : ℕ) → k - 0 ≡ k
      none k = omega arith

length_first : (kept : ℕ) (before page : List ℕ) → kept ≤ page_bytes → page ≡ spliced 0 (take kept before) (replicate page_bytes 0) → length page ≡ page_bytes
length_first kept before page small e =
    rw e (omega (arith, length_spliced 0 (take kept before) (replicate page_bytes 0) (omega arith), length-take kept before, length-replicate {A = ℕ} page_bytes 0))

-- a page that a write meets
pub page_met : (i k size at kept from to : ℕ) (bytes before first page : List ℕ) → k < page_bytes → kept ≡ min (min (size - page_bytes * i) page_bytes) (length before)
    → first ≡ spliced 0 (take kept before) (replicate page_bytes 0) → from ≡ max at (page_bytes * i) → to ≡ min (at + length bytes) (page_bytes * i + page_bytes) → from < to
    → page ≡ spliced (from - page_bytes * i) (take ((to - at) - (from - at)) (drop (from - at) bytes)) first
    → get_or page k 0 ≡ byte_after size at bytes (page_bytes * i + k) (get_or before k 0)
page_met i k size at kept from to bytes before first page small is e low high some e2 =
    let part : List ℕ = take ((to - at) - (from - at)) (drop (from - at) bytes) in
    let len : length part ≡ to - from = omega (arith, length-take ((to - at) - (from - at)) (drop (from - at) bytes), length-drop (from - at) bytes) in
    let old : ℕ = cond (ltb (page_bytes * i + k) size) (get_or before k 0) 0 in
    let one : get_or page k 0 ≡ over (from - page_bytes * i) part k (get_or first k 0) = rw e2 (spliced_at (from - page_bytes * i) part first k (omega (arith, length_first kept before first (omega arith) e))) in
    one ∙ ap (λ (b : ℕ). over (from - page_bytes * i) part k b) (first_part i k size kept before first small is e)
    ∙ elim (cases_lt (page_bytes * i + k) at) [
      | inl lt ↦ over_before (from - page_bytes * i) part k old (omega arith) ∙ sym (over_before at bytes (page_bytes * i + k) old lt)
      | inr le ↦ elim (cases_lt (page_bytes * i + k) (at + length bytes)) [
        | inl lt ↦
            over_in (from - page_bytes * i) part k old (omega arith) (omega arith)
            ∙ get_or-take ((to - at) - (from - at)) (drop (from - at) bytes) (k - (from - page_bytes * i)) 0 (omega arith)
            ∙ get_or-drop (from - at) bytes (k - (from - page_bytes * i)) 0
            ∙ ap (λ (n : ℕ). get_or bytes n 0) (there from at i k low le)
            ∙ sym (over_in at bytes (page_bytes * i + k) old le lt)
        | inr past ↦ over_past (from - page_bytes * i) part k old (omega arith) ∙ sym (over_past at bytes (page_bytes * i + k) old past)
      ]
    ] where
      there : (from at i k : ℕ) → from ≡ max at (page_bytes * i) → at ≤ page_bytes * i + k → (from - at) + (k - (from - page_bytes * i)) ≡ (page_bytes * i + k) - at
      there from at i k low le = omega arith

-- a page that it doesn't meet
pub page_missed : (i k size at kept from to : ℕ) (bytes before page : List ℕ) → k < page_bytes → kept ≡ min (min (size - page_bytes * i) page_bytes) (length before)
    → page ≡ spliced 0 (take kept before) (replicate page_bytes 0) → from ≡ max at (page_bytes * i) → to ≡ min (at + length bytes) (page_bytes * i + page_bytes) → to ≤ from
    → get_or page k 0 ≡ byte_after size at bytes (page_bytes * i + k) (get_or before k 0)
page_missed i k size at kept from to bytes before page small is e low high none =
    let old : ℕ = cond (ltb (page_bytes * i + k) size) (get_or before k 0) 0 in
    first_part i k size kept before page small is e ∙ elim (cases_lt (page_bytes * i + k) at) [
      | inl lt ↦ sym (over_before at bytes (page_bytes * i + k) old lt)
      | inr le ↦ sym (over_past at bytes (page_bytes * i + k) old (omega arith))
    ]
