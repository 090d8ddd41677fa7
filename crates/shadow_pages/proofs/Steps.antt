-- The steps of the loops over pages.
use Rattle.std.proofs.Common.{◌≡◌, ℕ, suc, ◌+◌, ◌-◌, ◌*◌, ◌/◌, ◌%◌, ◌<◌, ◌≤◌, max, cond, ◌&&◌, leb, ltb, IsTrue, List, [], ◌∷◌, ◌++◌, length, get_or, set, take, Option, Some, None, refl, sym, ap, ◌∙◌, arith, inl, inr}
use Rattle.std.specs.Option.{is_none, unwrap_or, option_map}
use Rattle.std.proofs.lemmas.Bool.{cases_lt, cases_eq, lt-ltb, le-ltb, le-leb, lt-leb}
use Rattle.std.proofs.lemmas.List.{length-append, length-set, get_or_append_left, get_or-append_right, get_or-set_same, get_or-set_other, take-append-le}
use Rattle.std.proofs.Math.Seq.{take-length}
use Rattle.locus_ids.specs.Sizes.{page_bytes}
use denote.Ref.{Bor}
use Rattle.shadow_pages.specs.Working.{Working, byte_in, byte_at, number_changed, count_below, byte_after, touches, IsPageAfter}
use Rattle.shadow_pages.specs.declared.base_page.BasePage.{BasePage}
use Rattle.shadow_pages.specs.Pages.{AreOf, Hands, AreWritten, Finds}
use Rattle.shadow_pages.proofs.Bytes.{over_past}
use Rattle.shadow_pages.proofs.Counts.{number_changed-set, number_changed-append, none_at}

abbrev Pages : Type 0
Pages = List (Option (List ℕ))

-- what stands of the pages when those from the one numbered first + m on are in their places
pub record Placed (old : Pages) (made : List (List ℕ)) (first : ℕ) (pages : Pages) (left : List (List ℕ)) : Type 0 where
  pub most : length left ≤ length made
  pub same : (j : ℕ) → j < length left → get_or left j [] ≡ get_or made j []
  pub len : length pages ≡ length old
  pub placed : (i : ℕ) → get_or pages i None ≡ cond (leb (first + length left) i && ltb i (first + length made)) (Some (get_or made (i - first) [])) (get_or old i None)
  pub count : number_changed pages + count_below (λ i. is_none (get_or old i None)) (first + length left) ≡ number_changed old + count_below (λ i. is_none (get_or old i None)) (first + length made)

module _ (old : Pages) (made : List (List ℕ)) (first : ℕ) where
  pub placed_start : Placed old made first old made
  placed_start = record {
    most = omega arith;
    same = λ j lt. refl;
    len = refl;
    placed = λ i. outside i;
    count = refl;
  } where
    outside : (i : ℕ) → get_or old i None ≡ cond (leb (first + length made) i && ltb i (first + length made)) (Some (get_or made (i - first) [])) (get_or old i None)
    outside i = elim (cases_lt i (first + length made)) [
      | inl lt ↦ rw (lt-leb (first + length made) i lt) refl
      | inr le ↦ rw (le-leb (first + length made) i le, le-ltb i (first + length made) le) refl
    ]

  pub placed_step : (pages : Pages) (left rest : List (List ℕ)) (page : List ℕ) → first + length made ≤ length old → Placed old made first pages left → left ≡ rest ++ page ∷ [] → Placed old made first (set pages (first + length rest) (Some page)) rest
  placed_step pages left rest page room p e =
      let n : length left ≡ length rest + 1 = omega (arith, ap length e, length-append rest (page ∷ [])) in
      let most = p.most in
      let len = p.len in
      let here : first + length rest < length pages = omega arith in
      let last : page ≡ get_or made (length rest) [] = sym (get_or-append_right rest (page ∷ []) (length rest) (length rest) [] refl (omega arith) ∙ at_none page (length rest)) ∙ ap (λ (l : List (List ℕ)). get_or l (length rest) []) (sym e) ∙ p.same (length rest) (omega arith) in
      let before : get_or pages (first + length rest) None ≡ get_or old (first + length rest) None = p.placed (first + length rest) ∙ rw (lt-leb (first + length left) (first + length rest) (omega arith)) refl in
      record {
        most = omega arith;
        same = λ j lt. sym (get_or_append_left rest (page ∷ []) [] j lt) ∙ ap (λ (l : List (List ℕ)). get_or l j []) (sym e) ∙ p.same j (omega arith);
        len = length-set pages (first + length rest) (Some page) ∙ p.len;
        placed = λ i. elim (cases_eq i (first + length rest)) [
          | inl at ↦ is_here i at here last
          | inr off ↦ is_off i off n
        ];
        count = counted here before n;
      } where
        at_none : (page : List ℕ) (m : ℕ) → get_or (page ∷ []) (m - m) [] ≡ page
        at_none page m = let none : m - m ≡ 0 = omega arith in rw none refl

        is_here : (i : ℕ) → i ≡ first + length rest → first + length rest < length pages → page ≡ get_or made (length rest) [] → get_or (set pages (first + length rest) (Some page)) i None ≡ cond (leb (first + length rest) i && ltb i (first + length made)) (Some (get_or made (i - first) [])) (get_or old i None)
        is_here i at here last =
            let k : i - first ≡ length rest = omega arith in
            let fits : i < first + length made = omega (arith, p.most, ap length e, length-append rest (page ∷ [])) in
            rw (le-leb (first + length rest) i (omega arith), lt-ltb i (first + length made) fits, k, at, get_or-set_same pages (first + length rest) (Some page) None here) (ap (λ (q : List ℕ). Some q) last)

        is_off : (i : ℕ) → (i ≡ first + length rest → ⊥) → length left ≡ length rest + 1 → get_or (set pages (first + length rest) (Some page)) i None ≡ cond (leb (first + length rest) i && ltb i (first + length made)) (Some (get_or made (i - first) [])) (get_or old i None)
        is_off i off n =
            get_or-set_other pages (first + length rest) i (Some page) None off ∙ p.placed i ∙ elim (cases_lt i (first + length rest)) [
              | inl lt ↦ rw (lt-leb (first + length left) i (omega arith), lt-leb (first + length rest) i lt) refl
              | inr le ↦ rw (le-leb (first + length left) i (omega arith), le-leb (first + length rest) i le) refl
            ]

        counted : first + length rest < length pages → get_or pages (first + length rest) None ≡ get_or old (first + length rest) None → length left ≡ length rest + 1
            → number_changed (set pages (first + length rest) (Some page)) + count_below (λ i. is_none (get_or old i None)) (first + length rest) ≡ number_changed old + count_below (λ i. is_none (get_or old i None)) (first + length made)
        counted here before n =
            let m : first + length left ≡ suc (first + length rest) = omega arith in
            let so_far : number_changed pages + (count_below (λ i. is_none (get_or old i None)) (first + length rest) + cond (is_none (get_or old (first + length rest) None)) 1 0) ≡ number_changed old + count_below (λ i. is_none (get_or old i None)) (first + length made) = rw m at p.count in
            let one : number_changed (set pages (first + length rest) (Some page)) ≡ number_changed pages + cond (is_none (get_or old (first + length rest) None)) 1 0 = number_changed-set pages (first + length rest) page here ∙ ap (λ (q : Option (List ℕ)). number_changed pages + cond (is_none q) 1 0) before in
            omega (arith, so_far, one)

-- pages to whose end unchanged ones were added, up to so many
pub record Grown (old pages : Pages) (before counter : ℕ) : Type 0 where
  pub start : before ≡ length old
  pub front : take before pages ≡ old
  pub len : length pages ≡ counter
  pub pages_same : (i : ℕ) → get_or pages i None ≡ get_or old i None
  pub count : number_changed pages ≡ number_changed old

pub grown_start : (old : Pages) (before : ℕ) → before ≡ length old → Grown old old before before
grown_start old before e = record { start = e; front = rw e (take-length old); len = sym e; pages_same = λ i. refl; count = refl }

pub grown_step : (old pages after : Pages) (before counter : ℕ) → before ≤ counter → Grown old pages before counter → after ≡ pages ++ None ∷ [] → Grown old after before (counter + 1)
grown_step old pages after before counter low g e =
    let len = g.len in
    record {
      start = g.start;
      front = rw e (take-append-le before pages (None ∷ []) (omega arith) ∙ g.front);
      len = rw e (omega (arith, length-append pages (None ∷ [])));
      pages_same = λ i. rw e (none_at pages i ∙ g.pages_same i);
      count = rw e (omega (arith, number_changed-append pages (None ∷ []), g.count));
    }

-- what a page was before, in each base that the handed pages are of
before_is : (w : Working) (handed : List BasePage) (base : List ℕ) (i at n : ℕ) (before : List ℕ) → AreOf base w.size handed → IsTrue (touches w at n i) → Hands w at n handed
    → ((page : List ℕ) → get_or w.pages i None ≡ Some page → before ≡ page)
    → (get_or w.pages i None ≡ None → (found : Option (Bor (List ℕ))) × Finds handed i found × (unwrap_or (option_map (λ (b : Bor (List ℕ)). b.now) found) [] ≡ before))
    → (k : ℕ) → k < page_bytes → page_bytes * i + k < w.size → get_or before k 0 ≡ byte_at base w (page_bytes * i + k)
before_is w handed base i at n before of touched hands changed unchanged k small inside =
    let a : (page_bytes * i + k) / page_bytes ≡ i = omega arith in
    let b : (page_bytes * i + k) % page_bytes ≡ k = omega arith in
    rw (a, b) (by_case (get_or w.pages i None) refl)
  where
    by_case : (p : Option (List ℕ)) → get_or w.pages i None ≡ p → get_or before k 0 ≡ byte_in p k (get_or base (page_bytes * i + k) 0)
    by_case (Some page) e = ap (λ (bs : List ℕ). get_or bs k 0) (changed page e)
    by_case None e = let u = unchanged e in searched u.0 u.1 u.2 (hands i touched (omega arith) e) where
      missing : (handed : List BasePage) → (j : ℕ) × (j < length handed) × ((d : BasePage) → (get_or handed j d).page ≡ i) → Finds handed i None → ⊥
      missing [] there no_page = absurd (omega (arith, there.1))
      missing (h ∷ hs) there no_page = no_page there.0 h there.1 (there.2 h)

      searched : (found : Option (Bor (List ℕ))) → Finds handed i found → unwrap_or (option_map (λ (b : Bor (List ℕ)). b.now) found) [] ≡ before → (j : ℕ) × (j < length handed) × ((d : BasePage) → (get_or handed j d).page ≡ i) → get_or before k 0 ≡ get_or base (page_bytes * i + k) 0
      searched None no_page same there = absurd (missing handed there no_page)
      searched (Some b) is same there = ap (λ (bs : List ℕ). get_or bs k 0) (sym same) ∙ is base w.size of k small inside

pub written_start : (w : Working) (at : ℕ) (bytes : List ℕ) (handed : List BasePage) (first : ℕ) → AreWritten w at bytes handed first []
written_start w at bytes handed first = record { pages = λ base of j lt. absurd (omega arith); zeros = λ j lt. absurd (omega arith) }

-- one page more is written
pub written_step : (w : Working) (at : ℕ) (bytes : List ℕ) (handed : List BasePage) (first i : ℕ) (made after : List (List ℕ)) (page before : List ℕ) → AreWritten w at bytes handed first made → length made + first ≡ i
    → IsPageAfter page i w.size at bytes before → IsTrue (touches w at (length bytes) i) → Hands w at (length bytes) handed
    → ((p : List ℕ) → get_or w.pages i None ≡ Some p → before ≡ p)
    → (get_or w.pages i None ≡ None → (found : Option (Bor (List ℕ))) × Finds handed i found × (unwrap_or (option_map (λ (b : Bor (List ℕ)). b.now) found) [] ≡ before))
    → after ≡ made ++ page ∷ [] → AreWritten w at bytes handed first after
written_step w at bytes handed first i made after page before so_far len is touched hands changed unchanged e = rw e (record {
  pages = λ base of j lt. elim (cases_lt j (length made)) [
    | inl below ↦ λ k small. ap (λ (p : List ℕ). get_or p k 0) (get_or_append_left made (page ∷ []) [] j below) ∙ so_far.pages base of j below k small
    | inr le ↦ λ k small. ap (λ (p : List ℕ). get_or p k 0) (last j lt le) ∙ is k small ∙ here base of k small ∙ ap (λ (n : ℕ). byte_after w.size at bytes (page_bytes * n + k) (byte_at base w (page_bytes * n + k))) (sym (place j lt le))
  ];
  zeros = λ j lt. elim (cases_lt j (length made)) [
    | inl below ↦ λ k small past. ap (λ (p : List ℕ). get_or p k 0) (get_or_append_left made (page ∷ []) [] j below) ∙ so_far.zeros j below k small past
    | inr le ↦ λ k small past. ap (λ (p : List ℕ). get_or p k 0) (last j lt le) ∙ is k small ∙ none k (rw (place j lt le) at past)
  ];
}) where
  place : (j : ℕ) → j < length (made ++ page ∷ []) → length made ≤ j → first + j ≡ i
  place j lt le = omega (arith, length-append made (page ∷ []))

  last : (j : ℕ) → j < length (made ++ page ∷ []) → length made ≤ j → get_or (made ++ page ∷ []) j [] ≡ page
  last j lt le =
      let same : j - length made ≡ 0 = omega (arith, length-append made (page ∷ [])) in
      get_or-append_right made (page ∷ []) (length made) j [] refl le ∙ rw same refl

  here : (base : List ℕ) → AreOf base w.size handed → (k : ℕ) → k < page_bytes → byte_after w.size at bytes (page_bytes * i + k) (get_or before k 0) ≡ byte_after w.size at bytes (page_bytes * i + k) (byte_at base w (page_bytes * i + k))
  here base of k small = elim (cases_lt (page_bytes * i + k) w.size) [
    | inl lt ↦ ap (λ (b : ℕ). byte_after w.size at bytes (page_bytes * i + k) b) (before_is w handed base i at (length bytes) before of touched hands changed unchanged k small lt)
    | inr le ↦ rw (le-ltb (page_bytes * i + k) w.size le) refl
  ]

  none : (k : ℕ) → max w.size (at + length bytes) ≤ page_bytes * i + k → byte_after w.size at bytes (page_bytes * i + k) (get_or before k 0) ≡ 0
  none k past = rw (le-ltb (page_bytes * i + k) w.size (omega arith)) (over_past at bytes (page_bytes * i + k) 0 (omega arith))
