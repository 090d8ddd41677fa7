-- How often a number is among those that copies name.
use Rattle.std.proofs.Common.{◌≡◌, ◌≢◌, Bool, true, false, ℕ, suc, ◌+◌, ◌*◌, ◌≤◌, ◌<◌, List, [], ◌∷◌, ◌++◌, length, get_or, take, replicate, refl, sym, ◌∙◌, ap, subst, arith, ⊎_elim, length-take, append_assoc, get_or-set_same, get_or-set_other}
use Rattle.std.specs.Prelude.{Option, None, Some, IfSome, nat_lt, sum}
use Rattle.std.specs.List.{flat_map}
use Rattle.std.proofs.lemmas.Bool.{cases_eq, cases_lt, lt-ltb}
use Rattle.std.proofs.lemmas.List.{take_more, get_or-take, append-nil}
use Rattle.std.proofs.Math.ListN.{set}
use Rattle.std.proofs.lemmas.List.Sums.{sum_by-set}
use Rattle.std.proofs.lemmas.List.Folds.{sum_by-replicate}
use Rattle.locus_ids.specs.Sizes.{pack_pages, pack_tables}
use Rattle.pack_layout.specs.of_file_content.Pages.{pages_of, tables_of}
use Rattle.pack_layout.specs.Layout.{NameApart}
use Rattle.pack_slots.specs.declared.inode_copy.InodeCopy.{InodeCopy}
use Rattle.pack_slots.specs.Copies.{times, numbers_in, pages_in, tables_in, named_pages, named_tables}
use Rattle.pack_slots.specs.Losing.{AreSlots, IsSlotApart}
use Rattle.pack_slots.proofs.PageTimes.{times-append, times_own, times_other}
use Rattle.pack_slots.proofs.NamedPages.{AreBelow, below-append, below_take}

times_same : (page one : ℕ) (xs : List ℕ) → one ≡ page → times page (one ∷ xs) ≡ 1 + times page xs
times_same page one xs e = ap (λ (n : ℕ). n + times page xs) (times_own page one e)

times_unlike : (page one : ℕ) (xs : List ℕ) → one ≢ page → times page (one ∷ xs) ≡ times page xs
times_unlike page one xs ne = let e = times_other page one ne in omega arith

-- one page more is counted
pub counted_more : (counts pages : List ℕ) (start i page number : ℕ) → i < length pages → number ≡ get_or pages i 0 → number < length counts → get_or counts page 0 ≡ start + times page (take i pages)
    → get_or (set counts number (get_or counts number 0 + 1)) page 0 ≡ start + times page (take (i + 1) pages)
counted_more counts pages start i page number lt is fits before =
    let more : times page (take (i + 1) pages) ≡ times page (take i pages) + times page (get_or pages i 0 ∷ []) = ap (times page) (take_more pages i 0 lt) ∙ times-append page (take i pages) (get_or pages i 0 ∷ []) in
    ⊎_elim
    (λ (same : number ≡ page).
    let one = times_same page (get_or pages i 0) [] (sym is ∙ same) in
    let here : get_or (set counts number (get_or counts number 0 + 1)) page 0 ≡ get_or counts number 0 + 1 = subst (λ (k : ℕ). get_or (set counts number (get_or counts number 0 + 1)) k 0 ≡ get_or counts number 0 + 1) same (get_or-set_same counts number (get_or counts number 0 + 1) 0 fits) in
    let was : get_or counts number 0 ≡ start + times page (take i pages) = ap (λ (k : ℕ). get_or counts k 0) same ∙ before in
    omega (arith, here, was, more, one))
    (λ (apart : number ≢ page).
    let none = times_unlike page (get_or pages i 0) [] (λ e. apart (is ∙ e)) in
    let here = get_or-set_other counts number page (get_or counts number 0 + 1) 0 (λ e. apart (sym e)) in
    omega (arith, here, before, more, none))
    (cases_eq number page)

-- one number more is marked
pub marked_more : (used : List Bool) (before items : List ℕ) (i number one : ℕ) → i < length items → one ≡ get_or items i 0 → one < length used → get_or used number false ≡ nat_lt 0 (times number (before ++ take i items))
    → get_or (set used one true) number false ≡ nat_lt 0 (times number (before ++ take (i + 1) items))
marked_more used before items i number one lt is fits marked =
    let more = times-append number before (take (i + 1) items) in
    let few = times-append number before (take i items) in
    let last : times number (take (i + 1) items) ≡ times number (take i items) + times number (get_or items i 0 ∷ []) = ap (times number) (take_more items i 0 lt) ∙ times-append number (take i items) (get_or items i 0 ∷ []) in
    ⊎_elim
    (λ (same : one ≡ number).
    let here = times_same number (get_or items i 0) [] (sym is ∙ same) in
    subst (λ (k : ℕ). get_or (set used one true) k false ≡ true) same (get_or-set_same used one true false fits) ∙ sym (lt-ltb 0 (times number (before ++ take (i + 1) items)) (omega (arith, more, last, here))))
    (λ (apart : one ≢ number).
    let none = times_unlike number (get_or items i 0) [] (λ e. apart (is ∙ e)) in
    let count : times number (before ++ take i items) ≡ times number (before ++ take (i + 1) items) = omega (arith, more, few, last, none) in
    get_or-set_other used one number true false (λ e. apart (sym e)) ∙ marked ∙ ap (λ (k : ℕ). nat_lt 0 k) count)
    (cases_eq one number)

pub sum_more : (counts : List ℕ) (number : ℕ) → number < length counts → sum (set counts number (get_or counts number 0 + 1)) ≡ sum counts + 1
sum_more counts number fits = let e = sum_by-set (λ x. x) counts number (get_or counts number 0 + 1) 0 fits in omega (arith, e)

pub sum-zeros : (n : ℕ) → sum (replicate n 0) ≡ 0
sum-zeros n = sum_by-replicate (λ x. x) n 0 ∙ (let e : n * 0 ≡ 0 = omega arith in e)

pub place_of : (page : ℕ) (xs : List ℕ) → 1 ≤ times page xs → (i : ℕ) × (i < length xs) × (get_or xs i 0 ≡ page)
place_of page [] le = absurd (omega arith)
place_of page (x ∷ xs) le = ⊎_elim
    (λ (same : x ≡ page). (0, omega arith, same))
    (λ (apart : x ≢ page).
    let rest = place_of page xs (let e = times_unlike page x xs apart in omega (arith, e)) in
    (suc rest.0, (let lt = rest.1 in omega arith), rest.2))
    (cases_eq x page)

-- different pages are counted once
pub times_of_different : (page : ℕ) (xs : List ℕ) → ((i j : ℕ) → i < j → j < length xs → get_or xs i 0 ≢ get_or xs j 0) → times page xs ≤ 1
times_of_different page [] apart = omega arith
times_of_different page (x ∷ xs) apart =
    let rest = times_of_different page xs (λ i j lt below. apart (suc i) (suc j) (omega arith) (omega arith)) in
    ⊎_elim
    (λ (same : x ≡ page).
    let none : times page xs < 1 = ⊎_elim
    (λ (lt : times page xs < 1). lt)
    (λ (le : 1 ≤ times page xs). let at = place_of page xs le in absurd (apart 0 (suc at.0) (omega arith) (let lt = at.1 in omega arith) (same ∙ sym at.2)))
    (cases_lt (times page xs) 1) in
    let e = times_same page x xs same in
    omega (arith, e, none))
    (λ (other : x ≢ page). let e = times_unlike page x xs other in omega (arith, e, rest))
    (cases_eq x page)

-- no page from here on is counted where all are below
pub times_beyond : (page n : ℕ) (xs : List ℕ) → AreBelow n xs → n ≤ page → times page xs ≡ 0
times_beyond page n [] below le = refl
times_beyond page n (x ∷ xs) below le =
    let here = below.0 in
    times_unlike page x xs (λ e. omega arith) ∙ times_beyond page n xs below.1 le

-- the first numbers of a list, which are different ones below a limit
pub apart_below : (most limit n : ℕ) (numbers : List ℕ) → NameApart most limit n numbers → AreBelow limit (take n numbers)
apart_below most limit n numbers are = below_take limit n numbers are.inside

pub apart_once : (most limit n page : ℕ) (numbers : List ℕ) → NameApart most limit n numbers → times page (take n numbers) ≤ 1
apart_once most limit n page numbers are =
    let long = length-take n numbers in
    times_of_different page (take n numbers) (λ i j lt below same.
    let far : j < n = omega arith in
    let near : i < n = omega arith in
    are.distinct i j lt far (sym (get_or-take n numbers i 0 near) ∙ same ∙ get_or-take n numbers j 0 far))

-- two copies name the number
pub record TwoName (names : Option InodeCopy → List ℕ) (page : ℕ) (copies : List (Option InodeCopy)) : Type 0 where
  pub one : ℕ
  pub other : ℕ
  pub apart : one < other
  pub inside : other < length copies
  pub first : 1 ≤ times page (names (get_or copies one None))
  pub second : 1 ≤ times page (names (get_or copies other None))

-- what copies name, one behind the other
module _ (names : Option InodeCopy → List ℕ) where
  pub named-append : (xs ys : List (Option InodeCopy)) → flat_map names (xs ++ ys) ≡ flat_map names xs ++ flat_map names ys
  named-append [] ys = refl
  named-append (x ∷ xs) ys = ap (λ (l : List ℕ). names x ++ l) (named-append xs ys) ∙ sym (append_assoc (names x) (flat_map names xs) (flat_map names ys))

  -- that of one copy more
  pub named_more : (copies : List (Option InodeCopy)) (i : ℕ) (copy : Option InodeCopy) → i < length copies → copy ≡ get_or copies i copy → flat_map names (take (i + 1) copies) ≡ flat_map names (take i copies) ++ names copy
  named_more copies i copy lt is =
      ap (flat_map names) (take_more copies i copy lt) ∙ named-append (take i copies) (get_or copies i copy ∷ [])
      ∙ ap (λ (l : List ℕ). flat_map names (take i copies) ++ l) (append-nil (names (get_or copies i copy))) ∙ ap (λ (c : Option InodeCopy). flat_map names (take i copies) ++ names c) (sym is)

  pub named_below : (limit : ℕ) (copies : List (Option InodeCopy)) → ((i : ℕ) → AreBelow limit (names (get_or copies i None))) → AreBelow limit (flat_map names copies)
  named_below limit [] are = tt
  named_below limit (copy ∷ copies) are = below-append limit (names copy) (flat_map names copies) (are 0) (named_below limit copies (λ i. are (suc i)))

  -- what is named is one of a copy, and what is named twice is one of two
  pub one_of : (page : ℕ) (copies : List (Option InodeCopy)) → 1 ≤ times page (flat_map names copies) → (i : ℕ) × (i < length copies) × (1 ≤ times page (names (get_or copies i None)))
  one_of page [] le = absurd (omega arith)
  one_of page (copy ∷ copies) le = ⊎_elim
      (λ (none : times page (names copy) < 1).
      let rest = one_of page copies (omega (arith, times-append page (names copy) (flat_map names copies))) in
      (suc rest.0, (let lt = rest.1 in omega arith), rest.2))
      (λ (some : 1 ≤ times page (names copy)). (0, omega arith, some))
      (cases_lt (times page (names copy)) 1)

  pub two_of : (page : ℕ) (copies : List (Option InodeCopy)) → ((i : ℕ) → times page (names (get_or copies i None)) ≤ 1) → 1 < times page (flat_map names copies) → TwoName names page copies
  two_of page [] are le = absurd (omega arith)
  two_of page (copy ∷ copies) are le = ⊎_elim
      (λ (none : times page (names copy) < 1).
      let rest = two_of page copies (λ i. are (suc i)) (omega (arith, times-append page (names copy) (flat_map names copies))) in
      record { one = suc rest.one; other = suc rest.other; apart = (let lt = rest.apart in omega arith); inside = (let lt = rest.inside in omega arith); first = rest.first; second = rest.second })
      (λ (some : 1 ≤ times page (names copy)).
      let once = are 0 in
      let rest = one_of page copies (omega (arith, times-append page (names copy) (flat_map names copies))) in
      record { one = 0; other = suc rest.0; apart = omega arith; inside = (let lt = rest.1 in omega arith); first = some; second = rest.2 })
      (cases_lt (times page (names copy)) 1)

-- each named page is one of the area, and each table; a copy names each of them once
pages_below : (copy : Option InodeCopy) → IfSome copy IsSlotApart → AreBelow pack_pages (pages_in copy)
pages_below None is = tt
pages_below (Some copy) is = apart_below _ pack_pages (pages_of copy.slot.size) (numbers_in copy) is.1

tables_below : (copy : Option InodeCopy) → IfSome copy IsSlotApart → AreBelow pack_tables (tables_in copy)
tables_below None is = tt
tables_below (Some copy) is = apart_below _ pack_tables (tables_of (pages_of copy.slot.size)) copy.slot.tables is.0.tables

pub pages_once : (page : ℕ) (copy : Option InodeCopy) → IfSome copy IsSlotApart → times page (pages_in copy) ≤ 1
pages_once page None is = omega arith
pages_once page (Some copy) is = apart_once _ pack_pages (pages_of copy.slot.size) page (numbers_in copy) is.1

pub tables_once : (table : ℕ) (copy : Option InodeCopy) → IfSome copy IsSlotApart → times table (tables_in copy) ≤ 1
tables_once table None is = omega arith
tables_once table (Some copy) is = apart_once _ pack_tables (tables_of (pages_of copy.slot.size)) table copy.slot.tables is.0.tables

pub named_pages_below : (copies : List (Option InodeCopy)) → AreSlots copies → AreBelow pack_pages (named_pages copies)
named_pages_below copies are = named_below pages_in pack_pages copies (λ i. pages_below (get_or copies i None) (are i))

pub named_tables_below : (copies : List (Option InodeCopy)) → AreSlots copies → AreBelow pack_tables (named_tables copies)
named_tables_below copies are = named_below tables_in pack_tables copies (λ i. tables_below (get_or copies i None) (are i))
