-- Numbers of pages, each above the one before it.
use Rattle.std.proofs.Common.{◌≡◌, ℕ, zero, suc, ◌+◌, ◌≤◌, ◌<◌, Bool, true, false, List, [], ◌∷◌, length, drop, get_or, refl, ap, ◌∙◌, arith}
use Rattle.std.specs.Prelude.{◌&&◌, nat_le, nat_lt}
use Rattle.std.specs.List.{list_all}
use Rattle.std.proofs.lemmas.Bool.{false≢true}
use Rattle.std.proofs.lemmas.Bool.Decides.{nat_tests}
use Rattle.std.proofs.lemmas.List.{drop_more, drop_all}
use Rattle.stored_versions.specs.Changes.{ArePages}
use Rattle.role_steps.specs.Pulling.{ascend_from}
use Rattle.page_marks.specs.Laying.{AreRising}

abbrev below : ℕ → ℕ → Bool
below count page = nat_lt page count

both : (a b : Bool) → (a && b) ≡ true → (a ≡ true) × (b ≡ true)
both true b e = (refl, e)
both false b e = absurd (false≢true e)

-- ---- one by one ----

module _ (numbers : List ℕ) (i page : ℕ) (lt : i < length numbers) (is : page ≡ get_or numbers i 0) where
  pub rise_fails : (least : ℕ) → page < least → ascend_from least (drop i numbers) ≡ false
  rise_fails least less =
      let e : nat_le (get_or numbers i 0) least ≡ true = grind (arith, nat_tests) in
      let no : nat_le least (get_or numbers i 0) ≡ false = grind (arith, nat_tests) in
      ap (λ (l : List ℕ). ascend_from least l) (drop_more numbers i 0 lt) ∙ ap (λ (b : Bool). b && ascend_from (suc (get_or numbers i 0)) (drop (i + 1) numbers)) no

  pub rise_next : (least : ℕ) → least ≤ page → ascend_from least (drop i numbers) ≡ ascend_from (page + 1) (drop (i + 1) numbers)
  rise_next least le =
      let yes : nat_le least (get_or numbers i 0) ≡ true = grind (arith, nat_tests) in
      ap (λ (l : List ℕ). ascend_from least l) (drop_more numbers i 0 lt) ∙ ap (λ (b : Bool). b && ascend_from (suc (get_or numbers i 0)) (drop (i + 1) numbers)) yes
      ∙ ap (λ (n : ℕ). ascend_from n (drop (i + 1) numbers)) (let e : suc (get_or numbers i 0) ≡ page + 1 = omega arith in e)

  pub inside_fails : (count : ℕ) → count ≤ page → list_all (below count) (drop i numbers) ≡ false
  inside_fails count le =
      let no : nat_lt (get_or numbers i 0) count ≡ false = grind (arith, nat_tests) in
      ap (λ (l : List ℕ). list_all (below count) l) (drop_more numbers i 0 lt) ∙ ap (λ (b : Bool). b && list_all (below count) (drop (i + 1) numbers)) no

  pub inside_next : (count : ℕ) → page < count → list_all (below count) (drop i numbers) ≡ list_all (below count) (drop (i + 1) numbers)
  inside_next count less =
      let yes : nat_lt (get_or numbers i 0) count ≡ true = grind (arith, nat_tests) in
      ap (λ (l : List ℕ). list_all (below count) l) (drop_more numbers i 0 lt) ∙ ap (λ (b : Bool). b && list_all (below count) (drop (i + 1) numbers)) yes

-- behind the last one
pub all_rise : (count least i : ℕ) (numbers : List ℕ) → ascend_from 0 numbers ≡ ascend_from least (drop i numbers) → list_all (below count) numbers ≡ list_all (below count) (drop i numbers) → length numbers ≤ i → AreRising count numbers
all_rise count least i numbers rise inside le = record {
  ascend = rise ∙ ap (λ (l : List ℕ). ascend_from least l) (drop_all i numbers le);
  inside = inside ∙ ap (λ (l : List ℕ). list_all (below count) l) (drop_all i numbers le);
}

-- ---- each is a page, and stands once ----

inside_at : (count : ℕ) (numbers : List ℕ) (i : ℕ) → list_all (below count) numbers ≡ true → i < length numbers → get_or numbers i 0 < count
inside_at count [] i all lt = absurd (omega arith)
inside_at count (x ∷ xs) zero all lt = let e = (both (nat_lt x count) (list_all (below count) xs) all).0 in let f : x < count = grind (arith, nat_tests, e) in f
inside_at count (x ∷ xs) (suc i) all lt = inside_at count xs i (both (nat_lt x count) (list_all (below count) xs) all).1 (omega arith)

low_at : (least : ℕ) (numbers : List ℕ) (i : ℕ) → ascend_from least numbers ≡ true → i < length numbers → least + i ≤ get_or numbers i 0
low_at least [] i rise lt = absurd (omega arith)
low_at least (x ∷ xs) zero rise lt = let e = (both (nat_le least x) (ascend_from (suc x) xs) rise).0 in let f : least ≤ x = grind (arith, nat_tests, e) in omega arith
low_at least (x ∷ xs) (suc i) rise lt =
    let parts = both (nat_le least x) (ascend_from (suc x) xs) rise in
    let e = parts.0 in
    let f : least ≤ x = grind (arith, nat_tests, e) in
    let rest = low_at (suc x) xs i parts.1 (omega arith) in
    omega arith

above_at : (least : ℕ) (numbers : List ℕ) (i j : ℕ) → ascend_from least numbers ≡ true → i < j → j < length numbers → get_or numbers i 0 < get_or numbers j 0
above_at least [] i j rise less lt = absurd (omega arith)
above_at least (x ∷ xs) i zero rise less lt = absurd (omega arith)
above_at least (x ∷ xs) zero (suc j) rise less lt =
    let rest = low_at (suc x) xs j (both (nat_le least x) (ascend_from (suc x) xs) rise).1 (omega arith) in
    omega arith
above_at least (x ∷ xs) (suc i) (suc j) rise less lt = above_at (suc x) xs i j (both (nat_le least x) (ascend_from (suc x) xs) rise).1 (omega arith) (omega arith)

pub rising_pages : (count : ℕ) (numbers : List ℕ) → AreRising count numbers → ArePages count numbers
rising_pages count numbers rising = record {
  inside = λ i lt. inside_at count numbers i rising.inside lt;
  distinct = λ i j less lt same. let above = above_at 0 numbers i j rising.ascend less lt in omega arith;
}

-- they are no more than the pages
few_from : (least count : ℕ) (numbers : List ℕ) → least ≤ count → ascend_from least numbers ≡ true → list_all (below count) numbers ≡ true → least + length numbers ≤ count
few_from least count [] le rise all = omega arith
few_from least count (x ∷ xs) le rise all =
    let parts = both (nat_le least x) (ascend_from (suc x) xs) rise in
    let e = parts.0 in
    let low : least ≤ x = grind (arith, nat_tests, e) in
    let here = both (nat_lt x count) (list_all (below count) xs) all in
    let f = here.0 in
    let high : x < count = grind (arith, nat_tests, f) in
    let rest = few_from (suc x) count xs (omega arith) parts.1 here.1 in
    omega arith

pub rising_few : (count : ℕ) (numbers : List ℕ) → AreRising count numbers → length numbers ≤ count
rising_few count numbers rising = let e = few_from 0 count numbers (omega arith) rising.ascend rising.inside in omega arith

-- ---- all pages ----

pub all_from : (least count : ℕ) (numbers : List ℕ) (i : ℕ) → ascend_from least numbers ≡ true → list_all (below count) numbers ≡ true → least + length numbers ≡ count → i < length numbers → get_or numbers i 0 ≡ least + i
all_from least count [] i rise all many lt = absurd (omega arith)
all_from least count (x ∷ xs) i rise all many lt =
    let parts = both (nat_le least x) (ascend_from (suc x) xs) rise in
    let e = parts.0 in
    let low : least ≤ x = grind (arith, nat_tests, e) in
    let here = both (nat_lt x count) (list_all (below count) xs) all in
    let f = here.0 in
    let high : x < count = grind (arith, nat_tests, f) in
    let rest = few_from (suc x) count xs (omega arith) parts.1 here.1 in
    let first : x ≡ least = omega arith in
    at i lt first (λ j less. all_from (suc x) count xs j parts.1 here.1 (omega arith) less)
  where
    at : (i : ℕ) → i < length (x ∷ xs) → x ≡ least → ((j : ℕ) → j < length xs → get_or xs j 0 ≡ suc x + j) → get_or (x ∷ xs) i 0 ≡ least + i
    at zero lt first rest = omega arith
    at (suc j) lt first rest = let e = rest j (omega arith) in omega arith
