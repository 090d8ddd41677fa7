-- Marking pages one by one.
use Rattle.std.proofs.Common.{◌≡◌, ◌≢◌, ⊎_elim, ℕ, zero, suc, ◌+◌, ◌≤◌, ◌<◌, ◌==◌, Bool, true, false, List, [], ◌∷◌, ◌++◌, length, take, get_or, replicate, refl, sym, ap, subst, ◌∙◌, arith, length-append, length-take}
use Rattle.std.specs.Prelude.{slice_set, ◌||◌, if◌then◌else◌}
use Rattle.std.proofs.lemmas.Bool.{cases_eq, cases_lt, cases_Bool, eqb-true, eq-eqb, false≢true}
use Rattle.std.proofs.lemmas.Bool.Decides.{nat_tests}
use Rattle.std.proofs.lemmas.List.{get_or_append_left, get_or_at, get_or-take, take_all, take_more}
use Rattle.locus_ids.specs.Sizes.{content_pages_max}
use Rattle.file_content.specs.Pages.{has_page}
use Rattle.new_contents.specs.of_shadow_pages.Working.{count_below}
use Rattle.new_contents.specs.Marked.{is_marked}
use Rattle.stored_versions.specs.Changes.{ArePages}
use Rattle.page_marks.specs.Marking.{AreMarks}

-- ---- has_page ----

has_more : (xs : List ℕ) (page i : ℕ) → has_page (xs ++ page ∷ []) i ≡ (has_page xs i || (page == i))
has_more [] page i = or_false (page == i)
  where
    or_false : (b : Bool) → (b || false) ≡ (false || b)
    or_false true = refl
    or_false false = refl
has_more (x ∷ xs) page i = ap (λ (b : Bool). (x == i) || b) (has_more xs page i) ∙ assoc (x == i) (has_page xs i) (page == i)
  where
    assoc : (a b c : Bool) → (a || (b || c)) ≡ ((a || b) || c)
    assoc true b c = refl
    assoc false b c = refl

pub has_at : (xs : List ℕ) (i : ℕ) → i < length xs → has_page xs (get_or xs i 0) ≡ true
has_at [] i lt = absurd (omega arith)
has_at (x ∷ xs) zero lt = ap (λ (b : Bool). b || has_page xs x) (eq-eqb x x refl)
has_at (x ∷ xs) (suc i) lt = or_true (x == get_or xs i 0) (has_at xs i (omega arith))
  where
    or_true : (a : Bool) {b : Bool} → b ≡ true → (a || b) ≡ true
    or_true true e = refl
    or_true false e = e

pub has_some : (xs : List ℕ) (page : ℕ) → has_page xs page ≡ true → (i : ℕ) × (i < length xs) × (get_or xs i 0 ≡ page)
has_some [] page has = absurd (false≢true has)
has_some (x ∷ xs) page has = (elim (x == page) as (λ b. (x == page) ≡ b → (b || has_page xs page) ≡ true → (i : ℕ) × (i < length (x ∷ xs)) × (get_or (x ∷ xs) i 0 ≡ page)) [
  | true ↦ λ e h. (0, omega arith, eqb-true x page e)
  | false ↦ λ e h. let rest = has_some xs page h in (suc rest.0, (let lt = rest.1 in omega arith), rest.2)
]) refl has

-- ---- marks ----

or_same : (a b : Bool) → b ≡ false → a ≡ (a || b)
or_same true b e = refl
or_same false b e = sym e

or_yes : (a b : Bool) → b ≡ true → true ≡ (a || b)
or_yes true b e = refl
or_yes false b e = sym e

set_mark : (marks : List Bool) (page i : ℕ) → page < length marks → is_marked (slice_set marks page true) i ≡ (is_marked marks i || (page == i))
set_mark [] page i lt = absurd (omega arith)
set_mark (m ∷ marks) zero zero lt = or_yes m (zero == zero) (eq-eqb zero zero refl)
set_mark (m ∷ marks) zero (suc i) lt = or_same (is_marked marks i) (zero == suc i) (let e : (zero == suc i) ≡ false = grind (arith, nat_tests) in e)
set_mark (m ∷ marks) (suc page) zero lt = or_same m (suc page == zero) (let e : (suc page == zero) ≡ false = grind (arith, nat_tests) in e)
set_mark (m ∷ marks) (suc page) (suc i) lt = set_mark marks page i (omega arith) ∙ ap (λ (b : Bool). is_marked marks i || b) (let e : (page == i) ≡ (suc page == suc i) = grind (arith, nat_tests) in e)

count_same : (a b : ℕ → Bool) (n : ℕ) → ((i : ℕ) → i < n → b i ≡ a i) → count_below b n ≡ count_below a n
count_same a b zero same = refl
count_same a b (suc n) same = let rest = count_same a b n (λ i lt. same i (omega arith)) in let one = same n (omega arith) in (λ j. let m : ℕ = if one j then 1 else 0 in rest j + m)

-- one more passes
count_more : (a b : ℕ → Bool) (page n : ℕ) → page < n → a page ≡ false → b page ≡ true → ((i : ℕ) → i ≢ page → b i ≡ a i) → count_below b n ≡ count_below a n + 1
count_more a b page zero lt was now same = absurd (omega arith)
count_more a b page (suc n) lt was now same = ⊎_elim
    (λ (e : page ≡ n).
    let rest = count_same a b n (λ i less. same i (λ f. omega arith)) in
    let old : (let m : ℕ = if a n then 1 else 0 in m) ≡ 0 = ap (λ (t : Bool). let m : ℕ = if t then 1 else 0 in m) (ap a (sym e) ∙ was) in
    let new : (let m : ℕ = if b n then 1 else 0 in m) ≡ 1 = ap (λ (t : Bool). let m : ℕ = if t then 1 else 0 in m) (ap b (sym e) ∙ now) in
    omega arith)
    (λ (ne : page ≢ n).
    let rest = count_more a b page n (omega arith) was now same in
    let one : (let m : ℕ = if b n then 1 else 0 in m) ≡ (let m : ℕ = if a n then 1 else 0 in m) = ap (λ (t : Bool). let m : ℕ = if t then 1 else 0 in m) (same n (λ f. ne (sym f))) in
    omega arith)
    (cases_eq page n)

-- no mark
unmarked : (n i : ℕ) → get_or (replicate n false) i false ≡ false
unmarked zero i = refl
unmarked (suc n) zero = refl
unmarked (suc n) (suc i) = unmarked n i

none_counted : (a : ℕ → Bool) (n : ℕ) → ((i : ℕ) → a i ≡ false) → count_below a n ≡ 0
none_counted a zero none = refl
none_counted a (suc n) none =
    let rest = none_counted a n none in
    let one : (let m : ℕ = if a n then 1 else 0 in m) ≡ 0 = ap (λ (t : Bool). let m : ℕ = if t then 1 else 0 in m) (none n) in
    omega arith

pub no_marks : (count : ℕ) (changed marks : List ℕ) → AreMarks count (take 0 changed) (replicate content_pages_max false)
no_marks count changed marks = record {
  pages = record { inside = λ i lt. absurd (omega arith); distinct = λ i j lt less. absurd (omega arith) };
  each = λ i. unmarked content_pages_max i;
  number = none_counted (is_marked (replicate content_pages_max false)) count (λ i. unmarked content_pages_max i);
}

-- one mark more
pub one_mark : (count : ℕ) (xs : List ℕ) (marks : List Bool) (page : ℕ) → AreMarks count xs marks → page < count → page < length marks → is_marked marks page ≡ false → AreMarks count (xs ++ page ∷ []) (slice_set marks page true)
one_mark count xs marks page are lt fits fresh =
    let long : length (xs ++ page ∷ []) ≡ length xs + 1 = omega (arith, length-append xs (page ∷ [])) in
    let last : (i : ℕ) → i ≡ length xs → get_or (xs ++ page ∷ []) i 0 ≡ page = (λ i e. get_or_at xs page [] 0 i (sym e)) in
    let left : (i : ℕ) → i < length xs → get_or (xs ++ page ∷ []) i 0 ≡ get_or xs i 0 = (λ i less. get_or_append_left xs (page ∷ []) 0 i less) in
    record {
      pages = record {
        inside = λ i less. ⊎_elim
            (λ (before : i < length xs). let e = left i before in let h = are.pages.inside i before in omega arith)
            (λ (behind : length xs ≤ i). let e = last i (omega arith) in omega arith)
            (cases_lt i (length xs));
        distinct = λ i j less within same. ⊎_elim
            (λ (before : j < length xs). are.pages.distinct i j less before (sym (left i (omega arith)) ∙ same ∙ left j before))
            (λ (behind : length xs ≤ j).
            let e : get_or xs i 0 ≡ page = sym (left i (omega arith)) ∙ same ∙ last j (omega arith) in
            false≢true (sym fresh ∙ are.each page ∙ ap (λ (n : ℕ). has_page xs n) (sym e) ∙ has_at xs i (omega arith)))
            (cases_lt j (length xs));
      };
      each = λ i. set_mark marks page i fits ∙ ap (λ (b : Bool). b || (page == i)) (are.each i) ∙ sym (has_more xs page i);
      number =
          count_more (is_marked marks) (is_marked (slice_set marks page true)) page count lt fresh
          (set_mark marks page page fits ∙ (let e = eq-eqb page page refl in ap (λ (b : Bool). is_marked marks page || b) e ∙ ap (λ (b : Bool). b || true) fresh))
          (λ i ne. set_mark marks page i fits ∙ or_other (is_marked marks i) (page == i) (let e : (page == i) ≡ false = apart page i (λ f. ne (sym f)) in e))
          ∙ ap (λ (n : ℕ). n + 1) are.number ∙ sym long;
    }
  where
    or_other : (a b : Bool) → b ≡ false → (a || b) ≡ a
    or_other true b e = refl
    or_other false b e = e

    apart : (a b : ℕ) → a ≢ b → (a == b) ≡ false
    apart a b ne = ⊎_elim (λ (is : (a == b) ≡ true). absurd (ne (eqb-true a b is))) (λ (is : (a == b) ≡ false). is) (cases_Bool (a == b))

-- the next page is marked
pub next_mark : (count : ℕ) (changed : List ℕ) (marks : List Bool) (i page : ℕ) → AreMarks count (take i changed) marks → i < length changed → page ≡ get_or changed i 0 → page < count → page < length marks → is_marked marks page ≡ false → AreMarks count (take (i + 1) changed) (slice_set marks page true)
next_mark count changed marks i page are lt is below fits fresh =
    subst (λ (xs : List ℕ). AreMarks count xs (slice_set marks page true)) (ap (λ (n : ℕ). take i changed ++ n ∷ []) is ∙ sym (take_more changed i 0 lt)) (one_mark count (take i changed) marks page are below fits fresh)

-- a number that is none of a page
pub not_inside : (count : ℕ) (changed : List ℕ) (i page : ℕ) → i < length changed → page ≡ get_or changed i 0 → count ≤ page → ArePages count changed → ⊥
not_inside count changed i page lt is le are = let h = are.inside i lt in omega arith

-- one that stands twice
pub not_once : (count : ℕ) (changed : List ℕ) (marks : List Bool) (i page : ℕ) → AreMarks count (take i changed) marks → i < length changed → page ≡ get_or changed i 0 → is_marked marks page ≡ true → ArePages count changed → ⊥
not_once count changed marks i page are lt is marked pages =
    let some = has_some (take i changed) page (sym (are.each page) ∙ marked) in
    let before : some.0 < i = (let h = some.1 in omega (arith, length-take i changed)) in
    pages.distinct some.0 i before lt (sym (get_or-take i changed some.0 0 before) ∙ some.2 ∙ is)

pub all_marks : (count : ℕ) (changed : List ℕ) (marks : List Bool) (i : ℕ) → AreMarks count (take i changed) marks → length changed ≤ i → AreMarks count changed marks
all_marks count changed marks i are le = subst (λ (xs : List ℕ). AreMarks count xs marks) (take_all i changed le) are

-- one of pages that stand once each is marked
pub once_marked : (count : ℕ) (changed : List ℕ) (marks : List Bool) (i page : ℕ) → AreMarks count (take i changed) marks → i < length changed → page ≡ get_or changed i 0 → count ≤ length marks → ArePages count changed → AreMarks count (take (i + 1) changed) (slice_set marks page true)
once_marked count changed marks i page are lt is fits pages =
    let below : page < count = (let h = pages.inside i lt in omega arith) in
    next_mark count changed marks i page are lt is below (omega arith)
    (⊎_elim (λ (marked : is_marked marks page ≡ true). absurd (not_once count changed marks i page are lt is marked pages)) (λ (fresh : is_marked marks page ≡ false). fresh) (cases_Bool (is_marked marks page)))
