-- Which tables a version writes hangs on which pages it writes, not on their order.
use Rattle.std.proofs.Common.{◌≡◌, ⊎_elim, ℕ, zero, suc, ◌+◌, ◌-◌, ◌*◌, ◌≤◌, ◌<◌, ◌==◌, Bool, true, false, cond, List, [], ◌∷◌, length, refl, sym, ap, ◌∙◌, arith}
use Rattle.std.specs.Prelude.{◌||◌, ◌&&◌, not, nat_lt, nat_le, filter}
use Rattle.std.specs.List.{list_any}
use Rattle.std.proofs.lemmas.Bool.{false≢true, eqb-true, eq-eqb, cases_lt}
use Rattle.std.proofs.lemmas.Bool.Decides.{nat_tests}
use Rattle.locus_ids.specs.Sizes.{slot_pages, table_pages, content_tables_max}
use Rattle.file_content.specs.Pages.{has_page, table_of, is_under, pages_under, pages_from, is_table_written, tables_written, ascending, placed}
use Rattle.file_content.proofs.Paging.{next_page}
use Rattle.new_contents.specs.Marked.{is_marked}
use Rattle.page_marks.specs.Marking.{AreMarks, AreMarked}
use Rattle.page_marks.proofs.Marks.{has_some}

or_true : (a : Bool) {b : Bool} → b ≡ true → (a || b) ≡ true
or_true true e = refl
or_true false e = e

or_first : (a b : Bool) → a ≡ true → (a || b) ≡ true
or_first a b e = ap (λ (c : Bool). c || b) e

or_turned : (a b c : Bool) → (a || (b || c)) ≡ (b || (a || c))
or_turned true true c = refl
or_turned true false c = refl
or_turned false b c = refl

both_ways : (a b : Bool) → (a ≡ true → b ≡ true) → (b ≡ true → a ≡ true) → a ≡ b
both_ways true b there back = sym (there refl)
both_ways false true there back = back refl
both_ways false false there back = refl

-- ---- tests of lists that have the same pages ----

pub any_here : (test : ℕ → Bool) (ys : List ℕ) (page : ℕ) → has_page ys page ≡ true → test page ≡ true → list_any test ys ≡ true
any_here test [] page has passes = absurd (false≢true has)
any_here test (y ∷ ys) page has passes = (elim (y == page) as (λ b. (y == page) ≡ b → (b || has_page ys page) ≡ true → list_any test (y ∷ ys) ≡ true) [
  | true ↦ λ e h. or_first (test y) (list_any test ys) (ap test (eqb-true y page e) ∙ passes)
  | false ↦ λ e h. or_true (test y) (any_here test ys page h passes)
]) refl has

any_there : (test : ℕ → Bool) (xs ys : List ℕ) → ((page : ℕ) → has_page xs page ≡ true → has_page ys page ≡ true) → list_any test xs ≡ true → list_any test ys ≡ true
any_there test [] ys all passes = absurd (false≢true passes)
any_there test (x ∷ xs) ys all passes = (elim (test x) as (λ b. test x ≡ b → (b || list_any test xs) ≡ true → list_any test ys ≡ true) [
  | true ↦ λ e h. any_here test ys x (all x (or_first (x == x) (has_page xs x) (eq-eqb x x refl))) e
  | false ↦ λ e h. any_there test xs ys (λ page has. all page (or_true (x == page) has)) h
]) refl passes

any_same : (test : ℕ → Bool) (xs ys : List ℕ) → ((page : ℕ) → has_page xs page ≡ has_page ys page) → list_any test xs ≡ list_any test ys
any_same test xs ys same = both_ways (list_any test xs) (list_any test ys) (any_there test xs ys (λ page has. sym (same page) ∙ has)) (any_there test ys xs (λ page has. same page ∙ has))

-- so the same tables are written
pub tables_same : (before now : ℕ) (xs ys : List ℕ) → ((page : ℕ) → has_page xs page ≡ has_page ys page) → tables_written before now xs ≡ tables_written before now ys
tables_same before now xs ys same = λ i. filter (λ table. nat_lt 0 (pages_under table now) && (not (pages_under table before == pages_under table now) || any_same (is_under table) xs ys same i)) (pages_from 0 content_tables_max)

-- ---- in ascending order ----

has_placed : (page : ℕ) (ps : List ℕ) (one : ℕ) → has_page (placed page ps) one ≡ ((page == one) || has_page ps one)
has_placed page [] one = refl
has_placed page (p ∷ ps) one = elim (nat_le page p) as (λ b. has_page (elim b as (λ (x : Bool). List ℕ) [ true ↦ page ∷ p ∷ ps | false ↦ p ∷ placed page ps ]) one ≡ ((page == one) || ((p == one) || has_page ps one))) [
  | true ↦ refl
  | false ↦ ap (λ (b : Bool). (p == one) || b) (has_placed page ps one) ∙ or_turned (p == one) (page == one) (has_page ps one)
]

has_ascending : (pages : List ℕ) (one : ℕ) → has_page (ascending pages) one ≡ has_page pages one
has_ascending [] one = refl
has_ascending (page ∷ pages) one = has_placed page (ascending pages) one ∙ ap (λ (b : Bool). (page == one) || b) (has_ascending pages one)

pub tables_ascending : (before now : ℕ) (pages : List ℕ) → tables_written before now (ascending pages) ≡ tables_written before now pages
tables_ascending before now pages = tables_same before now (ascending pages) pages (has_ascending pages)

-- ---- the marked pages ----

and_false : (b : Bool) → (b && false) ≡ false
and_false true = refl
and_false false = refl

-- no number past the count is one of a page
pub none_past : (count : ℕ) (changed : List ℕ) (marks : List Bool) (i : ℕ) → AreMarks count changed marks → count ≤ i → has_page changed i ≡ false
none_past count changed marks i are le = not_true (has_page changed i) (λ has.
    let some = has_some changed i has in
    let below = are.pages.inside some.0 some.1 in
    let is = some.2 in
    omega arith)
  where
    not_true : (b : Bool) → (b ≡ true → ⊥) → b ≡ false
    not_true true never = absurd (never refl)
    not_true false never = refl

pub are_marked : (count : ℕ) (changed : List ℕ) (marks : List Bool) → AreMarks count changed marks → AreMarked count changed marks
are_marked count changed marks are i = ⊎_elim
    (λ (lt : i < count). sym (are.each i) ∙ ap (λ (b : Bool). b && is_marked marks i) (let e : true ≡ nat_lt i count = grind (arith, nat_tests) in e))
    (λ (le : count ≤ i). none_past count changed marks i are le ∙ ap (λ (b : Bool). b && is_marked marks i) (let e : false ≡ nat_lt i count = grind (arith, nat_tests) in e))
    (cases_lt i count)

has_from : (n first i : ℕ) → has_page (pages_from first n) i ≡ (nat_le first i && nat_lt i (first + n))
has_from zero first i = let e : false ≡ (nat_le first i && nat_lt i (first + zero)) = grind (arith, nat_tests) in e
has_from (suc n) first i = ap (λ (b : Bool). (first == i) || b) (has_from n (first + 1) i) ∙ (let e : ((first == i) || (nat_le (first + 1) i && nat_lt i (first + 1 + n))) ≡ (nat_le first i && nat_lt i (first + suc n)) = grind (arith, nat_tests) in e)

-- ---- marked pages under a table ----

and_parts : (a b : Bool) → (a && b) ≡ true → (a ≡ true) × (b ≡ true)
and_parts true b e = (refl, e)
and_parts false b e = absurd (false≢true e)

-- one that passes
any_of : (test : ℕ → Bool) (xs : List ℕ) → list_any test xs ≡ true → (page : ℕ) × (has_page xs page ≡ true) × (test page ≡ true)
any_of test [] some = absurd (false≢true some)
any_of test (x ∷ xs) some = (elim (test x) as (λ b. test x ≡ b → (b || list_any test xs) ≡ true → (page : ℕ) × (has_page (x ∷ xs) page ≡ true) × (test page ≡ true)) [
  | true ↦ λ e h. (x, or_first (x == x) (has_page xs x) (eq-eqb x x refl), e)
  | false ↦ λ e h. let rest = any_of test xs h in (rest.0, or_true (x == rest.0) rest.1, rest.2)
]) refl some

module _ (now table : ℕ) (changed : List ℕ) (marks : List Bool) (are : AreMarked now changed marks) where
  abbrev first : ℕ
  first = slot_pages + table_pages * table

  there : list_any (is_under table) changed ≡ true → list_any (is_marked marks) (pages_from (slot_pages + table_pages * table) (pages_under table now)) ≡ true
  there some =
      let one = any_of (is_under table) changed some in
      let page = one.0 in
      let marked = and_parts (nat_lt page now) (is_marked marks page) (sym (are page) ∙ one.1) in
      let under = and_parts (nat_le slot_pages page) (table_of page == table) one.2 in
      let below : page < now = grind (arith, nat_tests, marked.0) in
      let low : slot_pages ≤ page = grind (arith, nat_tests, under.0) in
      let at = eqb-true (table_of page) table under.1 in
      let from : first ≤ page = omega arith in
      let to : page < first + pages_under table now = omega arith in
      any_here (is_marked marks) (pages_from first (pages_under table now)) page (has_from (pages_under table now) first page ∙ (let e : (nat_le first page && nat_lt page (first + pages_under table now)) ≡ true = grind (arith, nat_tests) in e)) marked.1

  back : list_any (is_marked marks) (pages_from (slot_pages + table_pages * table) (pages_under table now)) ≡ true → list_any (is_under table) changed ≡ true
  back some =
      let one = any_of (is_marked marks) (pages_from first (pages_under table now)) some in
      let page = one.0 in
      let within = and_parts (nat_le first page) (nat_lt page (first + pages_under table now)) (sym (has_from (pages_under table now) first page) ∙ one.1) in
      let from : first ≤ page = grind (arith, nat_tests, within.0) in
      let to : page < first + pages_under table now = grind (arith, nat_tests, within.1) in
      let below : page < now = omega arith in
      let at : table_of page ≡ table = omega arith in
      let low : slot_pages ≤ page = omega arith in
      any_here (is_under table) changed page
      (are page ∙ (λ i. (let e : nat_lt page now ≡ true = grind (arith, nat_tests) in e) i && one.2 i))
      (λ i. (let e : nat_le slot_pages page ≡ true = grind (arith, nat_tests) in e) i && eq-eqb (table_of page) table at i)

  pub under_marked : list_any (is_marked marks) (pages_from (slot_pages + table_pages * table) (pages_under table now)) ≡ list_any (is_under table) changed
  under_marked = both_ways (list_any (is_marked marks) (pages_from (slot_pages + table_pages * table) (pages_under table now))) (list_any (is_under table) changed) back there

written_by : (a b c : Bool) → a ≡ true → b ≡ true → c ≡ (a && (not b || c))
written_by true true c x y = refl
written_by true false c x y = absurd (false≢true y)
written_by false b c x y = absurd (false≢true x)

-- where a table has as many pages under it as before
pub marks_tell : (before now table first stop : ℕ) (changed : List ℕ) (marks : List Bool) → AreMarked now changed marks → 0 < pages_under table now → pages_under table now ≡ pages_under table before → first ≡ slot_pages + table_pages * table → stop ≡ first + pages_under table now
    → list_any (is_marked marks) (pages_from first (stop - first)) ≡ is_table_written before now changed table
marks_tell before now table first stop changed marks are some same from to =
    let many : stop - first ≡ pages_under table now = omega arith in
    (λ i. list_any (is_marked marks) (pages_from (from i) (many i)))
    ∙ under_marked now table changed marks are
    ∙ written_by (nat_lt 0 (pages_under table now)) (pages_under table before == pages_under table now) (list_any (is_under table) changed) (let e : nat_lt 0 (pages_under table now) ≡ true = grind (arith, nat_tests) in e) (eq-eqb (pages_under table before) (pages_under table now) (sym same))

-- one page after the other
pub any_next : (test : ℕ → Bool) (page stop : ℕ) → page < stop → test page ≡ false → list_any test (pages_from (page + 1) (stop - (page + 1))) ≡ list_any test (pages_from page (stop - page))
any_next test page stop lt fails = (λ i. sym fails i || list_any test (pages_from (page + 1) (stop - (page + 1)))) ∙ ap (λ (l : List ℕ). list_any test l) (sym (next_page page stop lt))

filter_by : (b : Bool) (page : ℕ) (rest : List ℕ) → length (cond b (page ∷ rest) rest) ≡ cond b 1 0 + length rest
filter_by true page rest = omega arith
filter_by false page rest = omega arith

pub count_next : (test : ℕ → Bool) (table stop counted total : ℕ) (b : Bool) → table < stop → test table ≡ b → counted + length (filter test (pages_from table (stop - table))) ≡ total → counted + cond b 1 0 + length (filter test (pages_from (table + 1) (stop - (table + 1)))) ≡ total
count_next test table stop counted total b lt is sum =
    let rest = filter test (pages_from (table + 1) (stop - (table + 1))) in
    let one = ap (λ (l : List ℕ). length (filter test l)) (next_page table stop lt) ∙ filter_by (test table) table rest ∙ ap (λ (c : Bool). cond c 1 0 + length rest) is in
    omega arith
