-- The pages that a version writes are those that are marked, or those that came.
use Rattle.std.proofs.Common.{◌≡◌, ⊎_elim, ℕ, zero, suc, ◌+◌, ◌≤◌, ◌<◌, ◌==◌, Bool, true, false, cond, List, [], ◌∷◌, length, refl, sym, ap, ◌∙◌, arith}
use Rattle.std.specs.Prelude.{◌||◌, ◌&&◌, nat_lt}
use Rattle.std.proofs.lemmas.Bool.{cases_lt, cases_eq}
use Rattle.std.proofs.lemmas.Bool.Decides.{nat_tests}
use Rattle.std.proofs.lemmas.List.Folds.{list_any-append}
use Rattle.file_content.specs.Pages.{pages_of, has_page}
use Rattle.inode_pack.specs.of_shadow_pages.Working.{Working}
use Rattle.inode_pack.specs.of_new_contents.Marked.{is_marked, marked}
use Rattle.inode_pack.specs.of_new_contents.Changed.{is_changed, needed}
use Rattle.inode_pack.specs.of_new_contents.Laid.{laid}
use Rattle.inode_pack.specs.Committing.{changed_below}
use Rattle.inode_pack.proofs.of_new_contents.Counting.{needed_by}
use Rattle.inode_pack.proofs.of_new_contents.Laid.{changed_here as come_here}
use Rattle.inode_pack.proofs.of_new_contents.Marked.{changed_here}
use Rattle.page_marks.specs.Marking.{AreMarks, AreMarked}
use Rattle.page_marks.proofs.WrittenTables.{none_past}
use Rattle.site_packs.proofs.Laid.{come_has}

has_if : (b : Bool) (n i : ℕ) → has_page (cond b (n ∷ []) []) i ≡ (b && (n == i))
has_if true n i = or_false (n == i)
  where
    or_false : (c : Bool) → (c || false) ≡ c
    or_false true = refl
    or_false false = refl
has_if false n i = refl

has_below : (w : Working) (n i : ℕ) → has_page (changed_below w n) i ≡ (nat_lt i n && is_changed w i)
has_below w zero i = let e : false ≡ (nat_lt i zero && is_changed w i) = grind (arith, nat_tests) in e
has_below w (suc n) i =
    list_any-append (λ (p : ℕ). p == i) (changed_below w n) (cond (is_changed w n) (n ∷ []) [])
    ∙ (λ j. has_below w n i j || has_if (is_changed w n) n i j)
    ∙ ⊎_elim
    (λ (e : n ≡ i). by_last (is_changed w i) (is_changed w n) (ap (λ (k : ℕ). is_changed w k) e) e)
    (λ ne. let e : ((nat_lt i n && is_changed w i) || (is_changed w n && (n == i))) ≡ (nat_lt i (suc n) && is_changed w i) = grind (arith, nat_tests) in e)
    (cases_eq n i)
  where
    by_last : (a b : Bool) → b ≡ a → n ≡ i → ((nat_lt i n && a) || (b && (n == i))) ≡ (nat_lt i (suc n) && a)
    by_last a true same e = let f : ((nat_lt i n && a) || (true && (n == i))) ≡ (nat_lt i (suc n) && a) = grind (arith, nat_tests) in f
    by_last a false same e = let f : ((nat_lt i n && a) || (false && (n == i))) ≡ (nat_lt i (suc n) && a) = grind (arith, nat_tests) in f

below_marked : (new : List ℕ) (marks : List Bool) → AreMarked (pages_of (length new)) (changed_below (marked new marks) (pages_of (length new))) marks
below_marked new marks i =
    let n = pages_of (length new) in
    let w = marked new marks in
    has_below w n i ∙ ⊎_elim
    (λ (lt : i < n). ap (λ (b : Bool). nat_lt i n && b) (changed_here new marks i lt))
    (λ (le : n ≤ i). let e : (nat_lt i n && is_changed w i) ≡ (nat_lt i n && is_marked marks i) = grind (arith, nat_tests) in e)
    (cases_lt i n)

pub has_marked : (new changed : List ℕ) (marks : List Bool) → AreMarked (pages_of (length new)) changed marks → (i : ℕ) → has_page (changed_below (marked new marks) (pages_of (length new))) i ≡ has_page changed i
has_marked new changed marks are i = below_marked new marks i ∙ sym (are i)

-- those that came
pub has_laid : (size : ℕ) (numbers bytes : List ℕ) (marks : List Bool) → AreMarks (pages_of size) numbers marks → (i : ℕ) → has_page (changed_below (laid size numbers bytes) (pages_of size)) i ≡ has_page numbers i
has_laid size numbers bytes marks are i =
    let n = pages_of size in
    let w = laid size numbers bytes in
    has_below w n i ∙ ⊎_elim
    (λ (lt : i < n). ap (λ (b : Bool). b && is_changed w i) (let e : nat_lt i n ≡ true = grind (arith, nat_tests) in e) ∙ come_here size numbers bytes i lt ∙ come_has 0 numbers i)
    (λ (le : n ≤ i). ap (λ (b : Bool). b && is_changed w i) (let e : nat_lt i n ≡ false = grind (arith, nat_tests) in e) ∙ sym (none_past n numbers marks i are le))
    (cases_lt i n)

-- so many are written as came
pub needed_laid : (size : ℕ) (numbers bytes : List ℕ) (marks : List Bool) → AreMarks (pages_of size) numbers marks → needed (laid size numbers bytes) ≡ length numbers
needed_laid size numbers bytes marks are = needed_by (laid size numbers bytes) (is_marked marks) (λ i lt. come_here size numbers bytes i lt ∙ come_has 0 numbers i ∙ sym (are.each i)) ∙ are.number
