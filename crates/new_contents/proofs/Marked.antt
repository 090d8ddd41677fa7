-- The pages of a content of which some are marked.
use Rattle.std.proofs.Common.{◌≡◌, ⊎_elim, ℕ, zero, suc, ◌+◌, ◌*◌, ◌<◌, ◌≤◌, Bool, true, false, List, [], ◌∷◌, length, get_or, Option, None, Some, refl, sym, ◌∙◌, ap, arith, length-append}
use Rattle.std.specs.Prelude.{is_some}
use Rattle.std.proofs.lemmas.Bool.{cases_lt, true≢false}
use Rattle.std.proofs.lemmas.List.{get_or_past, get_or_append_left, get_or_at}
use Rattle.locus_ids.specs.Sizes.{page_bytes}
use Rattle.file_content.specs.Pages.{pages_of, page_of}
use Rattle.shadow_pages.specs.Working.{page_at as shadow_page, padded, count_below}
use Rattle.new_contents.specs.Whole.{full_page}
use Rattle.new_contents.specs.Marked.{is_marked, page_if, marked_pages, marked}
use Rattle.new_contents.specs.Changed.{is_changed, needed, HasChanged}
use Rattle.new_contents.proofs.Whole.{long_page}
use Rattle.new_contents.proofs.Counting.{needed_by, needed_row}

length_marked : (bytes : List ℕ) (marks : List Bool) (n : ℕ) → length (marked_pages bytes marks n) ≡ n
length_marked bytes marks zero = refl
length_marked bytes marks (suc n) = let e = length_marked bytes marks n in omega (arith, length-append (marked_pages bytes marks n) (page_if (is_marked marks n) (full_page bytes n) ∷ []))

marked_in : (bytes : List ℕ) (marks : List Bool) (n i : ℕ) → i < n → get_or (marked_pages bytes marks n) i None ≡ page_if (is_marked marks i) (full_page bytes i)
marked_in bytes marks zero i lt = absurd (omega arith)
marked_in bytes marks (suc n) i lt = ⊎_elim
    (λ (less : i < n). get_or_append_left (marked_pages bytes marks n) (page_if (is_marked marks n) (full_page bytes n) ∷ []) None i (let l = length_marked bytes marks n in omega arith) ∙ marked_in bytes marks n i less)
    (λ (ge : n ≤ i).
    let e : n ≡ i = omega arith in
    get_or_at (marked_pages bytes marks n) (page_if (is_marked marks n) (full_page bytes n)) [] None i (omega (arith, length_marked bytes marks n)) ∙ ap (λ (j : ℕ). page_if (is_marked marks j) (full_page bytes j)) e)
    (cases_lt i n)

-- page i of the content, if it is one and marked
pub page_here : (bytes : List ℕ) (marks : List Bool) (i : ℕ) → i < pages_of (length bytes) → shadow_page (marked bytes marks).pages i ≡ page_if (is_marked marks i) (full_page bytes i)
page_here bytes marks i lt = marked_in bytes marks (pages_of (length bytes)) i lt

pub page_past : (bytes : List ℕ) (marks : List Bool) (i : ℕ) → pages_of (length bytes) ≤ i → shadow_page (marked bytes marks).pages i ≡ None
page_past bytes marks i le = get_or_past (marked_pages bytes marks (pages_of (length bytes))) i None (omega (arith, length_marked bytes marks (pages_of (length bytes))))

some_if : (b : Bool) (page : List ℕ) → is_some (page_if b page) ≡ b
some_if true page = refl
some_if false page = refl

pub changed_here : (bytes : List ℕ) (marks : List Bool) (i : ℕ) → i < pages_of (length bytes) → is_changed (marked bytes marks) i ≡ is_marked marks i
changed_here bytes marks i lt = ap (λ (o : Option (List ℕ)). is_some o) (page_here bytes marks i lt) ∙ some_if (is_marked marks i) (full_page bytes i)

page_of_if : (b : Bool) (made page : List ℕ) → page_if b made ≡ Some page → (b ≡ true) × (made ≡ page)
page_of_if true made page is = (refl, cc)
page_of_if false made page is = absurd (let e : None ≡ Some page = is in cc)

pub marked_long : (bytes : List ℕ) (marks : List Bool) (i : ℕ) (page : List ℕ) → shadow_page (marked bytes marks).pages i ≡ Some page → length page ≡ page_bytes
marked_long bytes marks i page is =
    let n = pages_of (length bytes) in
    ⊎_elim
    (λ (lt : i < n).
    let e = page_of_if (is_marked marks i) (full_page bytes i) page (sym (page_here bytes marks i lt) ∙ is) in
    sym (ap (λ (l : List ℕ). length l) e.1) ∙ long_page bytes i)
    (λ (le : n ≤ i). let e : None ≡ Some page = sym (page_past bytes marks i le) ∙ is in absurd cc)
    (cases_lt i n)

-- a page that is changed is that of the content
pub page_changed : (bytes : List ℕ) (marks : List Bool) (i : ℕ) → i < pages_of (length bytes) → is_marked marks i ≡ true → shadow_page (marked bytes marks).pages i ≡ Some (full_page bytes i)
page_changed bytes marks i lt is = page_here bytes marks i lt ∙ ap (λ (b : Bool). page_if b (full_page bytes i)) is

-- a page that isn't changed
pub page_unchanged : (bytes : List ℕ) (marks : List Bool) (i : ℕ) → is_changed (marked bytes marks) i ≡ false → shadow_page (marked bytes marks).pages i ≡ None
page_unchanged bytes marks i is = none_if (shadow_page (marked bytes marks).pages i) is
  where
    none_if : (o : Option (List ℕ)) → is_some o ≡ false → o ≡ None
    none_if None e = refl
    none_if (Some x) e = absurd (cc)

-- a page past the end, and one without a mark, isn't changed
pub past_end : (bytes : List ℕ) (marks : List Bool) (i at : ℕ) → at ≡ i → length bytes ≤ page_bytes * at → false ≡ is_changed (marked bytes marks) i
past_end bytes marks i at e le = sym (ap (λ (o : Option (List ℕ)). is_some o) (page_past bytes marks i (omega arith)))

pub is_mark : (bytes : List ℕ) (marks : List Bool) (i at : ℕ) → at ≡ i → page_bytes * at < length bytes → get_or marks at false ≡ is_changed (marked bytes marks) i
is_mark bytes marks i at e lt = ap (λ (n : ℕ). get_or marks n false) e ∙ sym (changed_here bytes marks i (omega arith))

pub no_mark : (bytes : List ℕ) (marks : List Bool) (i at : ℕ) → at ≡ i → page_bytes * at < length bytes → length marks ≤ at → false ≡ is_changed (marked bytes marks) i
no_mark bytes marks i at e lt le = sym (get_or_past marks at false le) ∙ is_mark bytes marks i at e lt

pub needed_marked : (bytes : List ℕ) (marks : List Bool) → needed (marked bytes marks) ≡ count_below (is_marked marks) (pages_of (length bytes))
needed_marked bytes marks = needed_by (marked bytes marks) (is_marked marks) (λ i lt. changed_here bytes marks i lt)

pub needed_marks : (bytes : List ℕ) (marks : List Bool) (first stop n : ℕ) → HasChanged first stop (marked bytes marks) → first ≤ stop → stop ≤ pages_of (length bytes)
    → count_below (is_marked marks) first + n ≡ count_below (is_marked marks) stop → n ≡ needed (marked bytes marks)
needed_marks bytes marks first stop n has ordered inside is = needed_row (marked bytes marks) (is_marked marks) (λ i lt. changed_here bytes marks i lt) first stop n has ordered inside is

pub new_page : (bytes : List ℕ) (marks : List Bool) (i : ℕ) → is_changed (marked bytes marks) i ≡ true → page_bytes * i < length bytes → shadow_page (marked bytes marks).pages i ≡ Some (full_page bytes i)
new_page bytes marks i is lt = page_changed bytes marks i (omega arith) (sym (changed_here bytes marks i (omega arith)) ∙ is)

-- pages in a row are all that are changed, where no other one is marked
pub row_has : (bytes : List ℕ) (marks : List Bool) (first stop end : ℕ) → end ≡ pages_of (length bytes) → ((i : ℕ) → i < first → is_marked marks i ≡ false) → ((i : ℕ) → stop ≤ i → i < end → is_marked marks i ≡ false) → HasChanged first stop (marked bytes marks)
row_has bytes marks first stop end e before behind i lt is =
    let mark : is_marked marks i ≡ true = sym (changed_here bytes marks i lt) ∙ is in (
      ⊎_elim (λ (less : i < first). absurd (true≢false (sym mark ∙ before i less))) (λ (le : first ≤ i). le) (cases_lt i first),
      ⊎_elim (λ (less : i < stop). less) (λ (le : stop ≤ i). absurd (true≢false (sym mark ∙ behind i le (omega arith)))) (cases_lt i stop),
    )

-- what is put of a page that is changed
pub page_put : (bytes : List ℕ) (marks : List Bool) (i from : ℕ) (page : List ℕ) → from ≡ i → page ≡ page_of bytes from → is_changed (marked bytes marks) i ≡ true → page_bytes * i < length bytes
    → shadow_page (marked bytes marks).pages i ≡ Some (padded page_bytes page)
page_put bytes marks i from page same is changed lt = new_page bytes marks i changed lt ∙ ap (λ (n : ℕ). Some (full_page bytes n)) (sym same) ∙ ap (λ (l : List ℕ). Some (padded page_bytes l)) (sym is)
