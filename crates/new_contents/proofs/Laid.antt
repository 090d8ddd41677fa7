-- The pages of a version of which some came.
use Rattle.std.proofs.Common.{◌≡◌, ◌≢◌, ⊎_elim, ℕ, zero, suc, ◌+◌, ◌<◌, ◌≤◌, Bool, false, cond, List, [], ◌∷◌, length, drop, get_or, Option, None, Some, refl, sym, ◌∙◌, ap, arith, length-append}
use Rattle.std.specs.Option.{is_some, option_map}
use Rattle.std.proofs.lemmas.Bool.{cases_lt, eq-eqb, ne_eqb}
use Rattle.std.proofs.lemmas.List.{get_or_past, get_or_append_left, get_or_at, drop_more, drop_all}
use Rattle.locus_ids.specs.Sizes.{page_bytes}
use Rattle.file_content.specs.Pages.{pages_of, page_of}
use Rattle.shadow_pages.specs.Working.{page_at as shadow_page, padded, count_below}
use Rattle.new_contents.specs.Whole.{full_page}
use Rattle.new_contents.specs.Laid.{place_from, has_come, laid_page, laid_pages, laid}
use Rattle.new_contents.specs.Changed.{is_changed, needed, HasChanged}
use Rattle.new_contents.proofs.Counting.{needed_row}
use Rattle.new_contents.proofs.Whole.{long_page}

length_laid : (numbers bytes : List ℕ) (n : ℕ) → length (laid_pages numbers bytes n) ≡ n
length_laid numbers bytes zero = refl
length_laid numbers bytes (suc n) = let e = length_laid numbers bytes n in omega (arith, length-append (laid_pages numbers bytes n) (laid_page numbers bytes n ∷ []))

laid_in : (numbers bytes : List ℕ) (n i : ℕ) → i < n → get_or (laid_pages numbers bytes n) i None ≡ laid_page numbers bytes i
laid_in numbers bytes zero i lt = absurd (omega arith)
laid_in numbers bytes (suc n) i lt = ⊎_elim
    (λ (less : i < n). get_or_append_left (laid_pages numbers bytes n) (laid_page numbers bytes n ∷ []) None i (let l = length_laid numbers bytes n in omega arith) ∙ laid_in numbers bytes n i less)
    (λ (ge : n ≤ i).
    let e : n ≡ i = omega arith in
    get_or_at (laid_pages numbers bytes n) (laid_page numbers bytes n) [] None i (omega (arith, length_laid numbers bytes n)) ∙ ap (λ (j : ℕ). laid_page numbers bytes j) e)
    (cases_lt i n)

-- page i of the version, if it is one and came
pub page_here : (size : ℕ) (numbers bytes : List ℕ) (i : ℕ) → i < pages_of size → shadow_page (laid size numbers bytes).pages i ≡ laid_page numbers bytes i
page_here size numbers bytes i lt = laid_in numbers bytes (pages_of size) i lt

pub page_past : (size : ℕ) (numbers bytes : List ℕ) (i : ℕ) → pages_of size ≤ i → shadow_page (laid size numbers bytes).pages i ≡ None
page_past size numbers bytes i le = get_or_past (laid_pages numbers bytes (pages_of size)) i None (omega (arith, length_laid numbers bytes (pages_of size)))

some_map : (o : Option ℕ) (bytes : List ℕ) → is_some (option_map (full_page bytes) o) ≡ is_some o
some_map None bytes = refl
some_map (Some k) bytes = refl

pub changed_here : (size : ℕ) (numbers bytes : List ℕ) (i : ℕ) → i < pages_of size → is_changed (laid size numbers bytes) i ≡ has_come numbers i
changed_here size numbers bytes i lt = ap (λ (o : Option (List ℕ)). is_some o) (page_here size numbers bytes i lt) ∙ some_map (place_from 0 numbers i) bytes

pub unchanged_past : (size : ℕ) (numbers bytes : List ℕ) (i : ℕ) → pages_of size ≤ i → is_changed (laid size numbers bytes) i ≡ false
unchanged_past size numbers bytes i le = ap (λ (o : Option (List ℕ)). is_some o) (page_past size numbers bytes i le)

long_map : (o : Option ℕ) (bytes page : List ℕ) → option_map (full_page bytes) o ≡ Some page → length page ≡ page_bytes
long_map None bytes page is = absurd (let e : None ≡ Some page = is in cc)
long_map (Some k) bytes page is = let e : full_page bytes k ≡ page = cc in sym (ap (λ (l : List ℕ). length l) e) ∙ long_page bytes k

pub laid_long : (size : ℕ) (numbers bytes : List ℕ) (i : ℕ) (page : List ℕ) → shadow_page (laid size numbers bytes).pages i ≡ Some page → length page ≡ page_bytes
laid_long size numbers bytes i page is = ⊎_elim
    (λ (lt : i < pages_of size). long_map (place_from 0 numbers i) bytes page (sym (page_here size numbers bytes i lt) ∙ is))
    (λ (le : pages_of size ≤ i). let e : None ≡ Some page = sym (page_past size numbers bytes i le) ∙ is in absurd cc)
    (cases_lt i (pages_of size))

-- ---- at which place a page stands ----

-- the number at place i is the page
pub place_here : (numbers : List ℕ) (i page : ℕ) → i < length numbers → get_or numbers i 0 ≡ page → place_from i (drop i numbers) page ≡ Some i
place_here numbers i page lt is =
    ap (λ (l : List ℕ). place_from i l page) (drop_more numbers i 0 lt) ∙ ap (λ (b : Bool). cond b (Some i) (place_from (suc i) (drop (i + 1) numbers) page)) (eq-eqb (get_or numbers i 0) page is)

-- it isn't: the page stands behind it, if it does
pub place_later : (numbers : List ℕ) (i page : ℕ) → i < length numbers → get_or numbers i 0 ≢ page → place_from i (drop i numbers) page ≡ place_from (i + 1) (drop (i + 1) numbers) page
place_later numbers i page lt isnt =
    ap (λ (l : List ℕ). place_from i l page) (drop_more numbers i 0 lt) ∙ ap (λ (b : Bool). cond b (Some i) (place_from (suc i) (drop (i + 1) numbers) page)) (ne_eqb (get_or numbers i 0) page isnt)
    ∙ ap (λ (n : ℕ). place_from n (drop (i + 1) numbers) page) (let e : suc i ≡ i + 1 = omega arith in e)

-- behind the last number stands none
pub place_none : (numbers : List ℕ) (i page : ℕ) → length numbers ≤ i → place_from i (drop i numbers) page ≡ None
place_none numbers i page le = ap (λ (l : List ℕ). place_from i l page) (drop_all i numbers le)

-- ---- what is written ----

-- so many as came in a row, where all that are changed are there
pub needed_come : (size : ℕ) (numbers bytes : List ℕ) (first stop n : ℕ) → HasChanged first stop (laid size numbers bytes) → first ≤ stop → stop ≤ pages_of size
    → count_below (has_come numbers) first + n ≡ count_below (has_come numbers) stop → n ≡ needed (laid size numbers bytes)
needed_come size numbers bytes first stop n has ordered inside is = needed_row (laid size numbers bytes) (has_come numbers) (λ i lt. changed_here size numbers bytes i lt) first stop n has ordered inside is

-- a page that came at a place
pub page_came : (size : ℕ) (numbers bytes : List ℕ) (i place : ℕ) (page : List ℕ) → i < pages_of size → place_from 0 numbers i ≡ Some place → page ≡ page_of bytes place
    → shadow_page (laid size numbers bytes).pages i ≡ Some (padded page_bytes page)
page_came size numbers bytes i place page lt at is = page_here size numbers bytes i lt ∙ ap (λ (o : Option ℕ). option_map (full_page bytes) o) at ∙ ap (λ (l : List ℕ). Some (padded page_bytes l)) (sym is)

-- one that didn't
pub page_kept : (size : ℕ) (numbers bytes : List ℕ) (i : ℕ) → i < pages_of size → place_from 0 numbers i ≡ None → shadow_page (laid size numbers bytes).pages i ≡ None
page_kept size numbers bytes i lt is = page_here size numbers bytes i lt ∙ ap (λ (o : Option ℕ). option_map (full_page bytes) o) is
