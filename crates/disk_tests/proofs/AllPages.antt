-- All pages of a content.
use Rattle.std.proofs.Common.{◌≡◌, ℕ, suc, ◌==◌, ◌+◌, ◌<◌, ◌≤◌, ◌/◌, ⊎_elim, Bool, true, false, cond, List, [], ◌∷◌, ◌++◌, Option, None, Some, refl, sym, ap, ◌∙◌, arith}
use Rattle.std.specs.Prelude.{is_some}
use Rattle.std.proofs.lemmas.Bool.{false≢true, eq-eqb, cases_lt}
use Rattle.locus_ids.specs.Sizes.{page_bytes}
use Rattle.new_contents.specs.Laid.{place_from, has_come, laid}
use Rattle.new_contents.proofs.Laid.{changed_here}
use Rattle.stored_versions.specs.of_file_content.Pages.{pages_of}
use Rattle.inode_pack.specs.Committing.{RestsOn}

some_first : (b : Bool) (k : ℕ) (o : Option ℕ) → is_some o ≡ true → is_some (cond b (Some k) o) ≡ true
some_first true k o e = refl
some_first false k o e = e

come_before : (k : ℕ) (numbers : List ℕ) (more page : ℕ) → is_some (place_from k numbers page) ≡ true → is_some (place_from k (numbers ++ more ∷ []) page) ≡ true
come_before k [] more page come = absurd (false≢true come)
come_before k (number ∷ numbers) more page come = (elim (number == page) as (λ b. is_some (cond b (Some k) (place_from (suc k) numbers page)) ≡ true → is_some (cond b (Some k) (place_from (suc k) (numbers ++ more ∷ []) page)) ≡ true) [
  | true ↦ λ e. refl
  | false ↦ λ e. come_before (suc k) numbers more page e
]) come

come_last : (k : ℕ) (numbers : List ℕ) (page : ℕ) → is_some (place_from k (numbers ++ page ∷ []) page) ≡ true
come_last k [] page = ap (λ (b : Bool). is_some (cond b (Some k) None)) (eq-eqb page page refl)
come_last k (number ∷ numbers) page = some_first (number == page) k (place_from (suc k) (numbers ++ page ∷ []) page) (come_last (suc k) numbers page)

-- one page more
pub come_more : (numbers : List ℕ) (next : ℕ) → ((page : ℕ) → page < next → has_come numbers page ≡ true) → (page : ℕ) → page < next + 1 → has_come (numbers ++ next ∷ []) page ≡ true
come_more numbers next before page lt = ⊎_elim
    (λ (less : page < next). come_before 0 numbers next page (before page less))
    (λ (ge : next ≤ page). let e : next ≡ page = omega arith in ap (λ (n : ℕ). has_come (numbers ++ n ∷ []) page) e ∙ come_last 0 numbers page)
    (cases_lt page next)

-- where all come, nothing rests on the content before
pub all_rest : (size own : ℕ) (numbers bytes : List ℕ) → ((page : ℕ) → page < pages_of size → has_come numbers page ≡ true) → RestsOn own (laid size numbers bytes)
all_rest size own numbers bytes all k lt none =
    let i = k / page_bytes in
    let inside : i < pages_of size = omega arith in
    absurd (false≢true (sym (ap (λ (o : Option (List ℕ)). is_some o) none) ∙ changed_here size numbers bytes i inside ∙ all i inside))
