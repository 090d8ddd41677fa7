-- Steps that lead back from one version to another.
use Rattle.std.proofs.Common.{◌≡◌, ℕ, zero, suc, ◌+◌, ◌-◌, ◌<◌, ◌≤◌, ◌==◌, Bool, true, false, ◌||◌, cond, filter, List, [], ◌∷◌, ◌++◌, length, take, drop, Option, Some, None, refl, sym, ap, ◌∙◌, arith}
use Rattle.std.specs.Prelude.{slice_get}
use Rattle.std.specs.List.{list_any}
use Rattle.std.specs.Option.{option_map}
use Rattle.std.proofs.lemmas.List.{append_assoc}
use Rattle.std.proofs.lemmas.List.Folds.{list_any-append}
use Rattle.locus_ids.specs.declared.ids.Stamp.{Stamp}
use Rattle.commit_graph.specs.Versions.{same_stamp}
use Rattle.role_steps.proofs.of_plain_facts.Options.{some_same}
use Rattle.role_steps.specs.Storage.{pages_back, pages_since}
use Rattle.role_steps.specs.declared.copies.Step.{Step}
use Rattle.file_content.specs.Pages.{has_page, pages_from}
use Rattle.file_content.proofs.Paging.{next_page, put_before}
use Rattle.storage_site.specs.Wanting.{is_written, pages_written}

-- ---- one step ----

-- the steps before a version
abbrev earlier : Stamp → List Step → Stamp → Option (List ℕ)
earlier own xs before = pages_since own before xs

abbrev after : Option (List ℕ) → Bool → Option (List ℕ)
after found b = cond b found None

pub other_version : (own wanted : Stamp) (x : Step) (xs : List Step) → same_stamp x.after wanted ≡ false → pages_since own wanted (x ∷ xs) ≡ None
other_version own wanted x xs h = ap (after (pages_back own x x.before (earlier own xs))) h

pub first_version : (own wanted : Stamp) (x : Step) (xs : List Step) → same_stamp x.after wanted ≡ true → x.before ≡ None → pages_since own wanted (x ∷ xs) ≡ None
first_version own wanted x xs h none = ap (after (pages_back own x x.before (earlier own xs))) h ∙ ap (λ (o : Option Stamp). pages_back own x o (earlier own xs)) none

abbrev went : Step → Option (List ℕ) → Bool → Option (List ℕ)
went x rest b = cond b (Some x.pages) (option_map (λ pages. x.pages ++ pages) rest)

pub own_version : (own wanted before : Stamp) (x : Step) (xs : List Step) → same_stamp x.after wanted ≡ true → x.before ≡ Some before → same_stamp before own ≡ true → pages_since own wanted (x ∷ xs) ≡ Some x.pages
own_version own wanted before x xs h some found =
    ap (after (pages_back own x x.before (earlier own xs))) h ∙ ap (λ (o : Option Stamp). pages_back own x o (earlier own xs)) some ∙ ap (went x (pages_since own before xs)) found

pub further_version : (own wanted before : Stamp) (x : Step) (xs : List Step) → same_stamp x.after wanted ≡ true → x.before ≡ Some before → same_stamp before own ≡ false
    → pages_since own wanted (x ∷ xs) ≡ option_map (λ pages. x.pages ++ pages) (pages_since own before xs)
further_version own wanted before x xs h some other =
    ap (after (pages_back own x x.before (earlier own xs))) h ∙ ap (λ (o : Option Stamp). pages_back own x o (earlier own xs)) some ∙ ap (went x (pages_since own before xs)) other

-- ---- as far as a place ----

nothing_more : {A : Type 0} (xs : List A) → xs ++ [] ≡ xs
nothing_more [] = refl
nothing_more (x ∷ xs) = ap (λ ys. x ∷ ys) (nothing_more xs)

-- what was written up to a place, and after it
abbrev pub written_to : ℕ → List Step → Option (List ℕ) → Option (List ℕ)
written_to place xs rest = option_map (λ pages. pages_written (take place xs) ++ pages) rest

pub from_start : (xs : List Step) (o : Option (List ℕ)) → o ≡ written_to 0 xs o
from_start xs None = refl
from_start xs (Some pages) = refl

get_none : {A : Type 0} {B : Type 0} (a : A) → ◌≡◌ {A = Option A} None (Some a) → B
get_none a e = absurd cc

rest_at : (xs : List Step) (i : ℕ) (x : Step) → slice_get xs i ≡ Some x → drop i xs ≡ x ∷ drop (suc i) xs
rest_at [] i x h = get_none x h
rest_at (y ∷ ys) zero x h = ap (λ (z : Step). z ∷ ys) (some_same y x h)
rest_at (y ∷ ys) (suc i) x h = rest_at ys i x h

written_next : (xs : List Step) (i : ℕ) (x : Step) → slice_get xs i ≡ Some x → pages_written (take (suc i) xs) ≡ pages_written (take i xs) ++ x.pages
written_next [] i x h = get_none x h
written_next (y ∷ ys) zero x h = nothing_more y.pages ∙ ap (λ (z : Step). z.pages) (some_same y x h)
written_next (y ∷ ys) (suc i) x h = ap (λ ps. y.pages ++ ps) (written_next ys i x h) ∙ sym (append_assoc y.pages (pages_written (take i ys)) x.pages)

module _ (own wanted : Stamp) (xs : List Step) (i : ℕ) (x : Step) (here : slice_get xs i ≡ Some x) (found : Option (List ℕ)) (so_far : found ≡ written_to i xs (pages_since own wanted (drop i xs))) where
  at_step : (o : Option (List ℕ)) → pages_since own wanted (x ∷ drop (suc i) xs) ≡ o → found ≡ written_to i xs o
  at_step o e = so_far ∙ ap (λ (ys : List Step). written_to i xs (pages_since own wanted ys)) (rest_at xs i x here) ∙ ap (written_to i xs) e

  pub ends_other : same_stamp x.after wanted ≡ false → found ≡ None
  ends_other h = at_step None (other_version own wanted x (drop (suc i) xs) h)

  pub ends_first : same_stamp x.after wanted ≡ true → x.before ≡ None → found ≡ None
  ends_first h none = at_step None (first_version own wanted x (drop (suc i) xs) h none)

  pub ends_own : (before : Stamp) → same_stamp x.after wanted ≡ true → x.before ≡ Some before → same_stamp before own ≡ true → found ≡ Some (pages_written (take (suc i) xs))
  ends_own before h some is = at_step (Some x.pages) (own_version own wanted before x (drop (suc i) xs) h some is) ∙ ap (λ (ps : List ℕ). Some ps) (sym (written_next xs i x here))

  joined : (o : Option (List ℕ)) → written_to i xs (option_map (λ pages. x.pages ++ pages) o) ≡ written_to (suc i) xs o
  joined None = refl
  joined (Some pages) =
      ap (λ (ps : List ℕ). Some ps) (sym (append_assoc (pages_written (take i xs)) x.pages pages)) ∙ ap (λ (ps : List ℕ). Some (ps ++ pages)) (sym (written_next xs i x here))

  pub goes_on : (before : Stamp) → same_stamp x.after wanted ≡ true → x.before ≡ Some before → same_stamp before own ≡ false → found ≡ written_to (suc i) xs (pages_since own before (drop (suc i) xs))
  goes_on before h some other =
      at_step (option_map (λ pages. x.pages ++ pages) (pages_since own before (drop (suc i) xs))) (further_version own wanted before x (drop (suc i) xs) h some other) ∙ joined (pages_since own before (drop (suc i) xs))

drop_none : (xs : List Step) (n : ℕ) → length xs ≤ n → drop n xs ≡ []
drop_none [] zero h = refl
drop_none [] (suc n) h = refl
drop_none (x ∷ xs) zero h = absurd (omega arith)
drop_none (x ∷ xs) (suc n) h = drop_none xs n (omega arith)

pub ends_all : (own wanted : Stamp) (xs : List Step) (i : ℕ) (found : Option (List ℕ)) → length xs ≤ i → found ≡ written_to i xs (pages_since own wanted (drop i xs)) → found ≡ None
ends_all own wanted xs i found all so_far = so_far ∙ ap (λ (ys : List Step). written_to i xs (pages_since own wanted ys)) (drop_none xs i all)

-- ---- the pages that they wrote ----

has_written : (xs : List Step) (page : ℕ) → has_page (pages_written xs) page ≡ is_written xs page
has_written [] page = refl
has_written (x ∷ xs) page = list_any-append (λ p. p == page) x.pages (pages_written xs) ∙ ap (λ (b : Bool). has_page x.pages page || b) (has_written xs page)

pub all_written : (xs : List Step) (count : ℕ) → filter (is_written xs) (pages_from 0 count) ≡ filter (has_page (pages_written xs)) (pages_from 0 count)
all_written xs count = sym (λ i. filter (λ page. has_written xs page i) (pages_from 0 count))

-- ---- pages in turn ----

module _ (made now : List ℕ) (page count number : ℕ) (all : List ℕ) (more : page < count) (is : number ≡ page) where
  abbrev pub rest : List ℕ
  rest = pages_from (page + 1) (count - (page + 1))

  turns : pages_from page (count - page) ≡ page ∷ rest
  turns = next_page page count more

  pub all_next : now ≡ made ++ number ∷ [] → made ++ pages_from page (count - page) ≡ all → now ++ rest ≡ all
  all_next put so_far =
      ap (λ xs. xs ++ rest) put ∙ ap (λ (n : ℕ). (made ++ n ∷ []) ++ rest) is ∙ put_before made page rest ∙ ap (λ xs. made ++ xs) (sym turns) ∙ so_far

  module _ (test : ℕ → Bool) where
    by_test : (b : Bool) → cond b (made ++ page ∷ []) made ++ filter test rest ≡ made ++ cond b (page ∷ filter test rest) (filter test rest)
    by_test true = put_before made page (filter test rest)
    by_test false = refl

    pub those_next : now ≡ cond (test number) (made ++ number ∷ []) made → made ++ filter test (pages_from page (count - page)) ≡ all → now ++ filter test rest ≡ all
    those_next put so_far =
        ap (λ xs. xs ++ filter test rest) put ∙ ap (λ (n : ℕ). cond (test n) (made ++ n ∷ []) made ++ filter test rest) is ∙ by_test (test page)
        ∙ ap (λ (ps : List ℕ). made ++ filter test ps) (sym turns) ∙ so_far
