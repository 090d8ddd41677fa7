-- Elements of lists: what all of them pass, and what the first that passes shows.
use Rattle.std.proofs.Common.{◌≡◌, ℕ, ◌==◌, Bool, true, false, cond, ◌&&◌, List, [], ◌∷◌, filter, Option, Some, None, refl, sym, ◌∙◌, ap, subst, inl, inr, arith}
use Rattle.std.proofs.lemmas.Bool.Decides.{nat_tests}
use Rattle.std.specs.List.{list_all}
use Rattle.role_steps.proofs.of_plain_facts.Options.{none_some, some_same}
use Rattle.role_steps.proofs.of_plain_facts.Tests.{true_false}
use Rattle.role_steps.specs.Own.{Every}
use Rattle.role_steps.specs.Tables.{row, first_that}
use Rattle.role_steps.specs.Views.{first_site}
use Rattle.the_run.specs.Kept.{Among}

pub no_element : {A : Type 0} (xs : List A) → ((x : A) → Among x xs → ⊥) → xs ≡ []
no_element [] h = refl
no_element (x ∷ xs) h = absurd (h x (inl refl))

-- where none is the first that passes, none passes
pub none_passes : {A : Type 0} (test : A → Bool) (xs : List A) → first_that test xs ≡ None → (y : A) → Among y xs → test y ≡ true → ⊥
none_passes test [] h y a t = a
none_passes {A = A} test (x ∷ xs) h y a t =
    (elim (test x) as (λ b. test x ≡ b → ◌≡◌ {A = Option A} (elim b [ true ↦ Some x | false ↦ first_that test xs ]) None → ⊥) [
      | true ↦ λ e f. none_some x (sym f)
      | false ↦ λ e f. later e (none_passes test xs f y) a
    ]) refl h
  where
    later : test x ≡ false → (Among y xs → test y ≡ true → ⊥) → Among y (x ∷ xs) → ⊥
    later e g (inl k) = true_false (sym t ∙ (ap test k ∙ e))
    later e g (inr k) = g k t

-- all that one test lets through pass another one
pub all_pass : {A : Type 0} (test through : A → Bool) (xs : List A) → ((x : A) → through x ≡ true → test x ≡ true) → list_all test (filter through xs) ≡ true
all_pass test through [] h = refl
all_pass test through (x ∷ xs) h = over (through x) refl (all_pass test through xs h)
  where
    over : (b : Bool) → through x ≡ b → list_all test (filter through xs) ≡ true → list_all test (cond b (x ∷ filter through xs) (filter through xs)) ≡ true
    over true e k = ap (λ (b : Bool). b && list_all test (filter through xs)) (h x e) ∙ k
    over false e k = k

-- the first of those that pass passes
pub first_passes : (test : ℕ → Bool) (xs : List ℕ) (s : ℕ) → first_site (filter test xs) ≡ Some s → test s ≡ true
first_passes test [] s e = absurd (none_some s e)
first_passes test (x ∷ xs) s e = over (test x) refl (first_passes test xs s) e
  where
    over : (b : Bool) → test x ≡ b → (first_site (filter test xs) ≡ Some s → test s ≡ true) → first_site (cond b (x ∷ filter test xs) (filter test xs)) ≡ Some s → test s ≡ true
    over true t k f = ap test (sym (some_same x s f)) ∙ t
    over false t k f = k f

pub every_among : {A : Type 0} (P : A → Type 0) (x : A) (xs : List A) → Among x xs → Every P xs → P x
every_among P x [] a h = absurd a
every_among P x (y ∷ ys) (inl e) h = subst P (sym e) h.0
every_among P x (y ∷ ys) (inr a) h = every_among P x ys a h.1

-- a row that is found has its key
pub row_key : {A : Type 0} (key : A → ℕ) (k : ℕ) (xs : List A) (x : A) → row key k xs ≡ Some x → Among x xs × (key x ≡ k)
row_key key k [] x e = absurd (none_some x e)
row_key {A = A} key k (y ∷ ys) x e =
    (elim (key y == k) as (λ b. (key y == k) ≡ b → ◌≡◌ {A = Option A} (elim b [ true ↦ Some y | false ↦ row key k ys ]) (Some x) → Among x (y ∷ ys) × (key x ≡ k)) [
      | true ↦ λ t f. (inl (sym (some_same y x f)), ap key (sym (some_same y x f)) ∙ equal (key y) k t)
      | false ↦ λ t f. (let r : Among x ys × (key x ≡ k) = row_key key k ys x f in (inr r.0, r.1))
    ]) refl e
  where
    equal : (i j : ℕ) → (i == j) ≡ true → i ≡ j
    equal i j t = grind (arith, nat_tests)
