-- A row that is taken out of a table in order and put back.
use Rattle.std.proofs.Common.{◌≡◌, ◌≢◌, ℕ, ◌<◌, ◌≤◌, Bool, true, false, List, [], ◌∷◌, take, nat_eq, nat_lt, refl, sym, ap, ◌∙◌, ⊎_elim, arith}
use Rattle.std.specs.Prelude.{◌⊎◌}
use Rattle.role_steps.proofs.of_plain_facts.Numbers.{differ_test, less_test, not_less, not_less_test, same, same_test}
use Rattle.locus_ids.specs.declared.ids.FileId.{FileId}
use Rattle.role_steps.specs.Tables.{with_row, without_row}
use Rattle.role_steps.specs.Views.{FileSteps, file_key}
use Rattle.role_steps.specs.Storage.{steps_key, steps_of, with_step}
use Rattle.role_steps.specs.declared.copies.Step.{Step}
use Rattle.keyed_tables.specs.Rising.{Above, Rising}

above_weaker : {A : Type 0} (key : A → ℕ) (m k : ℕ) (xs : List A) → m ≤ k → Above key k xs → Above key m xs
above_weaker key m k [] l h = tt
above_weaker key m k (x ∷ xs) l h = (let g : k < key x = h.0 in omega arith, above_weaker key m k xs l h.1)

-- a table whose rows are all above it gets it in front, and has no row of its key
put_low : {A : Type 0} (key : A → ℕ) (x : A) (ys : List A) → Above key (key x) ys → with_row key x ys ≡ x ∷ ys
put_low key x [] h = refl
put_low key x (y ∷ ys) h = let g : key x < key y = h.0 in rw (not_less_test (key y) (key x) (omega arith), differ_test (key y) (key x) (λ e. absurd (omega arith)), with_row) refl

out_low : {A : Type 0} (key : A → ℕ) (k : ℕ) (ys : List A) → Above key k ys → without_row key k ys ≡ ys
out_low key k [] h = refl
out_low key k (y ∷ ys) h = let g : k < key y = h.0 in rw (differ_test (key y) k (λ e. absurd (omega arith)), without_row) (ap (λ zs. y ∷ zs) (out_low key k ys h.1))

-- a row that is taken out and replaced stands where it stood
pub put_over : {A : Type 0} (key : A → ℕ) (x : A) (ys : List A) → Rising key ys → with_row key x (without_row key (key x) ys) ≡ with_row key x ys
put_over key x [] r = refl
put_over {A = A} key x (y ∷ ys) r = (elim (nat_eq (key y) (key x)) as (λ b. nat_eq (key y) (key x) ≡ b → with_row key x (elim b as (λ (t : Bool). List A) [ true ↦ ys | false ↦ y ∷ without_row key (key x) ys ]) ≡ with_row key x (y ∷ ys)) [
  | true ↦ λ t. let s : key y ≡ key x = same (key y) (key x) t in
      put_low key x ys (above_weaker key (key x) (key y) ys (omega arith) r.0)
      ∙ sym (rw (not_less_test (key y) (key x) (omega arith), t, with_row) refl)
  | false ↦ λ t. (elim (nat_lt (key y) (key x)) as (λ b. nat_lt (key y) (key x) ≡ b → with_row key x (y ∷ without_row key (key x) ys) ≡ with_row key x (y ∷ ys)) [
    | true ↦ λ l. rw (l, with_row) (ap (λ zs. y ∷ zs) (put_over key x ys r.1))
    | false ↦ λ l. let g : key x ≤ key y = not_less (key y) (key x) l in
        rw (l, t, with_row) (ap (λ zs. x ∷ y ∷ zs) (out_low key (key x) ys (above_weaker key (key x) (key y) ys g r.0)))
  ]) refl
]) refl

-- the last steps of a file, with one more
pub remembered : (file : FileId) (x : Step) (all rows now : List FileSteps) (steps taken : List Step) → Rising steps_key all → rows ≡ without_row steps_key (file_key file) all → taken ≡ steps_of file all
    → steps ≡ x ∷ take 15 taken → now ≡ with_row steps_key (record { file = file; steps = steps }) rows → now ≡ with_step file x all
remembered file x all rows now steps taken rising left old first put =
    put ∙ ap (λ (ys : List FileSteps). with_row steps_key (record { file = file; steps = steps }) ys) left ∙ put_over steps_key (record { file = file; steps = steps }) all rising
    ∙ ap (λ (ss : List Step). with_row steps_key (record { file = file; steps = ss }) all) (first ∙ ap (λ (ys : List Step). x ∷ take 15 ys) old)
