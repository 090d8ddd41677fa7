-- A row that is changed at its place, and a new row at its place, make the table with that row.
use Rattle.std.proofs.Common.{◌≡◌, ℕ, ◌<◌, List, length, set, get_or, Option, Some, None, slice_get, sym, ap, ◌∙◌, subst}
use Rattle.std.specs.List.{insert}
use Rattle.role_steps.specs.Tables.{row, with_row}
use Rattle.keyed_tables.specs.Rising.{Rising}
use Rattle.keyed_tables.proofs.Searched.{get_some, put_over, put_rising, rising_along}

-- a place of a table, as a search finds it
pub record Placed {A : Type 0} (key : A → ℕ) (k : ℕ) (xs : List A) (i : ℕ) (old : A) : Type 0 where
  pub rising : Rising key xs
  pub at : slice_get xs i ≡ Some old
  pub found : row key k xs ≡ Some old

pub placed : {A : Type 0} (key : A → ℕ) (k : ℕ) (seen xs : List A) (i : ℕ) (old : A) → Rising key xs → seen ≡ xs → (i < length seen) × (row key k seen ≡ slice_get seen i) → old ≡ get_or xs i old → Placed key k xs i old
placed {A = A} key k seen xs i old r same h e = record {
  rising = r;
  at = there;
  found = sym (ap (row key k) same) ∙ (h.1 ∙ (ap (λ (ys : List A). slice_get ys i) same ∙ there));
} where
  there : slice_get xs i ≡ Some old
  there = get_some xs i old (subst (λ (ys : List A). i < length ys) same h.0) ∙ ap (λ (a : A). Some a) (sym e)

pub changed_rising : {A : Type 0} (key : A → ℕ) (k : ℕ) (xs : List A) (i : ℕ) (old new : A) → Placed key k xs i old → key new ≡ key old → Rising key (set xs i new)
changed_rising key k xs i old new p same = rising_along key (with_row key new xs) (set xs i new) (put_over key new xs i old p.rising p.at (sym same)) (put_rising key new xs p.rising)

changed_here : {A : Type 0} (key : A → ℕ) (k : ℕ) (xs : List A) (i : ℕ) (old new : A) (f : Option A → A) → Placed key k xs i old → key new ≡ key old → new ≡ f (Some old) → set xs i new ≡ with_row key (f (row key k xs)) xs
changed_here {A = A} key k xs i old new f p same e = sym (put_over key new xs i old p.rising p.at (sym same)) ∙ ap (λ (a : A). with_row key a xs) (e ∙ ap f (sym p.found))

pub changed : {A : Type 0} (key : A → ℕ) (k : ℕ) (xs : List A) (i : ℕ) (old new : A) (f : Option A → A) (ys : List A) → xs ≡ ys → Placed key k xs i old → key new ≡ key old → new ≡ f (Some old) → set xs i new ≡ with_row key (f (row key k ys)) ys
changed {A = A} key k xs i old new f ys view p same e = subst (λ (zs : List A). set xs i new ≡ with_row key (f (row key k zs)) zs) view (changed_here key k xs i old new f p same e)

pub added_rising : {A : Type 0} (key : A → ℕ) (seen xs put : List A) (i : ℕ) (new : A) → Rising key xs → seen ≡ xs → with_row key new seen ≡ insert seen i new → put ≡ insert xs i new → Rising key put
added_rising {A = A} key seen xs put i new r same h e = rising_along key (with_row key new xs) put (ap (with_row key new) (sym same) ∙ (h ∙ (ap (λ (ys : List A). insert ys i new) same ∙ sym e))) (put_rising key new xs r)

pub added : {A : Type 0} (key : A → ℕ) (k : ℕ) (seen xs put : List A) (i : ℕ) (new : A) (f : Option A → A) (ys : List A) → xs ≡ ys → seen ≡ xs → row key k seen ≡ None → with_row key new seen ≡ insert seen i new → put ≡ insert xs i new → new ≡ f None → put ≡ with_row key (f (row key k ys)) ys
added {A = A} key k seen xs put i new f ys view same none h p e = subst (λ (zs : List A). put ≡ with_row key (f (row key k zs)) zs) view here where
  here : put ≡ with_row key (f (row key k xs)) xs
  here = p ∙ (sym (ap (λ (ys : List A). insert ys i new) same) ∙ (sym h ∙ (ap (with_row key new) same ∙ ap (λ (a : A). with_row key a xs) (e ∙ ap f (sym none ∙ ap (row key k) same)))))
