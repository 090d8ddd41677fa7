-- The first entry that passes a test.
use Rattle.std.proofs.Common.{◌≡◌, ℕ, Bool, true, false, ◌&&◌, cond, eqb, List, [], ◌∷◌, ◌+◌, ◌<◌, ◌≤◌, length, drop, get_or, Some, None, refl, sym, ap, ◌∙◌, subst}
use Rattle.std.proofs.lemmas.List.{drop_more, drop_all}
use Rattle.std.specs.Prelude.{Option, filter}
use Rattle.std.specs.List.{AllByRecursion, find}
use Rattle.dir_format.specs.declared.entry.Entry.{Entry}
use Rattle.std.proofs.lemmas.Bool.{false≢true}
use Rattle.std.specs.Str.{bytes_eq}
use Rattle.dir_format.specs.Entries.{is_live, is_pair, OneKind, HasKindOf}
use Rattle.dir_format.specs.Lookups.{has_name}

module _ (P : Entry → Type 0) (p : Entry → Bool) where
  here_or_later : (b : Bool) (y x : Entry) (later : Option Entry) → cond b (Some y) later ≡ Some x → P y → (later ≡ Some x → P x) → P x
  here_or_later true y x later e here there = let is : y ≡ x = cc in subst P is here
  here_or_later false y x later e here there = there e

  -- what holds of all holds of it
  pub find_has : (xs : List Entry) (x : Entry) → find p xs ≡ Some x → AllByRecursion P xs → P x
  find_has [] x e h = absurd cc
  find_has (y ∷ ys) x e h = here_or_later (p y) y x (find p ys) e h.0 (λ w. find_has ys x w h.1)

-- it passes the test
module _ (p : Entry → Bool) where
  passes_by : (b : Bool) (y x : Entry) (later : Option Entry) → p y ≡ b → cond b (Some y) later ≡ Some x → (later ≡ Some x → p x ≡ true) → p x ≡ true
  passes_by true y x later t e there = let is : y ≡ x = cc in subst (λ (z : Entry). p z ≡ true) is t
  passes_by false y x later t e there = there e

  pub find_passes : (xs : List Entry) (x : Entry) → find p xs ≡ Some x → p x ≡ true
  find_passes [] x e = absurd cc
  find_passes (y ∷ ys) x e = passes_by (p y) y x (find p ys) refl e (λ w. find_passes ys x w)

  kind_by : (b : Bool) (y x : Entry) (ys : List Entry) → cond b (Some y) (find p ys) ≡ Some x → AllByRecursion (λ e. e.ino ≡ y.ino → e.kind ≡ y.kind) ys → (find p ys ≡ Some x → HasKindOf x ys) → HasKindOf x (y ∷ ys)
  kind_by true y x ys e h there = let is : y ≡ x = cc in subst (λ (z : Entry). HasKindOf z (y ∷ ys)) is ((λ _. refl), h)
  kind_by false y x ys e h there = ((λ same. sym (find_has (λ d. d.ino ≡ y.ino → d.kind ≡ y.kind) p ys x e h (sym same))), there e)

  -- it has the kind of each entry of its inode
  pub kind_of_found : (xs : List Entry) (x : Entry) → find p xs ≡ Some x → OneKind xs → HasKindOf x xs
  kind_of_found [] x e h = absurd cc
  kind_of_found (y ∷ ys) x e h = kind_by (p y) y x ys e h.0 (λ w. kind_of_found ys x w h.1)

  none_by : (b : Bool) (y : Entry) (ys : List Entry) → cond b (Some y) (find p ys) ≡ None → (find p ys ≡ None → filter p ys ≡ []) → cond b (y ∷ filter p ys) (filter p ys) ≡ []
  none_by true y ys e there = absurd cc
  none_by false y ys e there = there e

  pub filter-none : (xs : List Entry) → find p xs ≡ None → filter p xs ≡ []
  filter-none [] e = refl
  filter-none (y ∷ ys) e = none_by (p y) y ys e (λ w. filter-none ys w)

  some_by : (b : Bool) (y x : Entry) (ys : List Entry) → cond b (Some y) (find p ys) ≡ Some x → (find p ys ≡ Some x → (others : List Entry) × (filter p ys ≡ x ∷ others)) → (others : List Entry) × (cond b (y ∷ filter p ys) (filter p ys) ≡ x ∷ others)
  some_by true y x ys e there = let is : y ≡ x = cc in (filter p ys, ap (λ (z : Entry). z ∷ filter p ys) is)
  some_by false y x ys e there = there e

  pub filter-some : (xs : List Entry) (x : Entry) → find p xs ≡ Some x → (others : List Entry) × (filter p xs ≡ x ∷ others)
  filter-some [] x e = absurd cc
  filter-some (y ∷ ys) x e = some_by (p y) y x ys e (λ w. filter-some ys x w)

-- as a loop finds it: what is left finds the same
module _ (p : Entry → Bool) (xs : List Entry) (i : ℕ) where
  pub still : (x : Entry) → i < length xs → x ≡ get_or xs i x → p x ≡ false → find p (drop i xs) ≡ find p xs → find p (drop (i + 1) xs) ≡ find p xs
  still x lt is fails h =
      let one : find p (x ∷ drop (i + 1) xs) ≡ find p (drop (i + 1) xs) = rw fails refl in
      sym one ∙ sym (ap (find p) (drop_more xs i x lt ∙ ap (λ (y : Entry). y ∷ drop (i + 1) xs) (sym is))) ∙ h

  pub found_at : (x : Entry) → i < length xs → x ≡ get_or xs i x → p x ≡ true → find p (drop i xs) ≡ find p xs → Some x ≡ find p xs
  found_at x lt is passes h =
      let one : find p (x ∷ drop (i + 1) xs) ≡ Some x = rw passes refl in
      sym one ∙ sym (ap (find p) (drop_more xs i x lt ∙ ap (λ (y : Entry). y ∷ drop (i + 1) xs) (sym is))) ∙ h

  pub found_nowhere : length xs ≤ i → find p (drop i xs) ≡ find p xs → None ≡ find p xs
  found_nowhere le h = sym (ap (find p) (drop_all i xs le)) ∙ h

not_live : (live named here : Bool) → (live && named) ≡ false → (named && here) ≡ true → live ≡ false
not_live true true here h k = h
not_live true false here h k = absurd (false≢true k)
not_live false named here h k = refl

module _ (name : List ℕ) (ino : ℕ) where
  free_by : (b c : Bool) (y x : Entry) (ys : List Entry) → has_name name y ≡ b → is_pair name ino y ≡ c → cond b (Some y) (find (has_name name) ys) ≡ None → cond c (Some y) (find (is_pair name ino) ys) ≡ Some x
      → (find (has_name name) ys ≡ None → find (is_pair name ino) ys ≡ Some x → is_live x ≡ false) → is_live x ≡ false
  free_by true c y x ys i j f g there = absurd cc
  free_by false true y x ys i j f g there = let is : y ≡ x = cc in subst (λ (z : Entry). is_live z ≡ false) is (not_live (is_live y) (bytes_eq y.name name) (eqb y.ino ino) i j)
  free_by false false y x ys i j f g there = there f g

  -- where no live entry has the name, an entry of a pair with it is removed
  pub removed_where_free : (xs : List Entry) (x : Entry) → find (has_name name) xs ≡ None → find (is_pair name ino) xs ≡ Some x → is_live x ≡ false
  removed_where_free [] x free e = absurd cc
  removed_where_free (y ∷ ys) x free e = free_by (has_name name y) (is_pair name ino y) y x ys refl refl free e (λ f g. removed_where_free ys x f g)

-- a live entry that a component means
pub meant_is_live : (live other : Bool) → (live && other) ≡ true → live ≡ true
meant_is_live true other h = refl
meant_is_live false other h = absurd (false≢true h)
