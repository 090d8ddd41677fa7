-- A table of rows with different keys, of which one row is changed: only its place in the table is.
use Rattle.std.proofs.Common.{ℕ, ◌<◌, ◌≡◌, refl, sym, ap, ◌∙◌, Bool, true, false, ◌&&◌, ◌==◌, cond, List, [], ◌∷◌, ◌++◌, length, map, reverse, set, Some, None, slice_get, arith}
use Rattle.std.proofs.lemmas.List.{length-map, length-reverse, reverse-append, reverse-reverse, set-append_left}
use Rattle.std.proofs.Math.Seq.{set-append_seam}
use Rattle.plain_facts.proofs.Options.{none_some, some_none, some_same}
use Rattle.plain_facts.proofs.Tests.{both_true}
use Rattle.plain_facts.proofs.Numbers.{equal}
use Rattle.key_places.specs.declared.key.Key.{Key}
use Rattle.key_places.specs.Keys.{same_key}
use Rattle.key_places.specs.Places.{place_of, AllApart}
use Rattle.key_places.proofs.Rows.{place_within, last_at, before_at}

abbrev key_of : ℕ → ℕ → ℕ → ℕ → Key
key_of i j k l = record { first = i; second = j; third = k; fourth = l }

whole : (a b : Key) → a.first ≡ b.first → a.second ≡ b.second → a.third ≡ b.third → a.fourth ≡ b.fourth → a ≡ b
whole a b p q r s =
    ap (λ n. key_of n a.second a.third a.fourth) p
    ∙ (ap (λ n. key_of b.first n a.third a.fourth) q
    ∙ (ap (λ n. key_of b.first b.second n a.fourth) r ∙ ap (key_of b.first b.second b.third) s))

-- equal keys are one key
pub same_is : (a b : Key) → same_key a b ≡ true → a ≡ b
same_is a b e =
    let f = both_true (a.first == b.first) ((a.second == b.second) && ((a.third == b.third) && (a.fourth == b.fourth))) e in
    let g = both_true (a.second == b.second) ((a.third == b.third) && (a.fourth == b.fourth)) f.1 in
    let h = both_true (a.third == b.third) (a.fourth == b.fourth) g.1 in
    whole a b (equal a.first b.first f.0) (equal a.second b.second g.0) (equal a.third b.third h.0) (equal a.fourth b.fourth h.1)

-- the list with each row that passes changed
abbrev pub with_change : {X : Type 0} → (X → Bool) → (X → X) → List X → List X
with_change p f xs = map (λ x. cond (p x) (f x) x) xs

-- Where a key has no place, nothing is changed.
pub none_changes : {X : Type 0} (key : X → Key) (k : Key) (p : X → Bool) → ((x : X) → p x ≡ same_key (key x) k) → (f : X → X) (xs : List X) → place_of k (map key xs) ≡ None → with_change p f xs ≡ xs
none_changes key k p tells f [] e = refl
none_changes {X = X} key k p tells f (x ∷ xs) e = ap (λ b. cond b (f x) x ∷ with_change p f xs) (tells x) ∙ at (same_key (key x) k) (none_changes key k p tells f xs) e where
  at : (b : Bool) → (place_of k (map key xs) ≡ None → with_change p f xs ≡ xs) → cond b (Some (length (map key xs))) (place_of k (map key xs)) ≡ None → cond b (f x) x ∷ with_change p f xs ≡ x ∷ xs
  at true before g = absurd (some_none (length (map key xs)) g)
  at false before g = ap (λ ys. x ∷ ys) (before g)

-- A change of the rows of a key is a change at its place, where no two rows have one key.
pub place_changes : {X : Type 0} (key : X → Key) (k : Key) (p : X → Bool) → ((x : X) → p x ≡ same_key (key x) k) → (f : X → X) (xs : List X) (i : ℕ) (a : X) → AllApart (map key xs) → place_of k (map key xs) ≡ Some i → slice_get (reverse xs) i ≡ Some a → with_change p f xs ≡ reverse (set (reverse xs) i (f a))
place_changes key k p tells f [] i a h e g = absurd (none_some i e)
place_changes {X = X} key k p tells f (x ∷ xs) i a h e g = ap (λ b. cond b (f x) x ∷ with_change p f xs) (tells x) ∙ (at (same_key (key x) k) refl (place_changes key k p tells f xs i a h.1) e ∙ ap (λ (ys : List X). reverse (set ys i (f a))) (sym (reverse-append (x ∷ []) xs))) where
  whole_table : slice_get (reverse xs ++ x ∷ []) i ≡ Some a
  whole_table = ap (λ (ys : List X). slice_get ys i) (sym (reverse-append (x ∷ []) xs)) ∙ g

  flip : (y : X) (zs : List X) → reverse (zs ++ y ∷ []) ≡ y ∷ reverse zs
  flip y zs = reverse-append zs (y ∷ [])

  here : same_key (key x) k ≡ true → length (map key xs) ≡ i → f x ∷ with_change p f xs ≡ reverse (set (reverse xs ++ x ∷ []) i (f a))
  here t same =
      let far : length (reverse xs) ≡ i = length-reverse xs ∙ (sym (length-map xs key) ∙ same) in
      let one : x ≡ a = some_same x a (sym (last_at (reverse xs) x) ∙ (ap (slice_get (reverse xs ++ x ∷ [])) far ∙ whole_table)) in
      let stays : with_change p f xs ≡ xs = none_changes key k p tells f xs (ap (λ j. place_of j (map key xs)) (sym (same_is (key x) k t)) ∙ h.0) in
      let put : set (reverse xs ++ x ∷ []) i (f a) ≡ reverse xs ++ f a ∷ [] = ap (λ j. set (reverse xs ++ x ∷ []) j (f a)) (sym far) ∙ set-append_seam (reverse xs) x [] (f a) in
      ap (λ ys. f x ∷ ys) stays ∙ (ap (λ y. f y ∷ xs) one ∙ sym (ap reverse put ∙ (flip (f a) (reverse xs) ∙ ap (λ ys. f a ∷ ys) (reverse-reverse xs))))

  there : (slice_get (reverse xs) i ≡ Some a → with_change p f xs ≡ reverse (set (reverse xs) i (f a))) → place_of k (map key xs) ≡ Some i → x ∷ with_change p f xs ≡ reverse (set (reverse xs ++ x ∷ []) i (f a))
  there before found =
      let low : i < length (reverse xs) = (let l : i < length (map key xs) = place_within k (map key xs) i found in omega (arith, l, length-map xs key, length-reverse xs)) in
      let rest = before (sym (before_at (reverse xs) x i low) ∙ whole_table) in
      ap (λ ys. x ∷ ys) rest ∙ sym (ap reverse (set-append_left (reverse xs) (x ∷ []) i (f a) low) ∙ flip x (set (reverse xs) i (f a)))

  at : (b : Bool) → same_key (key x) k ≡ b → (place_of k (map key xs) ≡ Some i → slice_get (reverse xs) i ≡ Some a → with_change p f xs ≡ reverse (set (reverse xs) i (f a))) → cond b (Some (length (map key xs))) (place_of k (map key xs)) ≡ Some i → cond b (f x) x ∷ with_change p f xs ≡ reverse (set (reverse xs ++ x ∷ []) i (f a))
  at true t before found = here t (some_same (length (map key xs)) i found)
  at false t before found = there (before found) found

-- A change that leaves each row's key leaves all keys.
pub changed_keys : {X : Type 0} (key : X → Key) (p : X → Bool) (f : X → X) → ((x : X) → key (f x) ≡ key x) → (xs : List X) → map key (with_change p f xs) ≡ map key xs
changed_keys key p f stays [] = refl
changed_keys {X = X} key p f stays (x ∷ xs) = at (p x) ∙ ap (λ ks. key x ∷ ks) (changed_keys key p f stays xs) where
  at : (b : Bool) → key (cond b (f x) x) ∷ map key (with_change p f xs) ≡ key x ∷ map key (with_change p f xs)
  at true = ap (λ k. k ∷ map key (with_change p f xs)) (stays x)
  at false = refl
