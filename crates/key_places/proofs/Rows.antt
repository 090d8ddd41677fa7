-- What places of keys tell of a table of rows. The rows are listed with the newest first, and stand in the table with the
-- oldest first.
use Rattle.std.proofs.Common.{ℕ, zero, suc, ◌<◌, ◌≡◌, refl, sym, ap, ◌∙◌, Bool, true, false, ◌||◌, cond, List, [], ◌∷◌, ◌++◌, length, map, reverse, Option, Some, None, IfSome, slice_get, arith}
use Rattle.std.specs.List.{find, list_any}
use Rattle.std.specs.Option.{is_some}
use Rattle.std.proofs.lemmas.List.{length-map, length-reverse, reverse-append}
use Rattle.plain_facts.proofs.Options.{none_some, some_none, some_same}
use Rattle.key_places.specs.declared.key.Key.{Key}
use Rattle.key_places.specs.Keys.{same_key}
use Rattle.key_places.specs.Places.{place_of}

-- a place is below the number of keys
pub place_within : (k : Key) (ks : List Key) (i : ℕ) → place_of k ks ≡ Some i → i < length ks
place_within k [] i e = absurd (none_some i e)
place_within k (x ∷ ks) i e = at (same_key x k) (place_within k ks i) e where
  at : (b : Bool) → (place_of k ks ≡ Some i → i < length ks) → cond b (Some (length ks)) (place_of k ks) ≡ Some i → i < suc (length ks)
  at true before f = let s : length ks ≡ i = some_same (length ks) i f in omega arith
  at false before f = let h : i < length ks = before f in omega arith

pub place_bound : (k : Key) (ks : List Key) (o : Option ℕ) → o ≡ place_of k ks → IfSome o (λ place. place < length ks)
place_bound k ks None e = tt
place_bound k ks (Some i) e = place_within k ks i (sym e)

pub last_at : {X : Type 0} (ys : List X) (x : X) → slice_get (ys ++ x ∷ []) (length ys) ≡ Some x
last_at [] x = refl
last_at (y ∷ ys) x = last_at ys x

pub before_at : {X : Type 0} (ys : List X) (x : X) (i : ℕ) → i < length ys → slice_get (ys ++ x ∷ []) i ≡ slice_get ys i
before_at [] x i h = absurd (omega arith)
before_at (y ∷ ys) x zero h = refl
before_at (y ∷ ys) x (suc i) h = before_at ys x i (omega arith)

-- The row at the place of a key is the newest that has it. The test is whatever tells the rows of this key.
pub place_finds : {X : Type 0} (key : X → Key) (k : Key) (p : X → Bool) → ((x : X) → p x ≡ same_key (key x) k) → (xs : List X) (i : ℕ) → place_of k (map key xs) ≡ Some i → find p xs ≡ slice_get (reverse xs) i
place_finds key k p tells [] i e = absurd (none_some i e)
place_finds {X = X} key k p tells (x ∷ xs) i e = ap (λ b. cond b (Some x) (find p xs)) (tells x) ∙ (at (same_key (key x) k) (place_finds key k p tells xs i) e ∙ ap (λ (ys : List X). slice_get ys i) (sym (reverse-append (x ∷ []) xs))) where
  at : (b : Bool) → (place_of k (map key xs) ≡ Some i → find p xs ≡ slice_get (reverse xs) i) → cond b (Some (length (map key xs))) (place_of k (map key xs)) ≡ Some i → cond b (Some x) (find p xs) ≡ slice_get (reverse xs ++ x ∷ []) i
  at true before f = sym (ap (slice_get (reverse xs ++ x ∷ [])) (sym (some_same (length (map key xs)) i f) ∙ (length-map xs key ∙ sym (length-reverse xs))) ∙ last_at (reverse xs) x)
  at false before f = before f ∙ sym (before_at (reverse xs) x i (let h : i < length (map key xs) = place_within k (map key xs) i f in omega (arith, h, length-map xs key, length-reverse xs)))

-- Where a key has no place, no row has it.
pub none_finds : {X : Type 0} (key : X → Key) (k : Key) (p : X → Bool) → ((x : X) → p x ≡ same_key (key x) k) → (xs : List X) → place_of k (map key xs) ≡ None → find p xs ≡ None
none_finds key k p tells [] e = refl
none_finds {X = X} key k p tells (x ∷ xs) e = ap (λ b. cond b (Some x) (find p xs)) (tells x) ∙ at (same_key (key x) k) (none_finds key k p tells xs) e where
  at : (b : Bool) → (place_of k (map key xs) ≡ None → find p xs ≡ None) → cond b (Some (length (map key xs))) (place_of k (map key xs)) ≡ None → cond b (Some x) (find p xs) ≡ None
  at true before f = absurd (some_none (length (map key xs)) f)
  at false before f = before f

-- Some row has a key exactly where the key has a place.
pub place_any : {X : Type 0} (key : X → Key) (k : Key) (p : X → Bool) → ((x : X) → p x ≡ same_key (key x) k) → (xs : List X) → list_any p xs ≡ is_some (place_of k (map key xs))
place_any key k p tells [] = refl
place_any {X = X} key k p tells (x ∷ xs) = ap (λ b. b || list_any p xs) (tells x) ∙ at (same_key (key x) k) (place_any key k p tells xs) where
  at : (b : Bool) → list_any p xs ≡ is_some (place_of k (map key xs)) → b || list_any p xs ≡ is_some (cond b (Some (length (map key xs))) (place_of k (map key xs)))
  at true before = refl
  at false before = before
