-- Reading and spelling a list item by item, as a loop does.
use Rattle.std.proofs.Common.{◌≡◌, ℕ, suc, ◌-◌, ◌+◌, ◌≤◌, ◌<◌, List, [], ◌∷◌, ◌++◌, Ok, Err, refl, sym, ap, ◌∙◌, append_assoc, arith}
use Rattle.std.specs.List.{flat_map}
use Rattle.std.proofs.lemmas.List.{append-nil}
use Rattle.std.proofs.lemmas.List.Concat.{flat_map-cons}
use Rattle.field_codec.specs.declared.faults.FieldFault.{FieldFault}
use Rattle.field_codec.specs.Codec.{Unread, Read, ◌>>=◌, Codec}
use Rattle.field_codec.specs.Lists.{read_times, spell_all}

-- what was read before, and what is still read
abbrev pub with_front : {A : Type 0} → List A → Read (List A) → Read (List A)
with_front front read = read >>= λ x. Ok (front ++ x.0, x.1)

module _ {A P : Type 0} (item : P → Codec A) (next : P → A → P) where
  regroup : (front : List A) (x : A) (read : Read (List A)) → with_front front (read >>= λ s. Ok (x ∷ s.0, s.1)) ≡ with_front (front ++ x ∷ []) read
  regroup front x (Ok s) = ap (λ (xs : List A). Ok (xs, s.1)) (simp append_assoc)
  regroup front x (Err e) = refl

  pub goes_on : (front : List A) (p : P) (count i : ℕ) (u : Unread) (x : A) (after : Unread) (total : Read (List A)) → i < count → (item p).read u ≡ Ok (x, after)
      → with_front front (read_times item next p (count - i) u) ≡ total → with_front (front ++ x ∷ []) (read_times item next (next p x) (count - (i + 1)) after) ≡ total
  unfolding read_times
  goes_on front p count i u x after total lt h so_far =
      let k : count - i ≡ suc (count - (i + 1)) = omega arith in
      let one : with_front front (read_times item next p (count - i) u) ≡ with_front (front ++ x ∷ []) (read_times item next (next p x) (count - (i + 1)) after) = rw (k, h) (regroup front x (read_times item next (next p x) (count - (i + 1)) after)) in
      sym one ∙ so_far

  pub ends : (front : List A) (p : P) (count i : ℕ) (u : Unread) (d : FieldFault) (total : Read (List A)) → i < count → (item p).read u ≡ Err d
      → with_front front (read_times item next p (count - i) u) ≡ total → total ≡ Err d
  unfolding read_times
  ends front p count i u d total lt h so_far =
      let k : count - i ≡ suc (count - (i + 1)) = omega arith in
      let one : with_front front (read_times item next p (count - i) u) ≡ Err d = rw (k, h) refl in
      sym so_far ∙ one

  pub is_done : (front : List A) (p : P) (count i : ℕ) (u : Unread) (total : Read (List A)) → count ≤ i → with_front front (read_times item next p (count - i) u) ≡ total → total ≡ Ok (front, u)
  unfolding read_times
  is_done front p count i u total le so_far =
      let k : count - i ≡ 0 = omega arith in
      let one : with_front front (read_times item next p (count - i) u) ≡ Ok (front, u) = rw k (ap (λ (xs : List A). Ok (xs, u)) (append-nil front)) in
      sym so_far ∙ one

  -- items whose bytes don't hang on the state are spelled one after the other
  pub spelled_alike : (spell : A → List ℕ) → ((p : P) (x : A) → (item p).spell x ≡ spell x) → (p : P) (xs : List A) → spell_all item next p xs ≡ flat_map spell xs
  spelled_alike spell same p [] = refl
  spelled_alike spell same p (x ∷ xs) = rw flat_map-cons (ap (λ (t : List ℕ). t ++ spell_all item next (next p x) xs) (same p x) ∙ ap (λ (t : List ℕ). spell x ++ t) (spelled_alike spell same (next p x) xs))
