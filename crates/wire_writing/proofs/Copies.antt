-- Items written one behind the other.
use Rattle.std.proofs.Common.{◌≡◌, ℕ, ◌+◌, ◌<◌, List, [], ◌∷◌, ◌++◌, length, get_or, take, sym, ap, ◌∙◌, append_assoc}
use Rattle.std.specs.List.{flat_map}
use Rattle.std.proofs.Math.Seq.{take-suc}
use Rattle.std.proofs.Math.Numerals.{add-one}
use Rattle.std.proofs.lemmas.List.{append-nil}
use Rattle.std.proofs.lemmas.Grind.{flat_map-append}
use Rattle.std.proofs.lemmas.List.Concat.{flat_map-cons}

module _ {X : Type 0} (f : X → List ℕ) where
  single : (x : X) → flat_map f (x ∷ []) ≡ f x
  single x = rw flat_map-cons (append-nil (f x))

  longer : (xs : List X) (i : ℕ) (x : X) → i < length xs → x ≡ get_or xs i x → flat_map f (take (i + 1) xs) ≡ flat_map f (take i xs) ++ f x
  longer xs i x lt is =
      ap (λ (n : ℕ). flat_map f (take n xs)) (add-one i)
      ∙ ap (λ (ys : List X). flat_map f ys) (take-suc xs i x lt)
      ∙ flat_map-append f (take i xs) (get_or xs i x ∷ [])
      ∙ ap (λ (t : List ℕ). flat_map f (take i xs) ++ t) (single (get_or xs i x) ∙ ap f (sym is))

  pub one_more : (xs : List X) (i : ℕ) (x : X) (first out new : List ℕ) → i < length xs → x ≡ get_or xs i x → out ≡ first ++ flat_map f (take i xs) → new ≡ out ++ f x → new ≡ first ++ flat_map f (take (i + 1) xs)
  one_more xs i x first out new lt is so_far e =
      e ∙ ap (λ (t : List ℕ). t ++ f x) so_far ∙ append_assoc first (flat_map f (take i xs)) (f x) ∙ ap (λ (t : List ℕ). first ++ t) (sym (longer xs i x lt is))
