-- A text that is cut at slashes, with a piece of it that stands before.
use Rattle.std.proofs.Common.{◌≡◌, ◌==◌, ◌+◌, ◌<◌, ℕ, true, false, Bool, cond, List, [], ◌∷◌, ◌++◌, length, drop, get_or, refl, ap, sym, ◌∙◌, append_assoc, add-one, drop-cons, ◌≢◌, arith}
use Rattle.std.proofs.lemmas.Bool.Decides.{nat_tests}
use Rattle.std.specs.List.{slice_split, onto_first}
use Rattle.std.proofs.lemmas.List.Splits.{slice_split-cons_yes, slice_split-cons_no}
use Rattle.std.proofs.lemmas.List.{append-nil}

-- the bytes in front of the first piece
abbrev pub onto_front : List ℕ → List (List ℕ) → List (List ℕ)
onto_front front [] = front ∷ []
onto_front front (piece ∷ pieces) = (front ++ piece) ∷ pieces

first_nothing : (c : ℕ) (pieces : List (List ℕ)) → onto_front [] (onto_first c pieces) ≡ onto_first c pieces
first_nothing c [] = refl
first_nothing c (piece ∷ pieces) = refl

pub in_front_nothing : (p : ℕ → Bool) (text : List ℕ) → onto_front [] (slice_split p text) ≡ slice_split p text
in_front_nothing p [] = refl
in_front_nothing p (c ∷ text) = elim (p c) as (λ b. onto_front [] (cond b ([] ∷ slice_split p text) (onto_first c (slice_split p text))) ≡ cond b ([] ∷ slice_split p text) (onto_first c (slice_split p text))) [
  | true ↦ refl
  | false ↦ first_nothing c (slice_split p text)
]

first_more : (front : List ℕ) (c : ℕ) (pieces : List (List ℕ)) → onto_front front (onto_first c pieces) ≡ onto_front (front ++ c ∷ []) pieces
first_more front c [] = refl
first_more front c (piece ∷ pieces) = ap (λ x. x ∷ pieces) (sym (append_assoc front (c ∷ []) piece))

pub in_front_slash : (p : ℕ → Bool) (front : List ℕ) (c : ℕ) (text : List ℕ) → p c ≡ true → onto_front front (slice_split p (c ∷ text)) ≡ front ∷ onto_front [] (slice_split p text)
in_front_slash p front c text e = rw (slice_split-cons_yes p c text e) (rw (in_front_nothing p text) (rw append-nil refl))

pub in_front_other : (p : ℕ → Bool) (front : List ℕ) (c : ℕ) (text : List ℕ) → p c ≡ false → onto_front front (slice_split p (c ∷ text)) ≡ onto_front (front ++ c ∷ []) (slice_split p text)
in_front_other p front c text e = rw (slice_split-cons_no p c text e) (first_more front c (slice_split p text))

abbrev pub is_slash : ℕ → Bool
is_slash b = b == 47

-- one byte more of the text is read
pub read_slash : (names names' : List (List ℕ)) (piece piece' text : List ℕ) (i : ℕ) (whole : List (List ℕ)) → i < length text → get_or text i 0 ≡ 47 → names' ≡ names ++ piece ∷ [] → piece' ≡ [] → names ++ onto_front piece (slice_split is_slash (drop i text)) ≡ whole → names' ++ onto_front piece' (slice_split is_slash (drop (i + 1) text)) ≡ whole
read_slash names names' piece piece' text i whole l e f g h =
    let d : drop i text ≡ get_or text i 0 ∷ drop (i + 1) text = rw add-one (drop-cons text i 0 l) in
    let s : is_slash (get_or text i 0) ≡ true = rw e refl in
    rw (f, g) (rw append_assoc (ap (λ xs. names ++ xs) (sym (in_front_slash is_slash piece (get_or text i 0) (drop (i + 1) text) s)) ∙ (ap (λ xs. names ++ onto_front piece (slice_split is_slash xs)) (sym d) ∙ h)))

pub read_other : (names names' : List (List ℕ)) (piece piece' text : List ℕ) (i : ℕ) (whole : List (List ℕ)) → i < length text → get_or text i 0 ≢ 47 → names' ≡ names → piece' ≡ piece ++ get_or text i 0 ∷ [] → names ++ onto_front piece (slice_split is_slash (drop i text)) ≡ whole → names' ++ onto_front piece' (slice_split is_slash (drop (i + 1) text)) ≡ whole
read_other names names' piece piece' text i whole l n f g h =
    let s : is_slash (get_or text i 0) ≡ false = grind (arith, nat_tests) in
    let d : drop i text ≡ get_or text i 0 ∷ drop (i + 1) text = rw add-one (drop-cons text i 0 l) in
    rw (f, g) (ap (λ xs. names ++ xs) (sym (in_front_other is_slash piece (get_or text i 0) (drop (i + 1) text) s)) ∙ (ap (λ xs. names ++ onto_front piece (slice_split is_slash xs)) (sym d) ∙ h))
