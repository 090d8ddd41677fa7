-- Lines that were read of a source, where it tells its bytes.
use Rattle.std.proofs.Common.{◌≡◌, ℕ, List, [], ◌∷◌, ◌++◌, Option, Some, None, refl, ap, sym, ◌∙◌, append_assoc, Bool, true, false, cond, subst}
use Rattle.std.specs.Prelude.{IfSome}
use Rattle.std.specs.Io.KnownBytes.{Keeps, IsAtEnd}
use Rattle.line_reader.specs.Reading.{to_read, Between, ReadsLine, lines_of}
use Rattle.line_reader.specs.Readers.{nothing_of}

-- the lines that were read, of all lines
abbrev pub ReadsLines : List (List ℕ) → List ℕ → List ℕ → Type 0
ReadsLines lines xs ys = lines_of xs ≡ lines ++ lines_of ys

-- a source of which nothing was taken ahead
pub Between-none : (a : Option (List ℕ)) → Between a (to_read [] a) (ReadsLines [])
Between-none None = tt
Between-none (Some xs) = refl

pub Between-line : (a : Option (List ℕ)) (b : Option (List ℕ)) (c : Option (List ℕ)) (lines : List (List ℕ)) (line : List ℕ) →
    Between a b (ReadsLines lines) → Between b c (ReadsLine line) → Between a c (ReadsLines (lines ++ line ∷ []))
Between-line None b c lines line p q = tt
Between-line (Some x) None c lines line p q = absurd p
Between-line (Some x) (Some y) None lines line p q = absurd q
Between-line (Some x) (Some y) (Some z) lines line p q = p ∙ ap (λ s. lines ++ s) q.lines ∙ sym (append_assoc lines (line ∷ []) (lines_of z))

-- nothing was to be read
abbrev pub IsAllRead : List ℕ → List ℕ → Type 0
IsAllRead xs ys = (xs ≡ []) × (ys ≡ [])

pub Between-end : (a : Option (List ℕ)) (b : Option (List ℕ)) → Between a b (λ xs ys. xs ≡ []) → Keeps a b → Between a b IsAllRead
Between-end None b p q = tt
Between-end (Some x) None p q = absurd p
Between-end (Some x) (Some y) p q = (p, q ∙ p)

none_after : (xs ys : List ℕ) → xs ++ ys ≡ [] → ys ≡ []
none_after [] ys e = e
none_after (x ∷ xs) ys e = cc

-- where nothing is to be read, the source is at its end
pub at_end : (ahead : List ℕ) (left : Option (List ℕ)) (ys : List ℕ) → to_read ahead left ≡ Some ys → ys ≡ [] → IsAtEnd left
at_end ahead None ys e none = tt
at_end ahead (Some zs) ys e none = let same : ahead ++ zs ≡ ys = cc in none_after ahead zs (same ∙ none)

pub if_some : {X : Type 0} (o : Option X) (P : X → Type 0) (Q : X → Type 0) → IfSome o P → ((x : X) → P x → Q x) → IfSome o Q
if_some None P Q h f = tt
if_some (Some x) P Q h f = f x h

-- where lines were read and R holds of what is left
pub Between-rest : (a : Option (List ℕ)) (b : Option (List ℕ)) (c : Option (List ℕ)) (lines : List (List ℕ)) (R : List ℕ → List ℕ → Type 0) →
    Between a b (ReadsLines lines) → Between b c R → IfSome a (λ input. (xs : List ℕ) × (ys : List ℕ) × (lines_of input ≡ lines ++ lines_of xs) × R xs ys × (c ≡ Some ys))
Between-rest None b c lines R p q = tt
Between-rest (Some x) None c lines R p q = absurd p
Between-rest (Some x) (Some y) None lines R p q = absurd q
Between-rest (Some x) (Some y) (Some z) lines R p q = (y, z, p, q, refl)

-- a source is at its end where what a reader may take from it is, and where the reader has seen the end
pub end_by : (ended : Bool) (left : Option (List ℕ)) → (ended ≡ true → IsAtEnd left) → IsAtEnd (cond ended (nothing_of left) left) → IsAtEnd left
end_by true left seen h = seen refl
end_by false left seen h = h

-- what held of a source holds of it now, where it was not asked since or was found so
pub since_then : {X : Type 0} (P : X → Type 0) (ended : Bool) (was now : X) → (ended ≡ true → P was) → (ended ≡ true → now ≡ was) → (ended ≡ false → P now) → P now
since_then P true was now held same found = subst P (sym (same refl)) (held refl)
since_then P false was now held same found = found refl
