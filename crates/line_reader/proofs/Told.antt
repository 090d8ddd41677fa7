-- What holds between the bytes to be read before and after a call, where they are told.
use Rattle.std.proofs.Common.{ℕ, ◌≡◌, Bool, true, false, cond, List, [], ◌++◌, Option, Some, None, refl, ap, sym, ◌∙◌, subst, append_assoc}
use Rattle.std.specs.Io.KnownBytes.{Keeps, IsAtEnd, Consumes}
use Rattle.line_reader.specs.Reading.{to_read, Between}
use Rattle.line_reader.specs.Readers.{nothing_of}

pub Keeps-same : (a : Option (List ℕ)) → Keeps a a
Keeps-same None = tt
Keeps-same (Some xs) = refl

pub Keeps-then : (a b c : Option (List ℕ)) → Keeps a b → Keeps b c → Keeps a c
Keeps-then None b c p q = tt
Keeps-then (Some xs) None c p q = absurd p
Keeps-then (Some xs) (Some ys) None p q = absurd q
Keeps-then (Some xs) (Some ys) (Some zs) p q = q ∙ p

-- the end of a source that tells its bytes
pub at_end : (known : Option (List ℕ)) (left : List ℕ) → IsAtEnd known → known ≡ Some left → left ≡ []
at_end None left p e = cc
at_end (Some xs) left p e = let same : xs ≡ left = cc in sym same ∙ p

-- after steps that kept what is to be read, one more step from `held` to `ahead`
pub Between-after : (old held ahead : List ℕ) (before after : Option (List ℕ)) (R : List ℕ → List ℕ → Type 0) →
    Keeps (to_read old before) (to_read held after) → ((left : List ℕ) → after ≡ Some left → R (held ++ left) (ahead ++ left)) → Between (to_read old before) (to_read ahead after) R
Between-after old held ahead None after R k f = tt
Between-after old held ahead (Some xs) None R k f = absurd k
Between-after old held ahead (Some xs) (Some ys) R k f = subst (λ (s : List ℕ). R s (ahead ++ ys)) k (f ys refl)

-- bytes taken ahead are still to be read
pub Keeps-taken : (ahead taken : List ℕ) (before after : Option (List ℕ)) → Consumes before after taken → Keeps (to_read ahead before) (to_read (ahead ++ taken) after)
Keeps-taken ahead taken None after p = tt
Keeps-taken ahead taken (Some xs) None p = absurd p
Keeps-taken ahead taken (Some xs) (Some ys) p = append_assoc ahead taken ys ∙ ap (λ s. ahead ++ s) (sym p)

-- a call that moved no byte keeps what is to be read
pub Keeps-kept : (ahead : List ℕ) (before after : Option (List ℕ)) → Keeps before after → Keeps (to_read ahead before) (to_read ahead after)
Keeps-kept ahead None after p = tt
Keeps-kept ahead (Some xs) None p = absurd p
Keeps-kept ahead (Some xs) (Some ys) p = ap (λ s. ahead ++ s) p

-- the same, where the bytes ahead are known by an equation
pub Keeps-grown : (ahead held taken : List ℕ) (before after : Option (List ℕ)) → held ≡ ahead ++ taken → Consumes before after taken → Keeps (to_read ahead before) (to_read held after)
Keeps-grown ahead held taken before after e p = rw e (Keeps-taken ahead taken before after p)

-- a reader that has seen the end of its source takes no more from it
pub at_end-nothing : (known : Option (List ℕ)) → IsAtEnd (nothing_of known)
at_end-nothing None = tt
at_end-nothing (Some left) = refl

-- to see the end loses nothing
pub Keeps-ended : (ahead : List ℕ) (known : Option (List ℕ)) (ended : Bool) → (ended ≡ true → IsAtEnd known) → Keeps (to_read ahead known) (to_read ahead (cond ended (nothing_of known) known))
Keeps-ended ahead None true end = tt
Keeps-ended ahead None false end = tt
Keeps-ended ahead (Some left) true end = ap (λ s. ahead ++ s) (sym (end refl))
Keeps-ended ahead (Some left) false end = refl

-- bytes taken ahead are still to be read, while the end was not seen
pub Keeps-open : (ahead held taken : List ℕ) (before after : Option (List ℕ)) (ended : Bool) → ended ≡ false → held ≡ ahead ++ taken → Consumes before after taken
    → Keeps (to_read ahead (cond ended (nothing_of before) before)) (to_read held (cond ended (nothing_of after) after))
Keeps-open ahead held taken before after true shut e p = absurd (let clash : true ≡ false = shut in cc)
Keeps-open ahead held taken before after false shut e p = Keeps-grown ahead held taken before after e p
