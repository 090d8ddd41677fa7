-- Answers of a reader.
use Rattle.std.proofs.Common.{◌≡◌, Option, Some, None, Result, Ok, Err, sym, ◌∙◌}
use Rattle.std.specs.Prelude.{IsErrAnd}
use Rattle.std.proofs.lemmas.Option.{none-some}
use Rattle.line_text.specs.declared.fault.LineFault.{LineFault}
use Rattle.line_text.specs.declared.fault.LineFault.TheVariants.{Bad, NoMemory}

-- want of memory is not a bad line
pub other_fault : {T : Type 0} (r : Result T LineFault) → IsErrAnd r (λ e. e ≡ NoMemory) → r ≡ Err Bad → ⊥
other_fault (Ok x) m h = m
other_fault (Err e) m h = cc

-- where the reader finds none, nothing is spelled so
pub none_is : {A : Type 0} (o : Option A) (found : Option A) (x : A) → found ≡ o → found ≡ None → o ≡ Some x → ⊥
none_is o found x e n s = none-some x (sym n ∙ e ∙ s)

-- a fault that is handed on is the same
pub same_fault : {T : Type 0} (r : Result T LineFault) (f : LineFault) → IsErrAnd r (λ e. e ≡ f) → r ≡ Err Bad → f ≡ Bad
same_fault (Ok x) f m h = absurd m
same_fault (Err e) f m h = cc
