use Rattle.std.proofs.Common.{◌≡◌, ◌+◌, ℕ, List, [], ◌∷◌, ◌++◌, OnOk, sym, ap, ◌∙◌}
use Rattle.std.specs.Prelude.{Result, Ok, Err}
use Rattle.std.proofs.lemmas.Fmt.{decimal_digit}
use Rattle.trace_book.specs.Text.{number}
use Rattle.trace_text.proofs.pieces.push_digit.Goals as goal

-- a digit, where it can be added, is the number
digit_is : {A E : Type 0} (r : Result A E) (old new : List ℕ) (n : ℕ) → number n ≡ (48 + n) ∷ [] → OnOk r (new ≡ old ++ (48 + n) ∷ []) → OnOk r (new ≡ old ++ number n)
digit_is (Ok x) old new n is now = now ∙ ap (λ ds. old ++ ds) (sym is)
digit_is (Err x) old new n is now = tt

pub returns : goal.returns
returns c = digit_is c.push.result c.args.out.now c.push.new.self c.args.n (decimal_digit c.args.n c.requires) c.push.ensures.ok
