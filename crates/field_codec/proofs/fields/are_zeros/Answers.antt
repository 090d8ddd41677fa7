use Rattle.std.proofs.Common.{List, ℕ, refl, ap, ◌∙◌, get_or, arith, length}
use Rattle.std.proofs.lemmas.List.{get_or-replicate}
use Rattle.field_codec.proofs.Zeros.{zeros_by_item}
use Rattle.field_codec.proofs.fields.are_zeros.Goals as goal

pub returns-then-byte-ne0 : goal.returns-then-byte-ne0
returns-then-byte-ne0 c = (λ e. absurd cc, λ e. absurd (c.if-byte-ne0.true (ap (λ (bs : List ℕ). get_or bs c.loop-byte.byte-index 0) e ∙ get_or-replicate (length c.args.bytes.now) c.loop-byte.byte-index 0 0 c.loop-byte-test.true)))

pub returns : goal.returns
returns c = (λ _. zeros_by_item c.args.bytes.now (λ k lt. c.loop-byte.invariant k (omega arith)), λ _. refl)
