use Rattle.std.proofs.Common.{◌+◌, arith}
use Rattle.std.proofs.Math.Numerals.{add-one}
use Rattle.wire_parts.proofs.Digits.{none_found, first_found}
use Rattle.wire_parts.proofs.components.place_of_at.Goals as goal

pub returns-then-bytes-i-eq64 : goal.returns-then-bytes-i-eq64
returns-then-bytes-i-eq64 c =
    let f = first_found c.args.bytes.now c.loop-i.i (c.loop-i.i + 1) (add-one c.loop-i.i) c.loop-i-test.true c.if-bytes-i-eq64.true c.loop-i.invariant in
    (c.loop-i-test.true, f.0, f.1)

pub returns : goal.returns
returns c = none_found c.args.bytes.now (λ k lt. c.loop-i.invariant k (omega (arith, c.loop-i-test.false)))
