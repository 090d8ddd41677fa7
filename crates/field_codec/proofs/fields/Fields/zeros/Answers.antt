use Rattle.std.proofs.lemmas.Result.{err_from_is_err_and}
use Rattle.field_codec.proofs.Zeros.{zeros_read, zeros_short}
use Rattle.field_codec.proofs.fields.Fields.zeros.Goals as goal

pub returns-then-are_zeros-clause-read : goal.returns-then-are_zeros-clause-read
returns-then-are_zeros-clause-read c =
    let e = rw c.ahead-ahead.ensures at c.in_ok-field.ensures.read in
    rw c.if-are_zeros.true at (zeros_read c.args.n c.args.self.now c.in_ok-field.field.now c.slice.new.self c.are_zeros.result e c.are_zeros.ensures)

pub returns-else-are_zeros-clause-read : goal.returns-else-are_zeros-clause-read
returns-else-are_zeros-clause-read c =
    let e = rw c.ahead-ahead.ensures at c.in_ok-field.ensures.read in
    rw c.at.ensures (rw c.if-are_zeros.false at (zeros_read c.args.n c.args.self.now c.in_ok-field.field.now c.slice.new.self c.are_zeros.result e c.are_zeros.ensures))

pub returns-in_err-field-clause-read : goal.returns-in_err-field-clause-read
returns-in_err-field-clause-read c =
    let e = rw c.ahead-ahead.ensures at c.in_err-field.ensures.read in
    let p = err_from_is_err_and c.from_residual.result c.from_residual.ensures.1 in
    rw (p.1, p.2) (zeros_short c.args.n c.args.self.now c.in_err-field.field-0.0 e)
