use Rattle.std.proofs.Common.{sym, ◌∙◌, arith}
use Rattle.dir_format.proofs.Whole.{found, only, no_fault}
use Rattle.dir_operations.proofs.decoding.decode_dir.Goals as goal

pub of-requires : goal.of-requires
of-requires c = (found c.args.bytes.now c.in-Ok.entries.items (λ i. omega (arith, c.type_inv.bytes i)) c.in-Ok.ensures).fits

pub returns-in-Ok-clause-found : goal.returns-in-Ok-clause-found
returns-in-Ok-clause-found c = rw c.of.ensures (found c.args.bytes.now c.in-Ok.entries.items (λ i. omega (arith, c.type_inv.bytes i)) c.in-Ok.ensures)

pub returns-in-Ok-clause-only : goal.returns-in-Ok-clause-only
returns-in-Ok-clause-only c = λ ds h. rw c.of.ensures (sym (only c.args.bytes.now ds h) ∙ c.in-Ok.ensures)

pub returns-in-Err-Field-Short-clause-only : goal.returns-in-Err-Field-Short-clause-only
returns-in-Err-Field-Short-clause-only c = λ ds h. absurd (no_fault c.args.bytes.now ds c.in-Err-Field-Short.field-0-0 h (rw c.in-Err-Field-Short.field-0-is at c.in-Err-Field-Short.ensures))

pub returns-in-Err-Field-Range-clause-only : goal.returns-in-Err-Field-Range-clause-only
returns-in-Err-Field-Range-clause-only c = λ ds h. absurd (no_fault c.args.bytes.now ds c.in-Err-Field-Range.field-0-0 h (rw c.in-Err-Field-Range.field-0-is at c.in-Err-Field-Range.ensures))
