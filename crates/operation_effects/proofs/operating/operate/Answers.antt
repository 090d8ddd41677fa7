use Rattle.std.proofs.Common.{◌≡◌, IfOk, subst, sym}
use Rattle.std.specs.Prelude.{Option}
use Rattle.trace_book.specs.declared.operation.Op.{Op}
use Rattle.trace_book.specs.declared.operation.Outcome.{Outcome}
use Rattle.role_steps.specs.OperationEffects.{effect_of}
use Rattle.operation_effects.specs.Settling.{worked, worked_so}
use Rattle.operation_effects.proofs.operating.operate.Goals as goal

pub returns-in-Mend-clause-value : goal.returns-in-Mend-clause-value
returns-in-Mend-clause-value c =
    subst (λ (o : Op). IfOk c.on_mend.result (λ (gave : Option Outcome). worked_so gave c.on_mend.new.work ≡ worked c.args.free c.args.work.now (effect_of o c.args.seen.now c.args.mending.now c.args.work.now.content)))
    (sym c.in-Mend.is) (c.on_mend.ensures.value c.args.seen.now)
