use Rattle.std.proofs.Common.{◌≡◌, IfOk, Some, subst}
use Rattle.trace_book.specs.declared.operation.Outcome.{Outcome}
use Rattle.role_steps.specs.of_file_effects.Effects.{Effect}
use Rattle.operation_effects.specs.Settling.{worked, worked_so}
use Rattle.operation_effects.proofs.Judged.{keeps_so}
use Rattle.operation_effects.proofs.settling.settle.Goals as goal

pub returns-in-None : goal.returns-in-None
returns-in-None c =
    subst (λ (e : Effect). IfOk c.keep.result (λ (gave : Outcome). worked_so (Some gave) c.keep.new.work ≡ worked c.args.free c.args.work.now (Some e)))
    (keeps_so c.args.work.now.content c.args.settled c.in-None.is) c.keep.ensures
