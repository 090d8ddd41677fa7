use Rattle.std.proofs.Common.{refl, sym, ◌∙◌}
use Rattle.schedule_run.proofs.Asking.{header_made}
use Rattle.schedule_run.proofs.Complete.{world_of}
use Rattle.schedule_run.proofs.tree.TreeRunner.new.Goals as goal

pub returns-clause-opened : goal.returns-clause-opened
returns-clause-opened c = record { header = header_made c.in_ok-config.config (c.in_ok-config.ensures 100000); done = c.in_ok-run.ensures.done }

pub returns-in_err-run-clause-complete : goal.returns-in_err-run-clause-complete
returns-in_err-run-clause-complete c = λ fault e.
    let f = world_of c.in_err-run.field-0.0 fault c.from_residual-in_err-run.result c.from_residual-in_err-run.ensures.1 e in
    sym f ∙ c.in_err-run.ensures.complete refl
