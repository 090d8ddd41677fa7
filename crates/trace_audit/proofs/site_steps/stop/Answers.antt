-- A stop that may come next is told.
use Rattle.std.proofs.Common.{refl, sym, ◌∙◌}
use Rattle.trace_book.specs.declared.record.Record.TheVariants as rec
use Rattle.trace_audit.proofs.TreeSteps.{may_so}
use Rattle.trace_audit.proofs.site_steps.stop.Goals as goal

pub returns : goal.returns
returns c = may_so _ _ _ (rec.Stopped c.args.site c.args.cause) refl (sym c.if-not-branch.false ∙ c.in_ok-may_stop.ensures) (c.in_ok-stopped.ensures c.args.config.now c.args.cause)
