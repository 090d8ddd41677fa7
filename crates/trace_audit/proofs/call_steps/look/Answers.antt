-- A look that may come next is told.
use Rattle.std.proofs.Common.{refl, sym, ◌∙◌}
use Rattle.trace_book.specs.declared.record.Record.TheVariants as rec
use Rattle.trace_audit.proofs.TreeSteps.{may_so}
use Rattle.trace_audit.proofs.call_steps.look.Goals as goal

pub returns : goal.returns
returns c = may_so _ _ _ (rec.Look c.args.epoch c.args.look.call c.args.look.request c.args.look.file c.args.look.what.now c.args.served.now) refl (sym c.if-not-branch.false ∙ c.in_ok-may_look.ensures) (c.in_ok-looked.ensures c.args.config.now c.args.epoch)
