-- A refusal that may come next is told.
use Rattle.std.proofs.Common.{refl, sym, ◌∙◌}
use Rattle.trace_book.specs.declared.record.Record.TheVariants as rec
use Rattle.trace_audit.proofs.TreeSteps.{may_so}
use Rattle.trace_audit.proofs.tree_steps.refuse.Goals as goal

pub returns : goal.returns
returns c = λ i.
    may_so _ _ _ (rec.Refuse c.args.epoch c.args.asked.call c.args.asked.request i c.args.asked.mode c.args.asked.file c.args.why) refl (sym c.if-not-branch.false ∙ c.in_ok-may_refuse.ensures) (c.in_ok-refused.ensures c.args.config.now c.args.asked.request i)
