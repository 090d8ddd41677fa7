-- A grant that may come next opens what isn't open, and is told.
use Rattle.std.proofs.Common.{refl, sym, ◌∙◌}
use Rattle.trace_book.specs.declared.record.Record.TheVariants as rec
use Rattle.trace_audit.proofs.Premises.{grants_new}
use Rattle.trace_audit.proofs.TreeSteps.{may_so}
use Rattle.trace_audit.proofs.tree_steps.grant.Goals as goal

pub granted-requires-clause-new : goal.granted-requires-clause-new
granted-requires-clause-new c =
    grants_new c.args.config.now c.args.told.now c.args.epoch c.args.asked.call c.args.asked.request c.args.granted.instance c.args.asked.mode c.args.asked.file c.args.granted.stamp c.args.granted.ss c.requires (sym c.in_ok-may_grant.ensures ∙ c.if-not-branch.false)

pub returns : goal.returns
returns c =
    may_so _ _ _ (rec.Grant c.args.epoch c.args.asked.call c.args.asked.request c.args.granted.instance c.args.asked.mode c.args.asked.file c.args.granted.stamp c.args.granted.ss) refl (sym c.if-not-branch.false ∙ c.in_ok-may_grant.ensures) (c.in_ok-granted.ensures c.args.config.now c.args.asked.request)
