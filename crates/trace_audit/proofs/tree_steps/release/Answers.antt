-- A release that may come next is a step of one call, which is found, and is told.
use Rattle.std.proofs.Common.{refl, sym, subst, ◌∙◌}
use Rattle.locus_ids.specs.declared.ids.CallId.{CallId}
use Rattle.trace_book.specs.declared.record.Record.TheVariants as rec
use Rattle.audit_rows.specs.of_audit_told_calls.of_audit_past.Writing.{IsEnder}
use Rattle.audit_laws.proofs.Tidy.Steps.{ends_one}
use Rattle.trace_audit.proofs.Premises.{ends_once}
use Rattle.trace_audit.proofs.Standing.{end_ender, end_open}
use Rattle.trace_audit.proofs.TreeSteps.{ender_so, ender_there, may_so}
use Rattle.trace_audit.proofs.tree_steps.release.Goals as goal

pub may_release-requires-clause-once : goal.may_release-requires-clause-once
may_release-requires-clause-once c = ends_once c.args.config.now c.args.told.now c.requires

pub returns-in_default : goal.returns-in_default
returns-in_default c =
    let it = ends_one c.args.config.now c.args.told.now c.args.epoch c.args.end.instance c.args.end.file c.args.end.stamp c.requires (sym c.in_ok-may_release.ensures ∙ c.if-not-branch.false) in
    ender_there c.args.told.now c.args.epoch c.args.end.instance it c.in_default.ensures

pub released-requires-clause-stands : goal.released-requires-clause-stands
released-requires-clause-stands c =
    end_open c.args.config.now c.args.told.now c.args.epoch c.args.end.instance c.requires
    (ends_one c.args.config.now c.args.told.now c.args.epoch c.args.end.instance c.args.end.file c.args.end.stamp c.requires (sym c.in_ok-may_release.ensures ∙ c.if-not-branch.false))

pub released-requires-clause-step : goal.released-requires-clause-step
released-requires-clause-step c =
    let it = ends_one c.args.config.now c.args.told.now c.args.epoch c.args.end.instance c.args.end.file c.args.end.stamp c.requires (sym c.in_ok-may_release.ensures ∙ c.if-not-branch.false) in
    subst (λ (id : CallId). IsEnder c.args.told.now c.args.epoch c.args.end.instance id) (ender_so c.args.told.now c.args.epoch c.args.end.instance it c.in-Some.ender c.in-Some.ensures) (end_ender c.args.config.now c.args.told.now c.args.epoch c.args.end.instance c.requires it)

pub returns : goal.returns
returns c =
    may_so _ _ _ (rec.Release c.args.epoch c.args.end.instance c.args.end.file c.args.end.stamp) refl (sym c.if-not-branch.false ∙ c.in_ok-may_release.ensures) (c.in_ok-released.ensures c.args.config.now)
