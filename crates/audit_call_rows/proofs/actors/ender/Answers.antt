use Rattle.std.proofs.Common.{◌∙◌, ap, sym}
use Rattle.std.specs.List.{find}
use Rattle.tree_model.specs.declared.instance.Granted.{Granted}
use Rattle.promises.specs.After.{is_id}
use Rattle.audit_calls.specs.Uses.{closes}
use Rattle.audit_call_rows.proofs.Told.{caller_ends, closer_ends}
use Rattle.audit_call_rows.proofs.actors.ender.Goals as goal

pub returns-then-is_named : goal.returns-then-is_named
returns-then-is_named c =
    c.closer.ensures
    ∙ (ap (λ (g : Granted). find (closes c.args.epoch g.inst) c.args.calls.now) c.grant-grant.ensures ∙ closer_ends c.args.epoch c.args.instance.now c.args.calls.now (sym c.if-is_named.ensures))

pub returns-else-is_named : goal.returns-else-is_named
returns-else-is_named c =
    c.find.ensures
    ∙ (ap (λ (g : Granted). find (is_id g.call) c.args.calls.now) c.grant-grant.ensures ∙ caller_ends c.args.epoch c.args.instance.now c.args.calls.now (sym c.if-is_named.ensures))
