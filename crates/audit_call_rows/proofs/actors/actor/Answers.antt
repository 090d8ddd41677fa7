use Rattle.std.proofs.Common.{◌∙◌, ap, sym}
use Rattle.std.specs.List.{find}
use Rattle.tree_model.specs.declared.instance.Granted.{Granted}
use Rattle.promises.specs.After.{is_id}
use Rattle.audit_calls.specs.Uses.{uses_as}
use Rattle.audit_call_rows.proofs.Told.{caller_acts, user_acts}
use Rattle.audit_call_rows.proofs.actors.actor.Goals as goal

pub returns-then-is_used : goal.returns-then-is_used
returns-then-is_used c =
    c.user.ensures
    ∙ (ap (λ (g : Granted). find (uses_as c.args.epoch g.inst c.args.n) c.args.calls.now) c.grant-grant.ensures ∙ user_acts c.args.epoch c.args.instance.now c.args.n c.args.calls.now (sym c.if-is_used.ensures))

pub returns-else-is_used : goal.returns-else-is_used
returns-else-is_used c =
    c.find.ensures
    ∙ (ap (λ (g : Granted). find (is_id g.call) c.args.calls.now) c.grant-grant.ensures ∙ caller_acts c.args.epoch c.args.instance.now c.args.n c.args.calls.now (sym c.if-is_used.ensures))
