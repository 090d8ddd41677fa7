use Rattle.std.proofs.Common.{◌∙◌, Some, None, ap, sym}
use Rattle.std.specs.List.{find}
use Rattle.promises.specs.Past.{ends}
use Rattle.audit_told_calls.proofs.Found.{asked_at, if_ok}
use Rattle.audit_told_calls.proofs.steps.is_ended.Goals as goal

pub returns-in_default : goal.returns-in_default
returns-in_default c = λ t same. sym (asked_at c.args.config.now c.args.told.now t c.args.at.epoch (λ i. ends i c.args.at.instance.now) c.args.request.now None same c.requires.one (c.in_default.ensures ∙ ap (find (ends c.args.at.epoch c.args.at.instance.now)) c.calls.ensures))

pub returns : goal.returns
returns c = λ t same. if_ok c.is_next.result c.is_next.ensures (λ b e. e ∙ sym (asked_at c.args.config.now c.args.told.now t c.args.at.epoch (λ i. ends i c.args.at.instance.now) c.args.request.now (Some c.in-Some.row.now) same c.requires.one (c.in-Some.ensures ∙ ap (find (ends c.args.at.epoch c.args.at.instance.now)) c.calls.ensures)))
