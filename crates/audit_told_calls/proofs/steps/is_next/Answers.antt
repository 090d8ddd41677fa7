use Rattle.std.proofs.Common.{◌≡◌, ◌∙◌, ap, true}
use Rattle.call_rules.specs.declared.want.Want.{Want}
use Rattle.tree_model.specs.Epochs.{is_in}
use Rattle.promises.specs.Past.{asks}
use Rattle.promises.specs.Same.{same_request}
use Rattle.audit_told_calls.proofs.Found.{and_both, asked_of_home, if_ok}
use Rattle.audit_told_calls.proofs.steps.is_next.Goals as goal

pub returns : goal.returns
returns c = if_ok c.asks_request.result c.asks_request.ensures (λ b e. and_both b (is_in c.args.row.now.epoch c.args.epoch) (same_request (asks c.args.config.now c.args.told.now c.args.row.now) c.args.request.now)
    (c.if-not-is_in.ensures ∙ ap (λ h. is_in h c.args.epoch) c.epoch.ensures)
    (e ∙ ap (λ v. same_request v c.args.request.now) (asked_of_home c.args.config.now c.args.told.now c.args.row.now c.members_of-members.result c.epoch-2.result c.requires c.epoch-2.ensures c.members_of-members.ensures c.args.row.now.answers)))
