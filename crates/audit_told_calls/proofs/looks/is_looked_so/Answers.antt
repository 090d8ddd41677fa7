use Rattle.std.proofs.Common.{◌∙◌, ◌&&◌, Some, None, ap, sym}
use Rattle.std.specs.List.{find}
use Rattle.call_rules.specs.declared.want.Want.TheVariants as want
use Rattle.tree_model.specs.Epochs.{is_in}
use Rattle.promises.specs.Past.{CallSoFar}
use Rattle.promises.specs.After.{is_id}
use Rattle.audit_told_calls.specs.Looked.{asked_look}
use Rattle.audit_told_calls.proofs.Found.{and_both, and_none, if_ok, look_told, step_found}
use Rattle.audit_told_calls.proofs.looks.is_looked_so.Goals as goal

pub returns-in_default : goal.returns-in_default
returns-in_default c = sym (step_found c.args.told.now c.args.look.call (λ (k : CallSoFar). is_in k.epoch c.args.epoch.now.id && asked_look c.args.config.now c.args.told.now c.args.look.request c.args.look.file c.args.look.what.now k) None c.requires (c.in_default.ensures ∙ ap (find (is_id c.args.look.call)) c.calls.ensures))

pub returns-then-not-is_in : goal.returns-then-not-is_in
returns-then-not-is_in c = and_none (is_in c.in-Some.row.now.epoch c.args.epoch.now.id) (asked_look c.args.config.now c.args.told.now c.args.look.request c.args.look.file c.args.look.what.now c.in-Some.row.now) (c.if-not-is_in.ensures ∙ (ap (λ h. is_in h c.id.result) c.epoch.ensures ∙ ap (is_in c.in-Some.row.now.epoch) c.id.ensures)) ∙ sym (step_found c.args.told.now c.args.look.call (λ (k : CallSoFar). is_in k.epoch c.args.epoch.now.id && asked_look c.args.config.now c.args.told.now c.args.look.request c.args.look.file c.args.look.what.now k) (Some c.in-Some.row.now) c.requires (c.in-Some.ensures ∙ ap (find (is_id c.args.look.call)) c.calls.ensures))

pub returns : goal.returns
returns c = if_ok c.asks_look.result (c.asks_look.ensures c.args.look.file c.args.look.what.now (ap (want.Look c.args.look.file) c.in_ok-copy.ensures)) (λ b e. and_both b (is_in c.in-Some.row.now.epoch c.args.epoch.now.id) (asked_look c.args.config.now c.args.told.now c.args.look.request c.args.look.file c.args.look.what.now c.in-Some.row.now) (c.if-not-is_in.ensures ∙ (ap (λ h. is_in h c.id.result) c.epoch.ensures ∙ ap (is_in c.in-Some.row.now.epoch) c.id.ensures)) (e ∙ look_told c.args.config.now c.args.told.now c.in-Some.row.now c.members_of-members.result c.epoch-2.result c.args.look.request c.args.look.file c.args.look.what.now c.requires c.epoch-2.ensures c.members_of-members.ensures) ∙ sym (step_found c.args.told.now c.args.look.call (λ (k : CallSoFar). is_in k.epoch c.args.epoch.now.id && asked_look c.args.config.now c.args.told.now c.args.look.request c.args.look.file c.args.look.what.now k) (Some c.in-Some.row.now) c.requires (c.in-Some.ensures ∙ ap (find (is_id c.args.look.call)) c.calls.ensures)))
