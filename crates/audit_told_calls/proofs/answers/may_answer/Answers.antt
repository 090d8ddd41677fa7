use Rattle.std.proofs.Common.{◌∙◌, ◌&&◌, ◌||◌, Some, None, ap, sym}
use Rattle.std.specs.List.{find}
use Rattle.promises.specs.Past.{CallSoFar}
use Rattle.promises.specs.After.{is_id}
use Rattle.promises.specs.Rows.{is_changed, is_scripted, waits_at}
use Rattle.audit_told_calls.proofs.Found.{and_both, and_none, if_ok, step_found}
use Rattle.audit_told_calls.proofs.answers.may_answer.Goals as goal

pub returns-in_default : goal.returns-in_default
returns-in_default c = sym (step_found c.args.told.now c.args.to.call (λ (k : CallSoFar). waits_at c.args.to.site c.args.to.process k && (is_scripted c.args.config.now c.args.told.now k c.args.reply.now || is_changed c.args.told.now k c.args.reply.now)) None c.requires (c.in_default.ensures ∙ ap (find (is_id c.args.to.call)) c.calls.ensures))

pub returns-then-not-waits_for : goal.returns-then-not-waits_for
returns-then-not-waits_for c = and_none (waits_at c.args.to.site c.args.to.process c.in-Some.row.now) (is_scripted c.args.config.now c.args.told.now c.in-Some.row.now c.args.reply.now || is_changed c.args.told.now c.in-Some.row.now c.args.reply.now) c.if-not-waits_for.ensures ∙ sym (step_found c.args.told.now c.args.to.call (λ (k : CallSoFar). waits_at c.args.to.site c.args.to.process k && (is_scripted c.args.config.now c.args.told.now k c.args.reply.now || is_changed c.args.told.now k c.args.reply.now)) (Some c.in-Some.row.now) c.requires (c.in-Some.ensures ∙ ap (find (is_id c.args.to.call)) c.calls.ensures))

pub returns : goal.returns
returns c = if_ok c.is_answered_so.result c.is_answered_so.ensures (λ b e. and_both b (waits_at c.args.to.site c.args.to.process c.in-Some.row.now) (is_scripted c.args.config.now c.args.told.now c.in-Some.row.now c.args.reply.now || is_changed c.args.told.now c.in-Some.row.now c.args.reply.now) c.if-not-waits_for.ensures e ∙ sym (step_found c.args.told.now c.args.to.call (λ (k : CallSoFar). waits_at c.args.to.site c.args.to.process k && (is_scripted c.args.config.now c.args.told.now k c.args.reply.now || is_changed c.args.told.now k c.args.reply.now)) (Some c.in-Some.row.now) c.requires (c.in-Some.ensures ∙ ap (find (is_id c.args.to.call)) c.calls.ensures)))
