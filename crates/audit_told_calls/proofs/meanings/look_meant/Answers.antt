use Rattle.std.proofs.Common.{sym, ◌∙◌}
use Rattle.audit_rules.specs.Meant.{asked_by, call_named}
use Rattle.audit_told_calls.proofs.Said.{as_said}
use Rattle.audit_told_calls.proofs.meanings.look_meant.Goals as goal

pub returns-then-not-is_whole : goal.returns-then-not-is_whole
returns-then-not-is_whole c = as_said (asked_by c.args.config.now c.args.told.now c.args.request (call_named c.args.told.now c.args.id)) c.args.read (sym c.is_whole.ensures ∙ c.if-not-is_whole.true)
