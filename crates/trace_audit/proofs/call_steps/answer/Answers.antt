-- A reply that may come next, in its turn, is told.
use Rattle.std.proofs.Common.{sym, ◌∙◌}
use Rattle.trace_audit.proofs.call_steps.answer.Goals as goal

pub returns : goal.returns
returns c = record { told = sym c.if-not-branch.false ∙ c.in_ok-may_answer.ensures; next = λ _. c.in_ok-answered.ensures c.args.config.now }
