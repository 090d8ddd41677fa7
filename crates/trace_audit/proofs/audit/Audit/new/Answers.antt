-- Before the first record what is kept is tidy.
use Rattle.std.proofs.Common.{sym, subst}
use Rattle.audit_laws.specs.Tidy.Tidy.{IsTidy}
use Rattle.audit_laws.proofs.Tidy.Tidy.{tidy_first}
use Rattle.trace_audit.proofs.audit.Audit.new.Goals as goal

pub invariant_of-result : goal.invariant_of-result
invariant_of-result c = λ _. subst (IsTidy c.args.config) (sym c.in_ok-told.ensures) (tidy_first c.args.config)
