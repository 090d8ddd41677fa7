use Rattle.audit_sites.proofs.Freed.{none_freed}
use Rattle.audit_sites.proofs.names.free.Goals as goal

pub returns-in_default : goal.returns-in_default
returns-in_default c = none_freed c.args.words.now c.args.process c.in_default.not-Close _
