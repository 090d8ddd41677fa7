use Rattle.audit_laws.proofs.Tidy.Tidy.{tidy_first, tidy_next}
use Rattle.audit_laws.proofs.tidy_laws.tidy_stays.Goals as goal

pub returns-clause-first : goal.returns-clause-first
returns-clause-first k c = tidy_first c

pub returns-clause-next : goal.returns-clause-next
returns-clause-next k c p r tidy may = tidy_next c p r tidy may
