use Rattle.std.proofs.Common.{refl}
use Rattle.row_laws.proofs.bound_laws.bound_is_met.Goals as goal

pub returns-clause-last : goal.returns-clause-last
returns-clause-last c = λ id root own. refl

pub returns-clause-number : goal.returns-clause-number
returns-clause-number c = λ root own. refl

pub returns-clause-mailed : goal.returns-clause-mailed
returns-clause-mailed c = λ id box own. refl

pub returns-clause-mails : goal.returns-clause-mails
returns-clause-mails c = λ box own. refl
