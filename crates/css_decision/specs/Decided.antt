-- What is decided of an open.
use Rattle.role_steps.specs.Opens.{Decision, Denies, Grants}
use Rattle.css_decision.specs.declared.decision.Decision.{Decision as Decided}
use Rattle.css_decision.specs.declared.decision.Decision.TheVariants.{Denied, Granted}

abbrev pub decision_of : Decided → Decision
decision_of (Denied why) = Denies why
decision_of (Granted g) = Grants g.ss g.stamp g.vector g.parents g.set g.kind
