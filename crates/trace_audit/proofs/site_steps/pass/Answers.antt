-- A record that changes nothing may come next, and is told.
use Rattle.std.proofs.Common.{refl}
use Rattle.trace_book.specs.declared.record.Record.TheVariants as rec
use Rattle.trace_audit.proofs.TreeSteps.{may_so}
use Rattle.trace_audit.proofs.site_steps.pass.Goals as goal

pub returns-clause-void : goal.returns-clause-void
returns-clause-void c = λ d. may_so d _ _ rec.Void refl refl (c.passed.ensures.void d)

pub returns-clause-budget : goal.returns-clause-budget
returns-clause-budget c = λ d. may_so d _ _ rec.Budget refl refl (c.passed.ensures.budget d)

pub returns-clause-packet : goal.returns-clause-packet
returns-clause-packet c = λ d number from to kind. may_so d _ _ (rec.Packet number from to kind) refl refl (c.passed.ensures.packet d number from to kind)
