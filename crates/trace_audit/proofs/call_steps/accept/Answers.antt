-- A call that may come next is the next of its site, and is told.
use Rattle.std.proofs.Common.{refl, sym, ◌∙◌}
use Rattle.trace_book.specs.declared.record.Record.TheVariants as rec
use Rattle.audit_laws.proofs.Tidy.Steps.{accepts_next}
use Rattle.trace_audit.proofs.TreeSteps.{may_so}
use Rattle.trace_audit.proofs.call_steps.accept.Goals as goal

pub accepted-requires : goal.accepted-requires
accepted-requires c = record { next = accepts_next c.args.config.now c.args.told.now c.args.by.site c.args.by.process c.args.by.call c.args.words c.requires (sym c.in_ok-may_call.ensures ∙ c.if-not-branch.false) }

pub returns : goal.returns
returns c = may_so _ _ _ (rec.Accept c.args.by.site c.args.by.process c.args.by.call c.args.words) refl (sym c.if-not-branch.false ∙ c.in_ok-may_call.ensures) (c.in_ok-accepted.ensures c.args.config.now)
