use Rattle.std.proofs.Common.{ℕ, None, Some, ◌+◌, ◌==◌, refl, subst, sym, ap, ◌∙◌}
use Rattle.trace_book.specs.declared.operation.Op.TheVariants as op
use Rattle.role_steps.specs.of_dir_format.Entries.{nothing_seen}
use Rattle.role_steps.specs.Views.{Store, Outcome}
use Rattle.role_steps.specs.Operations.{in_form, nothing_to_mend}
use Rattle.store_instances.specs.Stores.{RowGives, store_of}
use Rattle.store_instances.proofs.Given.{again_op, not_running, unknown_op}
use Rattle.store_instances.proofs.ShortAnswers.{again_held, quiet_held}
use Rattle.store_instances.proofs.instance.StoreInstance.on_read_held.Goals as goal

pub returns-then-not-is_running-clause-gives : goal.returns-then-not-is_running-clause-gives
returns-then-not-is_running-clause-gives c r p image h room =
    subst (λ (o : Outcome Store). RowGives (in_form (Some c.args.self.now) o) r None c.args.self.now p image c.args.out.now c.args.out.now)
    (not_running c.args.frame.now nothing_to_mend c.args.self.now c.args.self.now.stage c.args.read.number (op.Read c.args.read.at c.args.read.len) nothing_seen (store_of r p image) (sym c.is_running.ensures ∙ c.if-not-is_running.true))
    (quiet_held r p image c.args.self.now c.args.self.now c.args.out.now c.args.out.now h refl refl)

pub returns-then-read-done-clause-gives : goal.returns-then-read-done-clause-gives
returns-then-read-done-clause-gives c r p image h room =
    subst (λ (o : Outcome Store). RowGives (in_form (Some c.args.self.now) o) r None c.args.self.now p image c.args.out.now c.answer_held_again.new.out)
    (again_op c.args.frame.now nothing_to_mend c.args.self.now c.args.read.number (op.Read c.args.read.at c.args.read.len) nothing_seen (store_of r p image) (sym c.is_running.ensures ∙ c.if-not-is_running.false) (c.if-read-done.true ∙ c.done-done.ensures))
    (again_held r p image c.args.frame.now c.args.self.now c.args.read.number c.args.out.now c.answer_held_again.new.out h c.in_ok-answer_held_again.ensures.packets c.in_ok-answer_held_again.ensures.records)

pub returns-then-not-is_next-clause-gives : goal.returns-then-not-is_next-clause-gives
returns-then-not-is_next-clause-gives c r p image h room =
    subst (λ (o : Outcome Store). RowGives (in_form (Some c.args.self.now) o) r None c.args.self.now p image c.args.out.now c.args.out.now)
    (unknown_op c.args.frame.now nothing_to_mend c.args.self.now c.args.read.number (op.Read c.args.read.at c.args.read.len) nothing_seen (store_of r p image) (sym c.is_running.ensures ∙ c.if-not-is_running.false) (λ e. c.if-read-done.false (e ∙ sym c.done-done.ensures))
    (sym (c.is_next.ensures.value ∙ ap (λ (d : ℕ). c.args.read.number == d + 1) c.done-done.ensures) ∙ c.if-not-is_next.true))
    (quiet_held r p image c.args.self.now c.args.self.now c.args.out.now c.args.out.now h refl refl)
