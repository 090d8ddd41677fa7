use Rattle.std.proofs.Common.{ℕ, List, Ok, Option, None, refl, subst, sym, ap, ◌∙◌}
use Rattle.role_steps.specs.Views.{DiskWrite, Store, Outcome}
use Rattle.trace_book.specs.declared.operation.Op.{Op}
use Rattle.instance_choices.specs.Turns.{IsNext, IsOther}
use Rattle.role_steps.specs.Operations.{executes, op_again}
use Rattle.store_instances.specs.Stores.{RowGives, store_of}
use Rattle.store_instances.specs.Writes.{Writes}
use Rattle.store_instances.proofs.Given.{quiet_so, sends_so, next_op, not_running, other_written, again_op, unknown_op}
use Rattle.store_instances.proofs.Stays.{nothing_written}
use Rattle.store_instances.specs.Fitting.{CanExecute, CanOperate}
use Rattle.store_instances.proofs.Fits.{is_next, memory_fit, operates, unfit_at, works_on}
use Rattle.site_packs.specs.Packs.{groups_of}
use Rattle.site_packs.specs.Copies.{copies_on}
use Rattle.role_steps.specs.declared.copies.FileCopy.{FileCopy}
use Rattle.role_steps.specs.declared.copies.Step.{Step}
use Rattle.store_instances.proofs.instance.StoreInstance.on_op.Goals as goal

pub returns-then-not-is_running-clause-gives : goal.returns-then-not-is_running-clause-gives
returns-then-not-is_running-clause-gives g c xs h room =
    subst (λ (o : Outcome Store). RowGives o xs None c.args.self.now c.args.packs.now (g.D.Disk.moment c.args.disk.now).seen c.args.out.now c.args.out.now)
    (not_running c.args.frame.now c.args.mending.now c.args.self.now c.args.self.now.stage c.args.n c.args.op.now c.args.seen.now (store_of xs c.args.packs.now (g.D.Disk.moment c.args.disk.now).seen) (sym c.is_running.ensures ∙ c.if-not-is_running.true))
    (quiet_so xs c.args.packs.now (g.D.Disk.moment c.args.disk.now).seen c.args.self.now c.args.self.now c.args.out.now c.args.out.now h refl refl)

pub returns-in_ok-answer_again-in-Again-clause-gives : goal.returns-in_ok-answer_again-in-Again-clause-gives
returns-in_ok-answer_again-in-Again-clause-gives g c xs h room =
    subst (λ (o : Outcome Store). RowGives o xs None c.args.self.now c.args.packs.now (g.D.Disk.moment c.args.disk.now).seen c.args.out.now c.answer_again.new.out)
    (again_op c.args.frame.now c.args.mending.now c.args.self.now c.args.n c.args.op.now c.args.seen.now (store_of xs c.args.packs.now (g.D.Disk.moment c.args.disk.now).seen) (sym c.is_running.ensures ∙ c.if-not-is_running.false) (c.turn_of.ensures.again c.in-Again.is ∙ c.done.ensures))
    (sends_so xs c.args.packs.now (g.D.Disk.moment c.args.disk.now).seen (op_again c.args.frame.now c.args.self.now c.args.n c.args.self.now.answered) c.args.self.now c.args.self.now c.args.out.now c.answer_again.new.out h refl
    c.in_ok-answer_again-in-Again.ensures.packets c.in_ok-answer_again-in-Again.ensures.records)

pub returns-in-Ignored-clause-gives : goal.returns-in-Ignored-clause-gives
returns-in-Ignored-clause-gives g c xs h room =
    let other : IsOther c.args.self.now.work.ops c.args.n = subst (λ (d : ℕ). IsOther d c.args.n) c.done.ensures (c.turn_of.ensures.ignored c.in-Ignored.is) in
    subst (λ (o : Outcome Store). RowGives o xs None c.args.self.now c.args.packs.now (g.D.Disk.moment c.args.disk.now).seen c.args.out.now c.args.out.now)
    (unknown_op c.args.frame.now c.args.mending.now c.args.self.now c.args.n c.args.op.now c.args.seen.now (store_of xs c.args.packs.now (g.D.Disk.moment c.args.disk.now).seen) (sym c.is_running.ensures ∙ c.if-not-is_running.false) other.apart other.later)
    (quiet_so xs c.args.packs.now (g.D.Disk.moment c.args.disk.now).seen c.args.self.now c.args.self.now c.args.out.now c.args.out.now h refl refl)

pub returns-in_ok-execute-in-Works-clause-disk : goal.returns-in_ok-execute-in-Works-clause-disk
returns-in_ok-execute-in-Works-clause-disk g c s =
    let works = c.turn_of.ensures.works c.in-Works.is in
    let next : IsNext c.args.self.now.work.ops c.args.n = subst (λ (d : ℕ). IsNext d c.args.n) c.done.ensures works.0 in
    subst (λ (w : Option DiskWrite). Writes {T = Option Step} w c.args.packs.now (g.D.Disk.moment c.args.disk.now) (g.D.Disk.moment c.args.disk.now) c.args.out.now c.execute.new.out (Ok None))
    (other_written c.args.frame.now c.args.mending.now c.args.self.now c.args.op.now c.args.seen.now s works.1 works.2
    ∙ ap (λ (o : Outcome Store). o.written) (next_op c.args.frame.now c.args.mending.now c.args.self.now c.args.n c.args.op.now c.args.seen.now s (sym c.is_running.ensures ∙ c.if-not-is_running.false) next.apart next.next))
    (nothing_written c.args.packs.now (g.D.Disk.moment c.args.disk.now) c.args.out.now c.execute.new.out None c.requires.settled (g.met.D.Disk.only_now c.args.disk.now))

pub returns-in_ok-made-in-Commits-clause-disk : goal.returns-in_ok-made-in-Commits-clause-disk
returns-in_ok-made-in-Commits-clause-disk g c s =
    let commits = c.turn_of.ensures.commits c.in-Commits.is in
    let next : IsNext c.args.self.now.work.ops c.args.n = subst (λ (d : ℕ). IsNext d c.args.n) c.done.ensures commits.0 in
    subst (λ (w : Option DiskWrite). Writes w c.args.packs.now (g.D.Disk.moment c.args.disk.now) (g.D.Disk.moment c.commit_op.new.disk) c.args.out.now c.commit_op.new.out (Ok c.in_ok-made-in-Commits.made))
    (ap (λ (o : Op). (executes c.args.frame.now c.args.mending.now c.args.self.now o c.args.seen.now s).written) (sym commits.1)
    ∙ ap (λ (o : Outcome Store). o.written) (next_op c.args.frame.now c.args.mending.now c.args.self.now c.args.n c.args.op.now c.args.seen.now s (sym c.is_running.ensures ∙ c.if-not-is_running.false) next.apart next.next))
    (c.in_ok-made-in-Commits.ensures.disk s)

pub returns-in_err-answer_again-in-Again-clause-unfit : goal.returns-in_err-answer_again-in-Again-clause-unfit
returns-in_err-answer_again-in-Again-clause-unfit g c so can = memory_fit c.from_residual.result c.from_residual.ensures.1 so

pub returns-in_err-made-in-Commits-clause-unfit : goal.returns-in_err-made-in-Commits-clause-unfit
returns-in_err-made-in-Commits-clause-unfit g c =
    let groups : List ℕ = groups_of c.args.packs.now in
    let copies : List FileCopy = copies_on groups (g.D.Disk.moment c.args.disk.now).seen in
    let commits = c.turn_of.ensures.commits c.in-Commits.is in
    let next : IsNext c.args.self.now.work.ops c.args.n = subst (λ (d : ℕ). IsNext d c.args.n) c.done.ensures commits.0 in
    unfit_at {S = Option Step} (CanOperate c.args.frame.now c.args.mending.now groups copies c.args.self.now c.args.self.now.stage c.args.n c.args.op.now) c.from_residual-in_err-made-in-Commits.result c.in_err-made-in-Commits.field-0.0 c.from_residual-in_err-made-in-Commits.ensures.1
    (λ so can. c.in_err-made-in-Commits.ensures.unfit so
    (subst (λ (o : Op). CanExecute c.args.frame.now c.args.mending.now groups copies c.args.self.now o) commits.1
    (operates c.args.frame.now c.args.mending.now groups copies c.args.self.now c.args.self.now.stage c.args.n c.args.op.now (sym c.is_running.ensures ∙ c.if-not-is_running.false) (is_next c.args.n c.args.self.now.work.ops next.next) can)))

pub returns-in_err-abort_op-in-Aborts-clause-unfit : goal.returns-in_err-abort_op-in-Aborts-clause-unfit
returns-in_err-abort_op-in-Aborts-clause-unfit g c =
    unfit_at {S = Unit {0}} (CanOperate c.args.frame.now c.args.mending.now (groups_of c.args.packs.now) (copies_on (groups_of c.args.packs.now) (g.D.Disk.moment c.args.disk.now).seen) c.args.self.now c.args.self.now.stage c.args.n c.args.op.now) c.from_residual-in_err-abort_op-in-Aborts.result c.in_err-abort_op-in-Aborts.field-0.0 c.from_residual-in_err-abort_op-in-Aborts.ensures.1
    (λ so can. c.in_err-abort_op-in-Aborts.ensures.fit so)

pub returns-in_err-execute-in-Works-clause-unfit : goal.returns-in_err-execute-in-Works-clause-unfit
returns-in_err-execute-in-Works-clause-unfit g c =
    let groups : List ℕ = groups_of c.args.packs.now in
    let copies : List FileCopy = copies_on groups (g.D.Disk.moment c.args.disk.now).seen in
    let works = c.turn_of.ensures.works c.in-Works.is in
    let next : IsNext c.args.self.now.work.ops c.args.n = subst (λ (d : ℕ). IsNext d c.args.n) c.done.ensures works.0 in
    unfit_at {S = Unit {0}} (CanOperate c.args.frame.now c.args.mending.now groups copies c.args.self.now c.args.self.now.stage c.args.n c.args.op.now) c.from_residual-in_err-execute-in-Works.result c.in_err-execute-in-Works.field-0.0 c.from_residual-in_err-execute-in-Works.ensures.1
    (λ so can. c.in_err-execute-in-Works.ensures.unfit so
    (works_on c.args.frame.now c.args.mending.now groups copies c.args.self.now c.args.op.now works.1
    (operates c.args.frame.now c.args.mending.now groups copies c.args.self.now c.args.self.now.stage c.args.n c.args.op.now (sym c.is_running.ensures ∙ c.if-not-is_running.false) (is_next c.args.n c.args.self.now.work.ops next.next) can)))
