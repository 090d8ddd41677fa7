use Rattle.std.proofs.Common.{◌≡◌, sym, subst, Option, IfOk}
use Rattle.file_effects.specs.declared.work.Work.{Work}
use Rattle.tree_acts.proofs.Given.{removes_with, sees_one}
use Rattle.tree_acts.proofs.Unfitting.{removal_unfit}
use Rattle.tree_acts.proofs.acting.removing_work.Goals as goal

pub returns-clause-value : goal.returns-clause-value
returns-clause-value c =
    λ is. subst (λ (v : Option Work). IfOk c.operated_work-2.result (λ made. made ≡ v))
    (removes_with c.args.h.now c.args.tree.now c.args.outcome.now c.args.instance.now c.args.op.now c.args.name.now c.args.ino c.in_ok-seen.seen _ is
    (sees_one c.args.h.now c.args.name.now c.args.ino _ c.in-Some.target.now c.in-Some-last.stamp c.in_ok-seen.seen (sym c.in-Some.ensures) c.in-Some-last.is c.in_ok-seen.ensures))
    c.operated_work-2.ensures.value

pub returns-clause-unfit : goal.returns-clause-unfit
returns-clause-unfit c =
    λ is fault. removal_unfit c.args.h.now c.args.tree.now c.args.instance.now _ c.args.op.now c.args.name.now c.args.ino is (c.operated_work-2.ensures.unfit fault)
