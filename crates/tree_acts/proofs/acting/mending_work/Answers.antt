use Rattle.std.proofs.Common.{◌≡◌, subst, Option, IfOk}
use Rattle.file_effects.specs.declared.work.Work.{Work}
use Rattle.tree_acts.proofs.Given.{mends_with}
use Rattle.tree_acts.proofs.Unfitting.{mend_unfit}
use Rattle.tree_acts.proofs.acting.mending_work.Goals as goal

pub returns-clause-value : goal.returns-clause-value
returns-clause-value c =
    λ is. subst (λ (v : Option Work). IfOk c.operated_work.result (λ made. made ≡ v))
    (mends_with c.args.h.now c.args.tree.now c.args.outcome.now c.args.instance.now c.args.op.now c.zero.result c.in_ok-mending.mending is
    c.in_ok-mending.ensures.contents c.in_ok-mending.ensures.kept)
    c.operated_work.ensures.value

pub returns-clause-unfit : goal.returns-clause-unfit
returns-clause-unfit c =
    λ is fault. mend_unfit c.args.h.now c.args.tree.now c.args.instance.now c.in_ok-mending.mending.contents c.args.op.now is c.in_ok-mending.ensures.contents (c.operated_work.ensures.unfit fault)
