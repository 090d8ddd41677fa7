use Rattle.std.proofs.Common.{◌∙◌, sym}
use Rattle.tree_acts.proofs.Changed.{becomes_so}
use Rattle.tree_acts.proofs.acting.act.Goals as goal

pub returns-in_ok-act-in-Some-clause-next : goal.returns-in_ok-act-in-Some-clause-next
returns-in_ok-act-in-Some-clause-next c =
    c.in_ok-act-in-Some.ensures.ok
    ∙ becomes_so c.args.h.now c.args.tree.now c.args.inst c.args.n c.args.op.now c.args.outcome.now c.in-Some.work (sym c.in-Some.is ∙ c.in_ok-work.ensures.value)
