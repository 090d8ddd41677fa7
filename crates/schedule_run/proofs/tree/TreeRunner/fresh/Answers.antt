use Rattle.the_run.specs.Commands.{tree_lines}
use Rattle.schedule_run.specs.Tree.{replies_taken}
use Rattle.schedule_run.proofs.tree.TreeRunner.fresh.Goals as goal

pub returns : goal.returns
returns c = λ calls taken h. c.fresh.ensures (tree_lines calls) (replies_taken taken) h.done
