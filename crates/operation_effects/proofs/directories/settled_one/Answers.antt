use Rattle.operation_effects.proofs.Inserting.{one_is}
use Rattle.operation_effects.proofs.directories.settled_one.Goals as goal

pub returns-clause-value : goal.returns-clause-value
returns-clause-value c content =
    one_is c.args.d.now c.args.outcome c.args.counts c.args.spent c.in_ok-left.left content c.as_slice-entries.ensures.is_dir (c.in_ok-left.ensures.value content)
