use Rattle.std.proofs.Common.{sym}
use Rattle.tree_tables.proofs.Alike.{unequal}
use Rattle.tree_tables.proofs.same.same_all.Goals as goal

pub returns-then-a-b : goal.returns-then-a-b
returns-then-a-b c = sym (unequal c.args.a.now c.args.b.now c.if-a-b.true)
