use Rattle.std.proofs.Common.{sym}
use Rattle.commit_graph.specs.Versions.{same_stamp}
use Rattle.audit_same.proofs.Alike.{unequal}
use Rattle.audit_same.proofs.lists.same_stamps.Goals as goal

pub returns-then-a-b : goal.returns-then-a-b
returns-then-a-b c = sym (unequal same_stamp c.args.a.now c.args.b.now c.if-a-b.true)
