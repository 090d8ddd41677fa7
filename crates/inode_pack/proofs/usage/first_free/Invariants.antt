use Rattle.inode_pack.specs.Rows.{NoneBelow}
use Rattle.inode_pack.proofs.usage.first_free.Given as goal

abbrev pub invariant-loop-page : goal.invariant-loop-page
invariant-loop-page l = NoneBelow l.page l.uses
