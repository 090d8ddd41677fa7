use Rattle.inode_pack.proofs.FreeCounts.{none_left}
use Rattle.inode_pack.proofs.new_pages.next_free.Goals as goal

pub returns-clause-low : goal.returns-clause-low
returns-clause-low c = absurd (none_left c.args.uses.now c.args.from c.loop-p.p c.requires.count c.loop-p-test.false c.loop-p.invariant c.requires.some)

pub returns-clause-inside : goal.returns-clause-inside
returns-clause-inside c = absurd (none_left c.args.uses.now c.args.from c.loop-p.p c.requires.count c.loop-p-test.false c.loop-p.invariant c.requires.some)
