use Rattle.std.proofs.Common.{arith}
use Rattle.pack_slots.specs.Copies.{numbers_in}
use Rattle.inode_pack.proofs.PageLists.{so_far_named, so_far_same}
use Rattle.inode_pack.proofs.usage.pass_pages.Goals as goal

pub pass_all-requires-clause-once : goal.pass_all-requires-clause-once
pass_all-requires-clause-once c p small = omega (arith, c.requires.once p small, so_far_named c.args.old.now p c.requires.old small)

pub pass_all-requires-clause-same : goal.pass_all-requires-clause-same
pass_all-requires-clause-same c = so_far_same c.args.old.now c.args.row.first c.args.row.stop (numbers_in c.args.made.now) c.requires.same c.requires.none

pub returns-clause-named : goal.returns-clause-named
returns-clause-named c p small = omega (arith, c.pass_all.ensures.named p small, so_far_named c.args.old.now p c.requires.old small)
