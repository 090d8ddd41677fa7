use Rattle.std.proofs.Common.{sym}
use Rattle.dir_format.proofs.Placing.{replaced}
use Rattle.dir_format.proofs.place.place_of.Goals as goal

pub returns-in-Equal-clause-value : goal.returns-in-Equal-clause-value
returns-in-Equal-clause-value c = replaced c.args.e.now c.args.entries.now c.loop-i.i c.index-entries-i.result c.loop-i-test.true c.index-entries-i.is (sym c.in-Equal.ensures) c.loop-i.invariant
