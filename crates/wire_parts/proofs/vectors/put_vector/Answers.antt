use Rattle.std.proofs.Common.{sym}
use Rattle.wire_parts.proofs.Counters.{counters_spelled}
use Rattle.wire_parts.proofs.Writing.{respelled}
use Rattle.wire_parts.proofs.vectors.put_vector.Goals as goal

pub returns : goal.returns
returns c = respelled _ _ _ _ _ (sym (counters_spelled c.args.vector.now)) (rw c.parts.ensures at c.put_counters.ensures)
