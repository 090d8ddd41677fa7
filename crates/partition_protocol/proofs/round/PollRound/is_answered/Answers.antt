use Rattle.std.proofs.Common.{refl}
use Rattle.partition_protocol.specs.Promising.{promises_from}
use Rattle.partition_protocol.proofs.Rows.{missing_unanswered}
use Rattle.partition_protocol.proofs.round.PollRound.is_answered.Goals as goal

pub returns : goal.returns
returns c =
    let e = missing_unanswered record { id = c.self.inside.id; polled = c.self.inside.polled; promises = promises_from 1 c.self.inside.promises } c.self.inside.promises refl in
    rw (← c.self.view_is, ← e) c.has_all.ensures
