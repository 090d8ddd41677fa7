use Rattle.std.proofs.Common.{refl}
use Rattle.partition_protocol.proofs.round.PollRound.chosen_set.Goals as goal

pub returns : goal.returns
returns c = rw (← c.self.view_is, c.fully_connected.ensures.exact, c.put_promise.ensures, c.meet.ensures.exact, c.candidates.ensures, c.reached-reach.ensures) refl
