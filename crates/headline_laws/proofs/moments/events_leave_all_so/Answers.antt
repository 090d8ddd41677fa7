use Rattle.headline_laws.proofs.Promises.MomentsHold.{after_events}
use Rattle.headline_laws.proofs.Promises.RoundMoments.{moments_end}
use Rattle.headline_laws.proofs.moments.events_leave_all_so.Goals as goal

pub returns : goal.returns
returns c = record {
  holds = λ lines order. after_events lines order;
  rounds = λ config lines. moments_end config lines;
}
