use Rattle.complete_laws.proofs.MomentMoments.{run_events}
use Rattle.complete_laws.proofs.moment.events_come_as_they_may.Goals as goal

pub returns : goal.returns
returns c = λ config lines l fit packs few. run_events config lines l fit packs few
