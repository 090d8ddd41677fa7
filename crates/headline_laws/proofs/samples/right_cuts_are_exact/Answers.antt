use Rattle.headline_laws.proofs.StopRuns.Sampled.{stays_is_exact, lost_is_exact, fails_is_exact}
use Rattle.headline_laws.proofs.samples.right_cuts_are_exact.Goals as goal

pub returns : goal.returns
returns c = record { stays = stays_is_exact; lost = lost_is_exact; fails = fails_is_exact }
