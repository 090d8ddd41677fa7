use Rattle.headline_laws.proofs.StopRuns.Early.{early_is_wrong}
use Rattle.headline_laws.proofs.StopRuns.Sampled.{took_away_is_wrong, goes_on_is_wrong, over_is_wrong}
use Rattle.headline_laws.proofs.samples.wrong_cuts_are_refused.Goals as goal

pub returns : goal.returns
returns c = record { early = λ h. early_is_wrong h; took_away = λ h. took_away_is_wrong h; goes_on = λ h. goes_on_is_wrong h; over = λ h. over_is_wrong h }
