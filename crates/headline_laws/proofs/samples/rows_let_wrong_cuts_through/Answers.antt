use Rattle.headline_laws.proofs.StopRuns.Lawful.{early_is_lawful, took_away_is_lawful, goes_on_is_lawful, over_is_lawful}
use Rattle.headline_laws.proofs.samples.rows_let_wrong_cuts_through.Goals as goal

pub returns : goal.returns
returns c = record { early = early_is_lawful; took_away = took_away_is_lawful; goes_on = goes_on_is_lawful; over = over_is_lawful }
