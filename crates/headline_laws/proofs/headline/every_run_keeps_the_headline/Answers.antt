use Rattle.headline_laws.proofs.HeadlinePromises.Headlines.{run_keeps_headline}
use Rattle.headline_laws.proofs.headline.every_run_keeps_the_headline.Goals as goal

pub returns : goal.returns
returns c lines order = run_keeps_headline lines order
