use Rattle.site_laws.proofs.Vectors.HistorySited.{run_sited}
use Rattle.site_laws.proofs.history.sites_are_known.Goals as goal

pub returns : goal.returns
returns c = λ config lines. run_sited config lines
