use Rattle.site_laws.proofs.Packs.Homes.{run_homes}
use Rattle.site_laws.proofs.pack_laws.homes_commit_first.Goals as goal

pub returns : goal.returns
returns c = λ config lines. run_homes config lines
