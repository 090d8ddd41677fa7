use Rattle.site_laws.proofs.Packs.InodeFitsRun.{run_fits}
use Rattle.site_laws.proofs.inode.numbers_fit.Goals as goal

pub returns : goal.returns
returns c = λ config lines. run_fits config lines
