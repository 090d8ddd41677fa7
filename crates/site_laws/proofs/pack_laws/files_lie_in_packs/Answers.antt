use Rattle.site_laws.proofs.Packs.PacksRun.{run_packs}
use Rattle.site_laws.proofs.pack_laws.files_lie_in_packs.Goals as goal

pub returns : goal.returns
returns c = λ config lines. run_packs config lines
