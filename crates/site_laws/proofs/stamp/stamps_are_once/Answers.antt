use Rattle.site_laws.proofs.Kept.StampLawsRun.{run_stamps}
use Rattle.site_laws.proofs.stamp.stamps_are_once.Goals as goal

pub returns : goal.returns
returns c = λ config lines. run_stamps config lines
