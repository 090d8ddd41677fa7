use Rattle.site_disk.proofs.CutRuns.{cut_boots}
use Rattle.site_disk.proofs.laws.cut_boot_is_the_runs.Goals as goal

pub returns : goal.returns
returns c = cut_boots
