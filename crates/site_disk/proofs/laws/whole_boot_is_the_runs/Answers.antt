use Rattle.site_disk.proofs.CutRuns.{whole_boots}
use Rattle.site_disk.proofs.laws.whole_boot_is_the_runs.Goals as goal

pub returns : goal.returns
returns c = whole_boots
