use Rattle.site_disk.proofs.Runs.{formatted_same}
use Rattle.site_disk.proofs.laws.format_is_the_runs.Goals as goal

pub returns : goal.returns
returns c = formatted_same
