use Rattle.site_disk.proofs.Runs.{boots_whole, writes_counted}
use Rattle.site_disk.proofs.laws.boot_is_the_runs.Goals as goal

pub returns-clause-disk : goal.returns-clause-disk
returns-clause-disk c = boots_whole

pub returns-clause-calls : goal.returns-clause-calls
returns-clause-calls c = writes_counted
