use Rattle.site_disk.proofs.CutCommits.{new_same, old_same}
use Rattle.site_disk.proofs.laws.cut_gates_are_the_runs.Goals as goal

pub returns-clause-newer : goal.returns-clause-newer
returns-clause-newer c = new_same

pub returns-clause-older : goal.returns-clause-older
returns-clause-older c = old_same
