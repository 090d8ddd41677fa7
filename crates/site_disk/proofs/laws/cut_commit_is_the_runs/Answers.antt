use Rattle.site_disk.proofs.CutCommits.{cut_commits}
use Rattle.site_disk.proofs.laws.cut_commit_is_the_runs.Goals as goal

pub returns : goal.returns
returns c = cut_commits
