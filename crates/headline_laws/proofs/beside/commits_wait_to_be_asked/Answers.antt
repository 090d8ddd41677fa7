use Rattle.headline_laws.proofs.HeadlinePromises.CommitsWhenAsked.{run_commits_when_asked}
use Rattle.headline_laws.proofs.beside.commits_wait_to_be_asked.Goals as goal

pub returns : goal.returns
returns c lines order = run_commits_when_asked lines order
