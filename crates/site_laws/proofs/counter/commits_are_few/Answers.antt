use Rattle.site_laws.proofs.Packs.CounterText.{run_few}
use Rattle.site_laws.proofs.counter.commits_are_few.Goals as goal

pub returns : goal.returns
returns c = λ config lines. run_few config lines
