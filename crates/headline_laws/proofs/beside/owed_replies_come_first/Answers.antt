use Rattle.headline_laws.proofs.HeadlinePromises.Promptly.{run_comes_promptly}
use Rattle.headline_laws.proofs.beside.owed_replies_come_first.Goals as goal

pub returns : goal.returns
returns c lines order = run_comes_promptly lines order
