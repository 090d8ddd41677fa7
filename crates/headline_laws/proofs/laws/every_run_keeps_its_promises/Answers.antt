use Rattle.headline_laws.proofs.Whole.{the_run, rows_hold, replies_hold, commits_hold, progress, convergence}
use Rattle.headline_laws.proofs.laws.every_run_keeps_its_promises.Goals as goal

pub returns : goal.returns
returns c = record {
  the_run = λ lines order. the_run lines order;
  rows = λ lines order. rows_hold lines order;
  replies = λ lines order. replies_hold lines order;
  commits = λ lines order. commits_hold lines order;
  progress = λ lines order none. progress lines order none;
  convergence = λ lines order none. convergence lines order none;
}
