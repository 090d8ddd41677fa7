use Rattle.the_run.specs.Runs.{run_in}
use Rattle.tree_laws.proofs.Rows.{followed_rows}
use Rattle.rest_laws.proofs.Run.{run_followed, schedule_rows}
use Rattle.rest_laws.proofs.laws.every_run_is_one_tree.Goals as goal

pub returns : goal.returns
returns c = record {
  told = λ config lines fit packs few. run_followed config lines fit packs few;
  rows = λ config lines fit packs few. followed_rows config (run_in config lines).trace (run_followed config lines fit packs few);
  read = λ lines order. schedule_rows lines order;
}
