use Rattle.tree_laws.proofs.Rows.{followed_rows}
use Rattle.the_run.specs.Runs.{run_in}
use Rattle.store_laws.proofs.OneTree.Run.{run_holds}
use Rattle.store_laws.proofs.OneTree.Staying.{stays}
use Rattle.store_laws.proofs.one_tree_laws.every_run_is_followed.Goals as goal

pub returns : goal.returns
returns c = record {
  facts = λ config lines fit roles rest. run_holds config lines fit roles (stays config) rest;
  told = λ config lines fit roles rest. (run_holds config lines fit roles (stays config) rest).followed;
  rows = λ config lines fit roles rest. followed_rows config (run_in config lines).trace (run_holds config lines fit roles (stays config) rest).followed;
}
