use Rattle.store_laws.proofs.Commits.{copies_now, may_commit}
use Rattle.store_laws.proofs.laws.commits_are_owed.Goals as goal

pub returns : goal.returns
returns c = record {
  may = λ config n trace few h rests f frame s kept i k x w unshut owes writes. may_commit config n trace few h rests f frame s kept i k x w unshut owes writes;
  held = λ config n trace few h rests f frame s kept i k x w unshut owes writes stay. copies_now config n trace few h rests f frame s kept i k x w unshut owes writes stay;
}
