use Rattle.tree_laws.proofs.Syncs.Repeated.{closed_again, reported_again}
use Rattle.tree_laws.proofs.sync_laws.what_comes_again_changes_nothing.Goals as goal

pub returns : goal.returns
returns c = record {
  closes = λ config n trace f t k ss inst made first. closed_again config n trace f t k ss inst made first;
  reports = λ config n trace f t k from copies again. reported_again config n trace f t k from copies again;
}
