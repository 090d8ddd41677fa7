use Rattle.tree_laws.proofs.Syncs.Notices.{repeats_fine}
use Rattle.tree_laws.proofs.sync_laws.notices_are_of_kept_versions.Goals as goal

pub returns : goal.returns
returns c = λ config trace f t k. repeats_fine config trace f t k
