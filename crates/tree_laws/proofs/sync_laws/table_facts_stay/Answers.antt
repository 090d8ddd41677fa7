use Rattle.tree_laws.proofs.Syncs.Staying.{table_stays}
use Rattle.tree_laws.proofs.sync_laws.table_facts_stay.Goals as goal

pub returns : goal.returns
returns c = λ config older n x h may stay f t k apart. table_stays config n x older h may stay f t k apart
