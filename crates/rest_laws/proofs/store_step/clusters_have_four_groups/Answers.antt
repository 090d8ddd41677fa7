use Rattle.rest_laws.proofs.StoreStepFirst.{four_groups}
use Rattle.rest_laws.proofs.store_step.clusters_have_four_groups.Goals as goal

pub returns : goal.returns
returns c = λ lines. four_groups lines
