use Rattle.store_laws.proofs.Works.Working.{all_work}
use Rattle.store_laws.proofs.work_laws.working_contents_fit.Goals as goal

pub returns : goal.returns
returns c = λ config trace followed laws. all_work config trace followed laws
