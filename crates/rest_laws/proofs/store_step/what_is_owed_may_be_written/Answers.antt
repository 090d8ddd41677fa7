use Rattle.rest_laws.proofs.StoreStepWriting.{may_write}
use Rattle.rest_laws.proofs.store_step.what_is_owed_may_be_written.Goals as goal

pub returns : goal.returns
returns c = λ config trace past f frame s held i among. may_write config trace past f frame s held i among
