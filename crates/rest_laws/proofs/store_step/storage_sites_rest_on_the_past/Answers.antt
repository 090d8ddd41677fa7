use Rattle.rest_laws.proofs.StoreStepResting.{op_rests, store_rests}
use Rattle.rest_laws.proofs.store_step.storage_sites_rest_on_the_past.Goals as goal

pub returns : goal.returns
returns c = record {
  stores = λ config trace past. store_rests config trace past;
  operations = λ config trace past. op_rests config trace past;
}
