use Rattle.rest_laws.proofs.Premises.{calls_known, files_ordered, makes_said}
use Rattle.rest_laws.proofs.StoreStepResting.{store_rests}
use Rattle.rest_laws.proofs.laws.roles_rest_on_the_past.Goals as goal

pub returns : goal.returns
returns c = record {
  stores = λ config trace past. store_rests config trace past;
  calls = λ config trace past said. calls_known config trace past said;
  files = λ config trace past e. files_ordered config trace past e;
  makes = λ config trace past. makes_said config trace past;
}
