use Rattle.store_laws.proofs.Said.{asked_as_said}
use Rattle.store_laws.proofs.laws.makes_are_as_said.Goals as goal

pub returns : goal.returns
returns c = λ config trace e d request serial f set k asks. asked_as_said config trace e d request serial f set k asks
