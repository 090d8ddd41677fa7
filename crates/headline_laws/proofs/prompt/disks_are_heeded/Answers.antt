use Rattle.headline_laws.proofs.Prompting.Heeding.{stops_next}
use Rattle.headline_laws.proofs.prompt.disks_are_heeded.Goals as goal

pub returns : goal.returns
returns c = λ lines order. stops_next lines order
