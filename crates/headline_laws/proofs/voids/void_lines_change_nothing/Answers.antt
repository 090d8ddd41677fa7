use Rattle.headline_laws.proofs.Promises.VoidLines.{voids_change_nothing}
use Rattle.headline_laws.proofs.voids.void_lines_change_nothing.Goals as goal

pub returns : goal.returns
returns c = λ lines order. voids_change_nothing lines order
