use Rattle.row_laws.proofs.Bounds.Scripts.{scripts_end}
use Rattle.row_laws.proofs.bound_laws.scripts_end.Goals as goal

pub returns : goal.returns
returns c = λ mounts is_packed free words begins answers usual asks. scripts_end mounts is_packed free words begins answers usual asks
