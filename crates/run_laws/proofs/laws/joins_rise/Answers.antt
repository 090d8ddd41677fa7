use Rattle.run_laws.proofs.Rises.{run_joins_rise}
use Rattle.run_laws.proofs.laws.joins_rise.Goals as goal

pub returns : goal.returns
returns c = λ config lines. run_joins_rise config lines
