use Rattle.calm_laws.proofs.TablesCalm.ShapesRun.{run_shaped}
use Rattle.calm_laws.proofs.calm_table_laws.tables_keep_their_shape.Goals as goal

pub returns : goal.returns
returns c = λ config lines. run_shaped config lines
