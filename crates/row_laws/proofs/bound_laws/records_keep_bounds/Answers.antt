use Rattle.row_laws.proofs.Bounds.Records.{each_within}
use Rattle.row_laws.proofs.bound_laws.records_keep_bounds.Goals as goal

pub returns : goal.returns
returns c = λ k trace consistent. each_within k trace consistent
