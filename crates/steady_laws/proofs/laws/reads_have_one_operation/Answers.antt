use Rattle.steady_laws.proofs.Reading.{read_is}
use Rattle.steady_laws.proofs.laws.reads_have_one_operation.Goals as goal

pub returns : goal.returns
returns c = λ mounts packed free fd at len begins answers bytes e. read_is mounts packed free fd at len begins answers bytes e
