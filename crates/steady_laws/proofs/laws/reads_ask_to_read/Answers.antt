use Rattle.steady_laws.proofs.Asking.{asks_read}
use Rattle.steady_laws.proofs.laws.reads_ask_to_read.Goals as goal

pub returns : goal.returns
returns c = λ mounts packed free fd at len begins answers i o e. asks_read mounts packed free fd at len begins answers i o e
