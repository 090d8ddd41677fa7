use Rattle.steady_laws.proofs.Beginnings.{change_begins, change_writes, close_begins, read_begins}
use Rattle.steady_laws.proofs.laws.steady_calls_begin.Goals as goal

pub returns : goal.returns
returns c = record { reads = λ now d v is. read_begins now d v is; closes = λ now d v is. close_begins now d v is; changes = λ now d v is. change_begins now d v is; writes = λ now d e i h. change_writes now d e i h }
