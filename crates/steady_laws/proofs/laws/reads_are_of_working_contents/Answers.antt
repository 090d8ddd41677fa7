use Rattle.steady_laws.proofs.Operation.{read_gives, read_keeps}
use Rattle.steady_laws.proofs.laws.reads_are_of_working_contents.Goals as goal

pub returns : goal.returns
returns c = record { keeps = λ h t at len result x. read_keeps h t at len result x; gives = λ h t i n at len bytes e. read_gives h t i n at len bytes e }
