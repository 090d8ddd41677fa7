use Rattle.headline_laws.proofs.Prompting.Lines.{run_stands}
use Rattle.headline_laws.proofs.alone.void_lines_tell_nothing_else.Goals as goal

pub returns : goal.returns
returns c = λ config lines. run_stands config lines
