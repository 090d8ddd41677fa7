use Rattle.row_laws.proofs.Orderly.Blocks.{first_quiet, quiet_lasts}
use Rattle.row_laws.proofs.orderly_laws.quiet_lasts.Goals as goal

pub returns-clause-first : goal.returns-clause-first
returns-clause-first c = λ config. first_quiet config

pub returns-clause-lines : goal.returns-clause-lines
returns-clause-lines c = λ config. quiet_lasts config
