use Rattle.row_laws.proofs.Orderly.Blocks.{blocks_agree}
use Rattle.row_laws.proofs.orderly_laws.blocks_agree.Goals as goal

pub returns : goal.returns
returns c = λ config. blocks_agree config
