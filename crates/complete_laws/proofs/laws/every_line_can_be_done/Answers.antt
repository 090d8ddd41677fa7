use Rattle.complete_laws.proofs.Lines.{can_do}
use Rattle.complete_laws.proofs.laws.every_line_can_be_done.Goals as goal

pub returns : goal.returns
returns c = λ config lines l fit packs few. can_do config lines l fit packs few
