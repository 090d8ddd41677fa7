use Rattle.rest_laws.proofs.TableClosing.{closes_fine}
use Rattle.rest_laws.proofs.table.closes_are_published.Goals as goal

pub returns : goal.returns
returns c = λ config narrow n trace f p i made t ready here came rest. closes_fine config narrow n trace f p i made t ready here came rest
