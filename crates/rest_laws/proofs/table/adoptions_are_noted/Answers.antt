use Rattle.rest_laws.proofs.TableNotes.{notes_fine}
use Rattle.rest_laws.proofs.table.adoptions_are_noted.Goals as goal

pub returns : goal.returns
returns c = λ config n trace f p file stamp t ready here came same rest. notes_fine config n trace f p file stamp t ready here came same
