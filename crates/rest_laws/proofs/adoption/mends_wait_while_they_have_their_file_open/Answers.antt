use Rattle.rest_laws.proofs.AdoptionMending.{mend_waits}
use Rattle.rest_laws.proofs.adoption.mends_wait_while_they_have_their_file_open.Goals as goal

pub returns : goal.returns
returns c = λ config trace followed e i x now is inside. mend_waits config trace followed e i x now is inside
