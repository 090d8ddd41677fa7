use Rattle.rest_laws.proofs.AdoptionChoosing.{adopts_fine}
use Rattle.rest_laws.proofs.adoption.adoptions_are_taken_as_they_may.Goals as goal

pub returns : goal.returns
returns c = λ config n trace f v ready inside fresh. adopts_fine config n trace f v ready inside fresh
