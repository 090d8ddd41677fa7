use Rattle.rest_laws.proofs.MendStepPlaces.{mend_place}
use Rattle.rest_laws.proofs.mend_step.mends_are_granted_at_their_site.Goals as goal

pub returns : goal.returns
returns c = λ config trace e d request i f stamp ss followed was. mend_place config trace followed e d request i f stamp ss was
