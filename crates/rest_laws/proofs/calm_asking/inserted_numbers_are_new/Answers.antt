use Rattle.rest_laws.proofs.Fits.CalmAskingFresh.{not_inserted}
use Rattle.rest_laws.proofs.calm_asking.inserted_numbers_are_new.Goals as goal

pub returns : goal.returns
returns c = λ config packs trace h e d inside i name ino kind asks x found was. not_inserted config packs trace h e d inside i name ino kind asks x found was
