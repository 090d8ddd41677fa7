use Rattle.headline_laws.proofs.Prompting.RunPlaces.{records_stand}
use Rattle.headline_laws.proofs.places.records_stand_where_they_may.Goals as goal

pub returns : goal.returns
returns c = λ lines order. records_stand lines order
