use Rattle.store_laws.proofs.Holdings.OneVersionMakes.{free_number}
use Rattle.store_laws.proofs.one_version.numbers_of_makes_are_free.Goals as goal

pub returns : goal.returns
returns c = λ config trace followed packs ss e i f begun unnamed. free_number config trace packs followed ss e i f begun unnamed
