use Rattle.store_laws.proofs.OneTree.NumberLacking.{full_lacks}
use Rattle.store_laws.proofs.number.full_sites_lack_numbers.Goals as goal

pub returns : goal.returns
returns c = λ config trace followed laws e ss i group set k now full. full_lacks config trace followed laws e ss i group set k now full
