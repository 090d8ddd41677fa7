use Rattle.store_laws.proofs.Holdings.Below.{packs_hold}
use Rattle.store_laws.proofs.Holdings.Holding.{known_or_ahead}
use Rattle.store_laws.proofs.holding_laws.held_versions_are_known.Goals as goal

pub returns : goal.returns
returns c = λ config trace e site f stamp followed laws k. known_or_ahead config trace followed (packs_hold config trace laws.packed) e site f stamp k
