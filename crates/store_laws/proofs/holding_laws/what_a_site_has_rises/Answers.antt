use Rattle.std.proofs.Common.{◌∷◌}
use Rattle.store_laws.proofs.Holdings.Below.{commits_new, packs_hold}
use Rattle.store_laws.proofs.Holdings.Rising.{held_rises}
use Rattle.store_laws.proofs.holding_laws.what_a_site_has_rises.Goals as goal

pub returns : goal.returns
returns c = λ config x older followed laws e site f stamp k.
    held_rises config older x.number x.told followed.1 followed.0 (packs_hold config older laws.packed.1) (commits_new config (x ∷ older) followed laws.once) e site f stamp k
