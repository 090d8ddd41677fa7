use Rattle.std.proofs.Common.{◌∷◌}
use Rattle.store_laws.proofs.Holdings.Begun.{waits_as_granted}
use Rattle.store_laws.proofs.Holdings.Below.{commits_new}
use Rattle.store_laws.proofs.Holdings.Kept.{kept_stays}
use Rattle.store_laws.proofs.holding_laws.grants_wait_as_they_were_granted.Goals as goal

pub returns : goal.returns
returns c = record {
  waits = λ config trace followed laws e d request i m f stamp ss k. waits_as_granted config trace followed (commits_new config trace followed laws.once) e d request i m f stamp ss k;
  kept = λ config x older followed laws e d request i m f stamp ss parents granted is.
      kept_stays config older x.number x.told laws.packs followed.1 followed.0 (commits_new config (x ∷ older) followed laws.once) e d request i m f stamp ss parents granted is;
}
