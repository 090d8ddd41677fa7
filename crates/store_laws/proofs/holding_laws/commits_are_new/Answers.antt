use Rattle.std.proofs.Common.{◌∷◌}
use Rattle.store_laws.proofs.Holdings.Below.{commits_new, line_fresh}
use Rattle.store_laws.proofs.holding_laws.commits_are_new.Goals as goal

pub returns : goal.returns
returns c = λ config x older followed laws. line_fresh config older x.number x.told (commits_new config (x ∷ older) followed laws.once)
