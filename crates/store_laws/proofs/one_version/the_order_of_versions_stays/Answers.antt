use Rattle.std.proofs.Common.{◌∷◌}
use Rattle.tree_laws.proofs.Carried.{packet_stays}
use Rattle.store_laws.proofs.Holdings.Below.{commits_new, line_fresh}
use Rattle.store_laws.proofs.Holdings.OneVersionOrder.{order_stays}
use Rattle.store_laws.proofs.one_version.the_order_of_versions_stays.Goals as goal

pub returns : goal.returns
returns c = record {
  order = λ config x older followed laws. order_stays config older x.number x.told followed.1 followed.0 laws;
  packets = λ config number x older followed may laws p k. packet_stays config number x older followed may
      (record { fresh = line_fresh config older number x (commits_new config (record { number = number; told = x } ∷ older) (may, followed) laws.once); order = order_stays config older number x followed may laws }) p k;
}
