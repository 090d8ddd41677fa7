use Rattle.tree_laws.specs.Printed.{entries}
use Rattle.tree_laws.proofs.Rows.{followed_rows}
use Rattle.store_laws.proofs.Holdings.Below.{packs_hold}
use Rattle.store_laws.proofs.Holdings.Holding.{late_brings_nothing, sites_hold}
use Rattle.store_laws.proofs.holding_laws.sites_hold_what_they_have.Goals as goal

pub returns : goal.returns
returns c = record {
  hold = λ config trace laws. sites_hold config (entries trace) (packs_hold config trace laws.packed);
  late = λ config number z d m older followed may laws e site f started.
      late_brings_nothing config (entries older) laws.packs (followed_rows config older followed) (packs_hold config older laws.packed) number z d m may.row e site f started;
}
