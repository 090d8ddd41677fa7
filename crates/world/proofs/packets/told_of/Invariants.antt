use Rattle.std.proofs.Common.{◌≡◌, [], ◌++◌, map, drop}
use Rattle.world.specs.Listed.{listed}
use Rattle.world.proofs.packets.told_of.Given as goal

abbrev pub invariant-loop-packet : goal.invariant-loop-packet
invariant-loop-packet l = record {
  records : l.outbox.records ++ map listed (drop l.packet-index l.pending) ≡ map listed l.pending;
  packets : l.outbox.packets ≡ [];
}
