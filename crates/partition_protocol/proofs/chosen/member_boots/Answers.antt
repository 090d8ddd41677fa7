use Rattle.std.proofs.Common.{◌∙◌, arith}
use Rattle.std.proofs.Math.ListN.{length-set}
use Rattle.partition_protocol.specs.Promising.{member_boot_of}
use Rattle.epoch_rules.proofs.EachSite.{one_made, made_for_each}
use Rattle.partition_protocol.proofs.chosen.member_boots.Goals as goal

pub loop-place-preserved : goal.loop-place-preserved
loop-place-preserved c = record {
  whole = length-set c.loop-place.boots c.loop-place.place c.member_boot.result ∙ c.loop-place.invariant.whole;
  made = one_made (member_boot_of c.args.polled.now c.args.me c.args.boot c.args.set) c.loop-place.boots c.loop-place.place c.site_at.result c.member_boot.result c.loop-place.invariant.whole (omega arith) c.loop-place.invariant.made c.site_at.ensures c.member_boot.ensures;
}

pub returns : goal.returns
returns c = made_for_each (member_boot_of c.args.polled.now c.args.me c.args.boot c.args.set) c.loop-place.boots c.loop-place.invariant.whole (λ k l. c.loop-place.invariant.made k (omega arith))
