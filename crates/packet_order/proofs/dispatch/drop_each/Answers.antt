use Rattle.std.proofs.Common.{◌<◌, length, set, ap, ◌∙◌, subst}
use Rattle.packet_order.proofs.Parts.{unsent_more}
use Rattle.packet_order.proofs.dispatch.drop_each.Goals as goal

pub loop-part-preserved : goal.loop-part-preserved
loop-part-preserved c =
    let parts = c.args.parts.now.items in
    let i = c.loop-part.part-index in
    let below : i < length parts = subst (λ xs. i < length xs) c.deref_mut-part-items.ensures.value c.loop-part-test.true in
    ap (λ part. set c.loop-part.part-items i part) c.drop_packets.ensures
    ∙ unsent_more parts c.loop-part.part-items i c.part-item.result below c.loop-part.invariant
