use Rattle.std.proofs.Common.{◌∙◌, arith}
use Rattle.disk_model.proofs.chunk.fill_up.Goals as goal

pub loop-written-preserved : goal.loop-written-preserved
loop-written-preserved c = record {
  kept = λ k. c.add_zeros.ensures.kept k ∙ c.loop-written.invariant.kept k;
  within = omega (arith, c.add_zeros.ensures.long, c.min-count.ensures);
  room = omega (arith, c.add_zeros.ensures.room, c.loop-written.invariant.room);
}
