use Rattle.written_vectors.proofs.Counted.{counter_before}
use Rattle.std.proofs.Common.{arith, sym, ◌∙◌}
use Rattle.written_vectors.proofs.vectors.counter_in.Goals as goal

pub loop-left-preserved : goal.loop-left-preserved
loop-left-preserved c =
    record {
      within = omega (arith, c.loop-left.invariant.within);
      same = c.loop-left.invariant.same ∙ counter_before c.args.counters.now c.args.versions.now c.loop-left.left c.index-versions-left.result c.args.file c.args.stamp
          c.loop-left-test.true c.loop-left.invariant.within c.requires c.index-versions-left.is (sym c.is_version.ensures ∙ c.if-is_version.false);
    }
