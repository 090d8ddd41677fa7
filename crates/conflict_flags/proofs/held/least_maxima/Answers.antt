use Rattle.std.proofs.Common.{◌≡◌, ◌-◌, true, sym, ◌∙◌, ap, arith, drop}
use Rattle.std.specs.List.{filter}
use Rattle.conflict_flags.specs.Copies.{is_maximal, by_stamp, stamps_of, least_of}
use Rattle.conflict_flags.proofs.Ascending.{stamps_more}
use Rattle.conflict_flags.proofs.held.least_maxima.Goals as goal

pub loop-left-preserved-then-is_maximal : goal.loop-left-preserved-then-is_maximal
loop-left-preserved-then-is_maximal c =
    let all = c.args.all.now in
    let held = c.index-all-left.result in
    let top : is_maximal all held ≡ true = sym c.is_maximal.ensures ∙ c.if-is_maximal.true in
    record {
      bound = omega arith;
      done = c.with-least.ensures (stamps_of (by_stamp (filter (is_maximal all) (drop c.loop-left.left all)))) c.loop-left.invariant.done
          ∙ ap least_of (stamps_more (is_maximal all) all c.loop-left.left (c.loop-left.left - 1) held (omega arith) (omega arith) c.index-all-left.is top);
    }
