use Rattle.std.proofs.Common.{rules, ◌+◌, take, arith, ap, ◌∙◌, List, ℕ}
use Rattle.conflict_flags.specs.declared.held.Held.{Held}
use Rattle.conflict_flags.proofs.Places.{present_more, present_same}
use Rattle.conflict_flags.proofs.table.Present.of.Goals as goal
use Rattle.conflict_flags.proofs.table.Present.of.Goals.{in-Some, in_default}

pub loop-i-preserved : goal.loop-i-preserved
loop-i-preserved c = elim c.match-copies-i.branch [
  | in-Some w ↦ record {
    some = omega (arith, w.len-is, c.loop-i.invariant.some);
    long = search rules;
    done = ap (λ (n : ℕ). take n c.match-copies-i.items) w.len-is ∙ (ap (λ (xs : List Held). take (c.loop-i.len + 1) xs) w.items-is
        ∙ present_more c.args.copies.now c.loop-i.items c.loop-i.len c.loop-i.i w.in-Some.held _ (omega arith) (omega arith) c.loop-i.invariant.done w.in-Some.is);
  }
  | in_default w ↦ record {
    some = omega (arith, w.len-is, c.loop-i.invariant.some);
    long = search rules;
    done = ap (λ (n : ℕ). take n c.match-copies-i.items) w.len-is ∙ (ap (λ (xs : List Held). take c.loop-i.len xs) w.items-is
        ∙ (c.loop-i.invariant.done ∙ present_same c.args.copies.now c.loop-i.i _ (omega arith) w.in_default.not-Some));
  }
]
