use Rattle.std.proofs.Common.{◌≡◌, ◌≤◌, ◌<◌, ◌∙◌, length, take, drop, ◌-◌, length-drop, arith, ap, Err}
use Rattle.locus_io.specs.declared.traits.WriteFault.TheVariants.{NoMemory}
use Rattle.std.proofs.lemmas.List.{take_all}
use Rattle.locus_io.proofs.Pieces.{Appends-more}
use Rattle.locus_io.proofs.traits.give_all.Goals as goal

pub loop-at-preserved : goal.loop-at-preserved
loop-at-preserved g c =
    let fits : length (drop c.loop-at.at c.args.bytes.now) ≤ length c.args.bytes.now - c.loop-at.at = omega (arith, length-drop c.loop-at.at c.args.bytes.now) in
    let whole : take (length c.args.bytes.now - c.loop-at.at) (drop c.loop-at.at c.args.bytes.now) ≡ drop c.loop-at.at c.args.bytes.now = take_all _ _ fits in
    let bound = rw whole at c.in-Ok.ensures.bound in
    let some : 0 < c.in-Ok.n = omega arith in
    record {
      within = omega (arith, bound, length-drop c.loop-at.at c.args.bytes.now);
      taken = Appends-more _ _ _ c.args.bytes.now c.loop-at.at c.in-Ok.n c.loop-at.invariant.taken (rw whole at c.in-Ok.ensures.bytes);
      steady = c.in-Ok.ensures.steady some ∙ c.loop-at.invariant.steady;
    }

pub returns-in-Err-clause-spared : goal.returns-in-Err-clause-spared
returns-in-Err-clause-spared g c = λ h. let e : c.in-Err.fault ≡ NoMemory = cc in c.in-Err.ensures.spared (ap (λ fault. Err fault) e) ∙ c.loop-at.invariant.steady
