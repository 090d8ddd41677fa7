use Rattle.std.proofs.Common.{◌≡◌, ◌+◌, List, [], ◌∷◌, ◌++◌, length, refl, arith}
use Rattle.schedule_lines.specs.Cluster.{config_of}
use Rattle.world.specs.declared.fault.WorldFault.TheVariants.{NoMemory}
use Rattle.world.proofs.Wanting.{given_on}
use Rattle.schedule_run.proofs.Complete.{few_packs, in_range, of_sites}
use Rattle.schedule_run.proofs.Doing.{one_more}
use Rattle.schedule_run.proofs.opened.OpenedRun.happen.Goals as goal

pub returns-clause-done : goal.returns-clause-done
returns-clause-done c = λ lines taken h.
    let e : c.in-Some.number ≡ c.args.self.now.lines + 1 = omega (arith, c.in-Some.ensures) in
    one_more lines taken c.in-Some.number c.args.line c.args.self.now _ e refl c.in_ok-step.ensures.step h

pub returns-in_err-step-clause-complete : goal.returns-in_err-step-clause-complete
returns-in_err-step-clause-complete c = λ lines taken o h.
    let e : c.in-Some.number ≡ c.args.self.now.lines + 1 = omega (arith, c.in-Some.ensures) in
    let k : c.args.self.now.lines ≡ length lines = h.count in
    let n : c.in-Some.number ≡ length lines + 1 = omega arith in
    given_on (λ fault. fault ≡ NoMemory) c.from_residual.result c.in_err-step.field-0.0 c.from_residual.ensures
    (c.in_err-step.ensures.complete (config_of lines) lines taken n (in_range lines c.args.line o) (of_sites lines c.args.line o) (few_packs lines) h.world)
