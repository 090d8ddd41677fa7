use Rattle.std.proofs.Common.{[], ◌∷◌, ◌++◌, refl, sym, ◌∙◌}
use Rattle.rest_laws.proofs.CopiesKept.Contents.{run_contents}
use Rattle.schedule_lines.specs.declared.line.ScheduleLine.TheVariants.{Event}
use Rattle.the_run.specs.Runs.{act}
use Rattle.world.specs.States.{state_of}
use Rattle.world.proofs.LineLaws.{step_over, step_within, if_given}
use Rattle.world.proofs.Versions.{holds_after}
use Rattle.std.proofs.Common.{◌≡◌}
use Rattle.world.proofs.Wanting.{given_on, not_over}
use Rattle.world.proofs.Versions.{can_do_line}
use Rattle.world.specs.declared.fault.WorldFault.TheVariants.{NoMemory}
use Rattle.world.proofs.world.World.step.Goals as goal

pub returns-then-is_some-clause-step : goal.returns-then-is_some-clause-step
returns-then-is_some-clause-step c = step_over c.args.number c.args.line (state_of c.args.self.now) c.passed.result c.passed.ensures (sym c.is_some.ensures ∙ c.if-is_some.true)

pub returns-then-is_some-clause-versions : goal.returns-then-is_some-clause-versions
returns-then-is_some-clause-versions c = holds_after c.args.number c.args.line (state_of c.args.self.now) (state_of c.args.self.now) (step_over c.args.number c.args.line (state_of c.args.self.now) c.passed.result c.passed.ensures (sym c.is_some.ensures ∙ c.if-is_some.true))

pub returns-then-is_some-clause-copies : goal.returns-then-is_some-clause-copies
returns-then-is_some-clause-copies c = λ k lines taken n fit packs few sh. run_contents k (lines ++ Event c.args.line ∷ []) fit packs few

pub returns-clause-step : goal.returns-clause-step
returns-clause-step c = step_within (λ k w. act k c.args.number c.args.line w) (state_of c.args.self.now) _ c.passed.result c.passed.ensures (sym c.is_some.ensures ∙ c.if-is_some.false) c.in_ok-act.ensures.step

pub returns-clause-versions : goal.returns-clause-versions
returns-clause-versions c = holds_after c.args.number c.args.line (state_of c.args.self.now) _ (step_within (λ k w. act k c.args.number c.args.line w) (state_of c.args.self.now) _ c.passed.result c.passed.ensures (sym c.is_some.ensures ∙ c.if-is_some.false) c.in_ok-act.ensures.step)

pub returns-clause-copies : goal.returns-clause-copies
returns-clause-copies c = λ k lines taken n fit packs few sh. run_contents k (lines ++ Event c.args.line ∷ []) fit packs few

pub returns-in_err-act-clause-fault : goal.returns-in_err-act-clause-fault
returns-in_err-act-clause-fault c = if_given c.from_residual.result c.in_err-act.field-0.0 c.args.line c.args.line refl c.from_residual.ensures c.in_err-act.ensures.fault

pub returns-in_err-act-clause-complete : goal.returns-in_err-act-clause-complete
returns-in_err-act-clause-complete c = λ k lines taken n fit packs few sh. given_on (λ fault. fault ≡ NoMemory) c.from_residual.result c.in_err-act.field-0.0 c.from_residual.ensures
    (c.in_err-act.ensures.fit k taken _ (not_over (state_of c.args.self.now) c.passed.result c.passed.ensures (sym c.is_some.ensures ∙ c.if-is_some.false) k taken _ sh) sh (can_do_line k lines c.args.number c.args.line n fit packs few))
