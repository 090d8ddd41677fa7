use Rattle.std.proofs.Common.{Option, sym, subst, ◌∙◌}
use Rattle.schedule_lines.specs.Cluster.{config_of}
use Rattle.schedule_run.specs.Standing.{text_taken, ShowsRun}
use Rattle.schedule_run.proofs.Complete.{few_packs, in_range, of_sites, world_of}
use Rattle.schedule_run.proofs.Lasting.{event_stands}
use Rattle.world.specs.declared.world.World.{World}
use Rattle.schedule_run.proofs.runner.ScheduleRunner.act.Goals as goal

pub returns-in_ok-step-in-Some-clause-world : goal.returns-in_ok-step-in-Some-clause-world
returns-in_ok-step-in-Some-clause-world c = λ lines taken en h.
    event_stands lines taken c.args.number c.args.line c.in-Some.world c.step.new.self en
    (subst (λ (w : Option World). ShowsRun lines taken w) c.in-Some.is h) c.in_ok-step-in-Some.ensures.step

pub returns-in_err-step-in-Some-clause-complete : goal.returns-in_err-step-in-Some-clause-complete
returns-in_err-step-in-Some-clause-complete c = λ lines taken fault n o h e.
    let f = world_of c.in_err-step-in-Some.field-0.0 fault c.from_residual.result c.from_residual.ensures.1 e in
    sym f ∙ c.in_err-step-in-Some.ensures.complete (config_of lines) lines (text_taken taken) n (in_range lines c.args.line o) (of_sites lines c.args.line o) (few_packs lines)
    (subst (λ (w : Option World). ShowsRun lines taken w) c.in-Some.is h)
