use Rattle.std.proofs.Common.{◌≡◌, Option, Some, None, true, false, Bool, not, refl, ap, subst, ◌∙◌}
use Rattle.std.specs.Option.{is_some}
use Rattle.schedule_run.specs.Standing.{StandsAs}
use Rattle.schedule_run.proofs.Lasting.{first_stands}
use Rattle.world.specs.States.{state_of}
use Rattle.world.specs.declared.world.World.{World}
use Rattle.schedule_run.proofs.runner.ScheduleRunner.begin.Goals as goal

none_of : {X : Type 0} (o : Option X) (b : Bool) → is_some o ≡ not b → b ≡ true → o ≡ None
none_of None b e t = refl
none_of (Some x) b e t = let f : true ≡ false = e ∙ ap not t in absurd (cc)

pub returns-in_ok-first_world-clause-world : goal.returns-in_ok-first_world-clause-world
returns-in_ok-first_world-clause-world c = λ lines taken config h.
    let none : c.args.self.now.world ≡ None = none_of c.args.self.now.world c.is_none.result c.is_none.ensures c.if-is_none.true in
    let s = subst (λ (w : Option World). StandsAs lines taken w) none h in
    first_stands lines taken c.args.self.now.reader.header.config (state_of c.in_ok-first_world.field-0) s.0 s.1 config c.in_ok-first_world.ensures.made
