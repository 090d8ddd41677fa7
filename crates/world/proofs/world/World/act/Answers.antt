use Rattle.world.specs.declared.fault.WorldFault.TheVariants.{NoMemory}
use Rattle.world.proofs.LineLaws.{line_is, line_done, any_fault, if_given, start_refused}
use Rattle.world.specs.States.{state_of}
use Rattle.world.specs.Faults.{WantsMemoryWithin, fault_of_start}
use Rattle.complete_laws.specs.Lines.{CanBoot, CanDo}
use Rattle.std.proofs.Common.{refl, subst}
use Rattle.schedule_lines.specs.declared.line.Line.{Line as LineWords}
use Rattle.schedule_lines.specs.declared.line.Line.TheVariants as line
use Rattle.world.proofs.Wanting.{given_on, line_wants, start_memory, wants_always, wants_more}
use Rattle.world.proofs.world.World.act.Goals as goal

pub returns-in-Call-clause-step : goal.returns-in-Call-clause-step
returns-in-Call-clause-step c = line_done c.call.result c.args.number c.args.line _ _ _ c.in-Call.is c.call.ensures.step

pub returns-in-Call-clause-fault : goal.returns-in-Call-clause-fault
returns-in-Call-clause-fault c = any_fault c.call.result c.args.line _ c.in-Call.is (λ fault. tt)

pub returns-in-Call-clause-fit : goal.returns-in-Call-clause-fit
returns-in-Call-clause-fit c = line_wants c.call.result c.args.number c.args.line _ (state_of c.args.self.now) c.in-Call.is (wants_more _ _ c.call.result (state_of c.args.self.now) (λ k w need. need.events) c.call.ensures.fit)
