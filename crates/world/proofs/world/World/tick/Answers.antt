use Rattle.std.proofs.Common.{◌-◌, arith}
use Rattle.role_steps.specs.Views.{Ticks}
use Rattle.world.specs.States.{state_of}
use Rattle.world.specs.Faults.{WantsMemory}
use Rattle.world.proofs.Tables.{state_none}
use Rattle.world.proofs.Asking.{happen_absent}
use Rattle.world.proofs.Wanting.{given_on}
use Rattle.complete_laws.specs.Lines.{CanHappen}
use Rattle.world.proofs.world.World.tick.Goals as goal

pub returns-then-at-len-clause-step : goal.returns-then-at-len-clause-step
returns-then-at-len-clause-step c = happen_absent c.args.site (state_of c.args.self.now) (omega arith) (omega arith) c.args.line Ticks (state_none c.args.self.now.places.items c.args.site (c.from-at.result - 1) (omega arith) (omega arith))

pub returns-in_err-happen-clause-fit : goal.returns-in_err-happen-clause-fit
returns-in_err-happen-clause-fit c = given_on (WantsMemory (λ k w. CanHappen k c.args.site Ticks w) (state_of c.args.self.now)) c.from_residual.result c.in_err-happen.field-0.0 c.from_residual.ensures c.in_err-happen.ensures.fit
