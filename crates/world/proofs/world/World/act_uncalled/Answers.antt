use Rattle.world.specs.declared.fault.WorldFault.TheVariants.{NoMemory}
use Rattle.world.proofs.LineLaws.{line_is, line_done, any_fault, if_given, start_refused}
use Rattle.world.specs.States.{state_of}
use Rattle.world.specs.Faults.{WantsMemoryWithin, fault_of_start}
use Rattle.complete_laws.specs.Lines.{CanBoot, CanDo}
use Rattle.std.proofs.Common.{refl, subst}
use Rattle.schedule_lines.specs.declared.line.Line.{Line as LineWords}
use Rattle.schedule_lines.specs.declared.line.Line.TheVariants as line
use Rattle.world.proofs.Wanting.{given_on, line_wants, start_memory, wants_always, wants_more}
use Rattle.world.proofs.world.World.act_uncalled.Goals as goal

pub unreachable-requires : goal.unreachable-requires
unreachable-requires c = c.requires _ _ _ c.in-Call.is

pub returns-in-Deliver-clause-step : goal.returns-in-Deliver-clause-step
returns-in-Deliver-clause-step c = line_done c.deliver.result c.args.number c.args.line.now _ _ _ c.in-Deliver.is c.deliver.ensures.step

pub returns-in-Deliver-clause-fault : goal.returns-in-Deliver-clause-fault
returns-in-Deliver-clause-fault c = any_fault c.deliver.result c.args.line.now _ c.in-Deliver.is (λ fault. tt)

pub returns-in-Tick-clause-step : goal.returns-in-Tick-clause-step
returns-in-Tick-clause-step c = line_done c.stir.result c.args.number c.args.line.now _ _ _ c.in-Tick.is c.stir.ensures.step

pub returns-in-Tick-clause-fault : goal.returns-in-Tick-clause-fault
returns-in-Tick-clause-fault c = any_fault c.stir.result c.args.line.now _ c.in-Tick.is (λ fault. tt)

pub returns-in-Part-clause-step : goal.returns-in-Part-clause-step
returns-in-Part-clause-step c = line_done c.leave.result c.args.number c.args.line.now _ _ _ c.in-Part.is c.leave.ensures.step

pub returns-in-Part-clause-fault : goal.returns-in-Part-clause-fault
returns-in-Part-clause-fault c = any_fault c.leave.result c.args.line.now _ c.in-Part.is (λ fault. tt)

pub returns-in-Merge-clause-step : goal.returns-in-Merge-clause-step
returns-in-Merge-clause-step c = line_done c.stir-in-Merge.result c.args.number c.args.line.now _ _ _ c.in-Merge.is c.stir-in-Merge.ensures.step

pub returns-in-Merge-clause-fault : goal.returns-in-Merge-clause-fault
returns-in-Merge-clause-fault c = any_fault c.stir-in-Merge.result c.args.line.now _ c.in-Merge.is (λ fault. tt)

pub returns-in-GiveUp-clause-step : goal.returns-in-GiveUp-clause-step
returns-in-GiveUp-clause-step c = line_done c.leave-in-GiveUp.result c.args.number c.args.line.now _ _ _ c.in-GiveUp.is c.leave-in-GiveUp.ensures.step

pub returns-in-GiveUp-clause-fault : goal.returns-in-GiveUp-clause-fault
returns-in-GiveUp-clause-fault c = any_fault c.leave-in-GiveUp.result c.args.line.now _ c.in-GiveUp.is (λ fault. tt)

pub returns-in-Settle-clause-step : goal.returns-in-Settle-clause-step
returns-in-Settle-clause-step c = line_done c.settle.result c.args.number c.args.line.now _ _ _ c.in-Settle.is c.settle.ensures.step

pub returns-in-Settle-clause-fault : goal.returns-in-Settle-clause-fault
returns-in-Settle-clause-fault c = any_fault c.settle.result c.args.line.now _ c.in-Settle.is (λ fault. tt)

pub returns-in_ok-lose-in-Lose-clause-step : goal.returns-in_ok-lose-in-Lose-clause-step
returns-in_ok-lose-in-Lose-clause-step c = line_is c.args.number c.args.line.now _ _ _ c.in-Lose.is c.in_ok-lose-in-Lose.ensures

pub returns-in_err-lose-in-Lose-clause-fault : goal.returns-in_err-lose-in-Lose-clause-fault
returns-in_err-lose-in-Lose-clause-fault c = if_given c.from_residual.result NoMemory c.args.line.now _ c.in-Lose.is c.from_residual.ensures refl

pub returns-in_ok-down-in-Down-clause-step : goal.returns-in_ok-down-in-Down-clause-step
returns-in_ok-down-in-Down-clause-step c = line_is c.args.number c.args.line.now _ _ _ c.in-Down.is c.in_ok-down-in-Down.ensures

pub returns-in_err-down-in-Down-clause-fault : goal.returns-in_err-down-in-Down-clause-fault
returns-in_err-down-in-Down-clause-fault c = if_given c.from_residual-in_err-down-in-Down.result NoMemory c.args.line.now _ c.in-Down.is c.from_residual-in_err-down-in-Down.ensures refl

pub returns-in_ok-up-in-Up-clause-step : goal.returns-in_ok-up-in-Up-clause-step
returns-in_ok-up-in-Up-clause-step c = line_is c.args.number c.args.line.now _ _ _ c.in-Up.is c.in_ok-up-in-Up.ensures

pub returns-in_err-up-in-Up-clause-fault : goal.returns-in_err-up-in-Up-clause-fault
returns-in_err-up-in-Up-clause-fault c = if_given c.from_residual-in_err-up-in-Up.result NoMemory c.args.line.now _ c.in-Up.is c.from_residual-in_err-up-in-Up.ensures refl

pub returns-in_ok-stop-in-Stop-clause-step : goal.returns-in_ok-stop-in-Stop-clause-step
returns-in_ok-stop-in-Stop-clause-step c = line_is c.args.number c.args.line.now _ _ _ c.in-Stop.is c.in_ok-stop-in-Stop.ensures

pub returns-in_err-stop-in-Stop-clause-fault : goal.returns-in_err-stop-in-Stop-clause-fault
returns-in_err-stop-in-Stop-clause-fault c = if_given c.from_residual-in_err-stop-in-Stop.result NoMemory c.args.line.now _ c.in-Stop.is c.from_residual-in_err-stop-in-Stop.ensures refl

pub returns-in_ok-boot-in-Boot-clause-step : goal.returns-in_ok-boot-in-Boot-clause-step
returns-in_ok-boot-in-Boot-clause-step c = line_is c.args.number c.args.line.now _ _ _ c.in-Boot.is c.in_ok-boot-in-Boot.ensures.step

pub returns-in_err-boot-in-Boot-clause-fault : goal.returns-in_err-boot-in-Boot-clause-fault
returns-in_err-boot-in-Boot-clause-fault c = if_given c.from_residual-in_err-boot-in-Boot.result (fault_of_start c.in_err-boot-in-Boot.field-0.0) c.args.line.now _ c.in-Boot.is c.from_residual-in_err-boot-in-Boot.ensures (start_refused c.in-Boot.site c.in_err-boot-in-Boot.field-0.0)

pub returns-in_ok-list_pending-in-Pending-clause-step : goal.returns-in_ok-list_pending-in-Pending-clause-step
returns-in_ok-list_pending-in-Pending-clause-step c = line_is c.args.number c.args.line.now _ _ _ c.in-Pending.is c.in_ok-list_pending-in-Pending.ensures

pub returns-in_err-list_pending-in-Pending-clause-fault : goal.returns-in_err-list_pending-in-Pending-clause-fault
returns-in_err-list_pending-in-Pending-clause-fault c = if_given c.from_residual-in_err-list_pending-in-Pending.result NoMemory c.args.line.now _ c.in-Pending.is c.from_residual-in_err-list_pending-in-Pending.ensures refl

pub returns-in-ArmStop-clause-step : goal.returns-in-ArmStop-clause-step
returns-in-ArmStop-clause-step c = line_is c.args.number c.args.line.now _ _ _ c.in-ArmStop.is c.arm.ensures

pub returns-in-ArmFail-clause-step : goal.returns-in-ArmFail-clause-step
returns-in-ArmFail-clause-step c = line_is c.args.number c.args.line.now _ _ _ c.in-ArmFail.is c.arm-in-ArmFail.ensures

pub returns-in-Deliver-clause-fit : goal.returns-in-Deliver-clause-fit
returns-in-Deliver-clause-fit c = line_wants c.deliver.result c.args.number c.args.line.now _ (state_of c.args.self.now) c.in-Deliver.is (wants_more _ _ c.deliver.result (state_of c.args.self.now) (λ k w need. need.events) c.deliver.ensures.fit)

pub returns-in-Tick-clause-fit : goal.returns-in-Tick-clause-fit
returns-in-Tick-clause-fit c = line_wants c.stir.result c.args.number c.args.line.now _ (state_of c.args.self.now) c.in-Tick.is (wants_always _ _ c.stir.result (state_of c.args.self.now) (λ k w need. need.events) c.stir.ensures.fit)

pub returns-in-Part-clause-fit : goal.returns-in-Part-clause-fit
returns-in-Part-clause-fit c = line_wants c.leave.result c.args.number c.args.line.now _ (state_of c.args.self.now) c.in-Part.is (wants_more _ _ c.leave.result (state_of c.args.self.now) (λ k w need. need.events) c.leave.ensures.fit)

pub returns-in-Merge-clause-fit : goal.returns-in-Merge-clause-fit
returns-in-Merge-clause-fit c = line_wants c.stir-in-Merge.result c.args.number c.args.line.now _ (state_of c.args.self.now) c.in-Merge.is (wants_always _ _ c.stir-in-Merge.result (state_of c.args.self.now) (λ k w need. need.events) c.stir-in-Merge.ensures.fit)

pub returns-in-GiveUp-clause-fit : goal.returns-in-GiveUp-clause-fit
returns-in-GiveUp-clause-fit c = line_wants c.leave-in-GiveUp.result c.args.number c.args.line.now _ (state_of c.args.self.now) c.in-GiveUp.is (wants_more _ _ c.leave-in-GiveUp.result (state_of c.args.self.now) (λ k w need. need.events) c.leave-in-GiveUp.ensures.fit)

pub returns-in-Settle-clause-fit : goal.returns-in-Settle-clause-fit
returns-in-Settle-clause-fit c = line_wants c.settle.result c.args.number c.args.line.now _ (state_of c.args.self.now) c.in-Settle.is (wants_always _ _ c.settle.result (state_of c.args.self.now) (λ k w need. need.events) c.settle.ensures.fit)

pub returns-in_err-lose-in-Lose-clause-fit : goal.returns-in_err-lose-in-Lose-clause-fit
returns-in_err-lose-in-Lose-clause-fit c = given_on (WantsMemoryWithin (λ k w. CanDo k c.args.number c.args.line.now w) (state_of c.args.self.now)) c.from_residual.result NoMemory c.from_residual.ensures (λ k taken w over sh need. refl)

pub returns-in_err-down-in-Down-clause-fit : goal.returns-in_err-down-in-Down-clause-fit
returns-in_err-down-in-Down-clause-fit c = given_on (WantsMemoryWithin (λ k w. CanDo k c.args.number c.args.line.now w) (state_of c.args.self.now)) c.from_residual-in_err-down-in-Down.result NoMemory c.from_residual-in_err-down-in-Down.ensures (λ k taken w over sh need. refl)

pub returns-in_err-up-in-Up-clause-fit : goal.returns-in_err-up-in-Up-clause-fit
returns-in_err-up-in-Up-clause-fit c = given_on (WantsMemoryWithin (λ k w. CanDo k c.args.number c.args.line.now w) (state_of c.args.self.now)) c.from_residual-in_err-up-in-Up.result NoMemory c.from_residual-in_err-up-in-Up.ensures (λ k taken w over sh need. refl)

pub returns-in_err-stop-in-Stop-clause-fit : goal.returns-in_err-stop-in-Stop-clause-fit
returns-in_err-stop-in-Stop-clause-fit c = given_on (WantsMemoryWithin (λ k w. CanDo k c.args.number c.args.line.now w) (state_of c.args.self.now)) c.from_residual-in_err-stop-in-Stop.result NoMemory c.from_residual-in_err-stop-in-Stop.ensures (λ k taken w over sh need. refl)

pub returns-in_err-list_pending-in-Pending-clause-fit : goal.returns-in_err-list_pending-in-Pending-clause-fit
returns-in_err-list_pending-in-Pending-clause-fit c = given_on (WantsMemoryWithin (λ k w. CanDo k c.args.number c.args.line.now w) (state_of c.args.self.now)) c.from_residual-in_err-list_pending-in-Pending.result NoMemory c.from_residual-in_err-list_pending-in-Pending.ensures (λ k taken w over sh need. refl)

pub returns-in_err-boot-in-Boot-clause-fit : goal.returns-in_err-boot-in-Boot-clause-fit
returns-in_err-boot-in-Boot-clause-fit c = given_on (WantsMemoryWithin (λ k w. CanDo k c.args.number c.args.line.now w) (state_of c.args.self.now)) c.from_residual-in_err-boot-in-Boot.result (fault_of_start c.in_err-boot-in-Boot.field-0.0) c.from_residual-in_err-boot-in-Boot.ensures
    (λ k taken w over sh need. start_memory {T = Unit {0}} (CanBoot (line.Boot c.in-Boot.site) w) c.in_err-boot-in-Boot.field-0.0 (λ so can. c.in_err-boot-in-Boot.ensures.spent so k taken w over sh can) (subst (λ (l : LineWords). CanBoot l w) c.in-Boot.is need.boots))
