use Rattle.std.specs.List.{AllByRecursion}
use Rattle.packet_order.specs.Counts.{FitsIfCounted}
use Rattle.std.proofs.Common.{◌≡◌}
use Rattle.world.specs.Faults.{fault_of_book}
use Rattle.world.specs.declared.fault.WorldFault.TheVariants.{NoMemory}
use Rattle.world.proofs.Wanting.{book_memory, given_on}
use Rattle.world.proofs.world.World.note.Goals as goal

pub returns-in_err-happened-clause-fit : goal.returns-in_err-happened-clause-fit
returns-in_err-happened-clause-fit c = given_on (λ fault. AllByRecursion FitsIfCounted c.args.out.now.packets → fault ≡ NoMemory) c.from_residual.result (fault_of_book c.in_err-happened.field-0.0) c.from_residual.ensures
    (λ fit. book_memory {T = Unit {0}} (AllByRecursion FitsIfCounted c.args.out.now.packets) c.in_err-happened.field-0.0 c.in_err-happened.ensures.unfit fit)
