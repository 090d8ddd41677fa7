use Rattle.std.proofs.Common.{refl}
use Rattle.packet_fit.proofs.operations.is_what.Goals as goal

pub returns-in-Name : goal.returns-in-Name
returns-in-Name c = rw c.in-Name.is c.is_component_field.ensures

pub returns-in-List : goal.returns-in-List
returns-in-List c = rw c.in-List.is (λ _. tt, λ _. refl)

pub returns-in-Stat : goal.returns-in-Stat
returns-in-Stat c = rw c.in-Stat.is (λ _. tt, λ _. refl)

pub returns-in-Whole : goal.returns-in-Whole
returns-in-Whole c = rw c.in-Whole.is c.is_stamp.ensures
