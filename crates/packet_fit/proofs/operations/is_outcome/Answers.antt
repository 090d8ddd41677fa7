use Rattle.std.proofs.Common.{refl}
use Rattle.packet_fit.proofs.operations.is_outcome.Goals as goal

pub returns-in-Done : goal.returns-in-Done
returns-in-Done c = rw c.in-Done.is (λ _. tt, λ _. refl)

pub returns-in-Data : goal.returns-in-Data
returns-in-Data c = rw c.in-Data.is c.is_data.ensures

pub returns-in-Found : goal.returns-in-Found
returns-in-Found c = rw c.in-Found.is c.is_found.ensures

pub returns-in-Committed : goal.returns-in-Committed
returns-in-Committed c = rw c.in-Committed.is c.is_stamp.ensures

pub returns-in-No : goal.returns-in-No
returns-in-No c = rw c.in-No.is c.is_refusal.ensures
