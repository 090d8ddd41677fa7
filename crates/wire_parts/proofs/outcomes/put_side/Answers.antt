use Rattle.wire_parts.proofs.outcomes.put_side.Goals as goal

pub put_refusal-requires : goal.put_refusal-requires
put_refusal-requires c = rw c.in-No.is at c.requires

pub returns-in-No : goal.returns-in-No
returns-in-No c = rw c.in-No.is c.put_refusal.ensures

pub put_value-requires : goal.put_value-requires
put_value-requires c = let h = rw c.in-Done.is at c.requires in rw c.in-Done.is h

pub returns-in-Done : goal.returns-in-Done
returns-in-Done c = let h = rw c.in-Done.is at c.put_value.ensures in rw c.in-Done.is h

pub put_value-requires-in-Data : goal.put_value-requires-in-Data
put_value-requires-in-Data c = let h = rw c.in-Data.is at c.requires in rw c.in-Data.is h

pub returns-in-Data : goal.returns-in-Data
returns-in-Data c = let h = rw c.in-Data.is at c.put_value-in-Data.ensures in rw c.in-Data.is h

pub put_value-requires-in-Found : goal.put_value-requires-in-Found
put_value-requires-in-Found c = let h = rw c.in-Found.is at c.requires in rw c.in-Found.is h

pub returns-in-Found : goal.returns-in-Found
returns-in-Found c = let h = rw c.in-Found.is at c.put_value-in-Found.ensures in rw c.in-Found.is h

pub put_value-requires-in-Committed : goal.put_value-requires-in-Committed
put_value-requires-in-Committed c = let h = rw c.in-Committed.is at c.requires in rw c.in-Committed.is h

pub returns-in-Committed : goal.returns-in-Committed
returns-in-Committed c = let h = rw c.in-Committed.is at c.put_value-in-Committed.ensures in rw c.in-Committed.is h
