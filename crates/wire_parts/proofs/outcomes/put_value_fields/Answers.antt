use Rattle.std.proofs.Common.{sym}
use Rattle.std.proofs.lemmas.List.{append-nil}
use Rattle.wire_parts.proofs.outcomes.put_value_fields.Goals as goal

pub put_data-requires : goal.put_data-requires
put_data-requires c = rw c.in-Data.is at c.requires

pub returns-in-Data : goal.returns-in-Data
returns-in-Data c = rw c.in-Data.is c.put_data.ensures

pub returns-in-Found : goal.returns-in-Found
returns-in-Found c = rw c.in-Found.is c.put_found.ensures

pub returns-in-Committed : goal.returns-in-Committed
returns-in-Committed c = rw c.in-Committed.is c.put_stamp.ensures

pub returns-in-Done : goal.returns-in-Done
returns-in-Done c = rw c.in-Done.is (sym (append-nil c.args.out.now))

pub returns-in-No : goal.returns-in-No
returns-in-No c = rw c.in-No.is (sym (append-nil c.args.out.now))
