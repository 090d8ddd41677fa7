use Rattle.std.proofs.Common.{sym}
use Rattle.std.proofs.lemmas.List.{append-nil}
use Rattle.wire_writing.proofs.put_answers.put_close_fields.Goals as goal

pub put_refusal-requires : goal.put_refusal-requires
put_refusal-requires c = rw c.in-No.is at c.requires

pub returns-in-Nothing : goal.returns-in-Nothing
returns-in-Nothing c = rw c.in-Nothing.is (sym (append-nil c.args.out.now))

pub returns-in-Made : goal.returns-in-Made
returns-in-Made c = rw c.in-Made.is c.put_stamp.ensures

pub returns-in-No : goal.returns-in-No
returns-in-No c = rw c.in-No.is c.put_refusal.ensures
