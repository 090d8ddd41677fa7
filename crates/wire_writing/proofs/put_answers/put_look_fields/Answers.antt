use Rattle.std.proofs.Common.{sym}
use Rattle.std.proofs.lemmas.List.{append-nil}
use Rattle.wire_writing.proofs.put_answers.put_look_fields.Goals as goal

pub put_content-requires : goal.put_content-requires
put_content-requires c = let h = rw c.in-Content.is at c.requires in h.1

pub put_refusal-requires : goal.put_refusal-requires
put_refusal-requires c = rw c.in-No.is at c.requires

pub returns-in-Found : goal.returns-in-Found
returns-in-Found c = rw c.in-Found.is c.put_found.ensures

pub returns-in-Content : goal.returns-in-Content
returns-in-Content c = rw c.in-Content.is c.put_content.ensures

pub returns-in-Stat : goal.returns-in-Stat
returns-in-Stat c = rw c.in-Stat.is c.put_stat.ensures

pub returns-in-Moved : goal.returns-in-Moved
returns-in-Moved c = rw c.in-Moved.is (sym (append-nil c.args.out.now))

pub returns-in-No : goal.returns-in-No
returns-in-No c = rw c.in-No.is c.put_refusal.ensures
