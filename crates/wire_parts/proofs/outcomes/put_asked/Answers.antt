use Rattle.std.proofs.Common.{sym}
use Rattle.std.proofs.lemmas.List.{append-nil}
use Rattle.wire_parts.proofs.outcomes.put_asked.Goals as goal

pub put_short-requires : goal.put_short-requires
put_short-requires c = let h = rw c.in-Name.is at c.requires in h.1.1

pub returns-in-Name : goal.returns-in-Name
returns-in-Name c = rw c.in-Name.is c.put_short.ensures

pub returns-in-Whole : goal.returns-in-Whole
returns-in-Whole c = rw c.in-Whole.is c.put_stamp.ensures

pub returns-in-List : goal.returns-in-List
returns-in-List c = rw c.in-List.is (sym (append-nil c.args.out.now))

pub returns-in-Stat : goal.returns-in-Stat
returns-in-Stat c = rw c.in-Stat.is (sym (append-nil c.args.out.now))
