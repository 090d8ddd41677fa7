use Rattle.std.proofs.Common.{sym}
use Rattle.std.proofs.lemmas.List.{append-nil}
use Rattle.wire_parts.proofs.refusals.put_rest.Goals as goal

pub put_short-requires : goal.put_short-requires
put_short-requires c = let h = rw c.in-Absent.is at c.requires in h.1.1

pub put_short-requires-in-NotEmpty : goal.put_short-requires-in-NotEmpty
put_short-requires-in-NotEmpty c = let h = rw c.in-NotEmpty.is at c.requires in h.1.1

pub returns-in-Busy : goal.returns-in-Busy
returns-in-Busy c = rw c.in-Busy.is c.put_busy.ensures

pub returns-in-Absent : goal.returns-in-Absent
returns-in-Absent c = rw c.in-Absent.is c.put_short.ensures

pub returns-in-NotEmpty : goal.returns-in-NotEmpty
returns-in-NotEmpty c = rw c.in-NotEmpty.is c.put_short-in-NotEmpty.ensures

pub returns-in-Exists : goal.returns-in-Exists
returns-in-Exists c = rw c.in-Exists.is c.put_u16.ensures.ok

pub returns-in-Conflict : goal.returns-in-Conflict
returns-in-Conflict c = rw c.in-Conflict.is c.put_conflict.ensures

pub returns-in-Ambiguous : goal.returns-in-Ambiguous
returns-in-Ambiguous c = rw c.in-Ambiguous.is c.put_numbers.ensures

pub returns-in-NoSpace : goal.returns-in-NoSpace
returns-in-NoSpace c = rw c.in-NoSpace.is c.put_numbers-in-NoSpace.ensures

pub returns-in-NotDir : goal.returns-in-NotDir
returns-in-NotDir c = rw c.in-NotDir.is (sym (append-nil c.args.out.now))

pub returns-in-IsDir : goal.returns-in-IsDir
returns-in-IsDir c = rw c.in-IsDir.is (sym (append-nil c.args.out.now))

pub returns-in-NoStorage : goal.returns-in-NoStorage
returns-in-NoStorage c = rw c.in-NoStorage.is (sym (append-nil c.args.out.now))

pub returns-in-NoPartition : goal.returns-in-NoPartition
returns-in-NoPartition c = rw c.in-NoPartition.is (sym (append-nil c.args.out.now))

pub returns-in-Changed : goal.returns-in-Changed
returns-in-Changed c = rw c.in-Changed.is (sym (append-nil c.args.out.now))

pub returns-in-BadDescriptor : goal.returns-in-BadDescriptor
returns-in-BadDescriptor c = rw c.in-BadDescriptor.is (sym (append-nil c.args.out.now))

pub returns-in-Stale : goal.returns-in-Stale
returns-in-Stale c = rw c.in-Stale.is (sym (append-nil c.args.out.now))

pub returns-in-TooLong : goal.returns-in-TooLong
returns-in-TooLong c = rw c.in-TooLong.is (sym (append-nil c.args.out.now))

pub returns-in-NoInode : goal.returns-in-NoInode
returns-in-NoInode c = rw c.in-NoInode.is (sym (append-nil c.args.out.now))

pub returns-in-BadName : goal.returns-in-BadName
returns-in-BadName c = rw c.in-BadName.is (sym (append-nil c.args.out.now))

pub returns-in-ReadOnly : goal.returns-in-ReadOnly
returns-in-ReadOnly c = rw c.in-ReadOnly.is (sym (append-nil c.args.out.now))

pub returns-in-NoDescriptor : goal.returns-in-NoDescriptor
returns-in-NoDescriptor c = rw c.in-NoDescriptor.is (sym (append-nil c.args.out.now))

pub returns-in-Spent : goal.returns-in-Spent
returns-in-Spent c = rw c.in-Spent.is (sym (append-nil c.args.out.now))

pub returns-in-NoConflict : goal.returns-in-NoConflict
returns-in-NoConflict c = rw c.in-NoConflict.is (sym (append-nil c.args.out.now))
