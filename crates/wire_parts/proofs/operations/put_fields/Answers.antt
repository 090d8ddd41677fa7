use Rattle.std.proofs.Common.{sym}
use Rattle.std.proofs.lemmas.List.{append-nil}
use Rattle.wire_parts.proofs.Writing.{respelled}
use Rattle.wire_parts.proofs.operations.put_fields.Goals as goal

pub put_short-requires : goal.put_short-requires
put_short-requires c = let h = rw c.in-Probe.is at c.requires in h.0.1.1

pub put_short-requires-in-Find : goal.put_short-requires-in-Find
put_short-requires-in-Find c = let h = rw c.in-Find.is at c.requires in h.0.1.1

pub put_insert-requires : goal.put_insert-requires
put_insert-requires c = let h = rw c.in-Insert.is at c.requires in h.0.0.1.1

pub put_remove-requires : goal.put_remove-requires
put_remove-requires c = let h = rw c.in-Remove.is at c.requires in h.0.0.1.1

pub put_rename-requires : goal.put_rename-requires
put_rename-requires c = let h = rw c.in-Rename.is at c.requires in record { component = h.0.0.1.1; name = h.0.1.1.1 }

pub put_write-requires : goal.put_write-requires
put_write-requires c = let h = rw c.in-Write.is at c.requires in h.0.1.1

pub returns-in-Remove : goal.returns-in-Remove
returns-in-Remove c = rw c.in-Remove.is c.put_remove.ensures

pub returns-in-Probe : goal.returns-in-Probe
returns-in-Probe c = rw c.in-Probe.is (respelled _ _ _ _ _ (sym (append-nil _)) c.put_short.ensures)

pub returns-in-Find : goal.returns-in-Find
returns-in-Find c = rw c.in-Find.is (respelled _ _ _ _ _ (sym (append-nil _)) c.put_short-in-Find.ensures)

pub returns-in-Insert : goal.returns-in-Insert
returns-in-Insert c = rw c.in-Insert.is (respelled _ _ _ _ _ (sym (append-nil _)) c.put_insert.ensures)

pub returns-in-Rename : goal.returns-in-Rename
returns-in-Rename c = rw c.in-Rename.is (respelled _ _ _ _ _ (sym (append-nil _)) c.put_rename.ensures)

pub returns-in-Read : goal.returns-in-Read
returns-in-Read c = rw c.in-Read.is (respelled _ _ _ _ _ (sym (append-nil _)) c.put_read.ensures)

pub returns-in-Write : goal.returns-in-Write
returns-in-Write c = rw c.in-Write.is (respelled _ _ _ _ _ (sym (append-nil _)) c.put_write.ensures)

pub returns-in-Cut : goal.returns-in-Cut
returns-in-Cut c = rw c.in-Cut.is (respelled _ _ _ _ _ (sym (append-nil _)) c.put_u32.ensures.ok)

pub returns-in-Empty : goal.returns-in-Empty
returns-in-Empty c = rw c.in-Empty.is (sym (append-nil c.args.out.now))

pub returns-in-Commit : goal.returns-in-Commit
returns-in-Commit c = rw c.in-Commit.is (sym (append-nil c.args.out.now))

pub returns-in-Abort : goal.returns-in-Abort
returns-in-Abort c = rw c.in-Abort.is (sym (append-nil c.args.out.now))

pub returns-in-Mend : goal.returns-in-Mend
returns-in-Mend c = rw c.in-Mend.is (sym (append-nil c.args.out.now))
