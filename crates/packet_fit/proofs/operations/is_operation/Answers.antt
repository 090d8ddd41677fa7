use Rattle.packet_fit.proofs.operations.is_operation.Goals as goal

pub returns-in-Probe : goal.returns-in-Probe
returns-in-Probe c = rw c.in-Probe.is c.is_probe.ensures

pub returns-in-Find : goal.returns-in-Find
returns-in-Find c = rw c.in-Find.is c.is_probe-in-Find.ensures

pub returns-in-Insert : goal.returns-in-Insert
returns-in-Insert c = rw c.in-Insert.is c.is_insert_op.ensures

pub returns-in-Remove : goal.returns-in-Remove
returns-in-Remove c = rw c.in-Remove.is c.is_remove.ensures

pub returns-in-Rename : goal.returns-in-Rename
returns-in-Rename c = rw c.in-Rename.is c.is_rename.ensures

pub returns-in-Empty : goal.returns-in-Empty
returns-in-Empty c = rw c.in-Empty.is c.is_no_vector.ensures

pub returns-in-Read : goal.returns-in-Read
returns-in-Read c = rw c.in-Read.is c.is_read_op.ensures

pub returns-in-Write : goal.returns-in-Write
returns-in-Write c = rw c.in-Write.is c.is_write_op.ensures

pub returns-in-Cut : goal.returns-in-Cut
returns-in-Cut c = rw c.in-Cut.is c.is_cut.ensures

pub returns-in-Commit : goal.returns-in-Commit
returns-in-Commit c = rw c.in-Commit.is c.is_no_vector-in-Commit.ensures

pub returns-in-Abort : goal.returns-in-Abort
returns-in-Abort c = rw c.in-Abort.is c.is_no_vector-in-Abort.ensures

pub returns-in-Mend : goal.returns-in-Mend
returns-in-Mend c = rw c.in-Mend.is c.is_no_vector-in-Mend.ensures
