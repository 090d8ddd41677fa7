use Rattle.std.proofs.Common.{sym}
use Rattle.dir_format.specs.Entries.{IsEntry, is_pair}
use Rattle.dir_format.proofs.FirstOf.{find_has, removed_where_free}
use Rattle.dir_operations.proofs.finding.removed_pair.Goals as goal

pub returns-in-Some-clause-entry : goal.returns-in-Some-clause-entry
returns-in-Some-clause-entry c =
    find_has IsEntry (is_pair c.args.name.now c.args.ino) c.args.d.now c.in-Some.entry.now (sym (rw c.as_slice.ensures.value at c.in-Some.ensures)) c.as_slice.ensures.is_dir.entries

pub returns-in-Some-clause-removed : goal.returns-in-Some-clause-removed
returns-in-Some-clause-removed c =
    removed_where_free c.args.name.now c.args.ino c.args.d.now c.in-Some.entry.now c.requires (sym (rw c.as_slice.ensures.value at c.in-Some.ensures))
