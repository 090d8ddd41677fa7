use Rattle.std.proofs.Common.{sym}
use Rattle.dir_format.specs.Entries.{IsEntry}
use Rattle.dir_format.specs.Lookups.{is_meant}
use Rattle.dir_format.proofs.FirstOf.{find_has, find_passes, kind_of_found, meant_is_live}
use Rattle.dir_operations.proofs.finding.meant.Goals as goal

pub returns-in-Some-clause-entry : goal.returns-in-Some-clause-entry
returns-in-Some-clause-entry c =
    find_has IsEntry (is_meant c.args.component.now) c.args.d.now c.in-Some.entry.now (sym (rw c.as_slice.ensures.value at c.in-Some.ensures)) c.as_slice.ensures.is_dir.entries

pub returns-in-Some-clause-live : goal.returns-in-Some-clause-live
returns-in-Some-clause-live c =
    meant_is_live _ _ (find_passes (is_meant c.args.component.now) c.args.d.now c.in-Some.entry.now (sym (rw c.as_slice.ensures.value at c.in-Some.ensures)))

pub returns-in-Some-clause-kind : goal.returns-in-Some-clause-kind
returns-in-Some-clause-kind c =
    kind_of_found (is_meant c.args.component.now) c.args.d.now c.in-Some.entry.now (sym (rw c.as_slice.ensures.value at c.in-Some.ensures)) c.as_slice.ensures.is_dir.kinds
