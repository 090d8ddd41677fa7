use Rattle.std.proofs.Common.{◌≡◌, sym, refl, []}
use Rattle.std.specs.Prelude.{filter}
use Rattle.dir_format.specs.Entries.{is_live}
use Rattle.dir_format.proofs.FirstOf.{filter-none, filter-some}
use Rattle.dir_operations.proofs.asking.empty.Goals as goal

pub returns-in-None : goal.returns-in-None
returns-in-None c =
    let none : filter is_live c.args.d.now ≡ [] = filter-none is_live c.args.d.now (sym (rw c.as_slice-entries.ensures.value at c.in-None.ensures)) in
    rw (c.answered.ensures, none) refl

pub returns-in_ok-name-in-Some : goal.returns-in_ok-name-in-Some
returns-in_ok-name-in-Some c =
    let some = filter-some is_live c.args.d.now c.in-Some.entry.now (sym (rw c.as_slice-entries.ensures.value at c.in-Some.ensures)) in
    rw (c.refused.ensures, some.1, c.in_ok-name-in-Some.ensures, c.is_shared-shared.ensures, c.as_slice.ensures, c.as_slice-entries.ensures.value) refl
