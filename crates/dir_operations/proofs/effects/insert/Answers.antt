use Rattle.std.proofs.Common.{◌≡◌, Some, None, ap, sym}
use Rattle.dir_format.specs.Entries.{pair_in}
use Rattle.dir_operations.proofs.effects.insert.Goals as goal

pub returns-clause-ok : goal.returns-clause-ok
returns-clause-ok c =
    let none : pair_in c.args.name.now c.args.ino c.args.d.now ≡ None = sym (rw c.as_slice.ensures.value at c.in-None.ensures) in
    rw none (ap Some (rw (c.in_ok-put.ensures.ok, c.in_ok-after.ensures, c.in_ok-entry.ensures.value) at c.become_or_refuse.ensures))
