use Rattle.std.proofs.Common.{◌≡◌, ◌∙◌}
use Rattle.dir_format.specs.Entries.{with_entry}
use Rattle.dir_format.proofs.Placing.{dir_with}
use Rattle.dir_format.proofs.directory.Dir.put.Goals as goal

pub invariant_of-self : goal.invariant_of-self
invariant_of-self c =
    let made : c.insert.new.self.items ≡ with_entry c.args.e c.self.inside.entries.items = c.in_ok-insert-in-Free.ensures.items ∙ (rw c.as_slice.ensures.value at c.in-Free.ensures.value) in
    rw made (dir_with c.args.e c.self.inside.entries.items c.requires.entry (rw (← c.self.view_is) at c.requires.kind) c.self.invariant)

pub invariant_of-self-in-Taken : goal.invariant_of-self-in-Taken
invariant_of-self-in-Taken c =
    rw (rw c.as_slice.ensures.value at c.in-Taken.ensures.value) (dir_with c.args.e c.self.inside.entries.items c.requires.entry (rw (← c.self.view_is) at c.requires.kind) c.self.invariant)
