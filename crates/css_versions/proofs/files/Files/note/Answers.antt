use Rattle.std.proofs.Common.{ap, ◌∙◌}
use Rattle.role_steps.specs.Versions.{row_ino}
use Rattle.role_steps.specs.declared.synchronizing.FileRow.{FileRow}
use Rattle.css_versions.proofs.Changed.{placed}
use Rattle.css_versions.proofs.Listing.{changed_listed, noted_kind, was_ok}
use Rattle.css_versions.proofs.Noted.{noted_at_place, noted_nowhere}
use Rattle.css_versions.proofs.files.Files.note.Goals as goal

pub invariant_of-self-in-Ok : goal.invariant_of-self-in-Ok
invariant_of-self-in-Ok c =
    changed_listed c.args.ino c.self.inside.rows.items c.settle.new.rows.items c.in-Ok.place c.index_mut-file.result.now c.note-changed.new.self c.self.inside.lists c.settle.new.lists c.self.invariant
    (placed row_ino c.args.ino c.as_slice.result.now c.self.inside.rows.items c.in-Ok.place c.index_mut-file.result.now c.self.invariant.0 c.as_slice.ensures.value c.in-Ok.ensures.row c.index_mut-file.ensures.value)
    c.note-changed.ensures.ino (ap (λ (r : FileRow). r.kind) (was_ok c.note-changed.result c.in_ok-settle-in-Ok.ensures.was c.note-changed.ensures.noted) ∙ noted_kind c.args.from c.args.stamp c.index_mut-file.result.now) c.in_ok-settle-in-Ok.ensures.rows c.in_ok-settle-in-Ok.ensures.lists

pub returns-in_ok-settle-in-Ok : goal.returns-in_ok-settle-in-Ok
returns-in_ok-settle-in-Ok c =
    rw (← c.self.view_is)
    (c.in_ok-settle-in-Ok.ensures.rows
    ∙ noted_at_place c.args.from c.args.stamp c.args.ino c.self.inside.rows.items c.in-Ok.place c.index_mut-file.result.now c.note-changed.new.self
    (placed row_ino c.args.ino c.as_slice.result.now c.self.inside.rows.items c.in-Ok.place c.index_mut-file.result.now c.self.invariant.0 c.as_slice.ensures.value c.in-Ok.ensures.row c.index_mut-file.ensures.value)
    c.note-changed.ensures.ino (was_ok c.note-changed.result c.in_ok-settle-in-Ok.ensures.was c.note-changed.ensures.noted))

pub returns-in-Err : goal.returns-in-Err
returns-in-Err c =
    rw (← c.self.view_is)
    (noted_nowhere c.args.from c.args.stamp c.args.ino c.as_slice.result.now c.self.inside.rows.items c.as_slice.ensures.value c.in-Err.ensures.row.1)
