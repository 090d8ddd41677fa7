use Rattle.std.proofs.Common.{ap, ◌∙◌}
use Rattle.role_steps.specs.Versions.{row_ino}
use Rattle.css_versions.specs.Known.{published_row, version_made}
use Rattle.role_steps.specs.Versions.{noted, with_version}
use Rattle.role_steps.specs.declared.synchronizing.FileRow.{FileRow}
use Rattle.css_versions.proofs.Changed.{placed, changed, added}
use Rattle.css_versions.proofs.Listing.{added_listed, changed_listed, noted_kind, was_ok}
use Rattle.css_versions.proofs.files.Files.publish.Goals as goal

pub invariant_of-self-in-Ok : goal.invariant_of-self-in-Ok
invariant_of-self-in-Ok c =
    changed_listed c.args.ino c.self.inside.rows.items c.settle.new.rows.items c.in-Ok.place c.index_mut-file.result.now c.publish-changed.new.self c.self.inside.lists c.settle.new.lists c.self.invariant
    (placed row_ino c.args.ino c.as_slice.result.now c.self.inside.rows.items c.in-Ok.place c.index_mut-file.result.now c.self.invariant.0 c.as_slice.ensures.value c.in-Ok.ensures.row c.index_mut-file.ensures.value)
    c.publish-changed.ensures.ino (ap (λ (r : FileRow). r.kind) (was_ok c.publish-changed.result c.in_ok-settle-in-Ok.ensures.was c.publish-changed.ensures.known) ∙ noted_kind c.args.ss c.args.made.now.stamp (with_version (version_made c.args.made.now) c.index_mut-file.result.now)) c.in_ok-settle-in-Ok.ensures.rows c.in_ok-settle-in-Ok.ensures.lists

pub returns-in_ok-settle-in-Ok : goal.returns-in_ok-settle-in-Ok
returns-in_ok-settle-in-Ok c =
    c.in_ok-settle-in-Ok.ensures.rows
    ∙ changed row_ino c.args.ino c.self.inside.rows.items c.in-Ok.place c.index_mut-file.result.now c.publish-changed.new.self (published_row c.args.ss c.args.ino c.args.kind c.args.set c.args.made.now) _ c.self.view_is
    (placed row_ino c.args.ino c.as_slice.result.now c.self.inside.rows.items c.in-Ok.place c.index_mut-file.result.now c.self.invariant.0 c.as_slice.ensures.value c.in-Ok.ensures.row c.index_mut-file.ensures.value)
    c.publish-changed.ensures.ino (was_ok c.publish-changed.result c.in_ok-settle-in-Ok.ensures.was c.publish-changed.ensures.known)

pub invariant_of-self-in-Err : goal.invariant_of-self-in-Err
invariant_of-self-in-Err c =
    added_listed c.self.inside.rows.items c.as_slice.result.now c.add.new.rows.items c.in-Err.place c.publish.new.self c.self.inside.lists c.add.new.lists c.self.invariant c.as_slice.ensures.value
    (c.in-Err.ensures.with c.publish.new.self (c.publish.ensures.ino ∙ ap row_ino c.new-file.ensures)) c.in_ok-add-in-Err.ensures.rows c.in_ok-add-in-Err.ensures.lists

pub returns-in_ok-add-in-Err : goal.returns-in_ok-add-in-Err
returns-in_ok-add-in-Err c =
    added row_ino c.args.ino c.as_slice.result.now c.self.inside.rows.items c.add.new.rows.items c.in-Err.place c.publish.new.self (published_row c.args.ss c.args.ino c.args.kind c.args.set c.args.made.now) _ c.self.view_is
    c.as_slice.ensures.value c.in-Err.ensures.row.1 (c.in-Err.ensures.with c.publish.new.self (c.publish.ensures.ino ∙ ap row_ino c.new-file.ensures)) c.in_ok-add-in-Err.ensures.rows
    (c.in_ok-publish-in-Err.ensures.known ∙ ap (λ (r : FileRow). noted c.args.ss c.args.made.now.stamp (with_version (version_made c.args.made.now) r)) c.new-file.ensures)
