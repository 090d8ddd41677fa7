use Rattle.std.proofs.Common.{ap, ◌∙◌}
use Rattle.role_steps.specs.Versions.{row_ino}
use Rattle.css_versions.specs.Known.{reported_row}
use Rattle.role_steps.specs.Versions.{with_holder, with_version}
use Rattle.role_steps.specs.Reports.{version_reported}
use Rattle.role_steps.specs.declared.synchronizing.FileRow.{FileRow}
use Rattle.css_versions.proofs.Changed.{placed, changed, added}
use Rattle.css_versions.proofs.Listing.{added_listed, changed_listed, noted_kind, was_ok}
use Rattle.css_versions.proofs.files.Files.report.Goals as goal

pub invariant_of-self-in-Ok : goal.invariant_of-self-in-Ok
invariant_of-self-in-Ok c =
    changed_listed c.args.copy.now.ino c.self.inside.rows.items c.settle.new.rows.items c.in-Ok.place c.index_mut-file.result.now c.report-changed.new.self c.self.inside.lists c.settle.new.lists c.self.invariant
    (placed row_ino c.args.copy.now.ino c.as_slice.result.now c.self.inside.rows.items c.in-Ok.place c.index_mut-file.result.now c.self.invariant.0 c.as_slice.ensures.value c.in-Ok.ensures.row c.index_mut-file.ensures.value)
    c.report-changed.ensures.ino (ap (λ (r : FileRow). r.kind) (was_ok c.report-changed.result c.in_ok-settle-in-Ok.ensures.was c.report-changed.ensures.known)) c.in_ok-settle-in-Ok.ensures.rows c.in_ok-settle-in-Ok.ensures.lists

pub returns-in_ok-settle-in-Ok : goal.returns-in_ok-settle-in-Ok
returns-in_ok-settle-in-Ok c =
    c.in_ok-settle-in-Ok.ensures.rows
    ∙ changed row_ino c.args.copy.now.ino c.self.inside.rows.items c.in-Ok.place c.index_mut-file.result.now c.report-changed.new.self (reported_row c.args.from c.args.copy.now) _ c.self.view_is
    (placed row_ino c.args.copy.now.ino c.as_slice.result.now c.self.inside.rows.items c.in-Ok.place c.index_mut-file.result.now c.self.invariant.0 c.as_slice.ensures.value c.in-Ok.ensures.row c.index_mut-file.ensures.value)
    c.report-changed.ensures.ino (was_ok c.report-changed.result c.in_ok-settle-in-Ok.ensures.was c.report-changed.ensures.known)

pub invariant_of-self-in-Err : goal.invariant_of-self-in-Err
invariant_of-self-in-Err c =
    added_listed c.self.inside.rows.items c.as_slice.result.now c.add.new.rows.items c.in-Err.place c.report.new.self c.self.inside.lists c.add.new.lists c.self.invariant c.as_slice.ensures.value
    (c.in-Err.ensures.with c.report.new.self (c.report.ensures.ino ∙ ap row_ino c.new-file.ensures)) c.in_ok-add-in-Err.ensures.rows c.in_ok-add-in-Err.ensures.lists

pub returns-in_ok-add-in-Err : goal.returns-in_ok-add-in-Err
returns-in_ok-add-in-Err c =
    added row_ino c.args.copy.now.ino c.as_slice.result.now c.self.inside.rows.items c.add.new.rows.items c.in-Err.place c.report.new.self (reported_row c.args.from c.args.copy.now) _ c.self.view_is
    c.as_slice.ensures.value c.in-Err.ensures.row.1 (c.in-Err.ensures.with c.report.new.self (c.report.ensures.ino ∙ ap row_ino c.new-file.ensures)) c.in_ok-add-in-Err.ensures.rows
    (c.in_ok-report-in-Err.ensures.known ∙ ap (λ (r : FileRow). with_holder c.args.from c.args.copy.now.stamp (with_version (version_reported c.args.copy.now) r)) c.new-file.ensures)
