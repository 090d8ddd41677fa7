use Rattle.std.proofs.Common.{ap, sym, ◌∙◌}
use Rattle.std.specs.Option.{is_some}
use Rattle.audit_versions.proofs.Lookups.{file_place}
use Rattle.audit_versions.proofs.Beside.{file_placed}
use Rattle.audit_versions.proofs.versions.Versions.has_file.Goals as goal

pub returns : goal.returns
returns c =
    let placed = file_placed c.self.inside.rows.history c.args.self.now c.self.inside.rows.files c.file_key.result c.args.file c.place.result c.self.view_is c.self.invariant.files_are c.file_key.ensures c.place.ensures.place in
    c.is_some.ensures ∙ (ap is_some placed ∙ sym (file_place c.args.file c.args.self.now))
