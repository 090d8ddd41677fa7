use Rattle.std.proofs.Common.{ap, sym, ◌∙◌}
use Rattle.std.specs.Option.{is_some}
use Rattle.audit_versions.proofs.Lookups.{in_place}
use Rattle.audit_versions.proofs.Beside.{name_placed}
use Rattle.audit_versions.proofs.versions.Versions.has.Goals as goal

pub returns : goal.returns
returns c =
    let placed = name_placed c.self.inside.rows.history c.args.self.now c.self.inside.rows.names c.version_key.result c.args.file c.args.stamp c.place.result c.self.view_is c.self.invariant.names_are c.version_key.ensures c.place.ensures.place in
    c.is_some.ensures ∙ (ap is_some placed ∙ sym (in_place c.args.file c.args.stamp c.args.self.now))
