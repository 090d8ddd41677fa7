use Rattle.std.proofs.Common.{ap, sym, ◌∙◌, List, reverse, slice_get}
use Rattle.commit_graph.specs.declared.history.Version.{Version}
use Rattle.commit_graph.specs.Versions.{is_version}
use Rattle.audit_versions.proofs.Lookups.{version_found, version_none}
use Rattle.audit_versions.proofs.Beside.{name_placed, short_behind}
use Rattle.audit_versions.proofs.versions.Versions.version.Goals as goal

pub returns-in-Some-clause-value : goal.returns-in-Some-clause-value
returns-in-Some-clause-value c =
    let placed = name_placed c.self.inside.rows.history c.args.self.now c.self.inside.rows.names c.version_key.result c.args.file c.args.stamp _ c.self.view_is c.self.invariant.names_are c.version_key.ensures c.in-Some.ensures.place in
    c.get.ensures ∙ (ap (λ (h : List Version). slice_get (reverse h) c.in-Some.place) c.self.view_is ∙ sym (version_found c.args.file c.args.stamp c.args.self.now c.in-Some.place (sym placed)))

pub returns-in-Some-clause-short : goal.returns-in-Some-clause-short
returns-in-Some-clause-short c =
    let placed = name_placed c.self.inside.rows.history c.args.self.now c.self.inside.rows.names c.version_key.result c.args.file c.args.stamp _ c.self.view_is c.self.invariant.names_are c.version_key.ensures c.in-Some.ensures.place in
    let is = c.get.ensures ∙ (ap (λ (h : List Version). slice_get (reverse h) c.in-Some.place) c.self.view_is ∙ sym (version_found c.args.file c.args.stamp c.args.self.now c.in-Some.place (sym placed))) in
    short_behind (is_version c.args.file c.args.stamp) c.self.inside.rows.history c.args.self.now c.get.result c.self.view_is c.self.invariant.short is

pub returns-in-None-clause-value : goal.returns-in-None-clause-value
returns-in-None-clause-value c =
    let placed = name_placed c.self.inside.rows.history c.args.self.now c.self.inside.rows.names c.version_key.result c.args.file c.args.stamp _ c.self.view_is c.self.invariant.names_are c.version_key.ensures c.in-None.ensures.place in
    sym (version_none c.args.file c.args.stamp c.args.self.now (sym placed))
