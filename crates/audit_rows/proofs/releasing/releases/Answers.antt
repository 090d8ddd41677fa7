use Rattle.std.proofs.Common.{◌&&◌, ◌||◌, not, ◌∙◌}
use Rattle.commit_graph.specs.Versions.{same_file}
use Rattle.call_rules.specs.declared.want.Want.TheVariants as want
use Rattle.tree_model.specs.Same.{same_version}
use Rattle.promises.specs.Past.{Instance, ends, is_named}
use Rattle.promises.specs.Rows.{is_asked}
use Rattle.promises.specs.Tree.{is_spent}
use Rattle.audit_row_parts.proofs.Homes.{any_found, any_nowhere}
use Rattle.audit_site_rows.proofs.Home.{ok_as}
use Rattle.audit_rows.proofs.Found.{with_true}
use Rattle.audit_rows.proofs.releasing.releases.Goals as goal

pub returns-in-Some : goal.returns-in-Some
returns-in-Some c =
    ok_as c.ends_so.result _ _
    (any_found (is_named c.args.end.instance)
    (λ (x : Instance). same_file x.grant.file c.args.end.file && (same_version c.args.end.stamp x.work.committed && ((not x.work.owes || is_spent c.args.told.now c.args.t.now x) && is_asked c.args.config.now c.args.told.now c.args.t.now (ends c.args.t.now.id x) (want.Close c.args.end.instance))))
    c.args.t.now.opened c.in-Some.x.now c.in-Some.ensures.one c.in-Some.ensures.found
    ∙ with_true _ _ c.if-not-is_synced.ensures)
    c.ends_so.ensures

pub returns-in-None : goal.returns-in-None
returns-in-None c =
    any_nowhere (is_named c.args.end.instance)
    (λ (x : Instance). same_file x.grant.file c.args.end.file && (same_version c.args.end.stamp x.work.committed && ((not x.work.owes || is_spent c.args.told.now c.args.t.now x) && is_asked c.args.config.now c.args.told.now c.args.t.now (ends c.args.t.now.id x) (want.Close c.args.end.instance))))
    c.args.t.now.opened c.in-None.ensures.found
    ∙ with_true _ _ c.if-not-is_synced.ensures
