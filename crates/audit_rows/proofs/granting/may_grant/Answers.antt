use Rattle.std.proofs.Common.{◌≡◌, false, refl, ap, ◌∙◌}
use Rattle.promises.specs.Past.{Epoch, unformed}
use Rattle.promises.specs.Rows.{may_grant}
use Rattle.audit_site_rows.proofs.Home.{ok_as}
use Rattle.audit_rows.proofs.Found.{found_at, unformed_at}
use Rattle.audit_rows.proofs.granting.may_grant.Goals as goal

pub returns-in-Some : goal.returns-in-Some
returns-in-Some c =
    ok_as c.grants.result _ _
    (ap (λ (t : Epoch). may_grant c.args.config.now c.args.told.now t c.args.open.call c.args.open.request c.args.grant.instance c.args.open.mode c.args.open.file c.args.grant.stamp c.args.grant.ss) (found_at c.args.told.now c.args.epoch c.in-Some.t.now c.in-Some.ensures))
    c.grants.ensures

pub returns-in-None : goal.returns-in-None
returns-in-None c =
    let nothing : false ≡ may_grant c.args.config.now c.args.told.now (unformed c.args.epoch) c.args.open.call c.args.open.request c.args.grant.instance c.args.open.mode c.args.open.file c.args.grant.stamp c.args.grant.ss = refl in
    nothing ∙ ap (λ (t : Epoch). may_grant c.args.config.now c.args.told.now t c.args.open.call c.args.open.request c.args.grant.instance c.args.open.mode c.args.open.file c.args.grant.stamp c.args.grant.ss) (unformed_at c.args.told.now c.args.epoch c.in-None.ensures)
