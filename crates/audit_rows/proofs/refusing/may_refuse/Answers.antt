use Rattle.std.proofs.Common.{◌≡◌, false, refl, ap, ◌∙◌}
use Rattle.promises.specs.Past.{Epoch, unformed}
use Rattle.promises.specs.Rows.{may_refuse}
use Rattle.audit_site_rows.proofs.Home.{ok_as}
use Rattle.audit_rows.proofs.Found.{found_at, unformed_at}
use Rattle.audit_rows.proofs.refusing.may_refuse.Goals as goal

pub returns-in-Some : goal.returns-in-Some
returns-in-Some c =
    ok_as c.refuses.result _ _
    (ap (λ (t : Epoch). may_refuse c.args.config.now c.args.told.now t c.args.open.call c.args.open.request c.args.open.mode c.args.open.file c.args.why.now) (found_at c.args.told.now c.args.epoch c.in-Some.t.now c.in-Some.ensures))
    c.refuses.ensures

pub returns-in-None : goal.returns-in-None
returns-in-None c =
    let nothing : false ≡ may_refuse c.args.config.now c.args.told.now (unformed c.args.epoch) c.args.open.call c.args.open.request c.args.open.mode c.args.open.file c.args.why.now = refl in
    nothing ∙ ap (λ (t : Epoch). may_refuse c.args.config.now c.args.told.now t c.args.open.call c.args.open.request c.args.open.mode c.args.open.file c.args.why.now) (unformed_at c.args.told.now c.args.epoch c.in-None.ensures)
