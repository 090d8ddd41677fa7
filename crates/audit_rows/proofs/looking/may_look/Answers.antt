use Rattle.std.proofs.Common.{◌≡◌, false, refl, ap, ◌∙◌}
use Rattle.promises.specs.Past.{Epoch, unformed}
use Rattle.promises.specs.Rows.{may_look}
use Rattle.audit_site_rows.proofs.Home.{ok_as}
use Rattle.audit_rows.proofs.Found.{found_at, unformed_at}
use Rattle.audit_rows.proofs.looking.may_look.Goals as goal

pub returns-in-Some : goal.returns-in-Some
returns-in-Some c =
    ok_as c.looks.result _ _
    (ap (λ (t : Epoch). may_look c.args.config.now c.args.told.now t c.args.look.call c.args.look.request c.args.look.file c.args.look.what.now c.args.served.now) (found_at c.args.told.now c.args.epoch c.in-Some.t.now c.in-Some.ensures))
    c.looks.ensures

pub returns-in-None : goal.returns-in-None
returns-in-None c =
    let nothing : false ≡ may_look c.args.config.now c.args.told.now (unformed c.args.epoch) c.args.look.call c.args.look.request c.args.look.file c.args.look.what.now c.args.served.now = refl in
    nothing ∙ ap (λ (t : Epoch). may_look c.args.config.now c.args.told.now t c.args.look.call c.args.look.request c.args.look.file c.args.look.what.now c.args.served.now) (unformed_at c.args.told.now c.args.epoch c.in-None.ensures)
