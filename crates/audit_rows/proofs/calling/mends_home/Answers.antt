use Rattle.promises.specs.Past.{Epoch, site_at}
use Rattle.tree_model.specs.Epochs.{is_in}
use Rattle.audit_row_parts.proofs.Homes.{any_found, any_nowhere, home_once}
use Rattle.audit_site_rows.proofs.Home.{ok_as}
use Rattle.audit_rows.specs.Mends.{mends_in}
use Rattle.audit_rows.proofs.calling.mends_home.Goals as goal

pub returns-in-Some : goal.returns-in-Some
returns-in-Some c =
    ok_as c.mends_in.result _ _
    (any_found (λ (t : Epoch). is_in (site_at c.args.told.now c.args.site).epoch t.id) (mends_in c.args.config.now c.args.told.now c.args.site c.args.file) c.args.told.now.epochs c.in-Some.t.now
    (home_once c.args.told.now.epochs (site_at c.args.told.now c.args.site).epoch c.requires.epochs) c.in-Some.ensures)
    c.mends_in.ensures

pub returns-in-None : goal.returns-in-None
returns-in-None c =
    any_nowhere (λ (t : Epoch). is_in (site_at c.args.told.now c.args.site).epoch t.id) (mends_in c.args.config.now c.args.told.now c.args.site c.args.file) c.args.told.now.epochs c.in-None.ensures
