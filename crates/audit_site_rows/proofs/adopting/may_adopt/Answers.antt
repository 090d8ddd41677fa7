use Rattle.audit_site_rows.specs.Rows.{adopts}
use Rattle.audit_site_rows.proofs.Home.{home_any, home_none, ok_as}
use Rattle.audit_site_rows.proofs.adopting.may_adopt.Goals as goal

pub returns-in-Some : goal.returns-in-Some
returns-in-Some c =
    ok_as c.adopts.result _ _
    (home_any c.args.told.now c.args.site c.home_of-home.result c.epochs.result.now (adopts c.args.told.now c.args.file c.args.site c.args.stamp) c.in-Some.row.now c.requires.apart
    c.home_of-home.ensures c.epochs.ensures c.in-Some.ensures)
    c.adopts.ensures

pub returns-in-None : goal.returns-in-None
returns-in-None c =
    home_none c.args.told.now c.args.site c.home_of-home.result c.epochs.result.now (adopts c.args.told.now c.args.file c.args.site c.args.stamp)
    c.home_of-home.ensures c.epochs.ensures c.in-None.ensures
