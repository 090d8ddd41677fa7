use Rattle.audit_site_rows.specs.Rows.{commits_in}
use Rattle.audit_site_rows.proofs.Home.{home_any, home_none, ok_as}
use Rattle.audit_site_rows.proofs.committing.may_commit.Goals as goal

pub returns-in-Some : goal.returns-in-Some
returns-in-Some c =
    ok_as c.commits.result _ _
    (home_any c.args.told.now c.args.commit.now.site c.home_of-home.result c.epochs.result.now
    (commits_in c.args.told.now c.args.file c.args.commit.now.site c.args.commit.now.stamp c.args.commit.now.parents.now c.args.commit.now.content.now) c.in-Some.row.now c.requires.apart
    c.home_of-home.ensures c.epochs.ensures c.in-Some.ensures)
    c.commits.ensures

pub returns-in-None : goal.returns-in-None
returns-in-None c =
    home_none c.args.told.now c.args.commit.now.site c.home_of-home.result c.epochs.result.now
    (commits_in c.args.told.now c.args.file c.args.commit.now.site c.args.commit.now.stamp c.args.commit.now.parents.now c.args.commit.now.content.now)
    c.home_of-home.ensures c.epochs.ensures c.in-None.ensures
