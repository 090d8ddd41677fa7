use Rattle.audit_sites.proofs.Places.{site_is, site_none}
use Rattle.audit_sites.proofs.rows.SiteRows.site_at.Goals as goal

pub returns-in-Some : goal.returns-in-Some
returns-in-Some c = site_is c.args.site c.in-Some.place c.index.result.now c.args.self.now c.self.inside.rows.items c.as_slice.result.now
    c.self.invariant.0 c.self.view_is c.as_slice.ensures.value c.in-Some.ensures.some c.index.ensures

pub returns-in-None : goal.returns-in-None
returns-in-None c = site_none c.args.site c.self.inside.nobody c.args.self.now c.self.inside.rows.items c.as_slice.result.now
    c.self.invariant.0 c.self.view_is c.as_slice.ensures.value c.in-None.ensures.none c.self.invariant.1
