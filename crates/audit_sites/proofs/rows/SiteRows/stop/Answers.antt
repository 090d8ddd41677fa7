use Rattle.std.proofs.Common.{ap}
use Rattle.promises.specs.Past.{Site}
use Rattle.audit_sites.specs.Rows.{stops}
use Rattle.audit_sites.proofs.Places.{set_numbered, site_changed, site_same}
use Rattle.audit_sites.proofs.rows.SiteRows.stop.Goals as goal

pub invariant_of-self : goal.invariant_of-self
invariant_of-self c = (set_numbered c.in-Some.place c.index_mut-row.result.now c.stops.new.self c.self.inside.rows.items c.self.invariant.0 c.index_mut-row.ensures.value (ap (λ (s : Site). s.number) c.stops.ensures), c.self.invariant.1)

pub returns-in-Some : goal.returns-in-Some
returns-in-Some c = site_changed c.args.site c.in-Some.place stops c.index_mut-row.result.now c.stops.new.self c.args.self.now c.self.inside.rows.items c.as_slice.result.now
    c.self.invariant.0 c.self.view_is c.as_slice.ensures.value c.in-Some.ensures.some c.index_mut-row.ensures.value c.stops.ensures

pub returns-in_default : goal.returns-in_default
returns-in_default c = site_same c.args.site stops c.args.self.now c.self.inside.rows.items c.as_slice.result.now c.self.invariant.0 c.self.view_is c.as_slice.ensures.value c.in_default.ensures.none
