use Rattle.std.proofs.Common.{ap}
use Rattle.promises.specs.Past.{Site}
use Rattle.audit_sites.specs.Rows.{holds_again}
use Rattle.audit_sites.proofs.Places.{set_numbered, site_changed, site_same}
use Rattle.audit_sites.proofs.rows.SiteRows.hold_again.Goals as goal

pub invariant_of-self : goal.invariant_of-self
invariant_of-self c = (set_numbered c.in-Some.place c.index_mut-row.result.now c.holds_again.new.self c.self.inside.rows.items c.self.invariant.0 c.index_mut-row.ensures.value (ap (λ (s : Site). s.number) c.holds_again.ensures), c.self.invariant.1)

pub returns-in-Some : goal.returns-in-Some
returns-in-Some c = site_changed c.args.site c.in-Some.place (holds_again c.args.process c.args.fd c.args.opening) c.index_mut-row.result.now c.holds_again.new.self c.args.self.now c.self.inside.rows.items c.as_slice.result.now
    c.self.invariant.0 c.self.view_is c.as_slice.ensures.value c.in-Some.ensures.some c.index_mut-row.ensures.value c.holds_again.ensures

pub returns-in_default : goal.returns-in_default
returns-in_default c = site_same c.args.site (holds_again c.args.process c.args.fd c.args.opening) c.args.self.now c.self.inside.rows.items c.as_slice.result.now c.self.invariant.0 c.self.view_is c.as_slice.ensures.value c.in_default.ensures.none
