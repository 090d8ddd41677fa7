use Rattle.audit_sites.specs.Rows.{takes}
use Rattle.audit_sites.proofs.Places.{set_numbered, site_changed, site_same}
use Rattle.audit_sites.proofs.rows.SiteRows.has_now.Goals as goal

pub invariant_of-self : goal.invariant_of-self
invariant_of-self c = (set_numbered c.in-Some.place c.index_mut-row.result.now c.takes.new.self c.self.inside.rows.items c.self.invariant.0 c.index_mut-row.ensures.value c.takes.ensures.number, c.self.invariant.1)

pub invariant_of-self-in_err-takes : goal.invariant_of-self-in_err-takes
invariant_of-self-in_err-takes c = (set_numbered c.in-Some.place c.index_mut-row.result.now c.takes.new.self c.self.inside.rows.items c.self.invariant.0 c.index_mut-row.ensures.value c.takes.ensures.number, c.self.invariant.1)

pub returns-in_ok-takes : goal.returns-in_ok-takes
returns-in_ok-takes c = site_changed c.args.site c.in-Some.place (takes (record { file = c.args.file; stamp = c.args.stamp })) c.index_mut-row.result.now c.takes.new.self c.args.self.now c.self.inside.rows.items c.as_slice.result.now
    c.self.invariant.0 c.self.view_is c.as_slice.ensures.value c.in-Some.ensures.some c.index_mut-row.ensures.value c.in_ok-takes.ensures.ok

pub returns-in_default : goal.returns-in_default
returns-in_default c = site_same c.args.site (takes (record { file = c.args.file; stamp = c.args.stamp })) c.args.self.now c.self.inside.rows.items c.as_slice.result.now c.self.invariant.0 c.self.view_is c.as_slice.ensures.value c.in_default.ensures.none
