use Rattle.audit_sites.specs.Rows.{names}
use Rattle.audit_sites.proofs.Places.{set_numbered, site_changed, site_same}
use Rattle.audit_sites.proofs.rows.SiteRows.take_descriptor.Goals as goal

pub invariant_of-self : goal.invariant_of-self
invariant_of-self c = (set_numbered c.in-Some.place c.index_mut-row.result.now c.names.new.self c.self.inside.rows.items c.self.invariant.0 c.index_mut-row.ensures.value c.names.ensures.number, c.self.invariant.1)

pub invariant_of-self-in_err-names : goal.invariant_of-self-in_err-names
invariant_of-self-in_err-names c = (set_numbered c.in-Some.place c.index_mut-row.result.now c.names.new.self c.self.inside.rows.items c.self.invariant.0 c.index_mut-row.ensures.value c.names.ensures.number, c.self.invariant.1)

pub returns-in_ok-names : goal.returns-in_ok-names
returns-in_ok-names c = site_changed c.args.site c.in-Some.place (names (record { process = c.args.process; fd = c.args.fd; names = c.args.descriptor })) c.index_mut-row.result.now c.names.new.self c.args.self.now c.self.inside.rows.items c.as_slice.result.now
    c.self.invariant.0 c.self.view_is c.as_slice.ensures.value c.in-Some.ensures.some c.index_mut-row.ensures.value c.in_ok-names.ensures.ok

pub returns-in_default : goal.returns-in_default
returns-in_default c = site_same c.args.site (names (record { process = c.args.process; fd = c.args.fd; names = c.args.descriptor })) c.args.self.now c.self.inside.rows.items c.as_slice.result.now c.self.invariant.0 c.self.view_is c.as_slice.ensures.value c.in_default.ensures.none
