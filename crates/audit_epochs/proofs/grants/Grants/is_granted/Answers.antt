use Rattle.std.proofs.Common.{ap, ◌∙◌}
use Rattle.std.specs.Option.{is_some}
use Rattle.key_places.specs.Places.{place_of}
use Rattle.audit_epochs.proofs.Granting.{granted_by_place}
use Rattle.audit_epochs.proofs.grants.Grants.is_granted.Goals as goal

pub returns : goal.returns
returns c = c.is_some.ensures ∙ (ap is_some c.place.ensures.place ∙ (ap (λ k. is_some (place_of k c.self.inside.by_inst)) c.serial_key.ensures ∙ granted_by_place _ c.args.self.now c.self.inside.by_inst c.args.inst c.self.view_is c.self.invariant.0))
