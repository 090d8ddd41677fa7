use Rattle.std.proofs.Common.{ap, ◌∙◌}
use Rattle.std.specs.Option.{is_some}
use Rattle.key_places.specs.Places.{place_of}
use Rattle.audit_epochs.proofs.Granting.{taken_by_place}
use Rattle.audit_epochs.proofs.grants.Grants.is_taken.Goals as goal

pub returns : goal.returns
returns c = c.is_some.ensures ∙ (ap is_some c.place.ensures.place ∙ (ap (λ k. is_some (place_of k c.self.inside.by_file)) c.file_key.ensures ∙ taken_by_place _ c.args.self.now c.self.inside.by_file c.args.file c.self.view_is c.self.invariant.1))
