use Rattle.std.proofs.Common.{◌∙◌, ap, List}
use Rattle.std.specs.Option.{is_some}
use Rattle.key_places.specs.declared.key.Key.{Key}
use Rattle.key_places.specs.Places.{place_of}
use Rattle.promises.specs.Past.{Making}
use Rattle.audit_sites.specs.Files.{is_made}
use Rattle.audit_sites.proofs.Files.{made_is}
use Rattle.audit_sites.proofs.makings.Makings.is_made.Goals as goal

pub returns : goal.returns
returns c =
    c.is_some.ensures ∙ ap is_some c.place.ensures.place
    ∙ ap (λ (k : Key). is_some (place_of k c.self.inside.places)) c.file_key.ensures
    ∙ made_is c.self.inside.rows.items c.self.inside.places c.args.file c.self.invariant
    ∙ ap (λ (ms : List Making). is_made ms c.args.file) c.self.view_is
