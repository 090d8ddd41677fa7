use Rattle.std.proofs.Common.{◌∙◌, ap, List}
use Rattle.key_places.specs.declared.key.Key.{Key}
use Rattle.key_places.specs.Places.{place_of}
use Rattle.promises.specs.Past.{Making}
use Rattle.audit_sites.specs.Files.{said_of}
use Rattle.audit_sites.proofs.Files.{row_found, none_found}
use Rattle.audit_sites.proofs.makings.Makings.said_of.Goals as goal

pub returns-in-Some : goal.returns-in-Some
returns-in-Some c =
    c.index.ensures
    ∙ row_found c.self.inside.rows.items c.self.inside.places c.args.file c.in-Some.place c.index.result.now c.self.invariant c.in-Some.ensures.within
    (c.in-Some.ensures.place ∙ ap (λ (k : Key). place_of k c.self.inside.places) c.file_key.ensures)
    ∙ ap (λ (ms : List Making). said_of ms c.args.file) c.self.view_is

pub returns-in-None : goal.returns-in-None
returns-in-None c =
    none_found c.self.inside.rows.items c.self.inside.places c.args.file c.self.invariant
    (c.in-None.ensures.place ∙ ap (λ (k : Key). place_of k c.self.inside.places) c.file_key.ensures)
    ∙ ap (λ (ms : List Making). said_of ms c.args.file) c.self.view_is
