use Rattle.std.proofs.Common.{sym, ◌∙◌}
use Rattle.css_versions.proofs.files.place_of.Goals as goal

pub returns-clause-with : goal.returns-clause-with
returns-clause-with c = λ x same. c.place_in.ensures.with x (same ∙ sym c.from.ensures)
