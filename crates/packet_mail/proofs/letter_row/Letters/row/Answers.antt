use Rattle.std.proofs.Common.{List, ℕ, ap, ◌∙◌}
use Rattle.std.specs.List.{concat}
use Rattle.packet_mail.proofs.Spans.{row_is}
use Rattle.packet_mail.proofs.letter_row.Letters.row.Goals as goal

pub returns : goal.returns
returns c = c.as_slice.ensures ∙ (row_is c.self.inside.row c.self.inside.places.items c.self.invariant.1 ∙ ap (λ (ls : List (List ℕ)). concat ls) c.self.view_is)
