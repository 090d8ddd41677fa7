use Rattle.std.proofs.Common.{List, ℕ, length, ap, ◌∙◌}
use Rattle.packet_queue.specs.of_role_steps.Tables.{total}
use Rattle.packet_mail.proofs.Spans.{row_is, joined_size}
use Rattle.packet_mail.proofs.letter_row.Letters.size.Goals as goal

pub returns : goal.returns
returns c = c.len.ensures ∙ (ap (λ (bytes : List ℕ). length bytes) (row_is c.self.inside.row c.self.inside.places.items c.self.invariant.1) ∙ (joined_size _ ∙ ap (λ (ls : List (List ℕ)). total (λ (x : List ℕ). length x) ls) c.self.view_is))
