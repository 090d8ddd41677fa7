use Rattle.std.proofs.Common.{ℕ, List, length, ap, sym, ◌∙◌}
use Rattle.wire_messages.specs.Outboxes.{Outgoing}
use Rattle.role_steps.specs.Tables.{total}
use Rattle.the_run.specs.Worlds.{packet_size}
use Rattle.packet_order.specs.Orders.{together}
use Rattle.run_book.proofs.PartLetters.{sizes_are}
use Rattle.run_book.proofs.measures.measure.Goals as goal

pub returns-in-Ok-put_text-clause-bytes : goal.returns-in-Ok-put_text-clause-bytes
returns-in-Ok-put_text-clause-bytes c =
    c.size-event.ensures
    ∙ (ap (λ (xs : List (List ℕ)). total (λ (x : List ℕ). length x) xs) c.in-Ok.ensures.letters
    ∙ (sizes_are (together c.parts-parts.result.now).packets ∙ ap (λ (o : Outgoing). total packet_size o.packets) (sym c.parts-parts.ensures)))
