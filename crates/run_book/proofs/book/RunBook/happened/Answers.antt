use Rattle.std.proofs.Common.{◌≡◌, ℕ, List, length, sym, ap, ◌∙◌}
use Rattle.wire_messages.specs.Outboxes.{Outgoing}
use Rattle.packet_order.specs.Orders.{together}
use Rattle.run_book.specs.Ledgers.{Ledger, limit_of_sizes, lines_text, with_event_unless}
use Rattle.run_book.specs.declared.measures.Measured.{Measured}
use Rattle.run_book.proofs.Kept.{books_within, silent_books}
use Rattle.run_book.proofs.PartLetters.{as_many}
use Rattle.run_book.proofs.book.RunBook.happened.Goals as goal

pub returns-then-is_silent-clause-ok : goal.returns-then-is_silent-clause-ok
returns-then-is_silent-clause-ok c = silent_books c.args.line c.args.out.now c.args.self.now c.enter_nothing.new.self c.passed.result c.passed.ensures (sym c.is_some.ensures ∙ c.if-is_some.false) (c.is_silent.ensures c.if-is_silent.true) (c.enter_nothing.ensures c.args.line)

pub returns-clause-ok : goal.returns-clause-ok
returns-clause-ok c =
    let b = c.args.self.now in
    let n = c.args.line in
    let event = c.replace-event.result in
    let is : event ≡ c.measure.new.event = c.replace-event.ensures.value in
    let letters = ap (λ (m : Measured). m.letters) is ∙ c.in-Ok.ensures.letters in
    let bytes = ap (λ (m : Measured). m.bytes) is ∙ c.in-Ok.ensures.bytes in
    let words = ap (λ (m : Measured). m.text) is ∙ c.in-Ok.ensures.text in
    let text : event.text ≡ lines_text n (together c.parts.result.now).records = words ∙ ap (λ (o : Outgoing). lines_text n o.records) c.parts.ensures in
    c.self-2.view_is
    ∙ books_within n c.args.out.now.packets c.args.out.now.records b c.enter.new.self c.passed.result (length event.letters) event.bytes event.text
    c.passed.ensures (sym c.is_some.ensures ∙ c.if-is_some.false) (ap (λ (ls : List (List ℕ)). length ls) letters ∙ as_many c.args.out.now.packets) bytes words
    (c.in_ok-enter.ensures.ok n text
    ∙ ap (λ (l : Ledger). with_event_unless (limit_of_sizes (length event.letters) event.bytes (length event.text) l) n (together c.parts.result.now).packets (together c.parts.result.now).records l) c.self.view_is
    ∙ ap (λ (o : Outgoing). with_event_unless (limit_of_sizes (length event.letters) event.bytes (length event.text) b) n o.packets o.records b) (sym c.parts.ensures))
