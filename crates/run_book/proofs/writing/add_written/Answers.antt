use Rattle.std.proofs.Common.{◌∙◌, ◌++◌, sym, ap}
use Rattle.std.proofs.lemmas.List.{append-nil}
use Rattle.packet_order.specs.Orders.{together}
use Rattle.run_book.specs.Writings.{lines_written}
use Rattle.run_book.proofs.Printing.{on_ok, written_nothing, written_replies, written_trace}
use Rattle.run_book.proofs.writing.add_written.Goals as goal

pub returns-in-Trace : goal.returns-in-Trace
returns-in-Trace c = λ n same.
    let records = (together c.args.parts.now).records in
    on_ok c.append.result _ _ (λ e. e ∙ ap (λ xs. c.args.fresh.now ++ xs) (c.as_slice.ensures ∙ (same ∙ (sym (written_trace n records) ∙ ap (λ w. lines_written w n records) (sym c.in-Trace.is))))) c.append.ensures.ok

pub returns-in-Replies : goal.returns-in-Replies
returns-in-Replies c = λ n same.
    let records = (together c.args.parts.now).records in
    on_ok c.add_all_replies.result _ _ (λ e. e ∙ ap (λ xs. c.args.fresh.now ++ xs) (sym (written_replies n records) ∙ ap (λ w. lines_written w n records) (sym c.in-Replies.is))) c.add_all_replies.ensures

pub returns-in-Nothing : goal.returns-in-Nothing
returns-in-Nothing c = λ n same.
    let records = (together c.args.parts.now).records in
    sym (append-nil c.args.fresh.now) ∙ ap (λ xs. c.args.fresh.now ++ xs) (sym (written_nothing n records) ∙ ap (λ w. lines_written w n records) (sym c.in-Nothing.is))
