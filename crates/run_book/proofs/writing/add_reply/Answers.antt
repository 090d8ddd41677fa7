use Rattle.std.proofs.Common.{◌≡◌, ◌∙◌, ◌++◌, ◌-◌, drop, take, length, ap, arith}
use Rattle.std.proofs.lemmas.List.{length-drop, take_all}
use Rattle.trace_book.specs.Text.{entry_text}
use Rattle.run_book.proofs.Printing.{on_ok, reply_after}
use Rattle.run_book.proofs.writing.add_reply.Goals as goal

pub returns-in-len2-up : goal.returns-in-len2-up
returns-in-len2-up c =
    let met = c.in-Answer in
    let line : c.as_slice.result.now ≡ entry_text 0 c.args.what.now = c.as_slice.ensures ∙ (c.in_ok-render.ensures.ok ∙ ap (λ xs. xs ++ entry_text 0 c.args.what.now) c.new-line.ensures) in
    let slice = c.as_slice.result.now in
    let rest : take (length slice - 2) (drop 2 slice) ≡ drop 2 slice = take_all (length slice - 2) (drop 2 slice) (omega (arith, length-drop 2 slice)) in
    on_ok c.append.result _ _ (λ e. e ∙ ap (λ xs. c.args.out.now ++ xs) (rest ∙ ap (drop 2) line ∙ reply_after c.args.what.now met.site met.process met.call met.reply met.is)) c.append.ensures.ok
