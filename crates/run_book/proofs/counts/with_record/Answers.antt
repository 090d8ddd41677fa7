use Rattle.std.proofs.Common.{◌∙◌, sym, ap}
use Rattle.std.proofs.lemmas.Result.{IfOk-weaker}
use Rattle.the_run.specs.Commands.{counted_in}
use Rattle.run_book.specs.Writings.{counts_in}
use Rattle.run_book.proofs.counts.with_record.Goals as goal

pub returns-in-Answer : goal.returns-in-Answer
returns-in-Answer c =
    let met = c.in-Answer in
    IfOk-weaker c.with_reply.result _ _ (λ made h. h met.site met.process met.call ∙ ap (counted_in (counts_in c.args.counts)) (sym met.is)) c.with_reply.ensures
