use Rattle.std.proofs.Common.{◌≡◌, Err, Some, ap, sym, ◌∙◌, refl}
use Rattle.run_book.specs.Ledgers.{limit_in}
use Rattle.input_run.specs.Codes.{limited}
use Rattle.input_run.proofs.Told.{AppendsFront-whole}
use Rattle.input_run.proofs.Turns.{Stopped, stopped_ends, stopped_at, stopped_no_write, write_failed, write_no_limit, always_err, always_ok, then_ok, then_err, at_err, hands_no_ok, hands_ends, hands_held, hands_is}
use Rattle.input_run.proofs.turn.tell.Goals as goal

-- ---- the write failed ----

pub returns-in_err-send-clause-ok : goal.returns-in_err-send-clause-ok
returns-in_err-send-clause-ok g c = λ all lines taken stands. hands_no_ok _ c.from_residual.result c.in_err-send.field-0.0 c.from_residual.ensures.1

pub returns-in_err-send-clause-limit : goal.returns-in_err-send-clause-limit
returns-in_err-send-clause-limit g c = λ all lines taken limit stands e. absurd (write_no_limit c.in_err-send.field-0.0 (limited limit) (hands_is c.from_residual.result c.in_err-send.field-0.0 _ c.from_residual.ensures.1 e))

pub returns-in_err-send-clause-err : goal.returns-in_err-send-clause-err
returns-in_err-send-clause-err g c = λ all lines taken stands. always_err c.from_residual.result
    (record { fresh = c.output.result.now; rest = c.output.ensures all lines taken stands; written = c.in_err-send.ensures.err })

pub returns-in_err-send-clause-flushed : goal.returns-in_err-send-clause-flushed
returns-in_err-send-clause-flushed g c = hands_no_ok _ c.from_residual.result c.in_err-send.field-0.0 c.from_residual.ensures.1

pub returns-in_err-send-clause-failed : goal.returns-in_err-send-clause-failed
returns-in_err-send-clause-failed g c = λ e. c.send.ensures.failed (c.in_err-send.was ∙ ap Err (write_failed c.in_err-send.field-0.0 (hands_is c.from_residual.result c.in_err-send.field-0.0 _ c.from_residual.ensures.1 e)))

pub returns-in_err-send-clause-only : goal.returns-in_err-send-clause-only
returns-in_err-send-clause-only g c = hands_ends c.from_residual.result c.in_err-send.field-0.0 c.from_residual.ensures.1

pub returns-in_err-send-clause-held : goal.returns-in_err-send-clause-held
returns-in_err-send-clause-held g c = hands_held _ c.from_residual.result c.in_err-send.field-0.0 c.from_residual.ensures.1

pub returns-in_err-send-clause-later : goal.returns-in_err-send-clause-later
returns-in_err-send-clause-later g c = c.send.ensures.later

-- ---- the output is written ----

pub returns-clause-ok : goal.returns-clause-ok
returns-clause-ok g c = λ all lines taken stands. then_ok c.stop_past.result c.stop_past.ensures.ok (λ none.
    let told = c.take_output.ensures all lines taken stands in
    record {
      told = told;
      passes = sym (c.limit.ensures all lines _ told) ∙ none;
      fresh = c.output.result.now;
      rest = c.output.ensures all lines taken stands;
      written = c.in_ok-send.ensures.ok;
    })

pub returns-clause-limit : goal.returns-clause-limit
returns-clause-limit g c = λ all lines taken limit stands e.
    let past : limit_in c.limit.result ≡ Some limit = stopped_at _ _ limit (at_err (Stopped (limit_in c.limit.result)) c.stop_past.result _ c.stop_past.ensures.err e) refl in
    let told = c.take_output.ensures all lines taken stands in
    record {
      told = told;
      passes = sym (c.limit.ensures all lines _ told) ∙ past;
      fresh = c.output.result.now;
      rest = c.output.ensures all lines taken stands;
      written = c.in_ok-send.ensures.ok;
    }

pub returns-clause-err : goal.returns-clause-err
returns-clause-err g c = λ all lines taken stands. always_err c.stop_past.result
    (record { fresh = c.output.result.now; rest = c.output.ensures all lines taken stands; written = AppendsFront-whole _ _ c.output.result.now c.in_ok-send.ensures.ok })

pub returns-clause-flushed : goal.returns-clause-flushed
returns-clause-flushed g c = always_ok c.stop_past.result c.in_ok-send.ensures.flushed

pub returns-clause-failed : goal.returns-clause-failed
returns-clause-failed g c = λ e. absurd (stopped_no_write (limit_in c.limit.result) _ (at_err (Stopped (limit_in c.limit.result)) c.stop_past.result _ c.stop_past.ensures.err e) refl)

pub returns-clause-only : goal.returns-clause-only
returns-clause-only g c = then_err c.stop_past.result c.stop_past.ensures.err (stopped_ends (limit_in c.limit.result))

pub returns-clause-held : goal.returns-clause-held
returns-clause-held g c = then_err c.stop_past.result c.stop_past.ensures.err (λ s stop ends. c.in_ok-send.ensures.flushed)

pub returns-clause-later : goal.returns-clause-later
returns-clause-later g c = c.send.ensures.later
