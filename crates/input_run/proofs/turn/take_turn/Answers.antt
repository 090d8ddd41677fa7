use Rattle.std.proofs.Common.{◌≡◌, Err, true, ap, sym, ◌∙◌, inl, inr, refl, arith}
use Rattle.input_run.specs.Codes.{limited}
use Rattle.input_run.specs.declared.status.Status.TheVariants as status
use Rattle.input_run.specs.Turns.{ends_telling}
use Rattle.input_run.proofs.Turns.{line_is_bad, faults_end, no_limit_is, no_write_is, keeps_same, same_err, then_ok, then_err, then_on_err, at_err, telling_ends, telling_not}
use Rattle.input_run.proofs.turn.take_turn.Goals as goal

-- ---- the line was not done ----

pub status_of-requires : goal.status_of-requires
status_of-requires g c = λ cause e.
    let told = c.requires.told in
    c.run_next.ensures.complete told.0 told.1 _ cause told.2 told.3 (c.in-Err.is ∙ ap Err e)

pub returns-in-Err-clause-limit : goal.returns-in-Err-clause-limit
returns-in-Err-clause-limit g c = λ all lines limit counts told e. absurd (no_limit_is c.in-Err.fault c.args.number (limited limit) (sym c.status_of.ensures ∙ same_err _ _ e))

pub returns-in-Err-clause-bad : goal.returns-in-Err-clause-bad
returns-in-Err-clause-bad g c = λ all lines line told e.
    let b = line_is_bad c.in-Err.fault c.args.number line (sym c.status_of.ensures ∙ same_err _ _ e) in
    (b.1, c.run_next.ensures.bad all lines _ told (c.in-Err.is ∙ ap Err b.0), refl)

pub returns-in-Err-clause-err : goal.returns-in-Err-clause-err
returns-in-Err-clause-err g c = λ all lines counts told. inl (keeps_same _)

pub returns-in-Err-clause-failed : goal.returns-in-Err-clause-failed
returns-in-Err-clause-failed g c = λ e. absurd (no_write_is c.in-Err.fault c.args.number (sym c.status_of.ensures ∙ same_err _ _ e))

pub returns-in-Err-clause-only : goal.returns-in-Err-clause-only
returns-in-Err-clause-only g c = rw c.status_of.ensures (faults_end c.in-Err.fault c.args.number)

pub returns-in-Err-clause-held : goal.returns-in-Err-clause-held
returns-in-Err-clause-held g c = λ h. c.requires.flushed

pub returns-in-Err-clause-later : goal.returns-in-Err-clause-later
returns-in-Err-clause-later g c = omega arith

-- ---- the line was done, and its output is told ----

pub returns-clause-ok : goal.returns-clause-ok
returns-clause-ok g c = λ all lines counts told.
    let n = c.in-Ok.ensures.ran all lines _ counts told in
    then_ok c.tell.result (c.tell.ensures.ok _ _ _ n.ran) (λ tells. record { longer = n.longer; next = n.next; tells = tells })

pub returns-clause-limit : goal.returns-clause-limit
returns-clause-limit g c = λ all lines limit counts told e.
    let n = c.in-Ok.ensures.ran all lines _ counts told in
    record { longer = n.longer; next = n.next; tells = c.tell.ensures.limit _ _ _ limit n.ran e }

pub returns-clause-flushed : goal.returns-clause-flushed
returns-clause-flushed g c = c.tell.ensures.flushed

pub returns-clause-bad : goal.returns-clause-bad
returns-clause-bad g c = λ all lines line told e. absurd (telling_not _ (status.BadLine line) (at_err (λ s. ends_telling s ≡ true) c.tell.result _ c.tell.ensures.only e) refl refl)

pub returns-clause-err : goal.returns-clause-err
returns-clause-err g c = λ all lines counts told.
    let n = c.in-Ok.ensures.ran all lines _ counts told in
    then_on_err c.tell.result (c.tell.ensures.err _ _ _ n.ran) (λ tells. inr (record { longer = n.longer; next = n.next; tells = tells }))

pub returns-clause-failed : goal.returns-clause-failed
returns-clause-failed g c = c.tell.ensures.failed

pub returns-clause-only : goal.returns-clause-only
returns-clause-only g c = then_err c.tell.result c.tell.ensures.only telling_ends

pub returns-clause-held : goal.returns-clause-held
returns-clause-held g c = c.tell.ensures.held

pub returns-clause-later : goal.returns-clause-later
returns-clause-later g c = c.tell.ensures.later
