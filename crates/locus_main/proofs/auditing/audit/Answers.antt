use Rattle.std.proofs.Common.{List, ℕ, Err, ap, sym, subst, ◌∙◌, inl, inr, refl}
use Rattle.std.specs.Io.KnownBytes.{Appends}
use Rattle.std.proofs.lemmas.Bool.{false≢true}
use Rattle.locus_io.specs.Causes.{AppendsFront}
use Rattle.input_run.specs.declared.status.Status.{Status}
use Rattle.input_run.specs.Codes.{ends_written}
use Rattle.locus_main.specs.Audits.{AuditPromises}
use Rattle.locus_main.proofs.Audits.{all_written, fault_no_ok, fault_no_words, fault_no_write, fault_of_read, front_written, no_answer, no_memory, write_no_ok, write_no_read, write_no_words}
use Rattle.input_run.proofs.Turns.{write_failed, write_holds}
use Rattle.locus_main.proofs.auditing.audit.Goals as goal

-- ---- there is no answer ----

pub returns-in-Err-clause-promises : goal.returns-in-Err-clause-promises
returns-in-Err-clause-promises g c =
    let P : Status → Type 0 = λ s. AuditPromises s (g.S.Source.left c.args.source.now) (g.S.Source.left c.audit.new.source) (g.K.Sink.taken c.args.sink.now) (g.K.Sink.taken c.args.sink.now) in
    subst P (sym c.status_of_audit.ensures) (no_answer c.in-Err.fault _ _ _ c.in-Err.ensures.ends)

pub returns-in-Err-clause-words : goal.returns-in-Err-clause-words
returns-in-Err-clause-words g c = λ e. fault_no_words c.in-Err.fault (sym c.status_of_audit.ensures ∙ e)

pub returns-in-Err-clause-flushed : goal.returns-in-Err-clause-flushed
returns-in-Err-clause-flushed g c = λ e. absurd (fault_no_ok c.in-Err.fault (sym c.status_of_audit.ensures ∙ e))

pub returns-in-Err-clause-nothing_held : goal.returns-in-Err-clause-nothing_held
returns-in-Err-clause-nothing_held g c = λ e. inl refl

pub returns-in-Err-clause-read_fault : goal.returns-in-Err-clause-read_fault
returns-in-Err-clause-read_fault g c = λ e. c.in-Err.ensures.fault (ap Err (fault_of_read c.in-Err.fault (sym c.status_of_audit.ensures ∙ e)))

pub returns-in-Err-clause-write_fault : goal.returns-in-Err-clause-write_fault
returns-in-Err-clause-write_fault g c = λ e. absurd (fault_no_write c.in-Err.fault (sym c.status_of_audit.ensures ∙ e))

-- ---- no memory for its text ----

pub returns-in-Err-text-clause-promises : goal.returns-in-Err-text-clause-promises
returns-in-Err-text-clause-promises g c = no_memory _ _ _

pub returns-in-Err-text-clause-words : goal.returns-in-Err-text-clause-words
returns-in-Err-text-clause-words g c = λ e. cc

pub returns-in-Err-text-clause-flushed : goal.returns-in-Err-text-clause-flushed
returns-in-Err-text-clause-flushed g c = λ e. absurd (cc)

pub returns-in-Err-text-clause-nothing_held : goal.returns-in-Err-text-clause-nothing_held
returns-in-Err-text-clause-nothing_held g c = λ e. absurd (false≢true e)

pub returns-in-Err-text-clause-read_fault : goal.returns-in-Err-text-clause-read_fault
returns-in-Err-text-clause-read_fault g c = λ e. absurd (cc)

pub returns-in-Err-text-clause-write_fault : goal.returns-in-Err-text-clause-write_fault
returns-in-Err-text-clause-write_fault g c = λ e. absurd (cc)

-- ---- the answer is written ----

pub returns-in-Ok-send-clause-promises : goal.returns-in-Ok-send-clause-promises
returns-in-Ok-send-clause-promises g c =
    let P : List ℕ → Type 0 = λ xs. Appends (g.K.Sink.taken c.args.sink.now) (g.K.Sink.taken c.send.new.sink) xs in
    all_written c.in-Ok.answer _ _ _ _ c.in-Ok.ensures.ends (subst P (c.as_slice.ensures ∙ c.in-Ok-text.ensures) c.in-Ok-send.ensures.ok)

pub returns-in-Ok-send-clause-words : goal.returns-in-Ok-send-clause-words
returns-in-Ok-send-clause-words g c = λ e. cc

pub returns-in-Ok-send-clause-flushed : goal.returns-in-Ok-send-clause-flushed
returns-in-Ok-send-clause-flushed g c = λ e. c.in-Ok-send.ensures.flushed

pub returns-in-Ok-send-clause-nothing_held : goal.returns-in-Ok-send-clause-nothing_held
returns-in-Ok-send-clause-nothing_held g c = λ e. inr c.in-Ok-send.ensures.flushed

pub returns-in-Ok-send-clause-read_fault : goal.returns-in-Ok-send-clause-read_fault
returns-in-Ok-send-clause-read_fault g c = λ e. absurd (cc)

pub returns-in-Ok-send-clause-write_fault : goal.returns-in-Ok-send-clause-write_fault
returns-in-Ok-send-clause-write_fault g c = λ e. absurd (cc)

-- ---- the write failed ----

pub returns-clause-promises : goal.returns-clause-promises
returns-clause-promises g c =
    let Front : List ℕ → Type 0 = λ xs. AppendsFront (g.K.Sink.taken c.args.sink.now) (g.K.Sink.taken c.send.new.sink) xs in
    let P : Status → Type 0 = λ s. AuditPromises s (g.S.Source.left c.args.source.now) (g.S.Source.left c.audit.new.source) (g.K.Sink.taken c.args.sink.now) (g.K.Sink.taken c.send.new.sink) in
    subst P (sym c.from.ensures) (front_written c.in-Ok.answer c.in-Err-send.fault _ _ _ _ c.in-Ok.ensures.ends (subst Front (c.as_slice.ensures ∙ c.in-Ok-text.ensures) c.in-Err-send.ensures.err))

pub returns-clause-words : goal.returns-clause-words
returns-clause-words g c = λ e. write_no_words c.in-Err-send.fault (sym c.from.ensures ∙ e)

pub returns-clause-flushed : goal.returns-clause-flushed
returns-clause-flushed g c = λ e. absurd (write_no_ok c.in-Err-send.fault (sym c.from.ensures ∙ e))

pub returns-clause-nothing_held : goal.returns-clause-nothing_held
returns-clause-nothing_held g c = λ e. absurd (false≢true (sym (write_holds c.in-Err-send.fault) ∙ (sym (ap ends_written c.from.ensures) ∙ e)))

pub returns-clause-read_fault : goal.returns-clause-read_fault
returns-clause-read_fault g c = λ e. absurd (write_no_read c.in-Err-send.fault (sym c.from.ensures ∙ e))

pub returns-clause-write_fault : goal.returns-clause-write_fault
returns-clause-write_fault g c = λ e. c.send.ensures.failed (c.in-Err-send.is ∙ ap Err (write_failed c.in-Err-send.fault (sym c.from.ensures ∙ e)))
