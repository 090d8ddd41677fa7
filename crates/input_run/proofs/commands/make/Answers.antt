use Rattle.std.proofs.Common.{List, ℕ, Err, ap, sym, subst, ◌∙◌, inl, inr, refl}
use Rattle.std.specs.Io.KnownBytes.{Appends}
use Rattle.std.proofs.lemmas.Bool.{false≢true}
use Rattle.locus_io.specs.Causes.{AppendsFront}
use Rattle.the_run.specs.Runs.{run}
use Rattle.the_run.specs.Commands.{load_lines, load_text}
use Rattle.generated_load.specs.Draws.{draws_of}
use Rattle.input_run.specs.declared.status.Status.{Status}
use Rattle.input_run.specs.declared.status.Status.TheVariants as status
use Rattle.input_run.specs.Codes.{ends_written}
use Rattle.input_run.specs.Promises.{LoadPromises}
use Rattle.input_run.proofs.Loads.{load_whole, load_unwritten, load_undone, undone_no_write, undone_not_ok, undone_ends, write_ends_load, write_not_ok, load_not}
use Rattle.input_run.proofs.Turns.{write_failed, write_holds}
use Rattle.input_run.proofs.commands.make.Goals as goal

pub run_load-requires : goal.run_load-requires
run_load-requires g c = c.requires

-- ---- the load was not run to its end ----

pub status_of_load-requires : goal.status_of_load-requires
status_of_load-requires g c = λ cause e. c.run_load.ensures.complete cause (c.in-Err.is ∙ ap Err e)

pub returns-in-Err-clause-promises : goal.returns-in-Err-clause-promises
returns-in-Err-clause-promises g c =
    let P : Status → Type 0 = λ s. LoadPromises (run (load_lines (draws_of c.args.number c.args.events))).over (load_text (draws_of c.args.number c.args.events)) s (g.K.Sink.taken c.args.sink.now) (g.K.Sink.taken c.args.sink.now) in
    subst P (sym c.status_of_load.ensures) (load_undone _ _ c.in-Err.fault _ (λ p e. c.run_load.ensures.limit p (c.in-Err.is ∙ ap Err e)))

pub returns-in-Err-clause-words : goal.returns-in-Err-clause-words
returns-in-Err-clause-words g c = λ e. load_not _ status.BadWords (undone_ends c.in-Err.fault) refl (sym c.status_of_load.ensures ∙ e)

pub returns-in-Err-clause-reads : goal.returns-in-Err-clause-reads
returns-in-Err-clause-reads g c = λ e. load_not _ status.ReadFault (undone_ends c.in-Err.fault) refl (sym c.status_of_load.ensures ∙ e)

pub returns-in-Err-clause-flushed : goal.returns-in-Err-clause-flushed
returns-in-Err-clause-flushed g c = λ e. absurd (undone_not_ok c.in-Err.fault (sym c.status_of_load.ensures ∙ e))

pub returns-in-Err-clause-nothing_held : goal.returns-in-Err-clause-nothing_held
returns-in-Err-clause-nothing_held g c = λ e. inl refl

pub returns-in-Err-clause-write_fault : goal.returns-in-Err-clause-write_fault
returns-in-Err-clause-write_fault g c = λ e. absurd (undone_no_write c.in-Err.fault (sym c.status_of_load.ensures ∙ e))

-- ---- the counts are written ----

pub returns-in-Ok-send-clause-promises : goal.returns-in-Ok-send-clause-promises
returns-in-Ok-send-clause-promises g c =
    let P : List ℕ → Type 0 = λ xs. Appends (g.K.Sink.taken c.args.sink.now) (g.K.Sink.taken c.send.new.sink) xs in
    load_whole _ _ _ _ c.in-Ok.ensures.within (subst P (c.as_slice.ensures ∙ c.in-Ok.ensures.text) c.in-Ok-send.ensures.ok)

pub returns-in-Ok-send-clause-words : goal.returns-in-Ok-send-clause-words
returns-in-Ok-send-clause-words g c = λ e. cc

pub returns-in-Ok-send-clause-reads : goal.returns-in-Ok-send-clause-reads
returns-in-Ok-send-clause-reads g c = λ e. cc

pub returns-in-Ok-send-clause-flushed : goal.returns-in-Ok-send-clause-flushed
returns-in-Ok-send-clause-flushed g c = λ e. c.in-Ok-send.ensures.flushed

pub returns-in-Ok-send-clause-nothing_held : goal.returns-in-Ok-send-clause-nothing_held
returns-in-Ok-send-clause-nothing_held g c = λ e. inr c.in-Ok-send.ensures.flushed

pub returns-in-Ok-send-clause-write_fault : goal.returns-in-Ok-send-clause-write_fault
returns-in-Ok-send-clause-write_fault g c = λ e. absurd (cc)

-- ---- the write failed ----

pub returns-clause-promises : goal.returns-clause-promises
returns-clause-promises g c =
    let Front : List ℕ → Type 0 = λ xs. AppendsFront (g.K.Sink.taken c.args.sink.now) (g.K.Sink.taken c.send.new.sink) xs in
    let P : Status → Type 0 = λ s. LoadPromises (run (load_lines (draws_of c.args.number c.args.events))).over (load_text (draws_of c.args.number c.args.events)) s (g.K.Sink.taken c.args.sink.now) (g.K.Sink.taken c.send.new.sink) in
    subst P (sym c.from.ensures) (load_unwritten _ _ c.in-Err-send.fault _ _ c.in-Ok.ensures.within (subst Front (c.as_slice.ensures ∙ c.in-Ok.ensures.text) c.in-Err-send.ensures.err))

pub returns-clause-words : goal.returns-clause-words
returns-clause-words g c = λ e. load_not _ status.BadWords (write_ends_load c.in-Err-send.fault) refl (sym c.from.ensures ∙ e)

pub returns-clause-reads : goal.returns-clause-reads
returns-clause-reads g c = λ e. load_not _ status.ReadFault (write_ends_load c.in-Err-send.fault) refl (sym c.from.ensures ∙ e)

pub returns-clause-flushed : goal.returns-clause-flushed
returns-clause-flushed g c = λ e. absurd (write_not_ok c.in-Err-send.fault (sym c.from.ensures ∙ e))

pub returns-clause-nothing_held : goal.returns-clause-nothing_held
returns-clause-nothing_held g c = λ e. absurd (false≢true (sym (write_holds c.in-Err-send.fault) ∙ (sym (ap ends_written c.from.ensures) ∙ e)))

pub returns-clause-write_fault : goal.returns-clause-write_fault
returns-clause-write_fault g c = λ e. c.send.ensures.failed (c.in-Err-send.is ∙ ap Err (write_failed c.in-Err-send.fault (sym c.from.ensures ∙ e)))
