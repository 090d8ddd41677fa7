use Rattle.std.proofs.Common.{Err, ap, sym, subst, ◌∙◌, inl, inr, refl}
use Rattle.std.proofs.lemmas.Bool.{false≢true}
use Rattle.input_run.specs.declared.status.Status.{Status}
use Rattle.input_run.specs.declared.status.Status.TheVariants as status
use Rattle.input_run.specs.Codes.{ends_written}
use Rattle.input_run.specs.Inputs.Input.{Calls}
use Rattle.input_run.specs.Promises.{LinePromises}
use Rattle.input_run.proofs.Complete.{for_memory}
use Rattle.input_run.proofs.Openings.{tree_opens, not_opened, no_other, only_memory}
use Rattle.input_run.proofs.Runs.{Nothing-front}
use Rattle.input_run.proofs.commands.tree.Goals as goal

pub run_lines-requires-clause-opened : goal.run_lines-requires-clause-opened
run_lines-requires-clause-opened g c = tree_opens _ c.in-Ok.ensures.opened

pub run_lines-requires-clause-unread : goal.run_lines-requires-clause-unread
run_lines-requires-clause-unread g c = c.in-Ok-new.ensures

-- ---- the lines ----

pub returns-in-Ok-new-clause-promises : goal.returns-in-Ok-new-clause-promises
returns-in-Ok-new-clause-promises g c = c.run_lines.ensures.promises

pub returns-in-Ok-new-clause-words : goal.returns-in-Ok-new-clause-words
returns-in-Ok-new-clause-words g c = c.run_lines.ensures.words

pub returns-in-Ok-new-clause-flushed : goal.returns-in-Ok-new-clause-flushed
returns-in-Ok-new-clause-flushed g c = λ e. c.run_lines.ensures.held (ap ends_written e)

pub returns-in-Ok-new-clause-nothing_held : goal.returns-in-Ok-new-clause-nothing_held
returns-in-Ok-new-clause-nothing_held g c = λ e. inr (c.run_lines.ensures.held e)

pub returns-in-Ok-new-clause-read_fault : goal.returns-in-Ok-new-clause-read_fault
returns-in-Ok-new-clause-read_fault g c = c.run_lines.ensures.read_fault

pub returns-in-Ok-new-clause-write_fault : goal.returns-in-Ok-new-clause-write_fault
returns-in-Ok-new-clause-write_fault g c = c.run_lines.ensures.write_fault

-- ---- the opening was not done ----

pub status_of-requires : goal.status_of-requires
status_of-requires g c = λ cause e. c.new.ensures.complete cause (c.in-Err.is ∙ ap Err e)

pub returns-in-Err-clause-promises : goal.returns-in-Err-clause-promises
returns-in-Err-clause-promises g c =
    let P : Status → Type 0 = λ s. LinePromises Calls s (g.S.Source.left c.args.source.now) (g.S.Source.left c.args.source.now) (g.K.Sink.taken c.args.sink.now) (g.K.Sink.taken c.args.sink.now) in
    subst P (sym c.status_of.ensures) (not_opened c.in-Err.fault 0 _ _ _ (λ e. c.new.ensures.good (c.in-Err.is ∙ ap Err e)))

pub returns-in-Err-clause-words : goal.returns-in-Err-clause-words
returns-in-Err-clause-words g c = λ e. only_memory _ status.BadWords (no_other c.in-Err.fault 0 (λ f. c.new.ensures.good (c.in-Err.is ∙ ap Err f))) (λ x. cc) (sym c.status_of.ensures ∙ e)

pub returns-in-Err-clause-flushed : goal.returns-in-Err-clause-flushed
returns-in-Err-clause-flushed g c = λ e. absurd (only_memory _ status.Ok (no_other c.in-Err.fault 0 (λ f. c.new.ensures.good (c.in-Err.is ∙ ap Err f))) (λ x. cc) (sym c.status_of.ensures ∙ e))

pub returns-in-Err-clause-nothing_held : goal.returns-in-Err-clause-nothing_held
returns-in-Err-clause-nothing_held g c = λ e. inl refl

pub returns-in-Err-clause-read_fault : goal.returns-in-Err-clause-read_fault
returns-in-Err-clause-read_fault g c = λ e. absurd (only_memory _ status.ReadFault (no_other c.in-Err.fault 0 (λ f. c.new.ensures.good (c.in-Err.is ∙ ap Err f))) (λ x. cc) (sym c.status_of.ensures ∙ e))

pub returns-in-Err-clause-write_fault : goal.returns-in-Err-clause-write_fault
returns-in-Err-clause-write_fault g c = λ e. absurd (only_memory _ status.WriteFault (no_other c.in-Err.fault 0 (λ f. c.new.ensures.good (c.in-Err.is ∙ ap Err f))) (λ x. cc) (sym c.status_of.ensures ∙ e))

-- ---- no memory for the reader ----

pub returns-clause-promises : goal.returns-clause-promises
returns-clause-promises g c = for_memory Calls _ _ _ _ (Nothing-front Calls _ _)

pub returns-clause-words : goal.returns-clause-words
returns-clause-words g c = λ e. cc

pub returns-clause-flushed : goal.returns-clause-flushed
returns-clause-flushed g c = λ e. absurd (cc)

pub returns-clause-nothing_held : goal.returns-clause-nothing_held
returns-clause-nothing_held g c = λ e. absurd (false≢true e)

pub returns-clause-read_fault : goal.returns-clause-read_fault
returns-clause-read_fault g c = λ e. absurd (cc)

pub returns-clause-write_fault : goal.returns-clause-write_fault
returns-clause-write_fault g c = λ e. absurd (cc)
