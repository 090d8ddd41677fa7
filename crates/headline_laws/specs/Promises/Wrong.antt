-- Traces that break a promise, each at its last lines: in all else as one site makes a file, writes it and closes it.
use Rattle.std.specs.Prelude.{[], ◌∷◌, drop}
use Rattle.locus_ids.specs.declared.config.Config.{Config}
use Rattle.trace_book.specs.declared.call.Call.TheVariants as call
use Rattle.trace_book.specs.declared.operation.Op.TheVariants as op
use Rattle.trace_book.specs.declared.operation.Outcome.TheVariants as outcome
use Rattle.trace_book.specs.declared.record.Record.TheVariants.{Accept, Act, Adopt, Answer, Commit}
use Rattle.trace_book.specs.declared.reply.Reply.TheVariants as reply
use Rattle.schedule_lines.specs.Cluster.{config_of}
use Rattle.tree_model.specs.Folds.{Trace}
use Rattle.lawful_trace.specs.Samples.{at, caller, epoch, file, inst, stamp}
use Rattle.trace_samples.specs.FirstRun.{first_lines, first_trace}

abbrev pub of_first : Config
of_first = config_of first_lines

-- the file has been made, opened and written
abbrev pub until_written : Trace
until_written = drop 11 first_trace

-- it is committed while its process asks for an abort
abbrev pub commit_at_an_abort : Trace
commit_at_an_abort =
    at 12 (Commit (file 0 2) 1 (stamp 1 2) ((stamp 1 1) ∷ []) (104 ∷ 105 ∷ [])) ∷
    at 11 (Accept 1 1 (caller 1 1 4) (call.Abort 0)) ∷
    until_written

-- it has been closed, and its site adopts the older version
abbrev pub site_that_falls_back : Trace
site_that_falls_back =
    at 14 (Adopt (file 0 2) 1 (stamp 1 1)) ∷
    drop 7 first_trace

-- a commit is acknowledged that no record tells
abbrev pub stamp_of_no_commit : Trace
stamp_of_no_commit =
    at 12 (Answer 1 1 (caller 1 1 4) (reply.Committed (stamp 1 2))) ∷
    at 12 (Act (epoch 1 1 1) (inst 1 3) 2 op.Commit (outcome.Committed (stamp 1 2))) ∷
    at 11 (Accept 1 1 (caller 1 1 4) (call.Commit 0)) ∷
    until_written
