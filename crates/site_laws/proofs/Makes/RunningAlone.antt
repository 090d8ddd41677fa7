-- In every run a site commits a file alone: no other grant of the file in the epoch is left, makes apart.
use Rattle.std.proofs.Common.{ℕ, List, [], ◌∷◌, sym, inl, inr}
use Rattle.locus_ids.specs.declared.ids.EpochId.{EpochId}
use Rattle.locus_ids.specs.declared.ids.FileId.{FileId}
use Rattle.locus_ids.specs.declared.ids.Mode.{Mode}
use Rattle.locus_ids.specs.declared.config.Config.{Config}
use Rattle.schedule_lines.specs.declared.line.ScheduleLine.{ScheduleLine}
use Rattle.trace_book.specs.declared.record.Record.{Record}
use Rattle.trace_book.specs.declared.record.Record.TheVariants as says
use Rattle.role_steps.specs.Views.{Told, Shown}
use Rattle.the_run.specs.Runs.{run_in}
use Rattle.site_laws.specs.Vectors.Written.{past_of}
use Rattle.site_laws.specs.Locks.Locks.{IsOfAFile}
use Rattle.site_laws.specs.Locks.Grants.{IsOver, GrantsAreLocked}
use Rattle.site_laws.proofs.Locks.Facts.{Later, same_later, one_later, then_later}
use Rattle.site_laws.proofs.Locks.GrantsRun.{run_grants}
use Rattle.site_laws.proofs.Packs.WriterGranting.{apart}
use Rattle.site_laws.proofs.Packs.WriterWriters.{alone}
use Rattle.site_laws.specs.Makes.RunningRunning.{IsRunning, ToldRuns, InstancesRun, PlainGrantsStand, RecordAlone, ToldAlone, WritersCommitAlone}
use Rattle.site_laws.proofs.Makes.RunningRefusals.{run_plain_grants}
use Rattle.site_laws.proofs.Makes.RunningRunTold.{run_instances}

-- a running instance's grant isn't over, makes apart
running_left : (full older : List Told) (s : ℕ) (e : EpochId) (key : ℕ) (file : FileId) (m : Mode) → PlainGrantsStand full → Later older full → IsRunning older s e key file m → IsOfAFile m → IsOver older e key → ⊥
running_left full older s e key file m stand later h plain (inl r) = h.not_released r
running_left full older s e key file m stand later h plain (inr r) = stand e key s file file m plain (later _ h.granted) (later _ h.was_begun) (later _ r)

record_alone : (full older : List Told) (r : Record) → PlainGrantsStand full → Later older full → GrantsAreLocked older → ToldRuns older (Shown r) → RecordAlone older r
record_alone full older (says.Commit file s stamp parents content) stand later locked h =
    let left : IsOfAFile h.mode → IsOver older h.epoch h.key → ⊥ = λ plain. running_left full older s h.epoch h.key file h.mode stand later h.runs plain in
    record {
      epoch = h.epoch;
      key = h.key;
      mode = h.mode;
      runs = h.runs;
      writes = h.writes;
      left = left;
      alone = λ j n plain other granted over. sym (alone older (apart older locked) h.epoch file h.key j h.mode n h.writes plain other h.runs.granted granted (left plain) over);
    }
record_alone full older _ stand later locked h = tt

told_alone : (full older : List Told) (x : Told) → PlainGrantsStand full → Later older full → GrantsAreLocked older → ToldRuns older x → ToldAlone older x
told_alone full older (Shown r) stand later locked h = record_alone full older r stand later locked h
told_alone full older _ stand later locked h = tt

each_alone : (full past : List Told) → PlainGrantsStand full → Later past full → GrantsAreLocked past → InstancesRun past → WritersCommitAlone past
each_alone full [] stand later locked h = tt
each_alone full (x ∷ older) stand later locked h =
    let before : Later older full = then_later older (x ∷ older) full (one_later x older) later in
    (told_alone full older x stand before locked.1 h.0, each_alone full older stand before locked.1 h.1)

pub run_alone : (c : Config) (lines : List ScheduleLine) → WritersCommitAlone (past_of (run_in c lines).trace)
run_alone c lines = let past : List Told = past_of (run_in c lines).trace in each_alone past past (run_plain_grants c lines) (same_later past) (run_grants c lines) (run_instances c lines)
