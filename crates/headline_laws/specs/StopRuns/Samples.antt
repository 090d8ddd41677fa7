-- Traces with stops within disk calls, right ones and wrong ones: site 1 creates a file, and its first version takes four calls,
-- which are its slot and a sync, its gate and a sync.
use Rattle.std.specs.Prelude.{ℕ, List, [], ◌∷◌, None, Some, codes}
use Rattle.locus_ids.specs.declared.ids.Kind.TheVariants as kind
use Rattle.locus_ids.specs.declared.ids.Mode.TheVariants as mode
use Rattle.trace_book.specs.declared.call.Call.TheVariants as call
use Rattle.trace_book.specs.declared.operation.Op.TheVariants as op
use Rattle.trace_book.specs.declared.operation.Outcome.TheVariants as outcome
use Rattle.trace_book.specs.declared.record.StopCause.TheVariants as cause
use Rattle.trace_book.specs.declared.record.Record.TheVariants.{Stopped, Join, Start, Accept, Grant, Act, Commit, Release}
use Rattle.schedule_lines.specs.Cluster.{config_of}
use Rattle.schedule_lines.specs.declared.header.HeaderLine.TheVariants as header
use Rattle.schedule_lines.specs.declared.line.Leave.{Leave}
use Rattle.schedule_lines.specs.declared.line.Leave.TheVariants as leave
use Rattle.schedule_lines.specs.declared.line.Line.TheVariants as line
use Rattle.schedule_lines.specs.declared.line.ScheduleLine.{ScheduleLine}
use Rattle.schedule_lines.specs.declared.line.ScheduleLine.TheVariants.{Header, Event}
use Rattle.tree_model.specs.Folds.{Trace}
use Rattle.lawful_trace.specs.Samples.{Sample, at, first_of, epoch, caller, inst, file, stamp, brought, members}
use Rattle.headline_laws.specs.StopRuns.Stops.{CutsAreExact}

abbrev pub IsExact : Sample → Type 0
IsExact s = CutsAreExact (config_of s.lines) s.lines s.trace

abbrev pub armed_lines : ℕ → Leave → List ScheduleLine
armed_lines calls left =
    Header (header.Sites 1) ∷
    Header (header.Group 0 (record { 0 = 1 })) ∷
    Event (line.Merge 1) ∷
    Event (line.Settle 1000) ∷
    Event (line.ArmStop 1 calls left) ∷
    Event (line.Call 1 1 (call.Create (codes "/a") None)) ∷
    Event (line.Settle 1000) ∷
    []

-- up to the close of the new file, the latest record first
abbrev pub opened : Trace
opened =
    at 7 (Grant (epoch 1 1 1) (caller 1 1 1) 3 (inst 1 2) mode.Make (file 0 2) None 1) ∷
    at 7 (Act (epoch 1 1 1) (inst 1 1) 1 (op.Probe (codes "a")) outcome.Done) ∷
    at 7 (Grant (epoch 1 1 1) (caller 1 1 1) 1 (inst 1 1) mode.Write (file 0 1) (Some (stamp 0 0)) 1) ∷
    at 6 (Accept 1 1 (caller 1 1 1) (call.Create (codes "/a") None)) ∷
    at 4 (Start (epoch 1 1 1) 0 (brought 1 (stamp 0 0) ∷ [])) ∷
    at 3 (Join 1 (epoch 1 1 1) (members (1 ∷ []))) ∷
    []

-- up to its first version, and on to that of its directory, which takes seven calls
abbrev pub committed : Trace
committed = at 7 (Commit (file 0 2) 1 (stamp 1 1) [] []) ∷ opened

abbrev pub committed_twice : Trace
committed_twice =
    at 7 (Commit (file 0 1) 1 (stamp 1 1) (stamp 0 0 ∷ []) (1 ∷ 97 ∷ 0 ∷ 2 ∷ 1 ∷ 0 ∷ 0 ∷ 0 ∷ 1 ∷ [])) ∷
    at 7 (Act (epoch 1 1 1) (inst 1 1) 2 (op.Insert (codes "a") 2 kind.File) outcome.Done) ∷
    at 7 (Release (epoch 1 1 1) (inst 1 2) (file 0 2) (Some (stamp 1 1))) ∷
    committed

-- Right ones.

-- three calls pass, and the last sync is cut, which leaves the gate open: the version stays, and is told
abbrev pub version_that_stays : Sample
version_that_stays = record {
  lines = armed_lines 3 leave.New;
  trace = at 7 (Stopped 1 cause.Fuse) ∷ committed;
}

-- the same, but what wasn't synced is as it was: the gate is shut, and the version isn't told
abbrev pub version_that_is_lost : Sample
version_that_is_lost = record {
  lines = armed_lines 3 leave.Old;
  trace = at 7 (Stopped 1 cause.Fuse) ∷ opened;
}

abbrev pub booted_lines : ℕ → List ScheduleLine
booted_lines calls = Header (header.Sites 1) ∷ Header (header.Group 0 (record { 0 = 1 })) ∷ Event (line.Stop 1) ∷ Event (line.ArmFail 1 calls) ∷ Event (line.Boot 1) ∷ []

abbrev pub booted : Trace
booted = at 5 (Stopped 1 cause.Fault) ∷ at 3 (Stopped 1 cause.Asked) ∷ []

-- the last of the six calls of a boot fails
abbrev pub boot_that_fails : Sample
boot_that_fails = record { lines = booted_lines 5; trace = booted }

-- Wrong ones, which are lawful by the rows.

-- a thousand calls pass, and none was made: a call waits, and nothing is open
abbrev pub stop_before_any_call : Sample
stop_before_any_call = record {
  lines = armed_lines 1000 leave.Old;
  trace = at 7 (Stopped 1 cause.Fuse) ∷ first_of 3 opened;
}

-- a version is told that what the stop left took away
abbrev pub version_that_leave_took_away : Sample
version_that_leave_took_away = record {
  lines = armed_lines 3 leave.Old;
  trace = at 7 (Stopped 1 cause.Fuse) ∷ committed;
}

-- eight calls pass, eleven were made, and nothing stops the site
abbrev pub disk_that_goes_on : Sample
disk_that_goes_on = record { lines = armed_lines 8 leave.New; trace = committed_twice }

-- all six calls of a boot pass
abbrev pub boot_that_was_over : Sample
boot_that_was_over = record { lines = booted_lines 6; trace = booted }
