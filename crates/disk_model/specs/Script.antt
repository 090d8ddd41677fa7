-- What a script has the calls of a disk meet.
use Rattle.std.specs.Prelude.{ℕ, zero, suc, ◌+◌, ◌-◌, ◌^◌, min, Option, None, Some, Result, Ok, Err}
use Rattle.disk_model.specs.declared.disk.DiskFault.{DiskFault}
use Rattle.disk_model.specs.declared.disk.DiskFault.TheVariants.{Failed}
use Rattle.disk_model.specs.declared.script.Fired.{Fired}
use Rattle.disk_model.specs.declared.script.Fired.TheVariants.{No, Stop, Fault}
use Rattle.disk_model.specs.declared.script.Armed.{Armed}
use Rattle.disk_model.specs.declared.script.Armed.TheVariants.{Nothing, StopAfter, FaultAfter}
use Rattle.disk_model.specs.declared.script.Turn.{Turn}
use Rattle.disk_model.specs.declared.script.Turn.TheVariants.{Passes, Stops, Fails}
use Rattle.disk_model.specs.declared.script.Script.{Script}
use Rattle.disk_model.specs.Cut.{Cut}
use Rattle.disk_model.specs.Cut as cut
use Rattle.disk_model.specs.Disk.{Passing, Untold, All, Exactly}

-- what the next write or sync meets
abbrev pub turn_at : Fired → Armed → Turn
turn_at No Nothing = Passes
turn_at No (StopAfter zero leave) = Stops leave
turn_at No (StopAfter (suc calls) leave) = Passes
turn_at No (FaultAfter zero) = Fails
turn_at No (FaultAfter (suc calls)) = Passes
turn_at Stop armed = Fails
turn_at Fault armed = Fails

-- what the next read meets
abbrev pub read_turn_at : Fired → Option ℕ → Turn
read_turn_at No None = Passes
read_turn_at No (Some zero) = Fails
read_turn_at No (Some (suc calls)) = Passes
read_turn_at Stop reads = Fails
read_turn_at Fault reads = Fails

-- how many more writes and syncs pass; nothing is told once the script has fired, or while a read is to fail
abbrev pub passing_at : Fired → Option ℕ → Armed → Passing
passing_at No None Nothing = All
passing_at No None (StopAfter calls leave) = Exactly calls
passing_at No None (FaultAfter calls) = Exactly calls
passing_at No (Some reads) armed = Untold
passing_at Stop reads armed = Untold
passing_at Fault reads armed = Untold

abbrev pub turn_of : Script → Turn
turn_of script = turn_at script.fired script.writes

abbrev pub read_turn_of : Script → Turn
read_turn_of script = read_turn_at script.fired script.reads

abbrev pub passing_of : Script → Passing
passing_of script = passing_at script.fired script.reads script.writes

-- what a call answers at its turn
abbrev pub outcome : Turn → Result (Unit {0}) DiskFault
outcome Passes = Ok tt
outcome (Stops leave) = Err Failed
outcome Fails = Err Failed

-- what has fired after that turn: a stop or a fault stays until the crash
abbrev pub fired_after : Turn → Fired → Fired
fired_after Passes fired = fired
fired_after (Stops leave) fired = Stop
fired_after Fails No = Fault
fired_after Fails Stop = Stop
fired_after Fails Fault = Fault

-- how often a call has failed after that turn, as far as the count goes
abbrev pub faults_after : Turn → ℕ → ℕ
faults_after Passes faults = faults
faults_after (Stops leave) faults = min (faults + 1) (2 ^ 64 - 1)
faults_after Fails faults = min (faults + 1) (2 ^ 64 - 1)

-- what is armed after a write or a sync: one fewer passes, until the script has fired
abbrev pub writes_after : Fired → Armed → Armed
writes_after No Nothing = Nothing
writes_after No (StopAfter calls leave) = StopAfter (calls - 1) leave
writes_after No (FaultAfter calls) = FaultAfter (calls - 1)
writes_after Stop armed = armed
writes_after Fault armed = armed

-- which read is to fail after one
abbrev pub reads_after : Fired → Option ℕ → Option ℕ
reads_after No None = None
reads_after No (Some calls) = Some (calls - 1)
reads_after Stop reads = reads
reads_after Fault reads = reads

-- the script after the turn of a write or a sync
abbrev pub after_write : Script → Script
after_write script = record {
  writes = writes_after script.fired script.writes;
  reads = script.reads;
  fired = fired_after (turn_of script) script.fired;
  faults = faults_after (turn_of script) script.faults;
}

-- the script after the turn of a read
abbrev pub after_read : Script → Script
after_read script = record {
  writes = script.writes;
  reads = reads_after script.fired script.reads;
  fired = fired_after (read_turn_of script) script.fired;
  faults = faults_after (read_turn_of script) script.faults;
}

-- how the armed script cuts off a call
abbrev pub how_at : Armed → Cut
how_at Nothing = cut.Fails
how_at (StopAfter calls leave) = cut.Stops leave
how_at (FaultAfter calls) = cut.Fails

abbrev pub how_of : Script → Cut
how_of script = how_at script.writes
