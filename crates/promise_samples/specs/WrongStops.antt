-- Stops within disk calls that the disk doesn't give, or that leave something else. Each trace has a stop as its last record.
use Rattle.std.specs.Prelude.{ℕ, List, [], ◌∷◌, ◌++◌, take}
use Rattle.trace_book.specs.declared.entry.Entry.{Entry}
use Rattle.trace_book.specs.declared.record.StopCause.TheVariants as cause
use Rattle.trace_book.specs.declared.record.Record.TheVariants.{Stopped}
use Rattle.schedule_lines.specs.declared.header.HeaderLine.TheVariants as header
use Rattle.schedule_lines.specs.declared.line.Leave.{Leave}
use Rattle.schedule_lines.specs.declared.line.Leave.TheVariants as leave
use Rattle.schedule_lines.specs.declared.line.Line.TheVariants as line
use Rattle.schedule_lines.specs.declared.line.ScheduleLine.{ScheduleLine}
use Rattle.schedule_lines.specs.declared.line.ScheduleLine.TheVariants.{Event, Header}
use Rattle.promise_samples.specs.Examples.{Example, first_of, until_line, with_line}
use Rattle.promise_samples.specs.StopAfterTheGate.{stop_after_the_gate}
use Rattle.promise_samples.specs.StopInsideAWrite.{stop_inside_a_write}
use Rattle.lawful_trace.specs.Samples.{at}

-- two examples up to the line at which the site stops, and the second with other records at its end
abbrev pub stopped_inside : Example
stopped_inside = until_line 22 (first_of 32 stop_inside_a_write [])

abbrev pub with_records : ℕ → List Entry → Example
with_records n more = until_line 15 (first_of n stop_after_the_gate more)

abbrev pub stopped_after : Example
stopped_after = with_records 22 []

-- a site stops within the disk calls of a close long before the call that its line names
abbrev pub stop_before_its_call : Example
stop_before_its_call = with_line 20 (Event (line.ArmStop 1 1000 leave.Old)) stopped_inside

-- a close makes seven disk calls, and the site stops at the eighth
abbrev pub stop_after_the_calls : Example
stop_after_the_calls = with_line 13 (Event (line.ArmStop 1 7 leave.Old)) stopped_after

-- the stop takes away the byte that opens the gate, and the version is told all the same
abbrev pub version_that_is_not_left : Example
version_that_is_not_left = with_line 13 (Event (line.ArmStop 1 3 leave.Old)) stopped_after

-- the stop leaves the byte that opens the gate, and the version isn't told
abbrev pub version_left_untold : Example
version_left_untold = with_records 20 (at 15 (Stopped 1 cause.Fuse) ∷ [])

-- a fault leaves the call that it fails undone, and the version is told all the same
abbrev pub version_after_a_fault : Example
version_after_a_fault = with_line 13 (Event (line.ArmFail 1 3)) (with_records 21 (at 15 (Stopped 1 cause.Fault) ∷ []))

-- a line that arms a fault is told as a stop
abbrev pub fuse_where_a_fault_was_armed : Example
fuse_where_a_fault_was_armed = with_line 20 (Event (line.ArmFail 1 3)) stopped_inside

-- the stop comes at the line after that of the version which it has cut
abbrev pub stop_a_line_late : Example
stop_a_line_late = record (with_records 21 (at 16 (Stopped 1 cause.Fuse) ∷ [])) { lines = take 15 stop_after_the_gate.lines ++ Event (line.Settle 1000) ∷ [] }

-- a changed file is open, nobody asks that it be committed, and the site stops within its commit
abbrev pub stop_in_a_commit_that_is_not_asked : Example
stop_in_a_commit_that_is_not_asked = record (first_of 30 stop_inside_a_write (at 19 (Stopped 1 cause.Fuse) ∷ [])) { lines = take 17 stop_inside_a_write.lines ++ Event (line.ArmStop 1 0 leave.Old) ∷ Event (line.Settle 1000) ∷ [] }

-- the stop would come in the round, and the site goes on until a line stops it
abbrev pub stop_that_does_not_come : Example
stop_that_does_not_come = record (with_records 21 (at 16 (Stopped 1 cause.Asked) ∷ [])) { lines = take 15 stop_after_the_gate.lines ++ Event (line.Stop 1) ∷ [] }

-- Stops within boots.

-- a stopped site boots by such lines, and stops within it twice
abbrev pub booting : List ScheduleLine → Example
booting lines = record {
  lines = Header (header.Sites 1) ∷ Header (header.Group 0 (record { 0 = 1 })) ∷ Event (line.Stop 1) ∷ lines;
  trace = at 3 (Stopped 1 cause.Asked) ∷ at 5 (Stopped 1 cause.Fuse) ∷ at 7 (Stopped 1 cause.Fault) ∷ [];
}

abbrev pub boots_with : ℕ → Leave → ℕ → List ScheduleLine
boots_with first left then = Event (line.ArmStop 1 first left) ∷ Event (line.Boot 1) ∷ Event (line.ArmFail 1 then) ∷ Event (line.Boot 1) ∷ []

-- a boot makes six calls; where the fifth is cut and leaves the other half of the label open, the next boot makes eight
abbrev pub boot_that_closes_a_half : Example
boot_that_closes_a_half = booting (boots_with 4 leave.Old 7)

-- all six calls of the first boot pass, and the site stops within it
abbrev pub boot_that_was_over : Example
boot_that_was_over = booting (boots_with 6 leave.Old 5)

-- the cut call leaves the half closed, so that the next boot makes six calls, and the site stops at the eighth
abbrev pub boot_with_nothing_to_close : Example
boot_with_nothing_to_close = booting (boots_with 4 leave.New 7)
