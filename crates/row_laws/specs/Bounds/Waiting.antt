-- A group starts by a Report, and then serves all that waited for it.
use Rattle.std.specs.Prelude.{ℕ, List, [], ◌∷◌, ◌++◌, map}
use Rattle.trace_book.specs.declared.call.Call.TheVariants as call
use Rattle.schedule_lines.specs.declared.header.HeaderLine.TheVariants as header
use Rattle.schedule_lines.specs.declared.line.Line.TheVariants as line
use Rattle.schedule_lines.specs.declared.line.ScheduleLine.{ScheduleLine}
use Rattle.schedule_lines.specs.declared.line.ScheduleLine.TheVariants.{Header, Event}
use Rattle.the_run.specs.Runs.{run}
use Rattle.row_laws.specs.Bounds.Deliveries.{serves_other, count, packet_of}

-- the only site of a cluster forms its epoch, and two of its processes ask what the root is; both Looks come before the Report
abbrev pub two_looks_wait : List ScheduleLine
two_looks_wait =
    Header (header.Sites 1) ∷
    Header (header.Group 0 (record { 0 = 1 })) ∷
    Event (line.Merge 1) ∷
    Event (line.Call 1 1 (call.Stat (47 ∷ []))) ∷
    Event (line.Call 1 2 (call.Stat (47 ∷ []))) ∷
    Event (line.Deliver 2) ∷
    Event (line.Deliver 3) ∷
    []

-- so many packets for calls were sent by these lines
abbrev pub sent_for_calls : List ScheduleLine → ℕ
sent_for_calls lines = count serves_other (map packet_of (run lines).sent)

abbrev pub the_report_comes : List ScheduleLine
the_report_comes = two_looks_wait ++ Event (line.Deliver 1) ∷ []
