-- The run of a recorded schedule of 16 lines, to the whole text of its trace, 8 records.
use Rattle.std.specs.Prelude.{◌≡◌, refl, ℕ, List, [], ◌∷◌, ◌++◌, Option, Some, None, codes}
use Rattle.trace_book.specs.declared.call.Call.TheVariants as call
use Rattle.trace_book.specs.declared.call.OpenMode.TheVariants as how
use Rattle.schedule_lines.specs.declared.header.HeaderLine.TheVariants as header
use Rattle.schedule_lines.specs.declared.line.Leave.TheVariants as leave
use Rattle.schedule_lines.specs.declared.line.Line.TheVariants as line
use Rattle.schedule_lines.specs.declared.line.ScheduleLine.{ScheduleLine}
use Rattle.schedule_lines.specs.declared.line.ScheduleLine.TheVariants.{Passed, Header, Event}
use Rattle.std.specs.Fmt.{digits}
use Rattle.hex.specs.Hex.{encode_with}
use Rattle.the_run.specs.Runs.{run, printed}

abbrev lines : List ScheduleLine
lines =
    Passed ∷
    Header (header.Sites 2) ∷
    Header (header.Group 0 (record { 0 = 3 })) ∷
    Event (line.Merge 1) ∷
    Event (line.Settle 1000) ∷
    Passed ∷
    Event (line.Call 2 1 (call.Stat (codes "/"))) ∷
    Event line.Pending ∷
    Passed ∷
    Event (line.Lose 11) ∷
    Event (line.Tick 2) ∷
    Event line.Pending ∷
    Passed ∷
    Event (line.Deliver 12) ∷
    Event (line.Deliver 12) ∷
    Event (line.Settle 1000) ∷
    []

abbrev written : List ℕ
written =
    codes "5 join 1 e1.1.1 1:1,2:1\n" ++
    codes "5 join 2 e1.1.1 1:1,2:1\n" ++
    codes "5 start e1.1.1 0 1=0.0\n" ++
    codes "7 call 2 1 c2.1.1 stat /\n" ++
    codes "8 packet 11 2 1 look\n" ++
    codes "12 packet 12 2 1 look\n" ++
    codes "14 look e1.1.1 c2.1.1 1 0.1 stat 0.0\n" ++
    codes "16 reply 2 1 c2.1.1 ok d 0.1 0 0.0\n" ++
    []

pub runs : printed (run lines) ≡ written
unfolding digits encode_with
runs = refl
