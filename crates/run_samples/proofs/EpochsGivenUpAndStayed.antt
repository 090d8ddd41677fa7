-- The run of a recorded schedule of 8 lines, to the whole text of its trace, 10 records.
use Rattle.std.specs.Prelude.{◌≡◌, refl, ℕ, List, [], ◌∷◌, ◌++◌, codes}
use Rattle.trace_book.specs.declared.call.Call.TheVariants as call
use Rattle.schedule_lines.specs.declared.header.HeaderLine.TheVariants as header
use Rattle.schedule_lines.specs.declared.line.Line.TheVariants as line
use Rattle.schedule_lines.specs.declared.line.ScheduleLine.{ScheduleLine}
use Rattle.schedule_lines.specs.declared.line.ScheduleLine.TheVariants.{Header, Event}
use Rattle.std.specs.Fmt.{digits}
use Rattle.hex.specs.Hex.{encode_with}
use Rattle.the_run.specs.Runs.{run, printed}

abbrev lines : List ScheduleLine
lines =
    Header (header.Sites 3) ∷
    Header (header.Group 0 (record { 0 = 7 })) ∷
    Event (line.Merge 1) ∷
    Event (line.Settle 1000) ∷
    Event (line.GiveUp 2) ∷
    Event (line.Call 2 1 (call.Stat (codes "/"))) ∷
    Event (line.Call 1 1 (call.Stat (codes "/"))) ∷
    Event (line.Settle 1000) ∷
    []

abbrev written : List ℕ
written =
    codes "4 join 1 e1.1.1 1:1,2:1,3:1\n" ++
    codes "4 join 2 e1.1.1 1:1,2:1,3:1\n" ++
    codes "4 join 3 e1.1.1 1:1,2:1,3:1\n" ++
    codes "4 start e1.1.1 0 1=0.0\n" ++
    codes "5 leave 2 e1.1.1\n" ++
    codes "6 call 2 1 c2.1.1 stat /\n" ++
    codes "6 reply 2 1 c2.1.1 nopartition\n" ++
    codes "7 call 1 1 c1.1.1 stat /\n" ++
    codes "8 look e1.1.1 c1.1.1 1 0.1 stat 0.0\n" ++
    codes "8 reply 1 1 c1.1.1 ok d 0.1 0 0.0\n" ++
    []

pub runs : printed (run lines) ≡ written
unfolding digits encode_with
runs = refl
