-- The run of a recorded schedule of 8 lines, to the whole text of its trace, 21 records.
use Rattle.std.specs.Prelude.{◌≡◌, refl, ℕ, List, [], ◌∷◌, ◌++◌, Some, codes}
use Rattle.trace_book.specs.declared.call.Call.TheVariants as call
use Rattle.trace_book.specs.declared.call.OpenMode.TheVariants as how
use Rattle.schedule_lines.specs.declared.header.HeaderLine.TheVariants as header
use Rattle.schedule_lines.specs.declared.line.Line.TheVariants as line
use Rattle.schedule_lines.specs.declared.line.ScheduleLine.{ScheduleLine}
use Rattle.schedule_lines.specs.declared.line.ScheduleLine.TheVariants.{Header, Event}
use Rattle.std.specs.Fmt.{digits}
use Rattle.hex.specs.Hex.{encode_with}
use Rattle.the_run.specs.Runs.{run, printed}

abbrev lines : List ScheduleLine
lines =
    Header (header.Sites 3) ∷
    Header (header.Group 0 (record { 0 = 7 })) ∷
    Event (line.Merge 1) ∷
    Event (line.Settle 1000) ∷
    Event (line.Call 1 1 (call.Create (codes "/f") (Some (record { 0 = 3 })))) ∷
    Event (line.Settle 1000) ∷
    Event (line.Call 3 1 (call.Open (codes "/f") how.Read)) ∷
    Event (line.Settle 1000) ∷
    []

abbrev written : List ℕ
written =
    codes "4 join 1 e1.1.1 1:1,2:1,3:1\n" ++
    codes "4 join 2 e1.1.1 1:1,2:1,3:1\n" ++
    codes "4 join 3 e1.1.1 1:1,2:1,3:1\n" ++
    codes "4 start e1.1.1 0 1=0.0\n" ++
    codes "5 call 1 1 c1.1.1 create /f 1,2\n" ++
    codes "6 grant e1.1.1 c1.1.1 1 i1.1 w 0.1 0.0 1\n" ++
    codes "6 act e1.1.1 i1.1 1 probe f ok\n" ++
    codes "6 grant e1.1.1 c1.1.1 3 i1.2 n 0.2 - 1\n" ++
    codes "6 commit 0.2 1 1.1 - -\n" ++
    codes "6 release e1.1.1 i1.2 0.2 1.1\n" ++
    codes "6 adopt 0.2 2 1.1\n" ++
    codes "6 act e1.1.1 i1.1 2 insert f 2 f ok\n" ++
    codes "6 commit 0.1 1 1.1 0.0 016600020100000001\n" ++
    codes "6 release e1.1.1 i1.1 0.1 1.1\n" ++
    codes "6 reply 1 1 c1.1.1 ok 2\n" ++
    codes "6 adopt 0.1 2 1.1\n" ++
    codes "6 adopt 0.1 3 1.1\n" ++
    codes "7 call 3 1 c3.1.1 open /f r\n" ++
    codes "8 look e1.1.1 c3.1.1 1 0.1 name f 1.1\n" ++
    codes "8 grant e1.1.1 c3.1.1 2 i3.1 r 0.2 1.1 1\n" ++
    codes "8 reply 3 1 c3.1.1 ok 0\n" ++
    []

pub runs : printed (run lines) ≡ written
unfolding digits encode_with
runs = refl
