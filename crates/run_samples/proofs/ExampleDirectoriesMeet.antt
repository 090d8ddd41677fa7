-- The run of a recorded schedule of 26 lines, to the whole text of its trace, 57 records.
use Rattle.std.specs.Prelude.{◌≡◌, refl, ℕ, List, [], ◌∷◌, ◌++◌, Option, Some, None, codes}
use Rattle.trace_book.specs.declared.call.Call.TheVariants as call
use Rattle.trace_book.specs.declared.call.OpenMode.TheVariants as how
use Rattle.schedule_lines.specs.declared.header.HeaderLine.TheVariants as header
use Rattle.schedule_lines.specs.declared.line.Leave.TheVariants as leave
use Rattle.schedule_lines.specs.declared.line.Line.TheVariants as line
use Rattle.schedule_lines.specs.declared.line.ScheduleLine.{ScheduleLine}
use Rattle.schedule_lines.specs.declared.line.ScheduleLine.TheVariants.{Passed, Header, Event}
use Rattle.std.specs.Fmt.{digits}
use Rattle.hex.specs.Hex.{encode_with}
use Rattle.the_run.specs.Runs.{run, printed}

abbrev lines : List ScheduleLine
lines =
    Passed ∷
    Header (header.Sites 3) ∷
    Header (header.Group 0 (record { 0 = 7 })) ∷
    Passed ∷
    Event (line.Down 1 3) ∷
    Event (line.Down 2 3) ∷
    Event (line.Merge 1) ∷
    Event (line.Merge 3) ∷
    Event (line.Settle 1000) ∷
    Event (line.Call 1 1 (call.Create (codes "/n") None)) ∷
    Event (line.Settle 1000) ∷
    Event (line.Call 3 1 (call.Create (codes "/n") None)) ∷
    Event (line.Settle 1000) ∷
    Passed ∷
    Event (line.Up 1 3) ∷
    Event (line.Up 2 3) ∷
    Event (line.Merge 1) ∷
    Event (line.Settle 1000) ∷
    Passed ∷
    Event (line.Call 2 1 (call.List (codes "/"))) ∷
    Event (line.Settle 1000) ∷
    Passed ∷
    Event (line.Call 2 1 (call.Stat (codes "/n"))) ∷
    Event (line.Settle 1000) ∷
    Event (line.Call 2 1 (call.Stat (codes "/n@129"))) ∷
    Event (line.Settle 1000) ∷
    []

abbrev written : List ℕ
written =
    codes "8 join 3 e1.3.1 3:1\n" ++
    codes "9 start e1.3.1 0 1=0.0\n" ++
    codes "9 join 1 e1.1.1 1:1,2:1\n" ++
    codes "9 join 2 e1.1.1 1:1,2:1\n" ++
    codes "9 start e1.1.1 0 1=0.0\n" ++
    codes "10 call 1 1 c1.1.1 create /n\n" ++
    codes "11 grant e1.1.1 c1.1.1 1 i1.1 w 0.1 0.0 1\n" ++
    codes "11 act e1.1.1 i1.1 1 probe n ok\n" ++
    codes "11 grant e1.1.1 c1.1.1 3 i1.2 n 0.2 - 1\n" ++
    codes "11 commit 0.2 1 1.1 - -\n" ++
    codes "11 release e1.1.1 i1.2 0.2 1.1\n" ++
    codes "11 adopt 0.2 2 1.1\n" ++
    codes "11 act e1.1.1 i1.1 2 insert n 2 f ok\n" ++
    codes "11 commit 0.1 1 1.1 0.0 016e00020100000001\n" ++
    codes "11 release e1.1.1 i1.1 0.1 1.1\n" ++
    codes "11 reply 1 1 c1.1.1 ok 2\n" ++
    codes "11 adopt 0.1 2 1.1\n" ++
    codes "12 call 3 1 c3.1.1 create /n\n" ++
    codes "13 grant e1.3.1 c3.1.1 1 i3.1 w 0.1 0.0 3\n" ++
    codes "13 act e1.3.1 i3.1 1 probe n ok\n" ++
    codes "13 grant e1.3.1 c3.1.1 3 i3.2 n 0.129 - 3\n" ++
    codes "13 commit 0.129 3 3.1 - -\n" ++
    codes "13 release e1.3.1 i3.2 0.129 3.1\n" ++
    codes "13 act e1.3.1 i3.1 2 insert n 129 f ok\n" ++
    codes "13 commit 0.1 3 3.1 0.0 016e00810100000001\n" ++
    codes "13 release e1.3.1 i3.1 0.1 3.1\n" ++
    codes "13 reply 3 1 c3.1.1 ok 129\n" ++
    codes "17 leave 1 e1.1.1\n" ++
    codes "18 leave 2 e1.1.1\n" ++
    codes "18 leave 3 e1.3.1\n" ++
    codes "18 join 1 e2.1.1 1:1,2:1,3:1\n" ++
    codes "18 join 2 e2.1.1 1:1,2:1,3:1\n" ++
    codes "18 join 3 e2.1.1 1:1,2:1,3:1\n" ++
    codes "18 start e2.1.1 0 1=1.1 1=3.1 2=1.1 129=3.1\n" ++
    codes "18 call 1 0 c1.1.2 mend 0.1\n" ++
    codes "18 grant e2.1.1 c1.1.2 1 i1.3 m 0.1 1.1 1\n" ++
    codes "18 adopt 0.129 1 3.1\n" ++
    codes "18 adopt 0.129 2 3.1\n" ++
    codes "18 adopt 0.2 3 1.1\n" ++
    codes "18 look e2.1.1 c1.1.2 2 0.1 whole 1.1\n" ++
    codes "18 look e2.1.1 c1.1.2 3 0.1 whole 3.1\n" ++
    codes "18 act e2.1.1 i1.3 1 mend ok\n" ++
    codes "18 commit 0.1 1 1.2 1.1,3.1 016e00020100000001016e00810100000001\n" ++
    codes "18 release e2.1.1 i1.3 0.1 1.2\n" ++
    codes "18 reply 1 0 c1.1.2 ok 1.2\n" ++
    codes "18 adopt 0.1 2 1.2\n" ++
    codes "18 adopt 0.1 3 1.2\n" ++
    codes "20 call 2 1 c2.1.1 list /\n" ++
    codes "21 look e2.1.1 c2.1.1 1 0.1 list 1.2\n" ++
    codes "21 reply 2 1 c2.1.1 ok n@2 n@129\n" ++
    codes "23 call 2 1 c2.1.2 stat /n\n" ++
    codes "24 look e2.1.1 c2.1.2 1 0.1 name n 1.2\n" ++
    codes "24 reply 2 1 c2.1.2 ambiguous 2 129\n" ++
    codes "25 call 2 1 c2.1.3 stat /n@129\n" ++
    codes "26 look e2.1.1 c2.1.3 1 0.1 name n@129 1.2\n" ++
    codes "26 look e2.1.1 c2.1.3 2 0.129 stat 3.1\n" ++
    codes "26 reply 2 1 c2.1.3 ok f 0.129 0 3.1\n" ++
    []

pub runs : printed (run lines) ≡ written
unfolding digits encode_with
runs = refl
