-- The run of a recorded schedule of 45 lines, to the whole text of its trace, 77 records.
use Rattle.std.specs.Prelude.{◌≡◌, refl, ℕ, List, [], ◌∷◌, ◌++◌, Option, Some, None, codes}
use Rattle.trace_book.specs.declared.call.Call.TheVariants as call
use Rattle.trace_book.specs.declared.call.OpenMode.TheVariants as how
use Rattle.schedule_lines.specs.declared.header.HeaderLine.TheVariants as header
use Rattle.schedule_lines.specs.declared.line.Leave.TheVariants as leave
use Rattle.schedule_lines.specs.declared.line.Line.TheVariants as line
use Rattle.schedule_lines.specs.declared.line.ScheduleLine.{ScheduleLine}
use Rattle.schedule_lines.specs.declared.line.ScheduleLine.TheVariants.{Passed, Header, Event}
use Rattle.std.specs.Fmt.{digits}
use Rattle.hex.specs.Hex.{encode_with}
use Rattle.the_run.specs.Runs.{run, printed}

abbrev lines : List ScheduleLine
lines =
    Passed ∷
    Header (header.Sites 3) ∷
    Header (header.Group 0 (record { 0 = 7 })) ∷
    Event (line.Merge 1) ∷
    Event (line.Settle 1000) ∷
    Event (line.Call 1 1 (call.Create (codes "/f") None)) ∷
    Event (line.Settle 1000) ∷
    Passed ∷
    Event (line.Down 1 3) ∷
    Event (line.Down 2 3) ∷
    Event (line.Part 1) ∷
    Event (line.Part 3) ∷
    Event (line.Settle 1000) ∷
    Passed ∷
    Event (line.Call 1 1 (call.Open (codes "/f") how.Write)) ∷
    Event (line.Settle 1000) ∷
    Event (line.Call 1 1 (call.Write 0 0 (97 ∷ []))) ∷
    Event (line.Settle 1000) ∷
    Event (line.Call 1 1 (call.Close 0)) ∷
    Event (line.Settle 1000) ∷
    Passed ∷
    Event (line.Call 3 1 (call.Open (codes "/f") how.Write)) ∷
    Event (line.Settle 1000) ∷
    Event (line.Call 3 1 (call.Write 0 0 (99 ∷ []))) ∷
    Event (line.Settle 1000) ∷
    Event (line.Call 3 1 (call.Close 0)) ∷
    Event (line.Settle 1000) ∷
    Passed ∷
    Event (line.Up 1 3) ∷
    Event (line.Up 2 3) ∷
    Event (line.Merge 1) ∷
    Event (line.Settle 1000) ∷
    Passed ∷
    Event (line.Call 1 1 (call.Open (codes "/f") how.Read)) ∷
    Event (line.Settle 1000) ∷
    Passed ∷
    Event (line.Call 1 1 (call.Open (codes "/f") (how.Resolve 3))) ∷
    Event (line.Settle 1000) ∷
    Event (line.Call 1 1 (call.Close 0)) ∷
    Event (line.Settle 1000) ∷
    Passed ∷
    Event (line.Call 2 1 (call.Open (codes "/f") how.Read)) ∷
    Event (line.Settle 1000) ∷
    Event (line.Call 2 1 (call.Read 0 0 10)) ∷
    Event (line.Settle 1000) ∷
    []

abbrev written : List ℕ
written =
    codes "5 join 1 e1.1.1 1:1,2:1,3:1\n" ++
    codes "5 join 2 e1.1.1 1:1,2:1,3:1\n" ++
    codes "5 join 3 e1.1.1 1:1,2:1,3:1\n" ++
    codes "5 start e1.1.1 0 1=0.0\n" ++
    codes "6 call 1 1 c1.1.1 create /f\n" ++
    codes "7 grant e1.1.1 c1.1.1 1 i1.1 w 0.1 0.0 1\n" ++
    codes "7 act e1.1.1 i1.1 1 probe f ok\n" ++
    codes "7 grant e1.1.1 c1.1.1 3 i1.2 n 0.2 - 1\n" ++
    codes "7 commit 0.2 1 1.1 - -\n" ++
    codes "7 release e1.1.1 i1.2 0.2 1.1\n" ++
    codes "7 adopt 0.2 2 1.1\n" ++
    codes "7 adopt 0.2 3 1.1\n" ++
    codes "7 act e1.1.1 i1.1 2 insert f 2 f ok\n" ++
    codes "7 commit 0.1 1 1.1 0.0 016600020100000001\n" ++
    codes "7 release e1.1.1 i1.1 0.1 1.1\n" ++
    codes "7 reply 1 1 c1.1.1 ok 2\n" ++
    codes "7 adopt 0.1 2 1.1\n" ++
    codes "7 adopt 0.1 3 1.1\n" ++
    codes "11 leave 1 e1.1.1\n" ++
    codes "12 leave 3 e1.1.1\n" ++
    codes "12 join 3 e2.3.1 3:1\n" ++
    codes "13 leave 2 e1.1.1\n" ++
    codes "13 start e2.3.1 0 1=1.1 2=1.1\n" ++
    codes "13 join 1 e2.1.1 1:1,2:1\n" ++
    codes "13 join 2 e2.1.1 1:1,2:1\n" ++
    codes "13 start e2.1.1 0 1=1.1 2=1.1\n" ++
    codes "15 call 1 1 c1.1.2 open /f w\n" ++
    codes "16 look e2.1.1 c1.1.2 1 0.1 name f 1.1\n" ++
    codes "16 grant e2.1.1 c1.1.2 2 i1.3 w 0.2 1.1 1\n" ++
    codes "16 reply 1 1 c1.1.2 ok 0\n" ++
    codes "17 call 1 1 c1.1.3 write 0 0 61\n" ++
    codes "18 act e2.1.1 i1.3 1 write 0 61 ok\n" ++
    codes "18 reply 1 1 c1.1.3 ok\n" ++
    codes "19 call 1 1 c1.1.4 close 0\n" ++
    codes "20 commit 0.2 1 1.2 1.1 61\n" ++
    codes "20 release e2.1.1 i1.3 0.2 1.2\n" ++
    codes "20 reply 1 1 c1.1.4 ok 1.2\n" ++
    codes "20 adopt 0.2 2 1.2\n" ++
    codes "22 call 3 1 c3.1.1 open /f w\n" ++
    codes "23 look e2.3.1 c3.1.1 1 0.1 name f 1.1\n" ++
    codes "23 grant e2.3.1 c3.1.1 2 i3.1 w 0.2 1.1 3\n" ++
    codes "23 reply 3 1 c3.1.1 ok 0\n" ++
    codes "24 call 3 1 c3.1.2 write 0 0 63\n" ++
    codes "25 act e2.3.1 i3.1 1 write 0 63 ok\n" ++
    codes "25 reply 3 1 c3.1.2 ok\n" ++
    codes "26 call 3 1 c3.1.3 close 0\n" ++
    codes "27 commit 0.2 3 3.1 1.1 63\n" ++
    codes "27 release e2.3.1 i3.1 0.2 3.1\n" ++
    codes "27 reply 3 1 c3.1.3 ok 3.1\n" ++
    codes "31 leave 1 e2.1.1\n" ++
    codes "32 leave 2 e2.1.1\n" ++
    codes "32 leave 3 e2.3.1\n" ++
    codes "32 join 1 e3.1.1 1:1,2:1,3:1\n" ++
    codes "32 join 2 e3.1.1 1:1,2:1,3:1\n" ++
    codes "32 join 3 e3.1.1 1:1,2:1,3:1\n" ++
    codes "32 start e3.1.1 0 1=1.1 2=1.2 2=3.1\n" ++
    codes "34 call 1 1 c1.1.5 open /f r\n" ++
    codes "35 look e3.1.1 c1.1.5 1 0.1 name f 1.1\n" ++
    codes "35 refuse e3.1.1 c1.1.5 2 i1.4 r 0.2 conflict 1.2 3.1\n" ++
    codes "35 reply 1 1 c1.1.5 conflict 1.2 3.1\n" ++
    codes "37 call 1 1 c1.1.6 open /f x 3\n" ++
    codes "38 look e3.1.1 c1.1.6 1 0.1 name f 1.1\n" ++
    codes "38 grant e3.1.1 c1.1.6 2 i1.5 x 0.2 3.1 3\n" ++
    codes "38 reply 1 1 c1.1.6 ok 0\n" ++
    codes "39 call 1 1 c1.1.7 close 0\n" ++
    codes "40 commit 0.2 3 3.2 1.2,3.1 63\n" ++
    codes "40 release e3.1.1 i1.5 0.2 3.2\n" ++
    codes "40 reply 1 1 c1.1.7 ok 3.2\n" ++
    codes "40 adopt 0.2 1 3.2\n" ++
    codes "40 adopt 0.2 2 3.2\n" ++
    codes "42 call 2 1 c2.1.1 open /f r\n" ++
    codes "43 look e3.1.1 c2.1.1 1 0.1 name f 1.1\n" ++
    codes "43 grant e3.1.1 c2.1.1 2 i2.1 r 0.2 3.2 2\n" ++
    codes "43 reply 2 1 c2.1.1 ok 0\n" ++
    codes "44 call 2 1 c2.1.2 read 0 0 10\n" ++
    codes "45 act e3.1.1 i2.1 1 read 0 10 ok 63\n" ++
    codes "45 reply 2 1 c2.1.2 ok 63\n" ++
    []

pub runs : printed (run lines) ≡ written
unfolding digits encode_with
runs = refl
