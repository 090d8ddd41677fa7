-- The run of a recorded schedule of 33 lines, to the whole text of its trace, 67 records.
use Rattle.std.specs.Prelude.{◌≡◌, refl, ℕ, List, [], ◌∷◌, ◌++◌, None, codes}
use Rattle.trace_book.specs.declared.call.Call.TheVariants as call
use Rattle.trace_book.specs.declared.call.OpenMode.TheVariants as how
use Rattle.schedule_lines.specs.declared.header.HeaderLine.TheVariants as header
use Rattle.schedule_lines.specs.declared.line.Line.TheVariants as line
use Rattle.schedule_lines.specs.declared.line.ScheduleLine.{ScheduleLine}
use Rattle.schedule_lines.specs.declared.line.ScheduleLine.TheVariants.{Header, Event}
use Rattle.std.specs.Fmt.{digits}
use Rattle.hex.specs.Hex.{encode_with}
use Rattle.the_run.specs.Runs.{run, printed}

abbrev lines : List ScheduleLine
lines =
    Header (header.Sites 3) ∷
    Header (header.Group 0 (record { 0 = 7 })) ∷
    Event (line.Merge 1) ∷
    Event (line.Settle 1000) ∷
    Event (line.Call 1 1 (call.Create (codes "/f") None)) ∷
    Event (line.Settle 1000) ∷
    Event (line.Down 1 3) ∷
    Event (line.Down 2 3) ∷
    Event (line.Part 1) ∷
    Event (line.Part 3) ∷
    Event (line.Settle 1000) ∷
    Event (line.Call 1 1 (call.Open (codes "/f") how.Write)) ∷
    Event (line.Settle 1000) ∷
    Event (line.Call 1 1 (call.Write 0 0 (97 ∷ []))) ∷
    Event (line.Settle 1000) ∷
    Event (line.Call 1 1 (call.Close 0)) ∷
    Event (line.Settle 1000) ∷
    Event (line.Call 3 1 (call.Open (codes "/f") how.Write)) ∷
    Event (line.Settle 1000) ∷
    Event (line.Call 3 1 (call.Write 0 0 (99 ∷ []))) ∷
    Event (line.Settle 1000) ∷
    Event (line.Call 3 1 (call.Close 0)) ∷
    Event (line.Settle 1000) ∷
    Event (line.Up 1 3) ∷
    Event (line.Up 2 3) ∷
    Event (line.Merge 1) ∷
    Event (line.Settle 1000) ∷
    Event (line.Call 1 1 (call.Open (codes "/f") how.Read)) ∷
    Event (line.Settle 1000) ∷
    Event (line.Call 1 1 (call.Open (codes "/f") (how.Resolve 2))) ∷
    Event (line.Settle 1000) ∷
    Event (line.Call 1 1 (call.Abort 0)) ∷
    Event (line.Settle 1000) ∷
    []

abbrev written : List ℕ
written =
    codes "4 join 1 e1.1.1 1:1,2:1,3:1\n" ++
    codes "4 join 2 e1.1.1 1:1,2:1,3:1\n" ++
    codes "4 join 3 e1.1.1 1:1,2:1,3:1\n" ++
    codes "4 start e1.1.1 0 1=0.0\n" ++
    codes "5 call 1 1 c1.1.1 create /f\n" ++
    codes "6 grant e1.1.1 c1.1.1 1 i1.1 w 0.1 0.0 1\n" ++
    codes "6 act e1.1.1 i1.1 1 probe f ok\n" ++
    codes "6 grant e1.1.1 c1.1.1 3 i1.2 n 0.2 - 1\n" ++
    codes "6 commit 0.2 1 1.1 - -\n" ++
    codes "6 release e1.1.1 i1.2 0.2 1.1\n" ++
    codes "6 adopt 0.2 2 1.1\n" ++
    codes "6 adopt 0.2 3 1.1\n" ++
    codes "6 act e1.1.1 i1.1 2 insert f 2 f ok\n" ++
    codes "6 commit 0.1 1 1.1 0.0 016600020100000001\n" ++
    codes "6 release e1.1.1 i1.1 0.1 1.1\n" ++
    codes "6 reply 1 1 c1.1.1 ok 2\n" ++
    codes "6 adopt 0.1 2 1.1\n" ++
    codes "6 adopt 0.1 3 1.1\n" ++
    codes "9 leave 1 e1.1.1\n" ++
    codes "10 leave 3 e1.1.1\n" ++
    codes "10 join 3 e2.3.1 3:1\n" ++
    codes "11 leave 2 e1.1.1\n" ++
    codes "11 start e2.3.1 0 1=1.1 2=1.1\n" ++
    codes "11 join 1 e2.1.1 1:1,2:1\n" ++
    codes "11 join 2 e2.1.1 1:1,2:1\n" ++
    codes "11 start e2.1.1 0 1=1.1 2=1.1\n" ++
    codes "12 call 1 1 c1.1.2 open /f w\n" ++
    codes "13 look e2.1.1 c1.1.2 1 0.1 name f 1.1\n" ++
    codes "13 grant e2.1.1 c1.1.2 2 i1.3 w 0.2 1.1 1\n" ++
    codes "13 reply 1 1 c1.1.2 ok 0\n" ++
    codes "14 call 1 1 c1.1.3 write 0 0 61\n" ++
    codes "15 act e2.1.1 i1.3 1 write 0 61 ok\n" ++
    codes "15 reply 1 1 c1.1.3 ok\n" ++
    codes "16 call 1 1 c1.1.4 close 0\n" ++
    codes "17 commit 0.2 1 1.2 1.1 61\n" ++
    codes "17 release e2.1.1 i1.3 0.2 1.2\n" ++
    codes "17 reply 1 1 c1.1.4 ok 1.2\n" ++
    codes "17 adopt 0.2 2 1.2\n" ++
    codes "18 call 3 1 c3.1.1 open /f w\n" ++
    codes "19 look e2.3.1 c3.1.1 1 0.1 name f 1.1\n" ++
    codes "19 grant e2.3.1 c3.1.1 2 i3.1 w 0.2 1.1 3\n" ++
    codes "19 reply 3 1 c3.1.1 ok 0\n" ++
    codes "20 call 3 1 c3.1.2 write 0 0 63\n" ++
    codes "21 act e2.3.1 i3.1 1 write 0 63 ok\n" ++
    codes "21 reply 3 1 c3.1.2 ok\n" ++
    codes "22 call 3 1 c3.1.3 close 0\n" ++
    codes "23 commit 0.2 3 3.1 1.1 63\n" ++
    codes "23 release e2.3.1 i3.1 0.2 3.1\n" ++
    codes "23 reply 3 1 c3.1.3 ok 3.1\n" ++
    codes "26 leave 1 e2.1.1\n" ++
    codes "27 leave 2 e2.1.1\n" ++
    codes "27 leave 3 e2.3.1\n" ++
    codes "27 join 1 e3.1.1 1:1,2:1,3:1\n" ++
    codes "27 join 2 e3.1.1 1:1,2:1,3:1\n" ++
    codes "27 join 3 e3.1.1 1:1,2:1,3:1\n" ++
    codes "27 start e3.1.1 0 1=1.1 2=1.2 2=3.1\n" ++
    codes "28 call 1 1 c1.1.5 open /f r\n" ++
    codes "29 look e3.1.1 c1.1.5 1 0.1 name f 1.1\n" ++
    codes "29 refuse e3.1.1 c1.1.5 2 i1.4 r 0.2 conflict 1.2 3.1\n" ++
    codes "29 reply 1 1 c1.1.5 conflict 1.2 3.1\n" ++
    codes "30 call 1 1 c1.1.6 open /f x 2\n" ++
    codes "31 look e3.1.1 c1.1.6 1 0.1 name f 1.1\n" ++
    codes "31 grant e3.1.1 c1.1.6 2 i1.5 x 0.2 1.2 2\n" ++
    codes "31 reply 1 1 c1.1.6 ok 0\n" ++
    codes "32 call 1 1 c1.1.7 abort 0\n" ++
    codes "33 act e3.1.1 i1.5 1 abort ok\n" ++
    codes "33 reply 1 1 c1.1.7 ok\n" ++
    []

pub runs : printed (run lines) ≡ written
unfolding digits encode_with
runs = refl
