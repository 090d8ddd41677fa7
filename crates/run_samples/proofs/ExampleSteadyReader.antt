-- The run of a recorded schedule of 51 lines, to the whole text of its trace, 88 records.
use Rattle.std.specs.Prelude.{◌≡◌, refl, ℕ, List, [], ◌∷◌, ◌++◌, Option, Some, None, codes}
use Rattle.trace_book.specs.declared.call.Call.TheVariants as call
use Rattle.trace_book.specs.declared.call.OpenMode.TheVariants as how
use Rattle.schedule_lines.specs.declared.header.HeaderLine.TheVariants as header
use Rattle.schedule_lines.specs.declared.line.Leave.TheVariants as leave
use Rattle.schedule_lines.specs.declared.line.Line.TheVariants as line
use Rattle.schedule_lines.specs.declared.line.ScheduleLine.{ScheduleLine}
use Rattle.schedule_lines.specs.declared.line.ScheduleLine.TheVariants.{Passed, Header, Event}
use Rattle.std.specs.Fmt.{digits}
use Rattle.hex.specs.Hex.{encode_with}
use Rattle.the_run.specs.Runs.{run, printed}

abbrev lines : List ScheduleLine
lines =
    Passed ∷
    Header (header.Sites 3) ∷
    Header (header.Group 0 (record { 0 = 7 })) ∷
    Event (line.Merge 1) ∷
    Event (line.Settle 1000) ∷
    Passed ∷
    Event (line.Call 1 1 (call.Create (codes "/f") None)) ∷
    Event (line.Settle 1000) ∷
    Event (line.Call 1 1 (call.Open (codes "/f") how.Write)) ∷
    Event (line.Settle 1000) ∷
    Event (line.Call 1 1 (call.Write 0 0 (97 ∷ []))) ∷
    Event (line.Settle 1000) ∷
    Event (line.Call 1 1 (call.Close 0)) ∷
    Event (line.Settle 1000) ∷
    Passed ∷
    Event (line.Call 2 1 (call.Open (codes "/f") how.Steady)) ∷
    Event (line.Call 2 2 (call.Open (codes "/f") how.Read)) ∷
    Event (line.Settle 1000) ∷
    Event (line.Call 2 1 (call.Read 0 0 9)) ∷
    Event (line.Settle 1000) ∷
    Passed ∷
    Event (line.Down 1 3) ∷
    Event (line.Down 2 3) ∷
    Event (line.Part 1) ∷
    Event (line.Part 3) ∷
    Event (line.Settle 1000) ∷
    Passed ∷
    Event (line.Call 2 1 (call.Read 0 0 9)) ∷
    Event (line.Call 2 2 (call.Read 0 0 9)) ∷
    Event (line.Settle 1000) ∷
    Passed ∷
    Event (line.Call 1 1 (call.Open (codes "/f") how.Write)) ∷
    Event (line.Settle 1000) ∷
    Passed ∷
    Event (line.Up 1 3) ∷
    Event (line.Up 2 3) ∷
    Event (line.Merge 1) ∷
    Event (line.Settle 1000) ∷
    Event (line.Call 1 1 (call.Open (codes "/f") how.Write)) ∷
    Event (line.Settle 1000) ∷
    Event (line.Call 1 1 (call.Write 0 0 (98 ∷ []))) ∷
    Event (line.Settle 1000) ∷
    Event (line.Call 1 1 (call.Close 0)) ∷
    Event (line.Settle 1000) ∷
    Passed ∷
    Event (line.Call 2 1 (call.Read 0 0 9)) ∷
    Event (line.Settle 1000) ∷
    Passed ∷
    Event (line.Call 2 1 (call.Write 0 0 (97 ∷ []))) ∷
    Event (line.Call 2 1 (call.Close 0)) ∷
    Event (line.Settle 1000) ∷
    []

abbrev written : List ℕ
written =
    codes "5 join 1 e1.1.1 1:1,2:1,3:1\n" ++
    codes "5 join 2 e1.1.1 1:1,2:1,3:1\n" ++
    codes "5 join 3 e1.1.1 1:1,2:1,3:1\n" ++
    codes "5 start e1.1.1 0 1=0.0\n" ++
    codes "7 call 1 1 c1.1.1 create /f\n" ++
    codes "8 grant e1.1.1 c1.1.1 1 i1.1 w 0.1 0.0 1\n" ++
    codes "8 act e1.1.1 i1.1 1 probe f ok\n" ++
    codes "8 grant e1.1.1 c1.1.1 3 i1.2 n 0.2 - 1\n" ++
    codes "8 commit 0.2 1 1.1 - -\n" ++
    codes "8 release e1.1.1 i1.2 0.2 1.1\n" ++
    codes "8 adopt 0.2 2 1.1\n" ++
    codes "8 adopt 0.2 3 1.1\n" ++
    codes "8 act e1.1.1 i1.1 2 insert f 2 f ok\n" ++
    codes "8 commit 0.1 1 1.1 0.0 016600020100000001\n" ++
    codes "8 release e1.1.1 i1.1 0.1 1.1\n" ++
    codes "8 reply 1 1 c1.1.1 ok 2\n" ++
    codes "8 adopt 0.1 2 1.1\n" ++
    codes "8 adopt 0.1 3 1.1\n" ++
    codes "9 call 1 1 c1.1.2 open /f w\n" ++
    codes "10 look e1.1.1 c1.1.2 1 0.1 name f 1.1\n" ++
    codes "10 grant e1.1.1 c1.1.2 2 i1.3 w 0.2 1.1 1\n" ++
    codes "10 reply 1 1 c1.1.2 ok 0\n" ++
    codes "11 call 1 1 c1.1.3 write 0 0 61\n" ++
    codes "12 act e1.1.1 i1.3 1 write 0 61 ok\n" ++
    codes "12 reply 1 1 c1.1.3 ok\n" ++
    codes "13 call 1 1 c1.1.4 close 0\n" ++
    codes "14 commit 0.2 1 1.2 1.1 61\n" ++
    codes "14 release e1.1.1 i1.3 0.2 1.2\n" ++
    codes "14 reply 1 1 c1.1.4 ok 1.2\n" ++
    codes "14 adopt 0.2 2 1.2\n" ++
    codes "14 adopt 0.2 3 1.2\n" ++
    codes "16 call 2 1 c2.1.1 open /f s\n" ++
    codes "17 call 2 2 c2.1.2 open /f r\n" ++
    codes "18 look e1.1.1 c2.1.1 1 0.1 name f 1.1\n" ++
    codes "18 look e1.1.1 c2.1.2 1 0.1 name f 1.1\n" ++
    codes "18 grant e1.1.1 c2.1.1 2 i2.1 r 0.2 1.2 2\n" ++
    codes "18 grant e1.1.1 c2.1.2 2 i2.2 r 0.2 1.2 2\n" ++
    codes "18 reply 2 1 c2.1.1 ok 0\n" ++
    codes "18 reply 2 2 c2.1.2 ok 0\n" ++
    codes "19 call 2 1 c2.1.3 read 0 0 9\n" ++
    codes "20 act e1.1.1 i2.1 1 read 0 9 ok 61\n" ++
    codes "20 reply 2 1 c2.1.3 ok 61\n" ++
    codes "24 leave 1 e1.1.1\n" ++
    codes "25 leave 3 e1.1.1\n" ++
    codes "25 join 3 e2.3.1 3:1\n" ++
    codes "26 leave 2 e1.1.1\n" ++
    codes "26 start e2.3.1 0 1=1.1 2=1.2\n" ++
    codes "26 join 1 e2.1.1 1:1,2:1\n" ++
    codes "26 join 2 e2.1.1 1:1,2:1\n" ++
    codes "26 start e2.1.1 0 1=1.1 2=1.2\n" ++
    codes "28 call 2 1 c2.1.4 read 0 0 9\n" ++
    codes "29 call 2 2 c2.1.5 read 0 0 9\n" ++
    codes "29 reply 2 2 c2.1.5 stale e1.1.1\n" ++
    codes "30 grant e2.1.1 c2.1.4 1 i2.3 r 0.2 1.2 2\n" ++
    codes "30 act e2.1.1 i2.3 1 read 0 9 ok 61\n" ++
    codes "30 reply 2 1 c2.1.4 ok 61\n" ++
    codes "32 call 1 1 c1.1.5 open /f w\n" ++
    codes "33 look e2.1.1 c1.1.5 1 0.1 name f 1.1\n" ++
    codes "33 refuse e2.1.1 c1.1.5 2 i1.4 w 0.2 busy 2 1\n" ++
    codes "33 reply 1 1 c1.1.5 busy 2 1\n" ++
    codes "37 leave 1 e2.1.1\n" ++
    codes "38 leave 2 e2.1.1\n" ++
    codes "38 leave 3 e2.3.1\n" ++
    codes "38 join 1 e3.1.1 1:1,2:1,3:1\n" ++
    codes "38 join 2 e3.1.1 1:1,2:1,3:1\n" ++
    codes "38 join 3 e3.1.1 1:1,2:1,3:1\n" ++
    codes "38 start e3.1.1 0 1=1.1 2=1.2\n" ++
    codes "39 call 1 1 c1.1.6 open /f w\n" ++
    codes "40 look e3.1.1 c1.1.6 1 0.1 name f 1.1\n" ++
    codes "40 grant e3.1.1 c1.1.6 2 i1.5 w 0.2 1.2 1\n" ++
    codes "40 reply 1 1 c1.1.6 ok 0\n" ++
    codes "41 call 1 1 c1.1.7 write 0 0 62\n" ++
    codes "42 act e3.1.1 i1.5 1 write 0 62 ok\n" ++
    codes "42 reply 1 1 c1.1.7 ok\n" ++
    codes "43 call 1 1 c1.1.8 close 0\n" ++
    codes "44 commit 0.2 1 1.3 1.2 62\n" ++
    codes "44 release e3.1.1 i1.5 0.2 1.3\n" ++
    codes "44 reply 1 1 c1.1.8 ok 1.3\n" ++
    codes "44 adopt 0.2 2 1.3\n" ++
    codes "44 adopt 0.2 3 1.3\n" ++
    codes "46 call 2 1 c2.1.6 read 0 0 9\n" ++
    codes "47 grant e3.1.1 c2.1.6 1 i2.4 r 0.2 1.3 2\n" ++
    codes "47 release e3.1.1 i2.4 0.2 -\n" ++
    codes "47 reply 2 1 c2.1.6 stale e2.1.1\n" ++
    codes "49 call 2 1 c2.1.7 write 0 0 61\n" ++
    codes "49 reply 2 1 c2.1.7 readonly\n" ++
    codes "50 call 2 1 c2.1.8 close 0\n" ++
    codes "50 reply 2 1 c2.1.8 ok\n" ++
    []

pub runs : printed (run lines) ≡ written
unfolding digits encode_with
runs = refl
