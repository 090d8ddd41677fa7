-- The run of a recorded schedule of 31 lines, to the whole text of its trace, 79 records.
use Rattle.std.specs.Prelude.{◌≡◌, refl, ℕ, List, [], ◌∷◌, ◌++◌, None, codes}
use Rattle.trace_book.specs.declared.call.Call.TheVariants as call
use Rattle.trace_book.specs.declared.call.OpenMode.TheVariants as how
use Rattle.schedule_lines.specs.declared.header.HeaderLine.TheVariants as header
use Rattle.schedule_lines.specs.declared.line.Line.TheVariants as line
use Rattle.schedule_lines.specs.declared.line.ScheduleLine.{ScheduleLine}
use Rattle.schedule_lines.specs.declared.line.ScheduleLine.TheVariants.{Header, Event}
use Rattle.std.specs.Fmt.{digits}
use Rattle.hex.specs.Hex.{encode_with}
use Rattle.the_run.specs.Runs.{run, printed}

abbrev lines : List ScheduleLine
lines =
    Header (header.Sites 3) ∷
    Header (header.Group 0 (record { 0 = 7 })) ∷
    Event (line.Merge 1) ∷
    Event (line.Settle 1000) ∷
    Event (line.Call 1 1 (call.Create (codes "/f") None)) ∷
    Event (line.Settle 1000) ∷
    Event (line.Down 1 3) ∷
    Event (line.Down 2 3) ∷
    Event (line.Part 1) ∷
    Event (line.Part 3) ∷
    Event (line.Settle 1000) ∷
    Event (line.Call 1 1 (call.Unlink (codes "/f"))) ∷
    Event (line.Settle 1000) ∷
    Event (line.Call 1 1 (call.List (codes "/"))) ∷
    Event (line.Settle 1000) ∷
    Event (line.Call 3 1 (call.Open (codes "/f") how.Write)) ∷
    Event (line.Settle 1000) ∷
    Event (line.Call 3 1 (call.Write 0 0 (99 ∷ []))) ∷
    Event (line.Settle 1000) ∷
    Event (line.Call 3 1 (call.Close 0)) ∷
    Event (line.Settle 1000) ∷
    Event (line.Up 1 3) ∷
    Event (line.Up 2 3) ∷
    Event (line.Merge 1) ∷
    Event (line.Settle 1000) ∷
    Event (line.Call 2 1 (call.List (codes "/"))) ∷
    Event (line.Settle 1000) ∷
    Event (line.Call 2 1 (call.Open (codes "/f") how.Read)) ∷
    Event (line.Settle 1000) ∷
    Event (line.Call 2 1 (call.Read 0 0 10)) ∷
    Event (line.Settle 1000) ∷
    []

abbrev written : List ℕ
written =
    codes "4 join 1 e1.1.1 1:1,2:1,3:1\n" ++
    codes "4 join 2 e1.1.1 1:1,2:1,3:1\n" ++
    codes "4 join 3 e1.1.1 1:1,2:1,3:1\n" ++
    codes "4 start e1.1.1 0 1=0.0\n" ++
    codes "5 call 1 1 c1.1.1 create /f\n" ++
    codes "6 grant e1.1.1 c1.1.1 1 i1.1 w 0.1 0.0 1\n" ++
    codes "6 act e1.1.1 i1.1 1 probe f ok\n" ++
    codes "6 grant e1.1.1 c1.1.1 3 i1.2 n 0.2 - 1\n" ++
    codes "6 commit 0.2 1 1.1 - -\n" ++
    codes "6 release e1.1.1 i1.2 0.2 1.1\n" ++
    codes "6 adopt 0.2 2 1.1\n" ++
    codes "6 adopt 0.2 3 1.1\n" ++
    codes "6 act e1.1.1 i1.1 2 insert f 2 f ok\n" ++
    codes "6 commit 0.1 1 1.1 0.0 016600020100000001\n" ++
    codes "6 release e1.1.1 i1.1 0.1 1.1\n" ++
    codes "6 reply 1 1 c1.1.1 ok 2\n" ++
    codes "6 adopt 0.1 2 1.1\n" ++
    codes "6 adopt 0.1 3 1.1\n" ++
    codes "9 leave 1 e1.1.1\n" ++
    codes "10 leave 3 e1.1.1\n" ++
    codes "10 join 3 e2.3.1 3:1\n" ++
    codes "11 leave 2 e1.1.1\n" ++
    codes "11 start e2.3.1 0 1=1.1 2=1.1\n" ++
    codes "11 join 1 e2.1.1 1:1,2:1\n" ++
    codes "11 join 2 e2.1.1 1:1,2:1\n" ++
    codes "11 start e2.1.1 0 1=1.1 2=1.1\n" ++
    codes "12 call 1 1 c1.1.2 unlink /f\n" ++
    codes "13 grant e2.1.1 c1.1.2 1 i1.3 w 0.1 1.1 1\n" ++
    codes "13 act e2.1.1 i1.3 1 find f ok 2 f\n" ++
    codes "13 grant e2.1.1 c1.1.2 3 i1.4 w 0.2 1.1 1\n" ++
    codes "13 act e2.1.1 i1.3 2 remove f 2 ok\n" ++
    codes "13 commit 0.1 1 1.2 1.1 01660002010000000200000001000000000000000000000000000000000000000000000000000000000000000000000000000000000000000000000000000000000000000000000000\n" ++
    codes "13 release e2.1.1 i1.3 0.1 1.2\n" ++
    codes "13 release e2.1.1 i1.4 0.2 -\n" ++
    codes "13 adopt 0.1 2 1.2\n" ++
    codes "13 reply 1 1 c1.1.2 ok\n" ++
    codes "14 call 1 1 c1.1.3 list /\n" ++
    codes "15 look e2.1.1 c1.1.3 1 0.1 list 1.2\n" ++
    codes "15 reply 1 1 c1.1.3 ok\n" ++
    codes "16 call 3 1 c3.1.1 open /f w\n" ++
    codes "17 look e2.3.1 c3.1.1 1 0.1 name f 1.1\n" ++
    codes "17 grant e2.3.1 c3.1.1 2 i3.1 w 0.2 1.1 3\n" ++
    codes "17 reply 3 1 c3.1.1 ok 0\n" ++
    codes "18 call 3 1 c3.1.2 write 0 0 63\n" ++
    codes "19 act e2.3.1 i3.1 1 write 0 63 ok\n" ++
    codes "19 reply 3 1 c3.1.2 ok\n" ++
    codes "20 call 3 1 c3.1.3 close 0\n" ++
    codes "21 commit 0.2 3 3.1 1.1 63\n" ++
    codes "21 release e2.3.1 i3.1 0.2 3.1\n" ++
    codes "21 reply 3 1 c3.1.3 ok 3.1\n" ++
    codes "24 leave 1 e2.1.1\n" ++
    codes "25 leave 2 e2.1.1\n" ++
    codes "25 leave 3 e2.3.1\n" ++
    codes "25 join 1 e3.1.1 1:1,2:1,3:1\n" ++
    codes "25 join 2 e3.1.1 1:1,2:1,3:1\n" ++
    codes "25 join 3 e3.1.1 1:1,2:1,3:1\n" ++
    codes "25 start e3.1.1 0 1=1.1 1=1.2 2=1.1 2=3.1\n" ++
    codes "25 call 1 0 c1.1.4 mend 0.1\n" ++
    codes "25 grant e3.1.1 c1.1.4 1 i1.5 m 0.1 1.2 1\n" ++
    codes "25 look e3.1.1 c1.1.4 2 0.1 whole 1.2\n" ++
    codes "25 adopt 0.2 1 3.1\n" ++
    codes "25 adopt 0.2 2 3.1\n" ++
    codes "25 adopt 0.1 3 1.2\n" ++
    codes "25 act e3.1.1 i1.5 1 mend ok\n" ++
    codes "25 commit 0.1 1 1.3 1.2 016600020100000003\n" ++
    codes "25 release e3.1.1 i1.5 0.1 1.3\n" ++
    codes "25 reply 1 0 c1.1.4 ok 1.3\n" ++
    codes "25 adopt 0.1 2 1.3\n" ++
    codes "25 adopt 0.1 3 1.3\n" ++
    codes "26 call 2 1 c2.1.1 list /\n" ++
    codes "27 look e3.1.1 c2.1.1 1 0.1 list 1.3\n" ++
    codes "27 reply 2 1 c2.1.1 ok f\n" ++
    codes "28 call 2 1 c2.1.2 open /f r\n" ++
    codes "29 look e3.1.1 c2.1.2 1 0.1 name f 1.3\n" ++
    codes "29 grant e3.1.1 c2.1.2 2 i2.1 r 0.2 3.1 2\n" ++
    codes "29 reply 2 1 c2.1.2 ok 0\n" ++
    codes "30 call 2 1 c2.1.3 read 0 0 10\n" ++
    codes "31 act e3.1.1 i2.1 1 read 0 10 ok 63\n" ++
    codes "31 reply 2 1 c2.1.3 ok 63\n" ++
    []

pub runs : printed (run lines) ≡ written
unfolding digits encode_with
runs = refl
