-- The run of a recorded schedule of 25 lines, to the whole text of its trace, 74 records.
use Rattle.std.specs.Prelude.{◌≡◌, refl, ℕ, List, [], ◌∷◌, ◌++◌, None, codes}
use Rattle.trace_book.specs.declared.call.Call.TheVariants as call
use Rattle.schedule_lines.specs.declared.header.HeaderLine.TheVariants as header
use Rattle.schedule_lines.specs.declared.line.Line.TheVariants as line
use Rattle.schedule_lines.specs.declared.line.ScheduleLine.{ScheduleLine}
use Rattle.schedule_lines.specs.declared.line.ScheduleLine.TheVariants.{Header, Event}
use Rattle.std.specs.Fmt.{digits}
use Rattle.hex.specs.Hex.{encode_with}
use Rattle.the_run.specs.Runs.{run, printed}

abbrev lines : List ScheduleLine
lines =
    Header (header.Sites 3) ∷
    Header (header.Group 0 (record { 0 = 7 })) ∷
    Event (line.Merge 1) ∷
    Event (line.Settle 1000) ∷
    Event (line.Down 1 3) ∷
    Event (line.Down 2 3) ∷
    Event (line.Part 1) ∷
    Event (line.Part 3) ∷
    Event (line.Settle 1000) ∷
    Event (line.Call 1 1 (call.Create (codes "/m9.1.1") None)) ∷
    Event (line.Settle 1000) ∷
    Event (line.Call 3 1 (call.Create (codes "/m9.1.1") None)) ∷
    Event (line.Settle 1000) ∷
    Event (line.Up 1 3) ∷
    Event (line.Up 2 3) ∷
    Event (line.Merge 1) ∷
    Event (line.Settle 1000) ∷
    Event (line.Call 2 1 (call.Mails (codes "/"))) ∷
    Event (line.Settle 1000) ∷
    Event (line.Call 2 1 (call.List (codes "/"))) ∷
    Event (line.Settle 1000) ∷
    Event (line.Call 2 1 (call.Unlink (codes "/m9.1.1@2"))) ∷
    Event (line.Settle 1000) ∷
    Event (line.Call 2 1 (call.Mails (codes "/"))) ∷
    Event (line.Settle 1000) ∷
    []

abbrev written : List ℕ
written =
    codes "4 join 1 e1.1.1 1:1,2:1,3:1\n" ++
    codes "4 join 2 e1.1.1 1:1,2:1,3:1\n" ++
    codes "4 join 3 e1.1.1 1:1,2:1,3:1\n" ++
    codes "4 start e1.1.1 0 1=0.0\n" ++
    codes "7 leave 1 e1.1.1\n" ++
    codes "8 leave 3 e1.1.1\n" ++
    codes "8 join 3 e2.3.1 3:1\n" ++
    codes "9 leave 2 e1.1.1\n" ++
    codes "9 start e2.3.1 0 1=0.0\n" ++
    codes "9 join 1 e2.1.1 1:1,2:1\n" ++
    codes "9 join 2 e2.1.1 1:1,2:1\n" ++
    codes "9 start e2.1.1 0 1=0.0\n" ++
    codes "10 call 1 1 c1.1.1 create /m9.1.1\n" ++
    codes "11 grant e2.1.1 c1.1.1 1 i1.1 w 0.1 0.0 1\n" ++
    codes "11 act e2.1.1 i1.1 1 probe m9.1.1 ok\n" ++
    codes "11 grant e2.1.1 c1.1.1 3 i1.2 n 0.2 - 1\n" ++
    codes "11 commit 0.2 1 1.1 - -\n" ++
    codes "11 release e2.1.1 i1.2 0.2 1.1\n" ++
    codes "11 adopt 0.2 2 1.1\n" ++
    codes "11 act e2.1.1 i1.1 2 insert m9.1.1 2 f ok\n" ++
    codes "11 commit 0.1 1 1.1 0.0 066d392e312e3100020100000001\n" ++
    codes "11 release e2.1.1 i1.1 0.1 1.1\n" ++
    codes "11 reply 1 1 c1.1.1 ok 2\n" ++
    codes "11 adopt 0.1 2 1.1\n" ++
    codes "12 call 3 1 c3.1.1 create /m9.1.1\n" ++
    codes "13 grant e2.3.1 c3.1.1 1 i3.1 w 0.1 0.0 3\n" ++
    codes "13 act e2.3.1 i3.1 1 probe m9.1.1 ok\n" ++
    codes "13 grant e2.3.1 c3.1.1 3 i3.2 n 0.129 - 3\n" ++
    codes "13 commit 0.129 3 3.1 - -\n" ++
    codes "13 release e2.3.1 i3.2 0.129 3.1\n" ++
    codes "13 act e2.3.1 i3.1 2 insert m9.1.1 129 f ok\n" ++
    codes "13 commit 0.1 3 3.1 0.0 066d392e312e3100810100000001\n" ++
    codes "13 release e2.3.1 i3.1 0.1 3.1\n" ++
    codes "13 reply 3 1 c3.1.1 ok 129\n" ++
    codes "16 leave 1 e2.1.1\n" ++
    codes "17 leave 2 e2.1.1\n" ++
    codes "17 leave 3 e2.3.1\n" ++
    codes "17 join 1 e3.1.1 1:1,2:1,3:1\n" ++
    codes "17 join 2 e3.1.1 1:1,2:1,3:1\n" ++
    codes "17 join 3 e3.1.1 1:1,2:1,3:1\n" ++
    codes "17 start e3.1.1 0 1=1.1 1=3.1 2=1.1 129=3.1\n" ++
    codes "17 call 1 0 c1.1.2 mend 0.1\n" ++
    codes "17 grant e3.1.1 c1.1.2 1 i1.3 m 0.1 1.1 1\n" ++
    codes "17 adopt 0.129 1 3.1\n" ++
    codes "17 adopt 0.129 2 3.1\n" ++
    codes "17 adopt 0.2 3 1.1\n" ++
    codes "17 look e3.1.1 c1.1.2 2 0.1 whole 1.1\n" ++
    codes "17 look e3.1.1 c1.1.2 3 0.1 whole 3.1\n" ++
    codes "17 act e3.1.1 i1.3 1 mend ok\n" ++
    codes "17 commit 0.1 1 1.2 1.1,3.1 066d392e312e3100020100000001066d392e312e3100810100000001\n" ++
    codes "17 release e3.1.1 i1.3 0.1 1.2\n" ++
    codes "17 reply 1 0 c1.1.2 ok 1.2\n" ++
    codes "17 adopt 0.1 2 1.2\n" ++
    codes "17 adopt 0.1 3 1.2\n" ++
    codes "18 call 2 1 c2.1.1 mails /\n" ++
    codes "19 look e3.1.1 c2.1.1 1 0.1 list 1.2\n" ++
    codes "19 reply 2 1 c2.1.1 ok m9.1.1@2 m9.1.1@129\n" ++
    codes "20 call 2 1 c2.1.2 list /\n" ++
    codes "21 look e3.1.1 c2.1.2 1 0.1 list 1.2\n" ++
    codes "21 reply 2 1 c2.1.2 ok m9.1.1@2 m9.1.1@129\n" ++
    codes "22 call 2 1 c2.1.3 unlink /m9.1.1@2\n" ++
    codes "23 grant e3.1.1 c2.1.3 1 i2.1 w 0.1 1.2 2\n" ++
    codes "23 act e3.1.1 i2.1 1 find m9.1.1@2 ok 2 f\n" ++
    codes "23 grant e3.1.1 c2.1.3 3 i2.2 w 0.2 1.1 2\n" ++
    codes "23 act e3.1.1 i2.1 2 remove m9.1.1 2 ok\n" ++
    codes "23 commit 0.1 2 2.1 1.2 066d392e312e310002010000000200000001000000000000000000000000000000000000000000000000000000000000000000000000000000000000000000000000000000000000000000000000066d392e312e3100810100000001\n" ++
    codes "23 release e3.1.1 i2.1 0.1 2.1\n" ++
    codes "23 release e3.1.1 i2.2 0.2 -\n" ++
    codes "23 adopt 0.1 1 2.1\n" ++
    codes "23 adopt 0.1 3 2.1\n" ++
    codes "23 reply 2 1 c2.1.3 ok\n" ++
    codes "24 call 2 1 c2.1.4 mails /\n" ++
    codes "25 look e3.1.1 c2.1.4 1 0.1 list 2.1\n" ++
    codes "25 reply 2 1 c2.1.4 ok m9.1.1\n" ++
    []

pub runs : printed (run lines) ≡ written
unfolding digits encode_with
runs = refl
