-- The run of a recorded schedule of 31 lines, to the whole text of its trace, 92 records.
use Rattle.std.specs.Prelude.{◌≡◌, refl, ℕ, List, [], ◌∷◌, ◌++◌, codes}
use Rattle.trace_book.specs.declared.call.Call.TheVariants as call
use Rattle.schedule_lines.specs.declared.header.HeaderLine.TheVariants as header
use Rattle.schedule_lines.specs.declared.line.Line.TheVariants as line
use Rattle.schedule_lines.specs.declared.line.ScheduleLine.{ScheduleLine}
use Rattle.schedule_lines.specs.declared.line.ScheduleLine.TheVariants.{Passed, Header, Event}
use Rattle.std.specs.Fmt.{digits}
use Rattle.hex.specs.Hex.{encode_with}
use Rattle.the_run.specs.Runs.{run, printed}

abbrev lines : List ScheduleLine
lines =
    Passed ∷
    Header (header.Sites 3) ∷
    Header (header.Group 0 (record { 0 = 7 })) ∷
    Event (line.Merge 1) ∷
    Event (line.Settle 1000) ∷
    Passed ∷
    Event (line.Call 1 1 (call.MakeDir (codes "/box"))) ∷
    Event (line.Settle 1000) ∷
    Passed ∷
    Event (line.Down 1 3) ∷
    Event (line.Down 2 3) ∷
    Event (line.Part 1) ∷
    Event (line.Part 3) ∷
    Event (line.Settle 1000) ∷
    Passed ∷
    Event (line.Call 1 1 (call.Mail (codes "/box") (104 ∷ 105 ∷ []))) ∷
    Event (line.Settle 1000) ∷
    Event (line.Call 3 1 (call.Mail (codes "/box") (121 ∷ []))) ∷
    Event (line.Settle 1000) ∷
    Passed ∷
    Event (line.Up 1 3) ∷
    Event (line.Up 2 3) ∷
    Event (line.Merge 1) ∷
    Event (line.Settle 1000) ∷
    Event (line.Call 2 1 (call.Mails (codes "/box"))) ∷
    Event (line.Settle 1000) ∷
    Passed ∷
    Event (line.Call 2 1 (call.Unlink (codes "/box/m1.1.2"))) ∷
    Event (line.Settle 1000) ∷
    Event (line.Call 1 1 (call.Mails (codes "/box"))) ∷
    Event (line.Settle 1000) ∷
    []

abbrev written : List ℕ
written =
    codes "5 join 1 e1.1.1 1:1,2:1,3:1\n" ++
    codes "5 join 2 e1.1.1 1:1,2:1,3:1\n" ++
    codes "5 join 3 e1.1.1 1:1,2:1,3:1\n" ++
    codes "5 start e1.1.1 0 1=0.0\n" ++
    codes "7 call 1 1 c1.1.1 mkdir /box\n" ++
    codes "8 grant e1.1.1 c1.1.1 1 i1.1 w 0.1 0.0 1\n" ++
    codes "8 act e1.1.1 i1.1 1 probe box ok\n" ++
    codes "8 grant e1.1.1 c1.1.1 3 i1.2 n 0.2 - 1\n" ++
    codes "8 commit 0.2 1 1.1 - -\n" ++
    codes "8 release e1.1.1 i1.2 0.2 1.1\n" ++
    codes "8 adopt 0.2 2 1.1\n" ++
    codes "8 adopt 0.2 3 1.1\n" ++
    codes "8 act e1.1.1 i1.1 2 insert box 2 d ok\n" ++
    codes "8 commit 0.1 1 1.1 0.0 03626f7800020200000001\n" ++
    codes "8 release e1.1.1 i1.1 0.1 1.1\n" ++
    codes "8 reply 1 1 c1.1.1 ok 2\n" ++
    codes "8 adopt 0.1 2 1.1\n" ++
    codes "8 adopt 0.1 3 1.1\n" ++
    codes "12 leave 1 e1.1.1\n" ++
    codes "13 leave 3 e1.1.1\n" ++
    codes "13 join 3 e2.3.1 3:1\n" ++
    codes "14 leave 2 e1.1.1\n" ++
    codes "14 start e2.3.1 0 1=1.1 2=1.1\n" ++
    codes "14 join 1 e2.1.1 1:1,2:1\n" ++
    codes "14 join 2 e2.1.1 1:1,2:1\n" ++
    codes "14 start e2.1.1 0 1=1.1 2=1.1\n" ++
    codes "16 call 1 1 c1.1.2 mail /box 6869\n" ++
    codes "17 look e2.1.1 c1.1.2 1 0.1 name box 1.1\n" ++
    codes "17 grant e2.1.1 c1.1.2 2 i1.3 w 0.2 1.1 1\n" ++
    codes "17 act e2.1.1 i1.3 1 probe m1.1.2 ok\n" ++
    codes "17 grant e2.1.1 c1.1.2 4 i1.4 n 0.3 - 1\n" ++
    codes "17 act e2.1.1 i1.4 1 write 0 6869 ok\n" ++
    codes "17 commit 0.3 1 1.1 - 6869\n" ++
    codes "17 release e2.1.1 i1.4 0.3 1.1\n" ++
    codes "17 act e2.1.1 i1.3 2 insert m1.1.2 3 f ok\n" ++
    codes "17 adopt 0.3 2 1.1\n" ++
    codes "17 commit 0.2 1 1.2 1.1 066d312e312e3200030100000001\n" ++
    codes "17 release e2.1.1 i1.3 0.2 1.2\n" ++
    codes "17 reply 1 1 c1.1.2 ok m1.1.2\n" ++
    codes "17 adopt 0.2 2 1.2\n" ++
    codes "18 call 3 1 c3.1.1 mail /box 79\n" ++
    codes "19 look e2.3.1 c3.1.1 1 0.1 name box 1.1\n" ++
    codes "19 grant e2.3.1 c3.1.1 2 i3.1 w 0.2 1.1 3\n" ++
    codes "19 act e2.3.1 i3.1 1 probe m3.1.1 ok\n" ++
    codes "19 grant e2.3.1 c3.1.1 4 i3.2 n 0.129 - 3\n" ++
    codes "19 act e2.3.1 i3.2 1 write 0 79 ok\n" ++
    codes "19 commit 0.129 3 3.1 - 79\n" ++
    codes "19 release e2.3.1 i3.2 0.129 3.1\n" ++
    codes "19 act e2.3.1 i3.1 2 insert m3.1.1 129 f ok\n" ++
    codes "19 commit 0.2 3 3.1 1.1 066d332e312e3100810100000001\n" ++
    codes "19 release e2.3.1 i3.1 0.2 3.1\n" ++
    codes "19 reply 3 1 c3.1.1 ok m3.1.1\n" ++
    codes "23 leave 1 e2.1.1\n" ++
    codes "24 leave 2 e2.1.1\n" ++
    codes "24 leave 3 e2.3.1\n" ++
    codes "24 join 1 e3.1.1 1:1,2:1,3:1\n" ++
    codes "24 join 2 e3.1.1 1:1,2:1,3:1\n" ++
    codes "24 join 3 e3.1.1 1:1,2:1,3:1\n" ++
    codes "24 start e3.1.1 0 1=1.1 2=1.2 2=3.1 3=1.1 129=3.1\n" ++
    codes "24 call 1 0 c1.1.3 mend 0.2\n" ++
    codes "24 grant e3.1.1 c1.1.3 1 i1.5 m 0.2 1.2 1\n" ++
    codes "24 adopt 0.129 1 3.1\n" ++
    codes "24 adopt 0.129 2 3.1\n" ++
    codes "24 adopt 0.3 3 1.1\n" ++
    codes "24 look e3.1.1 c1.1.3 2 0.2 whole 1.2\n" ++
    codes "24 look e3.1.1 c1.1.3 3 0.2 whole 3.1\n" ++
    codes "24 act e3.1.1 i1.5 1 mend ok\n" ++
    codes "24 commit 0.2 1 1.3 1.2,3.1 066d312e312e3200030100000001066d332e312e3100810100000001\n" ++
    codes "24 release e3.1.1 i1.5 0.2 1.3\n" ++
    codes "24 reply 1 0 c1.1.3 ok 1.3\n" ++
    codes "24 adopt 0.2 2 1.3\n" ++
    codes "24 adopt 0.2 3 1.3\n" ++
    codes "25 call 2 1 c2.1.1 mails /box\n" ++
    codes "26 look e3.1.1 c2.1.1 1 0.1 name box 1.1\n" ++
    codes "26 look e3.1.1 c2.1.1 2 0.2 list 1.3\n" ++
    codes "26 reply 2 1 c2.1.1 ok m1.1.2 m3.1.1\n" ++
    codes "28 call 2 1 c2.1.2 unlink /box/m1.1.2\n" ++
    codes "29 look e3.1.1 c2.1.2 1 0.1 name box 1.1\n" ++
    codes "29 grant e3.1.1 c2.1.2 2 i2.1 w 0.2 1.3 2\n" ++
    codes "29 act e3.1.1 i2.1 1 find m1.1.2 ok 3 f\n" ++
    codes "29 grant e3.1.1 c2.1.2 4 i2.2 w 0.3 1.1 2\n" ++
    codes "29 act e3.1.1 i2.1 2 remove m1.1.2 3 ok\n" ++
    codes "29 commit 0.2 2 2.1 1.3 066d312e312e320003010000000200000001000000000000000000000000000000000000000000000000000000000000000000000000000000000000000000000000000000000000000000000000066d332e312e3100810100000001\n" ++
    codes "29 release e3.1.1 i2.1 0.2 2.1\n" ++
    codes "29 release e3.1.1 i2.2 0.3 -\n" ++
    codes "29 adopt 0.2 1 2.1\n" ++
    codes "29 adopt 0.2 3 2.1\n" ++
    codes "29 reply 2 1 c2.1.2 ok\n" ++
    codes "30 call 1 1 c1.1.4 mails /box\n" ++
    codes "31 look e3.1.1 c1.1.4 1 0.1 name box 1.1\n" ++
    codes "31 look e3.1.1 c1.1.4 2 0.2 list 2.1\n" ++
    codes "31 reply 1 1 c1.1.4 ok m3.1.1\n" ++
    []

pub runs : printed (run lines) ≡ written
unfolding digits encode_with
runs = refl
