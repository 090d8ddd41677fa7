-- The run of a recorded schedule of 40 lines, to the whole text of its trace, 138 records.
use Rattle.std.specs.Prelude.{◌≡◌, refl, ℕ, List, [], ◌∷◌, ◌++◌, codes}
use Rattle.trace_book.specs.declared.call.Call.TheVariants as call
use Rattle.schedule_lines.specs.declared.header.HeaderLine.TheVariants as header
use Rattle.schedule_lines.specs.declared.line.Line.TheVariants as line
use Rattle.schedule_lines.specs.declared.line.ScheduleLine.{ScheduleLine}
use Rattle.schedule_lines.specs.declared.line.ScheduleLine.TheVariants.{Header, Event}
use Rattle.std.specs.Fmt.{digits}
use Rattle.hex.specs.Hex.{encode_with}
use Rattle.the_run.specs.Runs.{run, printed}

abbrev lines : List ScheduleLine
lines =
    Header (header.Sites 3) ∷
    Header (header.Group 0 (record { 0 = 7 })) ∷
    Event (line.Merge 1) ∷
    Event (line.Settle 1000) ∷
    Event (line.Call 1 1 (call.MakeDir (codes "/box"))) ∷
    Event (line.Settle 1000) ∷
    Event (line.Down 1 3) ∷
    Event (line.Down 2 3) ∷
    Event (line.Part 1) ∷
    Event (line.Part 3) ∷
    Event (line.Settle 1000) ∷
    Event (line.Call 1 1 (call.Mail (codes "/box") (104 ∷ 105 ∷ []))) ∷
    Event (line.Settle 1000) ∷
    Event (line.Call 3 1 (call.Mail (codes "/box") (121 ∷ []))) ∷
    Event (line.Settle 1000) ∷
    Event (line.Up 1 3) ∷
    Event (line.Up 2 3) ∷
    Event (line.Merge 1) ∷
    Event (line.Settle 1000) ∷
    Event (line.Call 2 1 (call.Mails (codes "/box"))) ∷
    Event (line.Settle 1000) ∷
    Event (line.Down 1 3) ∷
    Event (line.Down 2 3) ∷
    Event (line.Part 1) ∷
    Event (line.Part 3) ∷
    Event (line.Settle 1000) ∷
    Event (line.Call 1 1 (call.Unlink (codes "/box/m3.1.1"))) ∷
    Event (line.Settle 1000) ∷
    Event (line.Call 3 1 (call.Mail (codes "/box") (122 ∷ 122 ∷ []))) ∷
    Event (line.Settle 1000) ∷
    Event (line.Call 3 1 (call.Mails (codes "/box"))) ∷
    Event (line.Settle 1000) ∷
    Event (line.Call 1 1 (call.Mails (codes "/box"))) ∷
    Event (line.Settle 1000) ∷
    Event (line.Up 1 3) ∷
    Event (line.Up 2 3) ∷
    Event (line.Merge 1) ∷
    Event (line.Settle 1000) ∷
    Event (line.Call 2 1 (call.Mails (codes "/box"))) ∷
    Event (line.Settle 1000) ∷
    []

abbrev written : List ℕ
written =
    codes "4 join 1 e1.1.1 1:1,2:1,3:1\n" ++
    codes "4 join 2 e1.1.1 1:1,2:1,3:1\n" ++
    codes "4 join 3 e1.1.1 1:1,2:1,3:1\n" ++
    codes "4 start e1.1.1 0 1=0.0\n" ++
    codes "5 call 1 1 c1.1.1 mkdir /box\n" ++
    codes "6 grant e1.1.1 c1.1.1 1 i1.1 w 0.1 0.0 1\n" ++
    codes "6 act e1.1.1 i1.1 1 probe box ok\n" ++
    codes "6 grant e1.1.1 c1.1.1 3 i1.2 n 0.2 - 1\n" ++
    codes "6 commit 0.2 1 1.1 - -\n" ++
    codes "6 release e1.1.1 i1.2 0.2 1.1\n" ++
    codes "6 adopt 0.2 2 1.1\n" ++
    codes "6 adopt 0.2 3 1.1\n" ++
    codes "6 act e1.1.1 i1.1 2 insert box 2 d ok\n" ++
    codes "6 commit 0.1 1 1.1 0.0 03626f7800020200000001\n" ++
    codes "6 release e1.1.1 i1.1 0.1 1.1\n" ++
    codes "6 reply 1 1 c1.1.1 ok 2\n" ++
    codes "6 adopt 0.1 2 1.1\n" ++
    codes "6 adopt 0.1 3 1.1\n" ++
    codes "9 leave 1 e1.1.1\n" ++
    codes "10 leave 3 e1.1.1\n" ++
    codes "10 join 3 e2.3.1 3:1\n" ++
    codes "11 leave 2 e1.1.1\n" ++
    codes "11 start e2.3.1 0 1=1.1 2=1.1\n" ++
    codes "11 join 1 e2.1.1 1:1,2:1\n" ++
    codes "11 join 2 e2.1.1 1:1,2:1\n" ++
    codes "11 start e2.1.1 0 1=1.1 2=1.1\n" ++
    codes "12 call 1 1 c1.1.2 mail /box 6869\n" ++
    codes "13 look e2.1.1 c1.1.2 1 0.1 name box 1.1\n" ++
    codes "13 grant e2.1.1 c1.1.2 2 i1.3 w 0.2 1.1 1\n" ++
    codes "13 act e2.1.1 i1.3 1 probe m1.1.2 ok\n" ++
    codes "13 grant e2.1.1 c1.1.2 4 i1.4 n 0.3 - 1\n" ++
    codes "13 act e2.1.1 i1.4 1 write 0 6869 ok\n" ++
    codes "13 commit 0.3 1 1.1 - 6869\n" ++
    codes "13 release e2.1.1 i1.4 0.3 1.1\n" ++
    codes "13 act e2.1.1 i1.3 2 insert m1.1.2 3 f ok\n" ++
    codes "13 adopt 0.3 2 1.1\n" ++
    codes "13 commit 0.2 1 1.2 1.1 066d312e312e3200030100000001\n" ++
    codes "13 release e2.1.1 i1.3 0.2 1.2\n" ++
    codes "13 reply 1 1 c1.1.2 ok m1.1.2\n" ++
    codes "13 adopt 0.2 2 1.2\n" ++
    codes "14 call 3 1 c3.1.1 mail /box 79\n" ++
    codes "15 look e2.3.1 c3.1.1 1 0.1 name box 1.1\n" ++
    codes "15 grant e2.3.1 c3.1.1 2 i3.1 w 0.2 1.1 3\n" ++
    codes "15 act e2.3.1 i3.1 1 probe m3.1.1 ok\n" ++
    codes "15 grant e2.3.1 c3.1.1 4 i3.2 n 0.129 - 3\n" ++
    codes "15 act e2.3.1 i3.2 1 write 0 79 ok\n" ++
    codes "15 commit 0.129 3 3.1 - 79\n" ++
    codes "15 release e2.3.1 i3.2 0.129 3.1\n" ++
    codes "15 act e2.3.1 i3.1 2 insert m3.1.1 129 f ok\n" ++
    codes "15 commit 0.2 3 3.1 1.1 066d332e312e3100810100000001\n" ++
    codes "15 release e2.3.1 i3.1 0.2 3.1\n" ++
    codes "15 reply 3 1 c3.1.1 ok m3.1.1\n" ++
    codes "18 leave 1 e2.1.1\n" ++
    codes "19 leave 2 e2.1.1\n" ++
    codes "19 leave 3 e2.3.1\n" ++
    codes "19 join 1 e3.1.1 1:1,2:1,3:1\n" ++
    codes "19 join 2 e3.1.1 1:1,2:1,3:1\n" ++
    codes "19 join 3 e3.1.1 1:1,2:1,3:1\n" ++
    codes "19 start e3.1.1 0 1=1.1 2=1.2 2=3.1 3=1.1 129=3.1\n" ++
    codes "19 call 1 0 c1.1.3 mend 0.2\n" ++
    codes "19 grant e3.1.1 c1.1.3 1 i1.5 m 0.2 1.2 1\n" ++
    codes "19 adopt 0.129 1 3.1\n" ++
    codes "19 adopt 0.129 2 3.1\n" ++
    codes "19 adopt 0.3 3 1.1\n" ++
    codes "19 look e3.1.1 c1.1.3 2 0.2 whole 1.2\n" ++
    codes "19 look e3.1.1 c1.1.3 3 0.2 whole 3.1\n" ++
    codes "19 act e3.1.1 i1.5 1 mend ok\n" ++
    codes "19 commit 0.2 1 1.3 1.2,3.1 066d312e312e3200030100000001066d332e312e3100810100000001\n" ++
    codes "19 release e3.1.1 i1.5 0.2 1.3\n" ++
    codes "19 reply 1 0 c1.1.3 ok 1.3\n" ++
    codes "19 adopt 0.2 2 1.3\n" ++
    codes "19 adopt 0.2 3 1.3\n" ++
    codes "20 call 2 1 c2.1.1 mails /box\n" ++
    codes "21 look e3.1.1 c2.1.1 1 0.1 name box 1.1\n" ++
    codes "21 look e3.1.1 c2.1.1 2 0.2 list 1.3\n" ++
    codes "21 reply 2 1 c2.1.1 ok m1.1.2 m3.1.1\n" ++
    codes "24 leave 1 e3.1.1\n" ++
    codes "25 leave 3 e3.1.1\n" ++
    codes "25 join 3 e4.3.1 3:1\n" ++
    codes "26 leave 2 e3.1.1\n" ++
    codes "26 start e4.3.1 0 1=1.1 2=1.3 3=1.1 129=3.1\n" ++
    codes "26 join 1 e4.1.1 1:1,2:1\n" ++
    codes "26 join 2 e4.1.1 1:1,2:1\n" ++
    codes "26 start e4.1.1 0 1=1.1 2=1.3 3=1.1 129=3.1\n" ++
    codes "27 call 1 1 c1.1.4 unlink /box/m3.1.1\n" ++
    codes "28 look e4.1.1 c1.1.4 1 0.1 name box 1.1\n" ++
    codes "28 grant e4.1.1 c1.1.4 2 i1.6 w 0.2 1.3 1\n" ++
    codes "28 act e4.1.1 i1.6 1 find m3.1.1 ok 129 f\n" ++
    codes "28 grant e4.1.1 c1.1.4 4 i1.7 w 0.129 3.1 1\n" ++
    codes "28 act e4.1.1 i1.6 2 remove m3.1.1 129 ok\n" ++
    codes "28 commit 0.2 1 1.4 1.3 066d312e312e3200030100000001066d332e312e310081010000000200000000000000000000000100000000000000000000000000000000000000000000000000000000000000000000000000000000000000000000000000000000\n" ++
    codes "28 release e4.1.1 i1.6 0.2 1.4\n" ++
    codes "28 release e4.1.1 i1.7 0.129 -\n" ++
    codes "28 adopt 0.2 2 1.4\n" ++
    codes "28 reply 1 1 c1.1.4 ok\n" ++
    codes "29 call 3 1 c3.1.2 mail /box 7a7a\n" ++
    codes "30 look e4.3.1 c3.1.2 1 0.1 name box 1.1\n" ++
    codes "30 grant e4.3.1 c3.1.2 2 i3.3 w 0.2 1.3 3\n" ++
    codes "30 act e4.3.1 i3.3 1 probe m3.1.2 ok\n" ++
    codes "30 grant e4.3.1 c3.1.2 4 i3.4 n 0.130 - 3\n" ++
    codes "30 act e4.3.1 i3.4 1 write 0 7a7a ok\n" ++
    codes "30 commit 0.130 3 3.1 - 7a7a\n" ++
    codes "30 release e4.3.1 i3.4 0.130 3.1\n" ++
    codes "30 act e4.3.1 i3.3 2 insert m3.1.2 130 f ok\n" ++
    codes "30 commit 0.2 3 3.2 1.3 066d312e312e3200030100000001066d332e312e3100810100000001066d332e312e3200820100000001\n" ++
    codes "30 release e4.3.1 i3.3 0.2 3.2\n" ++
    codes "30 reply 3 1 c3.1.2 ok m3.1.2\n" ++
    codes "31 call 3 1 c3.1.3 mails /box\n" ++
    codes "32 look e4.3.1 c3.1.3 1 0.1 name box 1.1\n" ++
    codes "32 look e4.3.1 c3.1.3 2 0.2 list 3.2\n" ++
    codes "32 reply 3 1 c3.1.3 ok m1.1.2 m3.1.1 m3.1.2\n" ++
    codes "33 call 1 1 c1.1.5 mails /box\n" ++
    codes "34 look e4.1.1 c1.1.5 1 0.1 name box 1.1\n" ++
    codes "34 look e4.1.1 c1.1.5 2 0.2 list 1.4\n" ++
    codes "34 reply 1 1 c1.1.5 ok m1.1.2\n" ++
    codes "37 leave 1 e4.1.1\n" ++
    codes "38 leave 2 e4.1.1\n" ++
    codes "38 leave 3 e4.3.1\n" ++
    codes "38 join 1 e5.1.1 1:1,2:1,3:1\n" ++
    codes "38 join 2 e5.1.1 1:1,2:1,3:1\n" ++
    codes "38 join 3 e5.1.1 1:1,2:1,3:1\n" ++
    codes "38 start e5.1.1 0 1=1.1 2=1.4 2=3.2 3=1.1 129=3.1 130=3.1\n" ++
    codes "38 call 1 0 c1.1.6 mend 0.2\n" ++
    codes "38 grant e5.1.1 c1.1.6 1 i1.8 m 0.2 1.4 1\n" ++
    codes "38 adopt 0.130 1 3.1\n" ++
    codes "38 adopt 0.130 2 3.1\n" ++
    codes "38 look e5.1.1 c1.1.6 2 0.2 whole 1.4\n" ++
    codes "38 look e5.1.1 c1.1.6 3 0.2 whole 3.2\n" ++
    codes "38 act e5.1.1 i1.8 1 mend ok\n" ++
    codes "38 commit 0.2 1 1.5 1.4,3.2 066d312e312e3200030100000001066d332e312e310081010000000200000000000000000000000100000000000000000000000000000000000000000000000000000000000000000000000000000000000000000000000000000000066d332e312e3200820100000001\n" ++
    codes "38 release e5.1.1 i1.8 0.2 1.5\n" ++
    codes "38 reply 1 0 c1.1.6 ok 1.5\n" ++
    codes "38 adopt 0.2 2 1.5\n" ++
    codes "38 adopt 0.2 3 1.5\n" ++
    codes "39 call 2 1 c2.1.2 mails /box\n" ++
    codes "40 look e5.1.1 c2.1.2 1 0.1 name box 1.1\n" ++
    codes "40 look e5.1.1 c2.1.2 2 0.2 list 1.5\n" ++
    codes "40 reply 2 1 c2.1.2 ok m1.1.2 m3.1.2\n" ++
    []

pub runs : printed (run lines) ≡ written
unfolding digits encode_with
runs = refl
