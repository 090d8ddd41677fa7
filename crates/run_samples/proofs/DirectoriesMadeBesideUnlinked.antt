-- The run of a recorded schedule of 25 lines, to the whole text of its trace, 86 records.
use Rattle.std.specs.Prelude.{◌≡◌, refl, ℕ, List, [], ◌∷◌, ◌++◌, None, codes}
use Rattle.trace_book.specs.declared.call.Call.TheVariants as call
use Rattle.schedule_lines.specs.declared.header.HeaderLine.TheVariants as header
use Rattle.schedule_lines.specs.declared.line.Line.TheVariants as line
use Rattle.schedule_lines.specs.declared.line.ScheduleLine.{ScheduleLine}
use Rattle.schedule_lines.specs.declared.line.ScheduleLine.TheVariants.{Header, Event}
use Rattle.std.specs.Fmt.{digits}
use Rattle.hex.specs.Hex.{encode_with}
use Rattle.the_run.specs.Runs.{run, printed}

abbrev lines : List ScheduleLine
lines =
    Header (header.Sites 3) ∷
    Header (header.Group 0 (record { 0 = 7 })) ∷
    Event (line.Merge 1) ∷
    Event (line.Settle 1000) ∷
    Event (line.Call 1 1 (call.MakeDir (codes "/d"))) ∷
    Event (line.Settle 1000) ∷
    Event (line.Call 1 1 (call.Create (codes "/d/a") None)) ∷
    Event (line.Settle 1000) ∷
    Event (line.Down 1 3) ∷
    Event (line.Down 2 3) ∷
    Event (line.Part 1) ∷
    Event (line.Part 3) ∷
    Event (line.Settle 1000) ∷
    Event (line.Call 1 1 (call.Create (codes "/d/b") None)) ∷
    Event (line.Settle 1000) ∷
    Event (line.Call 3 1 (call.Unlink (codes "/d/a"))) ∷
    Event (line.Settle 1000) ∷
    Event (line.Up 1 3) ∷
    Event (line.Up 2 3) ∷
    Event (line.Merge 1) ∷
    Event (line.Settle 1000) ∷
    Event (line.Settle 1000) ∷
    Event (line.Settle 1000) ∷
    Event (line.Call 2 1 (call.List (codes "/d"))) ∷
    Event (line.Settle 1000) ∷
    []

abbrev written : List ℕ
written =
    codes "4 join 1 e1.1.1 1:1,2:1,3:1\n" ++
    codes "4 join 2 e1.1.1 1:1,2:1,3:1\n" ++
    codes "4 join 3 e1.1.1 1:1,2:1,3:1\n" ++
    codes "4 start e1.1.1 0 1=0.0\n" ++
    codes "5 call 1 1 c1.1.1 mkdir /d\n" ++
    codes "6 grant e1.1.1 c1.1.1 1 i1.1 w 0.1 0.0 1\n" ++
    codes "6 act e1.1.1 i1.1 1 probe d ok\n" ++
    codes "6 grant e1.1.1 c1.1.1 3 i1.2 n 0.2 - 1\n" ++
    codes "6 commit 0.2 1 1.1 - -\n" ++
    codes "6 release e1.1.1 i1.2 0.2 1.1\n" ++
    codes "6 adopt 0.2 2 1.1\n" ++
    codes "6 adopt 0.2 3 1.1\n" ++
    codes "6 act e1.1.1 i1.1 2 insert d 2 d ok\n" ++
    codes "6 commit 0.1 1 1.1 0.0 016400020200000001\n" ++
    codes "6 release e1.1.1 i1.1 0.1 1.1\n" ++
    codes "6 reply 1 1 c1.1.1 ok 2\n" ++
    codes "6 adopt 0.1 2 1.1\n" ++
    codes "6 adopt 0.1 3 1.1\n" ++
    codes "7 call 1 1 c1.1.2 create /d/a\n" ++
    codes "8 look e1.1.1 c1.1.2 1 0.1 name d 1.1\n" ++
    codes "8 grant e1.1.1 c1.1.2 2 i1.3 w 0.2 1.1 1\n" ++
    codes "8 act e1.1.1 i1.3 1 probe a ok\n" ++
    codes "8 grant e1.1.1 c1.1.2 4 i1.4 n 0.3 - 1\n" ++
    codes "8 commit 0.3 1 1.1 - -\n" ++
    codes "8 release e1.1.1 i1.4 0.3 1.1\n" ++
    codes "8 adopt 0.3 2 1.1\n" ++
    codes "8 adopt 0.3 3 1.1\n" ++
    codes "8 act e1.1.1 i1.3 2 insert a 3 f ok\n" ++
    codes "8 commit 0.2 1 1.2 1.1 016100030100000001\n" ++
    codes "8 release e1.1.1 i1.3 0.2 1.2\n" ++
    codes "8 reply 1 1 c1.1.2 ok 3\n" ++
    codes "8 adopt 0.2 2 1.2\n" ++
    codes "8 adopt 0.2 3 1.2\n" ++
    codes "11 leave 1 e1.1.1\n" ++
    codes "12 leave 3 e1.1.1\n" ++
    codes "12 join 3 e2.3.1 3:1\n" ++
    codes "13 leave 2 e1.1.1\n" ++
    codes "13 start e2.3.1 0 1=1.1 2=1.2 3=1.1\n" ++
    codes "13 join 1 e2.1.1 1:1,2:1\n" ++
    codes "13 join 2 e2.1.1 1:1,2:1\n" ++
    codes "13 start e2.1.1 0 1=1.1 2=1.2 3=1.1\n" ++
    codes "14 call 1 1 c1.1.3 create /d/b\n" ++
    codes "15 look e2.1.1 c1.1.3 1 0.1 name d 1.1\n" ++
    codes "15 grant e2.1.1 c1.1.3 2 i1.5 w 0.2 1.2 1\n" ++
    codes "15 act e2.1.1 i1.5 1 probe b ok\n" ++
    codes "15 grant e2.1.1 c1.1.3 4 i1.6 n 0.4 - 1\n" ++
    codes "15 commit 0.4 1 1.1 - -\n" ++
    codes "15 release e2.1.1 i1.6 0.4 1.1\n" ++
    codes "15 adopt 0.4 2 1.1\n" ++
    codes "15 act e2.1.1 i1.5 2 insert b 4 f ok\n" ++
    codes "15 commit 0.2 1 1.3 1.2 016100030100000001016200040100000001\n" ++
    codes "15 release e2.1.1 i1.5 0.2 1.3\n" ++
    codes "15 reply 1 1 c1.1.3 ok 4\n" ++
    codes "15 adopt 0.2 2 1.3\n" ++
    codes "16 call 3 1 c3.1.1 unlink /d/a\n" ++
    codes "17 look e2.3.1 c3.1.1 1 0.1 name d 1.1\n" ++
    codes "17 grant e2.3.1 c3.1.1 2 i3.1 w 0.2 1.2 3\n" ++
    codes "17 act e2.3.1 i3.1 1 find a ok 3 f\n" ++
    codes "17 grant e2.3.1 c3.1.1 4 i3.2 w 0.3 1.1 3\n" ++
    codes "17 act e2.3.1 i3.1 2 remove a 3 ok\n" ++
    codes "17 commit 0.2 3 3.1 1.2 01610003010000000200000001000000000000000000000000000000000000000000000000000000000000000000000000000000000000000000000000000000000000000000000000\n" ++
    codes "17 release e2.3.1 i3.1 0.2 3.1\n" ++
    codes "17 release e2.3.1 i3.2 0.3 -\n" ++
    codes "17 reply 3 1 c3.1.1 ok\n" ++
    codes "20 leave 1 e2.1.1\n" ++
    codes "21 leave 2 e2.1.1\n" ++
    codes "21 leave 3 e2.3.1\n" ++
    codes "21 join 1 e3.1.1 1:1,2:1,3:1\n" ++
    codes "21 join 2 e3.1.1 1:1,2:1,3:1\n" ++
    codes "21 join 3 e3.1.1 1:1,2:1,3:1\n" ++
    codes "21 start e3.1.1 0 1=1.1 2=1.3 2=3.1 3=1.1 4=1.1\n" ++
    codes "21 call 1 0 c1.1.4 mend 0.2\n" ++
    codes "21 grant e3.1.1 c1.1.4 1 i1.7 m 0.2 1.3 1\n" ++
    codes "21 adopt 0.4 3 1.1\n" ++
    codes "21 look e3.1.1 c1.1.4 2 0.2 whole 1.3\n" ++
    codes "21 look e3.1.1 c1.1.4 3 0.2 whole 3.1\n" ++
    codes "21 act e3.1.1 i1.7 1 mend ok\n" ++
    codes "21 commit 0.2 1 1.4 1.3,3.1 01610003010000000200000001000000000000000000000000000000000000000000000000000000000000000000000000000000000000000000000000000000000000000000000000016200040100000001\n" ++
    codes "21 release e3.1.1 i1.7 0.2 1.4\n" ++
    codes "21 reply 1 0 c1.1.4 ok 1.4\n" ++
    codes "21 adopt 0.2 2 1.4\n" ++
    codes "21 adopt 0.2 3 1.4\n" ++
    codes "24 call 2 1 c2.1.1 list /d\n" ++
    codes "25 look e3.1.1 c2.1.1 1 0.1 name d 1.1\n" ++
    codes "25 look e3.1.1 c2.1.1 2 0.2 list 1.4\n" ++
    codes "25 reply 2 1 c2.1.1 ok b\n" ++
    []

pub runs : printed (run lines) ≡ written
unfolding digits encode_with
runs = refl
