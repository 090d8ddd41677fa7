-- The run of a recorded schedule of 25 lines, to the whole text of its trace, 76 records.
use Rattle.std.specs.Prelude.{◌≡◌, refl, ℕ, List, [], ◌∷◌, ◌++◌, None, codes}
use Rattle.trace_book.specs.declared.call.Call.TheVariants as call
use Rattle.schedule_lines.specs.declared.header.HeaderLine.TheVariants as header
use Rattle.schedule_lines.specs.declared.line.Line.TheVariants as line
use Rattle.schedule_lines.specs.declared.line.ScheduleLine.{ScheduleLine}
use Rattle.schedule_lines.specs.declared.line.ScheduleLine.TheVariants.{Header, Event}
use Rattle.std.specs.Fmt.{digits}
use Rattle.hex.specs.Hex.{encode_with}
use Rattle.the_run.specs.Runs.{run, printed}

abbrev lines : List ScheduleLine
lines =
    Header (header.Sites 3) ∷
    Header (header.Group 0 (record { 0 = 7 })) ∷
    Event (line.Merge 1) ∷
    Event (line.Settle 1000) ∷
    Event (line.Call 1 1 (call.MakeDir (codes "/d"))) ∷
    Event (line.Settle 1000) ∷
    Event (line.Down 1 3) ∷
    Event (line.Down 2 3) ∷
    Event (line.Part 1) ∷
    Event (line.Part 3) ∷
    Event (line.Settle 1000) ∷
    Event (line.Call 3 1 (call.Create (codes "/d/b") None)) ∷
    Event (line.Settle 1000) ∷
    Event (line.Call 1 1 (call.RemoveDir (codes "/d"))) ∷
    Event (line.Settle 1000) ∷
    Event (line.Up 1 3) ∷
    Event (line.Up 2 3) ∷
    Event (line.Merge 1) ∷
    Event (line.Settle 1000) ∷
    Event (line.Settle 1000) ∷
    Event (line.Settle 1000) ∷
    Event (line.Call 2 1 (call.List (codes "/"))) ∷
    Event (line.Settle 1000) ∷
    Event (line.Call 2 1 (call.List (codes "/d"))) ∷
    Event (line.Settle 1000) ∷
    []

abbrev written : List ℕ
written =
    codes "4 join 1 e1.1.1 1:1,2:1,3:1\n" ++
    codes "4 join 2 e1.1.1 1:1,2:1,3:1\n" ++
    codes "4 join 3 e1.1.1 1:1,2:1,3:1\n" ++
    codes "4 start e1.1.1 0 1=0.0\n" ++
    codes "5 call 1 1 c1.1.1 mkdir /d\n" ++
    codes "6 grant e1.1.1 c1.1.1 1 i1.1 w 0.1 0.0 1\n" ++
    codes "6 act e1.1.1 i1.1 1 probe d ok\n" ++
    codes "6 grant e1.1.1 c1.1.1 3 i1.2 n 0.2 - 1\n" ++
    codes "6 commit 0.2 1 1.1 - -\n" ++
    codes "6 release e1.1.1 i1.2 0.2 1.1\n" ++
    codes "6 adopt 0.2 2 1.1\n" ++
    codes "6 adopt 0.2 3 1.1\n" ++
    codes "6 act e1.1.1 i1.1 2 insert d 2 d ok\n" ++
    codes "6 commit 0.1 1 1.1 0.0 016400020200000001\n" ++
    codes "6 release e1.1.1 i1.1 0.1 1.1\n" ++
    codes "6 reply 1 1 c1.1.1 ok 2\n" ++
    codes "6 adopt 0.1 2 1.1\n" ++
    codes "6 adopt 0.1 3 1.1\n" ++
    codes "9 leave 1 e1.1.1\n" ++
    codes "10 leave 3 e1.1.1\n" ++
    codes "10 join 3 e2.3.1 3:1\n" ++
    codes "11 leave 2 e1.1.1\n" ++
    codes "11 start e2.3.1 0 1=1.1 2=1.1\n" ++
    codes "11 join 1 e2.1.1 1:1,2:1\n" ++
    codes "11 join 2 e2.1.1 1:1,2:1\n" ++
    codes "11 start e2.1.1 0 1=1.1 2=1.1\n" ++
    codes "12 call 3 1 c3.1.1 create /d/b\n" ++
    codes "13 look e2.3.1 c3.1.1 1 0.1 name d 1.1\n" ++
    codes "13 grant e2.3.1 c3.1.1 2 i3.1 w 0.2 1.1 3\n" ++
    codes "13 act e2.3.1 i3.1 1 probe b ok\n" ++
    codes "13 grant e2.3.1 c3.1.1 4 i3.2 n 0.129 - 3\n" ++
    codes "13 commit 0.129 3 3.1 - -\n" ++
    codes "13 release e2.3.1 i3.2 0.129 3.1\n" ++
    codes "13 act e2.3.1 i3.1 2 insert b 129 f ok\n" ++
    codes "13 commit 0.2 3 3.1 1.1 016200810100000001\n" ++
    codes "13 release e2.3.1 i3.1 0.2 3.1\n" ++
    codes "13 reply 3 1 c3.1.1 ok 129\n" ++
    codes "14 call 1 1 c1.1.2 rmdir /d\n" ++
    codes "15 grant e2.1.1 c1.1.2 1 i1.3 w 0.1 1.1 1\n" ++
    codes "15 act e2.1.1 i1.3 1 find d ok 2 d\n" ++
    codes "15 grant e2.1.1 c1.1.2 3 i1.4 w 0.2 1.1 1\n" ++
    codes "15 act e2.1.1 i1.4 1 empty ok\n" ++
    codes "15 act e2.1.1 i1.3 2 remove d 2 ok\n" ++
    codes "15 commit 0.1 1 1.2 1.1 01640002020000000200000001000000000000000000000000000000000000000000000000000000000000000000000000000000000000000000000000000000000000000000000000\n" ++
    codes "15 release e2.1.1 i1.3 0.1 1.2\n" ++
    codes "15 release e2.1.1 i1.4 0.2 -\n" ++
    codes "15 adopt 0.1 2 1.2\n" ++
    codes "15 reply 1 1 c1.1.2 ok\n" ++
    codes "18 leave 1 e2.1.1\n" ++
    codes "19 leave 2 e2.1.1\n" ++
    codes "19 leave 3 e2.3.1\n" ++
    codes "19 join 1 e3.1.1 1:1,2:1,3:1\n" ++
    codes "19 join 2 e3.1.1 1:1,2:1,3:1\n" ++
    codes "19 join 3 e3.1.1 1:1,2:1,3:1\n" ++
    codes "19 start e3.1.1 0 1=1.1 1=1.2 2=1.1 2=3.1 129=3.1\n" ++
    codes "19 call 1 0 c1.1.3 mend 0.1\n" ++
    codes "19 grant e3.1.1 c1.1.3 1 i1.5 m 0.1 1.2 1\n" ++
    codes "19 adopt 0.129 1 3.1\n" ++
    codes "19 adopt 0.129 2 3.1\n" ++
    codes "19 look e3.1.1 c1.1.3 2 0.1 whole 1.2\n" ++
    codes "19 adopt 0.2 1 3.1\n" ++
    codes "19 adopt 0.2 2 3.1\n" ++
    codes "19 adopt 0.1 3 1.2\n" ++
    codes "19 act e3.1.1 i1.5 1 mend ok\n" ++
    codes "19 commit 0.1 1 1.3 1.2 016400020200000003\n" ++
    codes "19 release e3.1.1 i1.5 0.1 1.3\n" ++
    codes "19 reply 1 0 c1.1.3 ok 1.3\n" ++
    codes "19 adopt 0.1 2 1.3\n" ++
    codes "19 adopt 0.1 3 1.3\n" ++
    codes "22 call 2 1 c2.1.1 list /\n" ++
    codes "23 look e3.1.1 c2.1.1 1 0.1 list 1.3\n" ++
    codes "23 reply 2 1 c2.1.1 ok d\n" ++
    codes "24 call 2 1 c2.1.2 list /d\n" ++
    codes "25 look e3.1.1 c2.1.2 1 0.1 name d 1.3\n" ++
    codes "25 look e3.1.1 c2.1.2 2 0.2 list 3.1\n" ++
    codes "25 reply 2 1 c2.1.2 ok b\n" ++
    []

pub runs : printed (run lines) ≡ written
unfolding digits encode_with
runs = refl
