-- The run of a recorded schedule of 23 lines, to the whole text of its trace, 62 records.
use Rattle.std.specs.Prelude.{◌≡◌, refl, ℕ, List, [], ◌∷◌, ◌++◌, None, codes}
use Rattle.trace_book.specs.declared.call.Call.TheVariants as call
use Rattle.schedule_lines.specs.declared.header.HeaderLine.TheVariants as header
use Rattle.schedule_lines.specs.declared.line.Line.TheVariants as line
use Rattle.schedule_lines.specs.declared.line.ScheduleLine.{ScheduleLine}
use Rattle.schedule_lines.specs.declared.line.ScheduleLine.TheVariants.{Header, Event}
use Rattle.std.specs.Fmt.{digits}
use Rattle.hex.specs.Hex.{encode_with}
use Rattle.the_run.specs.Runs.{run, printed}

abbrev lines : List ScheduleLine
lines =
    Header (header.Sites 3) ∷
    Header (header.Group 0 (record { 0 = 7 })) ∷
    Event (line.Down 1 3) ∷
    Event (line.Down 2 3) ∷
    Event (line.Merge 1) ∷
    Event (line.Merge 3) ∷
    Event (line.Settle 1000) ∷
    Event (line.Call 1 1 (call.Create (codes "/n") None)) ∷
    Event (line.Settle 1000) ∷
    Event (line.Call 3 1 (call.Create (codes "/n") None)) ∷
    Event (line.Settle 1000) ∷
    Event (line.Up 1 3) ∷
    Event (line.Up 2 3) ∷
    Event (line.Merge 1) ∷
    Event (line.Settle 1000) ∷
    Event (line.Call 2 1 (call.List (codes "/"))) ∷
    Event (line.Settle 1000) ∷
    Event (line.Call 2 1 (call.Stat (codes "/n"))) ∷
    Event (line.Settle 1000) ∷
    Event (line.Call 2 1 (call.Stat (codes "/n@129"))) ∷
    Event (line.Settle 1000) ∷
    Event (line.Call 2 1 (call.Create (codes "/n") None)) ∷
    Event (line.Settle 1000) ∷
    []

abbrev written : List ℕ
written =
    codes "6 join 3 e1.3.1 3:1\n" ++
    codes "7 start e1.3.1 0 1=0.0\n" ++
    codes "7 join 1 e1.1.1 1:1,2:1\n" ++
    codes "7 join 2 e1.1.1 1:1,2:1\n" ++
    codes "7 start e1.1.1 0 1=0.0\n" ++
    codes "8 call 1 1 c1.1.1 create /n\n" ++
    codes "9 grant e1.1.1 c1.1.1 1 i1.1 w 0.1 0.0 1\n" ++
    codes "9 act e1.1.1 i1.1 1 probe n ok\n" ++
    codes "9 grant e1.1.1 c1.1.1 3 i1.2 n 0.2 - 1\n" ++
    codes "9 commit 0.2 1 1.1 - -\n" ++
    codes "9 release e1.1.1 i1.2 0.2 1.1\n" ++
    codes "9 adopt 0.2 2 1.1\n" ++
    codes "9 act e1.1.1 i1.1 2 insert n 2 f ok\n" ++
    codes "9 commit 0.1 1 1.1 0.0 016e00020100000001\n" ++
    codes "9 release e1.1.1 i1.1 0.1 1.1\n" ++
    codes "9 reply 1 1 c1.1.1 ok 2\n" ++
    codes "9 adopt 0.1 2 1.1\n" ++
    codes "10 call 3 1 c3.1.1 create /n\n" ++
    codes "11 grant e1.3.1 c3.1.1 1 i3.1 w 0.1 0.0 3\n" ++
    codes "11 act e1.3.1 i3.1 1 probe n ok\n" ++
    codes "11 grant e1.3.1 c3.1.1 3 i3.2 n 0.129 - 3\n" ++
    codes "11 commit 0.129 3 3.1 - -\n" ++
    codes "11 release e1.3.1 i3.2 0.129 3.1\n" ++
    codes "11 act e1.3.1 i3.1 2 insert n 129 f ok\n" ++
    codes "11 commit 0.1 3 3.1 0.0 016e00810100000001\n" ++
    codes "11 release e1.3.1 i3.1 0.1 3.1\n" ++
    codes "11 reply 3 1 c3.1.1 ok 129\n" ++
    codes "14 leave 1 e1.1.1\n" ++
    codes "15 leave 2 e1.1.1\n" ++
    codes "15 leave 3 e1.3.1\n" ++
    codes "15 join 1 e2.1.1 1:1,2:1,3:1\n" ++
    codes "15 join 2 e2.1.1 1:1,2:1,3:1\n" ++
    codes "15 join 3 e2.1.1 1:1,2:1,3:1\n" ++
    codes "15 start e2.1.1 0 1=1.1 1=3.1 2=1.1 129=3.1\n" ++
    codes "15 call 1 0 c1.1.2 mend 0.1\n" ++
    codes "15 grant e2.1.1 c1.1.2 1 i1.3 m 0.1 1.1 1\n" ++
    codes "15 adopt 0.129 1 3.1\n" ++
    codes "15 adopt 0.129 2 3.1\n" ++
    codes "15 adopt 0.2 3 1.1\n" ++
    codes "15 look e2.1.1 c1.1.2 2 0.1 whole 1.1\n" ++
    codes "15 look e2.1.1 c1.1.2 3 0.1 whole 3.1\n" ++
    codes "15 act e2.1.1 i1.3 1 mend ok\n" ++
    codes "15 commit 0.1 1 1.2 1.1,3.1 016e00020100000001016e00810100000001\n" ++
    codes "15 release e2.1.1 i1.3 0.1 1.2\n" ++
    codes "15 reply 1 0 c1.1.2 ok 1.2\n" ++
    codes "15 adopt 0.1 2 1.2\n" ++
    codes "15 adopt 0.1 3 1.2\n" ++
    codes "16 call 2 1 c2.1.1 list /\n" ++
    codes "17 look e2.1.1 c2.1.1 1 0.1 list 1.2\n" ++
    codes "17 reply 2 1 c2.1.1 ok n@2 n@129\n" ++
    codes "18 call 2 1 c2.1.2 stat /n\n" ++
    codes "19 look e2.1.1 c2.1.2 1 0.1 name n 1.2\n" ++
    codes "19 reply 2 1 c2.1.2 ambiguous 2 129\n" ++
    codes "20 call 2 1 c2.1.3 stat /n@129\n" ++
    codes "21 look e2.1.1 c2.1.3 1 0.1 name n@129 1.2\n" ++
    codes "21 look e2.1.1 c2.1.3 2 0.129 stat 3.1\n" ++
    codes "21 reply 2 1 c2.1.3 ok f 0.129 0 3.1\n" ++
    codes "22 call 2 1 c2.1.4 create /n\n" ++
    codes "23 grant e2.1.1 c2.1.4 1 i2.1 w 0.1 1.2 2\n" ++
    codes "23 act e2.1.1 i2.1 1 probe n exists 2\n" ++
    codes "23 release e2.1.1 i2.1 0.1 -\n" ++
    codes "23 reply 2 1 c2.1.4 exists 2\n" ++
    []

pub runs : printed (run lines) ≡ written
unfolding digits encode_with
runs = refl
