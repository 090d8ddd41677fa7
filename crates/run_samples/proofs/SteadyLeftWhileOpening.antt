-- The run of a recorded schedule of 42 lines, to the whole text of its trace, 91 records.
use Rattle.std.specs.Prelude.{◌≡◌, refl, ℕ, List, [], ◌∷◌, ◌++◌, Option, Some, None, codes}
use Rattle.trace_book.specs.declared.call.Call.TheVariants as call
use Rattle.trace_book.specs.declared.call.OpenMode.TheVariants as how
use Rattle.schedule_lines.specs.declared.header.HeaderLine.TheVariants as header
use Rattle.schedule_lines.specs.declared.line.Leave.TheVariants as leave
use Rattle.schedule_lines.specs.declared.line.Line.TheVariants as line
use Rattle.schedule_lines.specs.declared.line.ScheduleLine.{ScheduleLine}
use Rattle.schedule_lines.specs.declared.line.ScheduleLine.TheVariants.{Passed, Header, Event}
use Rattle.std.specs.Fmt.{digits}
use Rattle.hex.specs.Hex.{encode_with}
use Rattle.the_run.specs.Runs.{run, printed}

abbrev lines : List ScheduleLine
lines =
    Header (header.Sites 3) ∷
    Header (header.Group 0 (record { 0 = 7 })) ∷
    Event (line.Merge 1) ∷
    Event (line.Settle 1000) ∷
    Event (line.Call 1 1 (call.Create (codes "/f") None)) ∷
    Event (line.Settle 1000) ∷
    Event (line.Call 1 1 (call.Open (codes "/f") how.Write)) ∷
    Event (line.Settle 1000) ∷
    Event (line.Call 1 1 (call.Write 0 0 (97 ∷ []))) ∷
    Event (line.Settle 1000) ∷
    Event (line.Call 1 1 (call.Close 0)) ∷
    Event (line.Settle 1000) ∷
    Event (line.Call 2 1 (call.Open (codes "/f") how.Steady)) ∷
    Event (line.Settle 1000) ∷
    Event (line.Call 2 1 (call.Read 0 0 9)) ∷
    Event (line.Settle 1000) ∷
    Event (line.Call 2 2 (call.Open (codes "/f") how.Steady)) ∷
    Event (line.Settle 1) ∷
    Event (line.GiveUp 2) ∷
    Event (line.Merge 1) ∷
    Event (line.Settle 1000) ∷
    Event (line.Call 2 2 (call.Open (codes "/f") how.Steady)) ∷
    Event (line.Settle 3) ∷
    Event (line.GiveUp 2) ∷
    Event (line.Merge 1) ∷
    Event (line.Settle 1000) ∷
    Event (line.Call 2 2 (call.Open (codes "/f") how.Steady)) ∷
    Event (line.Settle 5) ∷
    Event (line.GiveUp 2) ∷
    Event (line.Merge 1) ∷
    Event (line.Settle 1000) ∷
    Event (line.Call 2 2 (call.Open (codes "/f") how.Steady)) ∷
    Event (line.Settle 6) ∷
    Event (line.GiveUp 2) ∷
    Event (line.Merge 1) ∷
    Event (line.Settle 1000) ∷
    Event (line.Call 2 2 (call.Open (codes "/f") how.Steady)) ∷
    Event (line.Settle 1000) ∷
    Event (line.Call 2 2 (call.Close 0)) ∷
    Event (line.Settle 1000) ∷
    Event (line.Call 2 2 (call.Close 1)) ∷
    Event (line.Settle 1000) ∷
    []

abbrev written : List ℕ
written =
    codes "4 join 1 e1.1.1 1:1,2:1,3:1\n" ++
    codes "4 join 2 e1.1.1 1:1,2:1,3:1\n" ++
    codes "4 join 3 e1.1.1 1:1,2:1,3:1\n" ++
    codes "4 start e1.1.1 0 1=0.0\n" ++
    codes "5 call 1 1 c1.1.1 create /f\n" ++
    codes "6 grant e1.1.1 c1.1.1 1 i1.1 w 0.1 0.0 1\n" ++
    codes "6 act e1.1.1 i1.1 1 probe f ok\n" ++
    codes "6 grant e1.1.1 c1.1.1 3 i1.2 n 0.2 - 1\n" ++
    codes "6 commit 0.2 1 1.1 - -\n" ++
    codes "6 release e1.1.1 i1.2 0.2 1.1\n" ++
    codes "6 adopt 0.2 2 1.1\n" ++
    codes "6 adopt 0.2 3 1.1\n" ++
    codes "6 act e1.1.1 i1.1 2 insert f 2 f ok\n" ++
    codes "6 commit 0.1 1 1.1 0.0 016600020100000001\n" ++
    codes "6 release e1.1.1 i1.1 0.1 1.1\n" ++
    codes "6 reply 1 1 c1.1.1 ok 2\n" ++
    codes "6 adopt 0.1 2 1.1\n" ++
    codes "6 adopt 0.1 3 1.1\n" ++
    codes "7 call 1 1 c1.1.2 open /f w\n" ++
    codes "8 look e1.1.1 c1.1.2 1 0.1 name f 1.1\n" ++
    codes "8 grant e1.1.1 c1.1.2 2 i1.3 w 0.2 1.1 1\n" ++
    codes "8 reply 1 1 c1.1.2 ok 0\n" ++
    codes "9 call 1 1 c1.1.3 write 0 0 61\n" ++
    codes "10 act e1.1.1 i1.3 1 write 0 61 ok\n" ++
    codes "10 reply 1 1 c1.1.3 ok\n" ++
    codes "11 call 1 1 c1.1.4 close 0\n" ++
    codes "12 commit 0.2 1 1.2 1.1 61\n" ++
    codes "12 release e1.1.1 i1.3 0.2 1.2\n" ++
    codes "12 reply 1 1 c1.1.4 ok 1.2\n" ++
    codes "12 adopt 0.2 2 1.2\n" ++
    codes "12 adopt 0.2 3 1.2\n" ++
    codes "13 call 2 1 c2.1.1 open /f s\n" ++
    codes "14 look e1.1.1 c2.1.1 1 0.1 name f 1.1\n" ++
    codes "14 grant e1.1.1 c2.1.1 2 i2.1 r 0.2 1.2 2\n" ++
    codes "14 reply 2 1 c2.1.1 ok 0\n" ++
    codes "15 call 2 1 c2.1.2 read 0 0 9\n" ++
    codes "16 act e1.1.1 i2.1 1 read 0 9 ok 61\n" ++
    codes "16 reply 2 1 c2.1.2 ok 61\n" ++
    codes "17 call 2 2 c2.1.3 open /f s\n" ++
    codes "18 look e1.1.1 c2.1.3 1 0.1 name f 1.1\n" ++
    codes "18 budget\n" ++
    codes "19 leave 2 e1.1.1\n" ++
    codes "19 reply 2 2 c2.1.3 changed e1.1.1\n" ++
    codes "20 leave 1 e1.1.1\n" ++
    codes "21 leave 3 e1.1.1\n" ++
    codes "21 join 1 e2.1.1 1:1,2:1,3:1\n" ++
    codes "21 join 2 e2.1.1 1:1,2:1,3:1\n" ++
    codes "21 join 3 e2.1.1 1:1,2:1,3:1\n" ++
    codes "21 start e2.1.1 0 1=1.1 2=1.2\n" ++
    codes "22 call 2 2 c2.1.4 open /f s\n" ++
    codes "23 look e2.1.1 c2.1.4 1 0.1 name f 1.1\n" ++
    codes "23 budget\n" ++
    codes "24 leave 2 e2.1.1\n" ++
    codes "24 reply 2 2 c2.1.4 changed e2.1.1\n" ++
    codes "25 leave 1 e2.1.1\n" ++
    codes "26 leave 3 e2.1.1\n" ++
    codes "26 join 1 e3.1.1 1:1,2:1,3:1\n" ++
    codes "26 join 2 e3.1.1 1:1,2:1,3:1\n" ++
    codes "26 join 3 e3.1.1 1:1,2:1,3:1\n" ++
    codes "26 start e3.1.1 0 1=1.1 2=1.2\n" ++
    codes "27 call 2 2 c2.1.5 open /f s\n" ++
    codes "28 look e3.1.1 c2.1.5 1 0.1 name f 1.1\n" ++
    codes "28 budget\n" ++
    codes "29 leave 2 e3.1.1\n" ++
    codes "29 reply 2 2 c2.1.5 changed e3.1.1\n" ++
    codes "30 leave 1 e3.1.1\n" ++
    codes "31 leave 3 e3.1.1\n" ++
    codes "31 join 1 e4.1.1 1:1,2:1,3:1\n" ++
    codes "31 join 2 e4.1.1 1:1,2:1,3:1\n" ++
    codes "31 join 3 e4.1.1 1:1,2:1,3:1\n" ++
    codes "31 start e4.1.1 0 1=1.1 2=1.2\n" ++
    codes "32 call 2 2 c2.1.6 open /f s\n" ++
    codes "33 look e4.1.1 c2.1.6 1 0.1 name f 1.1\n" ++
    codes "33 budget\n" ++
    codes "34 leave 2 e4.1.1\n" ++
    codes "34 reply 2 2 c2.1.6 changed e4.1.1\n" ++
    codes "35 leave 1 e4.1.1\n" ++
    codes "36 leave 3 e4.1.1\n" ++
    codes "36 join 1 e5.1.1 1:1,2:1,3:1\n" ++
    codes "36 join 2 e5.1.1 1:1,2:1,3:1\n" ++
    codes "36 join 3 e5.1.1 1:1,2:1,3:1\n" ++
    codes "36 start e5.1.1 0 1=1.1 2=1.2\n" ++
    codes "37 call 2 2 c2.1.7 open /f s\n" ++
    codes "38 look e5.1.1 c2.1.7 1 0.1 name f 1.1\n" ++
    codes "38 grant e5.1.1 c2.1.7 2 i2.4 r 0.2 1.2 2\n" ++
    codes "38 reply 2 2 c2.1.7 ok 0\n" ++
    codes "39 call 2 2 c2.1.8 close 0\n" ++
    codes "40 release e5.1.1 i2.4 0.2 -\n" ++
    codes "40 reply 2 2 c2.1.8 ok\n" ++
    codes "41 call 2 2 c2.1.9 close 1\n" ++
    codes "41 reply 2 2 c2.1.9 baddescriptor\n" ++
    []

pub runs : printed (run lines) ≡ written
unfolding digits encode_with
runs = refl
