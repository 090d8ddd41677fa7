-- The run of a recorded schedule of 26 lines, to the whole text of its trace, 42 records.
use Rattle.std.specs.Prelude.{◌≡◌, refl, ℕ, List, [], ◌∷◌, ◌++◌, None, codes}
use Rattle.trace_book.specs.declared.call.Call.TheVariants as call
use Rattle.trace_book.specs.declared.call.OpenMode.TheVariants as how
use Rattle.schedule_lines.specs.declared.header.HeaderLine.TheVariants as header
use Rattle.schedule_lines.specs.declared.line.Line.TheVariants as line
use Rattle.schedule_lines.specs.declared.line.ScheduleLine.{ScheduleLine}
use Rattle.schedule_lines.specs.declared.line.ScheduleLine.TheVariants.{Header, Event}
use Rattle.std.specs.Fmt.{digits}
use Rattle.hex.specs.Hex.{encode_with}
use Rattle.the_run.specs.Runs.{run, printed}

abbrev lines : List ScheduleLine
lines =
    Header (header.Sites 1) ∷
    Header (header.Group 0 (record { 0 = 1 })) ∷
    Event (line.Merge 1) ∷
    Event (line.Settle 1000) ∷
    Event (line.Call 1 1 (call.Create (codes "/a") None)) ∷
    Event (line.Settle 1000) ∷
    Event (line.Call 1 1 (call.Open (codes "/a") how.Write)) ∷
    Event (line.Settle 1000) ∷
    Event (line.Call 1 1 (call.Write 0 0 (111 ∷ 108 ∷ 100 ∷ []))) ∷
    Event (line.Settle 1000) ∷
    Event (line.Call 1 1 (call.Close 0)) ∷
    Event (line.Settle 1000) ∷
    Event (line.Call 1 1 (call.Open (codes "/a") how.Write)) ∷
    Event (line.Settle 1000) ∷
    Event (line.Call 1 1 (call.Write 0 0 (110 ∷ 101 ∷ 119 ∷ []))) ∷
    Event (line.Settle 1000) ∷
    Event (line.ArmFail 1 3) ∷
    Event (line.Call 1 1 (call.Close 0)) ∷
    Event (line.Settle 1000) ∷
    Event (line.Boot 1) ∷
    Event (line.Merge 1) ∷
    Event (line.Settle 1000) ∷
    Event (line.Call 1 1 (call.Open (codes "/a") how.Read)) ∷
    Event (line.Settle 1000) ∷
    Event (line.Call 1 1 (call.Read 0 0 9)) ∷
    Event (line.Settle 1000) ∷
    []

abbrev written : List ℕ
written =
    codes "3 join 1 e1.1.1 1:1\n" ++
    codes "4 start e1.1.1 0 1=0.0\n" ++
    codes "5 call 1 1 c1.1.1 create /a\n" ++
    codes "6 grant e1.1.1 c1.1.1 1 i1.1 w 0.1 0.0 1\n" ++
    codes "6 act e1.1.1 i1.1 1 probe a ok\n" ++
    codes "6 grant e1.1.1 c1.1.1 3 i1.2 n 0.2 - 1\n" ++
    codes "6 commit 0.2 1 1.1 - -\n" ++
    codes "6 release e1.1.1 i1.2 0.2 1.1\n" ++
    codes "6 act e1.1.1 i1.1 2 insert a 2 f ok\n" ++
    codes "6 commit 0.1 1 1.1 0.0 016100020100000001\n" ++
    codes "6 release e1.1.1 i1.1 0.1 1.1\n" ++
    codes "6 reply 1 1 c1.1.1 ok 2\n" ++
    codes "7 call 1 1 c1.1.2 open /a w\n" ++
    codes "8 look e1.1.1 c1.1.2 1 0.1 name a 1.1\n" ++
    codes "8 grant e1.1.1 c1.1.2 2 i1.3 w 0.2 1.1 1\n" ++
    codes "8 reply 1 1 c1.1.2 ok 0\n" ++
    codes "9 call 1 1 c1.1.3 write 0 0 6f6c64\n" ++
    codes "10 act e1.1.1 i1.3 1 write 0 6f6c64 ok\n" ++
    codes "10 reply 1 1 c1.1.3 ok\n" ++
    codes "11 call 1 1 c1.1.4 close 0\n" ++
    codes "12 commit 0.2 1 1.2 1.1 6f6c64\n" ++
    codes "12 release e1.1.1 i1.3 0.2 1.2\n" ++
    codes "12 reply 1 1 c1.1.4 ok 1.2\n" ++
    codes "13 call 1 1 c1.1.5 open /a w\n" ++
    codes "14 look e1.1.1 c1.1.5 1 0.1 name a 1.1\n" ++
    codes "14 grant e1.1.1 c1.1.5 2 i1.4 w 0.2 1.2 1\n" ++
    codes "14 reply 1 1 c1.1.5 ok 0\n" ++
    codes "15 call 1 1 c1.1.6 write 0 0 6e6577\n" ++
    codes "16 act e1.1.1 i1.4 1 write 0 6e6577 ok\n" ++
    codes "16 reply 1 1 c1.1.6 ok\n" ++
    codes "18 call 1 1 c1.1.7 close 0\n" ++
    codes "19 stopped 1 fault\n" ++
    codes "20 up 1 2\n" ++
    codes "21 join 1 e1.1.2 1:2\n" ++
    codes "22 start e1.1.2 0 1=1.1 2=1.2\n" ++
    codes "23 call 1 1 c1.2.1 open /a r\n" ++
    codes "24 look e1.1.2 c1.2.1 1 0.1 name a 1.1\n" ++
    codes "24 grant e1.1.2 c1.2.1 2 i1.1 r 0.2 1.2 1\n" ++
    codes "24 reply 1 1 c1.2.1 ok 0\n" ++
    codes "25 call 1 1 c1.2.2 read 0 0 9\n" ++
    codes "26 act e1.1.2 i1.1 1 read 0 9 ok 6f6c64\n" ++
    codes "26 reply 1 1 c1.2.2 ok 6f6c64\n" ++
    []

pub runs : printed (run lines) ≡ written
unfolding digits encode_with
runs = refl
