-- The run of a recorded schedule of 68 lines, to the whole text of its trace, 55 records.
use Rattle.std.specs.Prelude.{◌≡◌, refl, ℕ, List, [], ◌∷◌, ◌++◌, Some, None, codes}
use Rattle.trace_book.specs.declared.call.Call.TheVariants as call
use Rattle.trace_book.specs.declared.call.OpenMode.TheVariants as how
use Rattle.schedule_lines.specs.declared.header.HeaderLine.TheVariants as header
use Rattle.schedule_lines.specs.declared.line.Line.TheVariants as line
use Rattle.schedule_lines.specs.declared.line.ScheduleLine.{ScheduleLine}
use Rattle.schedule_lines.specs.declared.line.ScheduleLine.TheVariants.{Header, Event}
use Rattle.std.specs.Fmt.{digits}
use Rattle.hex.specs.Hex.{encode_with}
use Rattle.the_run.specs.Runs.{run, printed}

abbrev lines : List ScheduleLine
lines =
    Header (header.Sites 3) ∷
    Header (header.Group 0 (record { 0 = 7 })) ∷
    Event (line.Merge 3) ∷
    Event (line.Settle 20000) ∷
    Event (line.Call 2 1 (call.Create (codes "/b") None)) ∷
    Event (line.Settle 1) ∷
    Event (line.Call 2 1 (call.Create (codes "/c") None)) ∷
    Event (line.Settle 1) ∷
    Event (line.ArmFail 1 2) ∷
    Event (line.Settle 40) ∷
    Event (line.Call 1 1 (call.Write 2 1020 (111 ∷ 198 ∷ 255 ∷ []))) ∷
    Event (line.Settle 20000) ∷
    Event (line.Call 3 1 (call.Create (codes "/a") (Some (record { 0 = 1 })))) ∷
    Event (line.Merge 1) ∷
    Event (line.GiveUp 3) ∷
    Event (line.Settle 3) ∷
    Event (line.Tick 1) ∷
    Event (line.Tick 2) ∷
    Event (line.Call 2 1 (call.Close 2)) ∷
    Event (line.Settle 20000) ∷
    Event (line.ArmFail 1 3) ∷
    Event (line.Settle 20000) ∷
    Event (line.Call 2 1 (call.Close 0)) ∷
    Event (line.Settle 20000) ∷
    Event (line.Call 3 8 (call.Open (codes "/b") how.Write)) ∷
    Event (line.Settle 1) ∷
    Event (line.Settle 20000) ∷
    Event (line.Call 3 1 (call.Read 0 1000 4096)) ∷
    Event (line.Settle 40) ∷
    Event (line.Call 3 2 (call.Write 0 0 (43 ∷ 93 ∷ 70 ∷ []))) ∷
    Event (line.Settle 20000) ∷
    Event (line.Call 1 8 (call.Open (codes "/a") (how.Resolve 3))) ∷
    Event (line.Call 2 8 (call.List (codes "/b"))) ∷
    Event (line.Settle 20000) ∷
    Event (line.Boot 1) ∷
    Event (line.Boot 2) ∷
    Event (line.Boot 3) ∷
    Event (line.Up 1 2) ∷
    Event (line.Up 1 3) ∷
    Event (line.Up 2 3) ∷
    Event (line.Merge 1) ∷
    Event (line.Settle 20000) ∷
    Event (line.Settle 20000) ∷
    Event (line.Settle 20000) ∷
    Event (line.Call 1 7 (call.List (codes "/"))) ∷
    Event (line.Settle 20000) ∷
    Event (line.Call 1 7 (call.Stat (codes "/a"))) ∷
    Event (line.Settle 20000) ∷
    Event (line.Call 1 7 (call.Stat (codes "/b"))) ∷
    Event (line.Settle 20000) ∷
    Event (line.Call 1 7 (call.Stat (codes "/c"))) ∷
    Event (line.Settle 20000) ∷
    Event (line.Call 2 7 (call.List (codes "/"))) ∷
    Event (line.Settle 20000) ∷
    Event (line.Call 2 7 (call.Stat (codes "/a"))) ∷
    Event (line.Settle 20000) ∷
    Event (line.Call 2 7 (call.Stat (codes "/b"))) ∷
    Event (line.Settle 20000) ∷
    Event (line.Call 2 7 (call.Stat (codes "/c"))) ∷
    Event (line.Settle 20000) ∷
    Event (line.Call 3 7 (call.List (codes "/"))) ∷
    Event (line.Settle 20000) ∷
    Event (line.Call 3 7 (call.Stat (codes "/a"))) ∷
    Event (line.Settle 20000) ∷
    Event (line.Call 3 7 (call.Stat (codes "/b"))) ∷
    Event (line.Settle 20000) ∷
    Event (line.Call 3 7 (call.Stat (codes "/c"))) ∷
    Event (line.Settle 20000) ∷
    []

abbrev written : List ℕ
written =
    codes "4 join 3 e1.3.1 1:1,2:1,3:1\n" ++
    codes "4 join 1 e1.3.1 1:1,2:1,3:1\n" ++
    codes "4 join 2 e1.3.1 1:1,2:1,3:1\n" ++
    codes "4 start e1.3.1 0 1=0.0\n" ++
    codes "5 call 2 1 c2.1.1 create /b\n" ++
    codes "6 grant e1.3.1 c2.1.1 1 i2.1 w 0.1 0.0 2\n" ++
    codes "6 budget\n" ++
    codes "7 void\n" ++
    codes "8 budget\n" ++
    codes "10 act e1.3.1 i2.1 1 probe b ok\n" ++
    codes "10 grant e1.3.1 c2.1.1 3 i2.2 n 0.65 - 2\n" ++
    codes "10 commit 0.65 2 2.1 - -\n" ++
    codes "10 release e1.3.1 i2.2 0.65 2.1\n" ++
    codes "10 stopped 1 fault\n" ++
    codes "10 act e1.3.1 i2.1 2 insert b 65 f ok\n" ++
    codes "10 commit 0.1 2 2.1 0.0 016200410100000001\n" ++
    codes "11 void\n" ++
    codes "13 call 3 1 c3.1.1 create /a 1\n" ++
    codes "14 void\n" ++
    codes "15 leave 3 e1.3.1\n" ++
    codes "15 reply 3 1 c3.1.1 changed e1.3.1\n" ++
    codes "17 void\n" ++
    codes "19 void\n" ++
    codes "23 void\n" ++
    codes "25 call 3 8 c3.1.2 open /b w\n" ++
    codes "25 reply 3 8 c3.1.2 nopartition\n" ++
    codes "28 call 3 1 c3.1.3 read 0 1000 4096\n" ++
    codes "28 reply 3 1 c3.1.3 baddescriptor\n" ++
    codes "30 call 3 2 c3.1.4 write 0 0 2b5d46\n" ++
    codes "30 reply 3 2 c3.1.4 baddescriptor\n" ++
    codes "32 void\n" ++
    codes "33 call 2 8 c2.1.2 list /b\n" ++
    codes "35 stopped 1 fault\n" ++
    codes "36 void\n" ++
    codes "37 void\n" ++
    codes "38 void\n" ++
    codes "39 void\n" ++
    codes "40 void\n" ++
    codes "41 void\n" ++
    codes "45 void\n" ++
    codes "47 void\n" ++
    codes "49 void\n" ++
    codes "51 void\n" ++
    codes "53 call 2 7 c2.1.3 list /\n" ++
    codes "55 void\n" ++
    codes "57 void\n" ++
    codes "59 void\n" ++
    codes "61 call 3 7 c3.1.5 list /\n" ++
    codes "61 reply 3 7 c3.1.5 nopartition\n" ++
    codes "63 call 3 7 c3.1.6 stat /a\n" ++
    codes "63 reply 3 7 c3.1.6 nopartition\n" ++
    codes "65 call 3 7 c3.1.7 stat /b\n" ++
    codes "65 reply 3 7 c3.1.7 nopartition\n" ++
    codes "67 call 3 7 c3.1.8 stat /c\n" ++
    codes "67 reply 3 7 c3.1.8 nopartition\n" ++
    []

pub runs : printed (run lines) ≡ written
unfolding digits encode_with
runs = refl
