-- The run of a recorded schedule of 42 lines, to the whole text of its trace, 46 records.
use Rattle.std.specs.Prelude.{◌≡◌, refl, ℕ, List, [], ◌∷◌, ◌++◌, codes}
use Rattle.trace_book.specs.declared.call.Call.TheVariants as call
use Rattle.trace_book.specs.declared.call.OpenMode.TheVariants as how
use Rattle.schedule_lines.specs.declared.header.HeaderLine.TheVariants as header
use Rattle.schedule_lines.specs.declared.line.Line.TheVariants as line
use Rattle.schedule_lines.specs.declared.line.ScheduleLine.{ScheduleLine}
use Rattle.schedule_lines.specs.declared.line.ScheduleLine.TheVariants.{Header, Event}
use Rattle.std.specs.Fmt.{digits}
use Rattle.hex.specs.Hex.{encode_with}
use Rattle.the_run.specs.Runs.{run, printed}

abbrev lines : List ScheduleLine
lines =
    Header (header.Sites 1) ∷
    Header (header.Group 0 (record { 0 = 1 })) ∷
    Event (line.Merge 1) ∷
    Event (line.Settle 1000) ∷
    Event (line.ArmFail 1 6) ∷
    Event (line.Boot 1) ∷
    Event (line.Merge 1) ∷
    Event (line.Settle 1000) ∷
    Event (line.Call 1 1 (call.Commit 0)) ∷
    Event (line.Settle 1000000) ∷
    Event (line.Call 1 1 (call.Write 1 65536 (221 ∷ 60 ∷ 18 ∷ 24 ∷ 159 ∷ 102 ∷ 32 ∷ 35 ∷ []))) ∷
    Event (line.Settle 1000000) ∷
    Event (line.Call 1 1 (call.Open (codes "/a") how.Write)) ∷
    Event (line.Settle 5000) ∷
    Event (line.Call 1 1 (call.Write 2 0 (75 ∷ 174 ∷ []))) ∷
    Event (line.Settle 1000000) ∷
    Event (line.Call 1 1 (call.Write 2 1 (134 ∷ []))) ∷
    Event (line.Settle 1000000) ∷
    Event (line.Call 1 1 (call.Commit 16)) ∷
    Event (line.Settle 1000) ∷
    Event (line.Call 1 1 (call.Commit 0)) ∷
    Event (line.Settle 5000) ∷
    Event (line.Boot 1) ∷
    Event (line.Merge 1) ∷
    Event (line.Settle 1000) ∷
    Event (line.Part 1) ∷
    Event (line.Settle 1000000) ∷
    Event (line.ArmFail 1 0) ∷
    Event (line.Call 1 1 (call.Read 5 1000 4096)) ∷
    Event (line.Settle 1000) ∷
    Event (line.Stop 1) ∷
    Event (line.Boot 1) ∷
    Event (line.Merge 1) ∷
    Event (line.Settle 1000) ∷
    Event (line.Call 1 1 (call.Stat (codes "/a"))) ∷
    Event (line.Settle 1000) ∷
    Event (line.Call 1 1 (call.Open (codes "/a") how.Read)) ∷
    Event (line.Settle 1000) ∷
    Event (line.Call 1 1 (call.Stat (codes "/b"))) ∷
    Event (line.Settle 1000) ∷
    Event (line.Call 1 1 (call.Open (codes "/b") how.Read)) ∷
    Event (line.Settle 1000) ∷
    []

abbrev written : List ℕ
written =
    codes "3 join 1 e1.1.1 1:1\n" ++
    codes "4 start e1.1.1 0 1=0.0\n" ++
    codes "6 void\n" ++
    codes "7 leave 1 e1.1.1\n" ++
    codes "7 join 1 e2.1.1 1:1\n" ++
    codes "8 start e2.1.1 0 1=0.0\n" ++
    codes "9 call 1 1 c1.1.1 commit 0\n" ++
    codes "9 reply 1 1 c1.1.1 baddescriptor\n" ++
    codes "11 call 1 1 c1.1.2 write 1 65536 dd3c12189f662023\n" ++
    codes "11 reply 1 1 c1.1.2 toolong\n" ++
    codes "13 call 1 1 c1.1.3 open /a w\n" ++
    codes "14 look e2.1.1 c1.1.3 1 0.1 name a 0.0\n" ++
    codes "14 reply 1 1 c1.1.3 absent a\n" ++
    codes "15 call 1 1 c1.1.4 write 2 0 4bae\n" ++
    codes "15 reply 1 1 c1.1.4 baddescriptor\n" ++
    codes "17 call 1 1 c1.1.5 write 2 1 86\n" ++
    codes "17 reply 1 1 c1.1.5 baddescriptor\n" ++
    codes "19 call 1 1 c1.1.6 commit 16\n" ++
    codes "19 reply 1 1 c1.1.6 baddescriptor\n" ++
    codes "21 call 1 1 c1.1.7 commit 0\n" ++
    codes "21 reply 1 1 c1.1.7 baddescriptor\n" ++
    codes "23 void\n" ++
    codes "24 leave 1 e2.1.1\n" ++
    codes "24 join 1 e3.1.1 1:1\n" ++
    codes "25 start e3.1.1 0 1=0.0\n" ++
    codes "26 leave 1 e3.1.1\n" ++
    codes "26 join 1 e4.1.1 1:1\n" ++
    codes "27 start e4.1.1 0 1=0.0\n" ++
    codes "29 call 1 1 c1.1.8 read 5 1000 4096\n" ++
    codes "29 reply 1 1 c1.1.8 baddescriptor\n" ++
    codes "31 stopped 1 asked\n" ++
    codes "32 up 1 2\n" ++
    codes "33 join 1 e1.1.2 1:2\n" ++
    codes "34 start e1.1.2 0 1=0.0\n" ++
    codes "35 call 1 1 c1.2.1 stat /a\n" ++
    codes "36 look e1.1.2 c1.2.1 1 0.1 name a 0.0\n" ++
    codes "36 reply 1 1 c1.2.1 absent a\n" ++
    codes "37 call 1 1 c1.2.2 open /a r\n" ++
    codes "38 look e1.1.2 c1.2.2 1 0.1 name a 0.0\n" ++
    codes "38 reply 1 1 c1.2.2 absent a\n" ++
    codes "39 call 1 1 c1.2.3 stat /b\n" ++
    codes "40 look e1.1.2 c1.2.3 1 0.1 name b 0.0\n" ++
    codes "40 reply 1 1 c1.2.3 absent b\n" ++
    codes "41 call 1 1 c1.2.4 open /b r\n" ++
    codes "42 look e1.1.2 c1.2.4 1 0.1 name b 0.0\n" ++
    codes "42 reply 1 1 c1.2.4 absent b\n" ++
    []

pub runs : printed (run lines) ≡ written
unfolding digits encode_with
runs = refl
