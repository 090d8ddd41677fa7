-- The run of a recorded schedule of 38 lines, to the whole text of its trace, 48 records.
use Rattle.std.specs.Prelude.{◌≡◌, refl, ℕ, List, [], ◌∷◌, ◌++◌, None, codes}
use Rattle.trace_book.specs.declared.call.Call.TheVariants as call
use Rattle.trace_book.specs.declared.call.OpenMode.TheVariants as how
use Rattle.schedule_lines.specs.declared.header.HeaderLine.TheVariants as header
use Rattle.schedule_lines.specs.declared.line.Leave.TheVariants as leave
use Rattle.schedule_lines.specs.declared.line.Line.TheVariants as line
use Rattle.schedule_lines.specs.declared.line.ScheduleLine.{ScheduleLine}
use Rattle.schedule_lines.specs.declared.line.ScheduleLine.TheVariants.{Header, Event}
use Rattle.std.specs.Fmt.{digits}
use Rattle.hex.specs.Hex.{encode_with}
use Rattle.the_run.specs.Runs.{run, printed}

abbrev lines : List ScheduleLine
lines =
    Header (header.Sites 1) ∷
    Header (header.Group 0 (record { 0 = 1 })) ∷
    Event (line.Merge 1) ∷
    Event (line.Settle 1000) ∷
    Event (line.Call 1 1 (call.Open (codes "/a") how.Write)) ∷
    Event (line.Boot 1) ∷
    Event (line.Merge 1) ∷
    Event (line.Settle 5000) ∷
    Event (line.Call 1 1 (call.Stat (codes "/"))) ∷
    Event (line.Settle 1000) ∷
    Event (line.Boot 1) ∷
    Event (line.Merge 1) ∷
    Event (line.Settle 1000) ∷
    Event (line.Call 1 1 (call.Cut 0 65536)) ∷
    Event (line.Settle 1000) ∷
    Event (line.Call 1 1 (call.Open (codes "/a") how.Write)) ∷
    Event (line.Settle 5000) ∷
    Event (line.Call 1 1 (call.Create (codes "/a") None)) ∷
    Event (line.Settle 1000) ∷
    Event (line.Stop 1) ∷
    Event (line.Call 1 1 (call.Write 0 0 (109 ∷ []))) ∷
    Event (line.Settle 1000000) ∷
    Event (line.ArmStop 1 3 (leave.Byte 255)) ∷
    Event (line.Call 1 1 (call.Open (codes "/a") how.Read)) ∷
    Event (line.Settle 5000) ∷
    Event (line.Call 1 1 (call.Create (codes "/a") None)) ∷
    Event (line.Settle 5000) ∷
    Event (line.Boot 1) ∷
    Event (line.Merge 1) ∷
    Event (line.Settle 1000000) ∷
    Event (line.Stop 1) ∷
    Event (line.Boot 1) ∷
    Event (line.Merge 1) ∷
    Event (line.Settle 1000) ∷
    Event (line.Call 1 1 (call.Stat (codes "/a"))) ∷
    Event (line.Settle 1000) ∷
    Event (line.Call 1 1 (call.Open (codes "/a") how.Read)) ∷
    Event (line.Settle 1000) ∷
    []

abbrev written : List ℕ
written =
    codes "3 join 1 e1.1.1 1:1\n" ++
    codes "4 start e1.1.1 0 1=0.0\n" ++
    codes "5 call 1 1 c1.1.1 open /a w\n" ++
    codes "6 void\n" ++
    codes "7 leave 1 e1.1.1\n" ++
    codes "7 reply 1 1 c1.1.1 changed e1.1.1\n" ++
    codes "7 join 1 e2.1.1 1:1\n" ++
    codes "8 start e2.1.1 0 1=0.0\n" ++
    codes "9 call 1 1 c1.1.2 stat /\n" ++
    codes "10 look e2.1.1 c1.1.2 1 0.1 stat 0.0\n" ++
    codes "10 reply 1 1 c1.1.2 ok d 0.1 0 0.0\n" ++
    codes "11 void\n" ++
    codes "12 leave 1 e2.1.1\n" ++
    codes "12 join 1 e3.1.1 1:1\n" ++
    codes "13 start e3.1.1 0 1=0.0\n" ++
    codes "14 call 1 1 c1.1.3 cut 0 65536\n" ++
    codes "14 reply 1 1 c1.1.3 baddescriptor\n" ++
    codes "16 call 1 1 c1.1.4 open /a w\n" ++
    codes "17 look e3.1.1 c1.1.4 1 0.1 name a 0.0\n" ++
    codes "17 reply 1 1 c1.1.4 absent a\n" ++
    codes "18 call 1 1 c1.1.5 create /a\n" ++
    codes "19 grant e3.1.1 c1.1.5 1 i1.1 w 0.1 0.0 1\n" ++
    codes "19 act e3.1.1 i1.1 1 probe a ok\n" ++
    codes "19 grant e3.1.1 c1.1.5 3 i1.2 n 0.2 - 1\n" ++
    codes "19 commit 0.2 1 1.1 - -\n" ++
    codes "19 release e3.1.1 i1.2 0.2 1.1\n" ++
    codes "19 act e3.1.1 i1.1 2 insert a 2 f ok\n" ++
    codes "19 commit 0.1 1 1.1 0.0 016100020100000001\n" ++
    codes "19 release e3.1.1 i1.1 0.1 1.1\n" ++
    codes "19 reply 1 1 c1.1.5 ok 2\n" ++
    codes "20 stopped 1 asked\n" ++
    codes "21 void\n" ++
    codes "24 void\n" ++
    codes "26 void\n" ++
    codes "28 stopped 1 fuse\n" ++
    codes "29 void\n" ++
    codes "31 void\n" ++
    codes "32 up 1 2\n" ++
    codes "33 join 1 e1.1.2 1:2\n" ++
    codes "34 start e1.1.2 0 1=1.1 2=1.1\n" ++
    codes "35 call 1 1 c1.2.1 stat /a\n" ++
    codes "36 look e1.1.2 c1.2.1 1 0.1 name a 1.1\n" ++
    codes "36 look e1.1.2 c1.2.1 2 0.2 stat 1.1\n" ++
    codes "36 reply 1 1 c1.2.1 ok f 0.2 0 1.1\n" ++
    codes "37 call 1 1 c1.2.2 open /a r\n" ++
    codes "38 look e1.1.2 c1.2.2 1 0.1 name a 1.1\n" ++
    codes "38 grant e1.1.2 c1.2.2 2 i1.1 r 0.2 1.1 1\n" ++
    codes "38 reply 1 1 c1.2.2 ok 0\n" ++
    []

pub runs : printed (run lines) ≡ written
unfolding digits encode_with
runs = refl
