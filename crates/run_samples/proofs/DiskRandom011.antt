-- The run of a recorded schedule of 31 lines, to the whole text of its trace, 29 records.
use Rattle.std.specs.Prelude.{◌≡◌, refl, ℕ, List, [], ◌∷◌, ◌++◌, codes}
use Rattle.trace_book.specs.declared.call.Call.TheVariants as call
use Rattle.trace_book.specs.declared.call.OpenMode.TheVariants as how
use Rattle.schedule_lines.specs.declared.header.HeaderLine.TheVariants as header
use Rattle.schedule_lines.specs.declared.line.Leave.TheVariants as leave
use Rattle.schedule_lines.specs.declared.line.Line.TheVariants as line
use Rattle.schedule_lines.specs.declared.line.ScheduleLine.{ScheduleLine}
use Rattle.schedule_lines.specs.declared.line.ScheduleLine.TheVariants.{Header, Event}
use Rattle.std.specs.Fmt.{digits}
use Rattle.hex.specs.Hex.{encode_with}
use Rattle.the_run.specs.Runs.{run, printed}

abbrev lines : List ScheduleLine
lines =
    Header (header.Sites 1) ∷
    Header (header.Group 0 (record { 0 = 1 })) ∷
    Event (line.Merge 1) ∷
    Event (line.Settle 1000) ∷
    Event (line.Boot 1) ∷
    Event (line.Settle 1000000) ∷
    Event (line.Call 1 1 (call.Open (codes "/a") how.Write)) ∷
    Event (line.Settle 5000) ∷
    Event (line.Call 1 1 (call.Open (codes "/a") how.Write)) ∷
    Event (line.Call 1 1 (call.Open (codes "/a") how.Write)) ∷
    Event (line.Settle 1000) ∷
    Event (line.Boot 1) ∷
    Event (line.Settle 1000) ∷
    Event (line.Call 1 1 (call.Read 2 1000 16)) ∷
    Event (line.Settle 5000) ∷
    Event (line.Call 1 1 (call.Close 1)) ∷
    Event (line.Settle 1000) ∷
    Event (line.ArmFail 1 2) ∷
    Event (line.Call 1 1 (call.Abort 16)) ∷
    Event (line.Settle 1000) ∷
    Event (line.Call 1 1 (call.Write 0 65536 (117 ∷ 23 ∷ 206 ∷ 241 ∷ 227 ∷ 108 ∷ []))) ∷
    Event (line.Settle 1000000) ∷
    Event (line.ArmStop 1 8 (leave.Byte 255)) ∷
    Event (line.Stop 1) ∷
    Event (line.Boot 1) ∷
    Event (line.Merge 1) ∷
    Event (line.Settle 1000) ∷
    Event (line.Call 1 1 (call.Stat (codes "/a"))) ∷
    Event (line.Settle 1000) ∷
    Event (line.Call 1 1 (call.Open (codes "/a") how.Read)) ∷
    Event (line.Settle 1000) ∷
    []

abbrev written : List ℕ
written =
    codes "3 join 1 e1.1.1 1:1\n" ++
    codes "4 start e1.1.1 0 1=0.0\n" ++
    codes "5 void\n" ++
    codes "7 call 1 1 c1.1.1 open /a w\n" ++
    codes "8 look e1.1.1 c1.1.1 1 0.1 name a 0.0\n" ++
    codes "8 reply 1 1 c1.1.1 absent a\n" ++
    codes "9 call 1 1 c1.1.2 open /a w\n" ++
    codes "10 void\n" ++
    codes "11 look e1.1.1 c1.1.2 1 0.1 name a 0.0\n" ++
    codes "11 reply 1 1 c1.1.2 absent a\n" ++
    codes "12 void\n" ++
    codes "14 call 1 1 c1.1.3 read 2 1000 16\n" ++
    codes "14 reply 1 1 c1.1.3 baddescriptor\n" ++
    codes "16 call 1 1 c1.1.4 close 1\n" ++
    codes "16 reply 1 1 c1.1.4 baddescriptor\n" ++
    codes "19 call 1 1 c1.1.5 abort 16\n" ++
    codes "19 reply 1 1 c1.1.5 baddescriptor\n" ++
    codes "21 call 1 1 c1.1.6 write 0 65536 7517cef1e36c\n" ++
    codes "21 reply 1 1 c1.1.6 toolong\n" ++
    codes "24 stopped 1 asked\n" ++
    codes "25 up 1 2\n" ++
    codes "26 join 1 e1.1.2 1:2\n" ++
    codes "27 start e1.1.2 0 1=0.0\n" ++
    codes "28 call 1 1 c1.2.1 stat /a\n" ++
    codes "29 look e1.1.2 c1.2.1 1 0.1 name a 0.0\n" ++
    codes "29 reply 1 1 c1.2.1 absent a\n" ++
    codes "30 call 1 1 c1.2.2 open /a r\n" ++
    codes "31 look e1.1.2 c1.2.2 1 0.1 name a 0.0\n" ++
    codes "31 reply 1 1 c1.2.2 absent a\n" ++
    []

pub runs : printed (run lines) ≡ written
unfolding digits encode_with
runs = refl
