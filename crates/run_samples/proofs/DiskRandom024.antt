-- The run of a recorded schedule of 39 lines, to the whole text of its trace, 59 records.
use Rattle.std.specs.Prelude.{◌≡◌, refl, ℕ, List, [], ◌∷◌, ◌++◌, None, codes}
use Rattle.trace_book.specs.declared.call.Call.TheVariants as call
use Rattle.trace_book.specs.declared.call.OpenMode.TheVariants as how
use Rattle.schedule_lines.specs.declared.header.HeaderLine.TheVariants as header
use Rattle.schedule_lines.specs.declared.line.Line.TheVariants as line
use Rattle.schedule_lines.specs.declared.line.ScheduleLine.{ScheduleLine}
use Rattle.schedule_lines.specs.declared.line.ScheduleLine.TheVariants.{Header, Event}
use Rattle.std.specs.Fmt.{digits}
use Rattle.hex.specs.Hex.{encode_with}
use Rattle.the_run.specs.Runs.{run, printed}

abbrev lines : List ScheduleLine
lines =
    Header (header.Sites 1) ∷
    Header (header.Group 0 (record { 0 = 1 })) ∷
    Event (line.Merge 1) ∷
    Event (line.Settle 1000) ∷
    Event (line.Call 1 1 (call.Create (codes "/b") None)) ∷
    Event (line.Settle 1000) ∷
    Event (line.Call 1 1 (call.Read 2 1 16)) ∷
    Event (line.Settle 1000) ∷
    Event (line.Call 1 1 (call.Open (codes "/a") how.Write)) ∷
    Event (line.Settle 1000000) ∷
    Event (line.Call 1 1 (call.Open (codes "/b") how.Write)) ∷
    Event (line.Settle 1000) ∷
    Event (line.Call 1 1 (call.Cut 0 1)) ∷
    Event (line.Settle 1000) ∷
    Event (line.Call 1 1 (call.Stat (codes "/"))) ∷
    Event (line.Settle 1000) ∷
    Event (line.Call 1 1 (call.Commit 1)) ∷
    Event (line.Settle 1000) ∷
    Event (line.Call 1 1 (call.Open (codes "/b") how.Write)) ∷
    Event (line.Settle 5000) ∷
    Event (line.Call 1 1 (call.Open (codes "/a") how.Write)) ∷
    Event (line.Call 1 1 (call.Close 2)) ∷
    Event (line.Settle 1000) ∷
    Event (line.Call 1 1 (call.Read 1 0 1)) ∷
    Event (line.Settle 5000) ∷
    Event (line.Call 1 1 (call.Close 1)) ∷
    Event (line.Settle 1000000) ∷
    Event (line.Stop 1) ∷
    Event (line.Boot 1) ∷
    Event (line.Merge 1) ∷
    Event (line.Settle 1000) ∷
    Event (line.Call 1 1 (call.Stat (codes "/a"))) ∷
    Event (line.Settle 1000) ∷
    Event (line.Call 1 1 (call.Open (codes "/a") how.Read)) ∷
    Event (line.Settle 1000) ∷
    Event (line.Call 1 1 (call.Stat (codes "/b"))) ∷
    Event (line.Settle 1000) ∷
    Event (line.Call 1 1 (call.Open (codes "/b") how.Read)) ∷
    Event (line.Settle 1000) ∷
    []

abbrev written : List ℕ
written =
    codes "3 join 1 e1.1.1 1:1\n" ++
    codes "4 start e1.1.1 0 1=0.0\n" ++
    codes "5 call 1 1 c1.1.1 create /b\n" ++
    codes "6 grant e1.1.1 c1.1.1 1 i1.1 w 0.1 0.0 1\n" ++
    codes "6 act e1.1.1 i1.1 1 probe b ok\n" ++
    codes "6 grant e1.1.1 c1.1.1 3 i1.2 n 0.2 - 1\n" ++
    codes "6 commit 0.2 1 1.1 - -\n" ++
    codes "6 release e1.1.1 i1.2 0.2 1.1\n" ++
    codes "6 act e1.1.1 i1.1 2 insert b 2 f ok\n" ++
    codes "6 commit 0.1 1 1.1 0.0 016200020100000001\n" ++
    codes "6 release e1.1.1 i1.1 0.1 1.1\n" ++
    codes "6 reply 1 1 c1.1.1 ok 2\n" ++
    codes "7 call 1 1 c1.1.2 read 2 1 16\n" ++
    codes "7 reply 1 1 c1.1.2 baddescriptor\n" ++
    codes "9 call 1 1 c1.1.3 open /a w\n" ++
    codes "10 look e1.1.1 c1.1.3 1 0.1 name a 1.1\n" ++
    codes "10 reply 1 1 c1.1.3 absent a\n" ++
    codes "11 call 1 1 c1.1.4 open /b w\n" ++
    codes "12 look e1.1.1 c1.1.4 1 0.1 name b 1.1\n" ++
    codes "12 grant e1.1.1 c1.1.4 2 i1.3 w 0.2 1.1 1\n" ++
    codes "12 reply 1 1 c1.1.4 ok 0\n" ++
    codes "13 call 1 1 c1.1.5 cut 0 1\n" ++
    codes "14 act e1.1.1 i1.3 1 cut 1 ok\n" ++
    codes "14 reply 1 1 c1.1.5 ok\n" ++
    codes "15 call 1 1 c1.1.6 stat /\n" ++
    codes "16 look e1.1.1 c1.1.6 1 0.1 stat 1.1\n" ++
    codes "16 reply 1 1 c1.1.6 ok d 0.1 9 1.1\n" ++
    codes "17 call 1 1 c1.1.7 commit 1\n" ++
    codes "17 reply 1 1 c1.1.7 baddescriptor\n" ++
    codes "19 call 1 1 c1.1.8 open /b w\n" ++
    codes "20 look e1.1.1 c1.1.8 1 0.1 name b 1.1\n" ++
    codes "20 refuse e1.1.1 c1.1.8 2 i1.4 w 0.2 busy 1 1\n" ++
    codes "20 reply 1 1 c1.1.8 busy 1 1\n" ++
    codes "21 call 1 1 c1.1.9 open /a w\n" ++
    codes "22 void\n" ++
    codes "23 look e1.1.1 c1.1.9 1 0.1 name a 1.1\n" ++
    codes "23 reply 1 1 c1.1.9 absent a\n" ++
    codes "24 call 1 1 c1.1.10 read 1 0 1\n" ++
    codes "24 reply 1 1 c1.1.10 baddescriptor\n" ++
    codes "26 call 1 1 c1.1.11 close 1\n" ++
    codes "26 reply 1 1 c1.1.11 baddescriptor\n" ++
    codes "28 stopped 1 asked\n" ++
    codes "29 up 1 2\n" ++
    codes "30 join 1 e1.1.2 1:2\n" ++
    codes "31 start e1.1.2 0 1=1.1 2=1.1\n" ++
    codes "32 call 1 1 c1.2.1 stat /a\n" ++
    codes "33 look e1.1.2 c1.2.1 1 0.1 name a 1.1\n" ++
    codes "33 reply 1 1 c1.2.1 absent a\n" ++
    codes "34 call 1 1 c1.2.2 open /a r\n" ++
    codes "35 look e1.1.2 c1.2.2 1 0.1 name a 1.1\n" ++
    codes "35 reply 1 1 c1.2.2 absent a\n" ++
    codes "36 call 1 1 c1.2.3 stat /b\n" ++
    codes "37 look e1.1.2 c1.2.3 1 0.1 name b 1.1\n" ++
    codes "37 look e1.1.2 c1.2.3 2 0.2 stat 1.1\n" ++
    codes "37 reply 1 1 c1.2.3 ok f 0.2 0 1.1\n" ++
    codes "38 call 1 1 c1.2.4 open /b r\n" ++
    codes "39 look e1.1.2 c1.2.4 1 0.1 name b 1.1\n" ++
    codes "39 grant e1.1.2 c1.2.4 2 i1.1 r 0.2 1.1 1\n" ++
    codes "39 reply 1 1 c1.2.4 ok 0\n" ++
    []

pub runs : printed (run lines) ≡ written
unfolding digits encode_with
runs = refl
