-- The run of a recorded schedule of 60 lines, to the whole text of its trace, 93 records.
use Rattle.std.specs.Prelude.{◌≡◌, refl, ℕ, List, [], ◌∷◌, ◌++◌, None, codes}
use Rattle.trace_book.specs.declared.call.Call.TheVariants as call
use Rattle.trace_book.specs.declared.call.OpenMode.TheVariants as how
use Rattle.schedule_lines.specs.declared.header.HeaderLine.TheVariants as header
use Rattle.schedule_lines.specs.declared.line.Line.TheVariants as line
use Rattle.schedule_lines.specs.declared.line.ScheduleLine.{ScheduleLine}
use Rattle.schedule_lines.specs.declared.line.ScheduleLine.TheVariants.{Header, Event}
use Rattle.std.specs.Fmt.{digits}
use Rattle.hex.specs.Hex.{encode_with}
use Rattle.the_run.specs.Runs.{run, printed}

abbrev lines : List ScheduleLine
lines =
    Header (header.Sites 2) ∷
    Header (header.Group 0 (record { 0 = 3 })) ∷
    Event (line.Merge 2) ∷
    Event (line.Settle 20000) ∷
    Event (line.Call 1 1 (call.Create (codes "/a") None)) ∷
    Event (line.Settle 20000) ∷
    Event (line.Call 1 1 (call.Create (codes "/b") None)) ∷
    Event (line.Settle 20000) ∷
    Event (line.ArmFail 2 1) ∷
    Event (line.Settle 20000) ∷
    Event (line.Call 2 1 (call.Read 0 1000 1)) ∷
    Event (line.Call 1 2 (call.Open (codes "/c") how.Read)) ∷
    Event (line.Settle 20000) ∷
    Event (line.Settle 20000) ∷
    Event (line.Call 1 1 (call.Close 1)) ∷
    Event (line.Down 2 1) ∷
    Event (line.Settle 20000) ∷
    Event (line.Lose 10) ∷
    Event (line.Tick 1) ∷
    Event (line.Lose 255) ∷
    Event (line.Call 2 1 (call.Open (codes "/b") how.Read)) ∷
    Event (line.Settle 3) ∷
    Event (line.Call 2 1 (call.Open (codes "/a") (how.Resolve 2))) ∷
    Event (line.Settle 20000) ∷
    Event (line.Call 1 8 (call.Close 1)) ∷
    Event (line.Call 1 8 (call.Stat (codes "/b"))) ∷
    Event (line.Call 1 1 (call.Close 0)) ∷
    Event (line.Settle 20000) ∷
    Event (line.Settle 10) ∷
    Event (line.Call 2 1 (call.Open (codes "/a") how.Write)) ∷
    Event (line.Call 1 1 (call.Open (codes "/c") how.Write)) ∷
    Event (line.Call 2 8 (call.Open (codes "/b") how.Write)) ∷
    Event (line.Settle 20000) ∷
    Event (line.Call 1 1 (call.Write 9 65535 (69 ∷ 82 ∷ 180 ∷ 34 ∷ 92 ∷ 225 ∷ 84 ∷ 18 ∷ []))) ∷
    Event (line.Settle 10) ∷
    Event (line.Call 1 8 (call.Open (codes "/b") how.Write)) ∷
    Event (line.Settle 40) ∷
    Event (line.Boot 1) ∷
    Event (line.Boot 2) ∷
    Event (line.Up 1 2) ∷
    Event (line.Merge 1) ∷
    Event (line.Settle 20000) ∷
    Event (line.Settle 20000) ∷
    Event (line.Settle 20000) ∷
    Event (line.Call 1 7 (call.List (codes "/"))) ∷
    Event (line.Settle 20000) ∷
    Event (line.Call 1 7 (call.Stat (codes "/a"))) ∷
    Event (line.Settle 20000) ∷
    Event (line.Call 1 7 (call.Stat (codes "/b"))) ∷
    Event (line.Settle 20000) ∷
    Event (line.Call 1 7 (call.Stat (codes "/c"))) ∷
    Event (line.Settle 20000) ∷
    Event (line.Call 2 7 (call.List (codes "/"))) ∷
    Event (line.Settle 20000) ∷
    Event (line.Call 2 7 (call.Stat (codes "/a"))) ∷
    Event (line.Settle 20000) ∷
    Event (line.Call 2 7 (call.Stat (codes "/b"))) ∷
    Event (line.Settle 20000) ∷
    Event (line.Call 2 7 (call.Stat (codes "/c"))) ∷
    Event (line.Settle 20000) ∷
    []

abbrev written : List ℕ
written =
    codes "4 join 2 e1.2.1 1:1,2:1\n" ++
    codes "4 join 1 e1.2.1 1:1,2:1\n" ++
    codes "4 start e1.2.1 0 1=0.0\n" ++
    codes "5 call 1 1 c1.1.1 create /a\n" ++
    codes "6 grant e1.2.1 c1.1.1 1 i1.1 w 0.1 0.0 1\n" ++
    codes "6 act e1.2.1 i1.1 1 probe a ok\n" ++
    codes "6 grant e1.2.1 c1.1.1 3 i1.2 n 0.2 - 1\n" ++
    codes "6 commit 0.2 1 1.1 - -\n" ++
    codes "6 release e1.2.1 i1.2 0.2 1.1\n" ++
    codes "6 adopt 0.2 2 1.1\n" ++
    codes "6 act e1.2.1 i1.1 2 insert a 2 f ok\n" ++
    codes "6 commit 0.1 1 1.1 0.0 016100020100000001\n" ++
    codes "6 release e1.2.1 i1.1 0.1 1.1\n" ++
    codes "6 reply 1 1 c1.1.1 ok 2\n" ++
    codes "6 adopt 0.1 2 1.1\n" ++
    codes "7 call 1 1 c1.1.2 create /b\n" ++
    codes "8 grant e1.2.1 c1.1.2 1 i1.3 w 0.1 1.1 1\n" ++
    codes "8 act e1.2.1 i1.3 1 probe b ok\n" ++
    codes "8 grant e1.2.1 c1.1.2 3 i1.4 n 0.3 - 1\n" ++
    codes "8 commit 0.3 1 1.1 - -\n" ++
    codes "8 release e1.2.1 i1.4 0.3 1.1\n" ++
    codes "8 adopt 0.3 2 1.1\n" ++
    codes "8 act e1.2.1 i1.3 2 insert b 3 f ok\n" ++
    codes "8 commit 0.1 1 1.2 1.1 016100020100000001016200030100000001\n" ++
    codes "8 release e1.2.1 i1.3 0.1 1.2\n" ++
    codes "8 reply 1 1 c1.1.2 ok 3\n" ++
    codes "8 adopt 0.1 2 1.2\n" ++
    codes "11 call 2 1 c2.1.1 read 0 1000 1\n" ++
    codes "11 reply 2 1 c2.1.1 baddescriptor\n" ++
    codes "12 call 1 2 c1.1.3 open /c r\n" ++
    codes "13 look e1.2.1 c1.1.3 1 0.1 name c 1.2\n" ++
    codes "13 reply 1 2 c1.1.3 absent c\n" ++
    codes "15 call 1 1 c1.1.4 close 1\n" ++
    codes "15 reply 1 1 c1.1.4 baddescriptor\n" ++
    codes "20 void\n" ++
    codes "21 call 2 1 c2.1.2 open /b r\n" ++
    codes "23 void\n" ++
    codes "25 call 1 8 c1.1.5 close 1\n" ++
    codes "25 reply 1 8 c1.1.5 baddescriptor\n" ++
    codes "26 call 1 8 c1.1.6 stat /b\n" ++
    codes "27 call 1 1 c1.1.7 close 0\n" ++
    codes "27 reply 1 1 c1.1.7 baddescriptor\n" ++
    codes "28 look e1.2.1 c1.1.6 1 0.1 name b 1.2\n" ++
    codes "28 look e1.2.1 c1.1.6 2 0.3 stat 1.1\n" ++
    codes "28 reply 1 8 c1.1.6 ok f 0.3 0 1.1\n" ++
    codes "30 void\n" ++
    codes "31 call 1 1 c1.1.8 open /c w\n" ++
    codes "32 call 2 8 c2.1.3 open /b w\n" ++
    codes "33 look e1.2.1 c1.1.8 1 0.1 name c 1.2\n" ++
    codes "33 reply 1 1 c1.1.8 absent c\n" ++
    codes "34 call 1 1 c1.1.9 write 9 65535 4552b4225ce15412\n" ++
    codes "34 reply 1 1 c1.1.9 toolong\n" ++
    codes "36 call 1 8 c1.1.10 open /b w\n" ++
    codes "37 look e1.2.1 c1.1.10 1 0.1 name b 1.2\n" ++
    codes "37 grant e1.2.1 c1.1.10 2 i1.5 w 0.3 1.1 1\n" ++
    codes "37 reply 1 8 c1.1.10 ok 0\n" ++
    codes "38 void\n" ++
    codes "39 void\n" ++
    codes "41 leave 1 e1.2.1\n" ++
    codes "42 leave 2 e1.2.1\n" ++
    codes "42 reply 2 1 c2.1.2 changed e1.2.1\n" ++
    codes "42 reply 2 8 c2.1.3 changed e1.2.1\n" ++
    codes "42 join 1 e2.1.1 1:1,2:1\n" ++
    codes "42 join 2 e2.1.1 1:1,2:1\n" ++
    codes "42 start e2.1.1 0 1=1.2 2=1.1 3=1.1\n" ++
    codes "45 call 1 7 c1.1.11 list /\n" ++
    codes "46 look e2.1.1 c1.1.11 1 0.1 list 1.2\n" ++
    codes "46 reply 1 7 c1.1.11 ok a b\n" ++
    codes "47 call 1 7 c1.1.12 stat /a\n" ++
    codes "48 look e2.1.1 c1.1.12 1 0.1 name a 1.2\n" ++
    codes "48 look e2.1.1 c1.1.12 2 0.2 stat 1.1\n" ++
    codes "48 reply 1 7 c1.1.12 ok f 0.2 0 1.1\n" ++
    codes "49 call 1 7 c1.1.13 stat /b\n" ++
    codes "50 look e2.1.1 c1.1.13 1 0.1 name b 1.2\n" ++
    codes "50 look e2.1.1 c1.1.13 2 0.3 stat 1.1\n" ++
    codes "50 reply 1 7 c1.1.13 ok f 0.3 0 1.1\n" ++
    codes "51 call 1 7 c1.1.14 stat /c\n" ++
    codes "52 look e2.1.1 c1.1.14 1 0.1 name c 1.2\n" ++
    codes "52 reply 1 7 c1.1.14 absent c\n" ++
    codes "53 call 2 7 c2.1.4 list /\n" ++
    codes "54 look e2.1.1 c2.1.4 1 0.1 list 1.2\n" ++
    codes "54 reply 2 7 c2.1.4 ok a b\n" ++
    codes "55 call 2 7 c2.1.5 stat /a\n" ++
    codes "56 look e2.1.1 c2.1.5 1 0.1 name a 1.2\n" ++
    codes "56 look e2.1.1 c2.1.5 2 0.2 stat 1.1\n" ++
    codes "56 reply 2 7 c2.1.5 ok f 0.2 0 1.1\n" ++
    codes "57 call 2 7 c2.1.6 stat /b\n" ++
    codes "58 look e2.1.1 c2.1.6 1 0.1 name b 1.2\n" ++
    codes "58 look e2.1.1 c2.1.6 2 0.3 stat 1.1\n" ++
    codes "58 reply 2 7 c2.1.6 ok f 0.3 0 1.1\n" ++
    codes "59 call 2 7 c2.1.7 stat /c\n" ++
    codes "60 look e2.1.1 c2.1.7 1 0.1 name c 1.2\n" ++
    codes "60 reply 2 7 c2.1.7 absent c\n" ++
    []

pub runs : printed (run lines) ≡ written
unfolding digits encode_with
runs = refl
