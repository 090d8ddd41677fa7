-- The run of a recorded schedule of 67 lines, to the whole text of its trace, 89 records.
use Rattle.std.specs.Prelude.{◌≡◌, refl, ℕ, List, [], ◌∷◌, ◌++◌, Some, codes}
use Rattle.trace_book.specs.declared.call.Call.TheVariants as call
use Rattle.trace_book.specs.declared.call.OpenMode.TheVariants as how
use Rattle.schedule_lines.specs.declared.header.HeaderLine.TheVariants as header
use Rattle.schedule_lines.specs.declared.line.Line.TheVariants as line
use Rattle.schedule_lines.specs.declared.line.ScheduleLine.{ScheduleLine}
use Rattle.schedule_lines.specs.declared.line.ScheduleLine.TheVariants.{Header, Event}
use Rattle.std.specs.Fmt.{digits}
use Rattle.hex.specs.Hex.{encode_with}
use Rattle.the_run.specs.Runs.{run, printed}

abbrev lines : List ScheduleLine
lines =
    Header (header.Sites 3) ∷
    Header (header.Group 0 (record { 0 = 3 })) ∷
    Event (line.Merge 3) ∷
    Event (line.Settle 20000) ∷
    Event (line.Call 3 1 (call.Write 2 1024 (44 ∷ []))) ∷
    Event (line.Settle 20000) ∷
    Event (line.Call 1 1 (call.Create (codes "/a") (Some (record { 0 = 1 })))) ∷
    Event (line.Call 2 2 (call.Open (codes "/b") how.Read)) ∷
    Event (line.Settle 20000) ∷
    Event (line.Deliver 201) ∷
    Event (line.Deliver 7) ∷
    Event (line.Lose 177) ∷
    Event (line.Lose 8) ∷
    Event (line.Deliver 137) ∷
    Event (line.Call 3 2 (call.Write 0 1 (130 ∷ []))) ∷
    Event (line.Settle 20000) ∷
    Event (line.Call 1 1 (call.Read 9 0 16)) ∷
    Event (line.Settle 20000) ∷
    Event (line.Stop 2) ∷
    Event (line.Settle 20000) ∷
    Event (line.Settle 20000) ∷
    Event (line.Stop 2) ∷
    Event (line.Settle 20000) ∷
    Event (line.Settle 20000) ∷
    Event (line.Call 3 1 (call.Open (codes "/a") (how.Resolve 1))) ∷
    Event (line.Lose 239) ∷
    Event line.Pending ∷
    Event (line.Call 2 8 (call.Write 0 0 (138 ∷ []))) ∷
    Event (line.Settle 20000) ∷
    Event (line.Settle 20000) ∷
    Event (line.Call 3 2 (call.Write 0 5000 (244 ∷ 183 ∷ 194 ∷ 195 ∷ 135 ∷ 206 ∷ 79 ∷ 99 ∷ []))) ∷
    Event (line.Settle 20000) ∷
    Event (line.Settle 20000) ∷
    Event (line.Call 3 1 (call.Close 0)) ∷
    Event (line.Settle 20000) ∷
    Event (line.Merge 1) ∷
    Event (line.Settle 10) ∷
    Event (line.Call 3 1 (call.Write 1 5000 (155 ∷ 5 ∷ []))) ∷
    Event (line.Settle 20000) ∷
    Event (line.Boot 1) ∷
    Event (line.Boot 2) ∷
    Event (line.Boot 3) ∷
    Event (line.Up 1 2) ∷
    Event (line.Up 1 3) ∷
    Event (line.Up 2 3) ∷
    Event (line.Merge 1) ∷
    Event (line.Settle 20000) ∷
    Event (line.Settle 20000) ∷
    Event (line.Settle 20000) ∷
    Event (line.Call 1 7 (call.List (codes "/"))) ∷
    Event (line.Settle 20000) ∷
    Event (line.Call 1 7 (call.Stat (codes "/a"))) ∷
    Event (line.Settle 20000) ∷
    Event (line.Call 1 7 (call.Stat (codes "/b"))) ∷
    Event (line.Settle 20000) ∷
    Event (line.Call 2 7 (call.List (codes "/"))) ∷
    Event (line.Settle 20000) ∷
    Event (line.Call 2 7 (call.Stat (codes "/a"))) ∷
    Event (line.Settle 20000) ∷
    Event (line.Call 2 7 (call.Stat (codes "/b"))) ∷
    Event (line.Settle 20000) ∷
    Event (line.Call 3 7 (call.List (codes "/"))) ∷
    Event (line.Settle 20000) ∷
    Event (line.Call 3 7 (call.Stat (codes "/a"))) ∷
    Event (line.Settle 20000) ∷
    Event (line.Call 3 7 (call.Stat (codes "/b"))) ∷
    Event (line.Settle 20000) ∷
    []

abbrev written : List ℕ
written =
    codes "4 join 3 e1.3.1 1:1,2:1,3:1\n" ++
    codes "4 join 1 e1.3.1 1:1,2:1,3:1\n" ++
    codes "4 join 2 e1.3.1 1:1,2:1,3:1\n" ++
    codes "4 start e1.3.1 0 1=0.0\n" ++
    codes "5 call 3 1 c3.1.1 write 2 1024 2c\n" ++
    codes "5 reply 3 1 c3.1.1 baddescriptor\n" ++
    codes "7 call 1 1 c1.1.1 create /a 1\n" ++
    codes "8 call 2 2 c2.1.1 open /b r\n" ++
    codes "9 grant e1.3.1 c1.1.1 1 i1.1 w 0.1 0.0 1\n" ++
    codes "9 look e1.3.1 c2.1.1 1 0.1 name b 0.0\n" ++
    codes "9 reply 2 2 c2.1.1 absent b\n" ++
    codes "9 act e1.3.1 i1.1 1 probe a ok\n" ++
    codes "9 grant e1.3.1 c1.1.1 3 i1.2 n 0.2 - 1\n" ++
    codes "9 commit 0.2 1 1.1 - -\n" ++
    codes "9 release e1.3.1 i1.2 0.2 1.1\n" ++
    codes "9 act e1.3.1 i1.1 2 insert a 2 f ok\n" ++
    codes "9 commit 0.1 1 1.1 0.0 016100020100000001\n" ++
    codes "9 release e1.3.1 i1.1 0.1 1.1\n" ++
    codes "9 reply 1 1 c1.1.1 ok 2\n" ++
    codes "9 adopt 0.1 2 1.1\n" ++
    codes "10 void\n" ++
    codes "12 void\n" ++
    codes "14 void\n" ++
    codes "15 call 3 2 c3.1.2 write 0 1 82\n" ++
    codes "15 reply 3 2 c3.1.2 baddescriptor\n" ++
    codes "17 call 1 1 c1.1.2 read 9 0 16\n" ++
    codes "17 reply 1 1 c1.1.2 baddescriptor\n" ++
    codes "19 stopped 2 asked\n" ++
    codes "22 void\n" ++
    codes "25 call 3 1 c3.1.3 open /a x 1\n" ++
    codes "26 void\n" ++
    codes "27 packet 52 3 1 look\n" ++
    codes "28 void\n" ++
    codes "29 look e1.3.1 c3.1.3 1 0.1 name a 1.1\n" ++
    codes "29 refuse e1.3.1 c3.1.3 2 i3.1 x 0.2 noconflict\n" ++
    codes "29 reply 3 1 c3.1.3 noconflict\n" ++
    codes "31 call 3 2 c3.1.4 write 0 5000 f4b7c2c387ce4f63\n" ++
    codes "31 reply 3 2 c3.1.4 baddescriptor\n" ++
    codes "34 call 3 1 c3.1.5 close 0\n" ++
    codes "34 reply 3 1 c3.1.5 baddescriptor\n" ++
    codes "36 leave 1 e1.3.1\n" ++
    codes "37 leave 3 e1.3.1\n" ++
    codes "37 join 1 e2.1.1 1:1,3:1\n" ++
    codes "37 join 3 e2.1.1 1:1,3:1\n" ++
    codes "37 start e2.1.1 0 1=1.1 2=1.1\n" ++
    codes "38 call 3 1 c3.1.6 write 1 5000 9b05\n" ++
    codes "38 reply 3 1 c3.1.6 baddescriptor\n" ++
    codes "40 void\n" ++
    codes "41 up 2 2\n" ++
    codes "42 void\n" ++
    codes "43 void\n" ++
    codes "44 void\n" ++
    codes "45 void\n" ++
    codes "46 leave 1 e2.1.1\n" ++
    codes "47 leave 3 e2.1.1\n" ++
    codes "47 join 1 e3.1.1 1:1,2:2,3:1\n" ++
    codes "47 join 2 e3.1.1 1:1,2:2,3:1\n" ++
    codes "47 join 3 e3.1.1 1:1,2:2,3:1\n" ++
    codes "47 start e3.1.1 0 1=1.1 2=1.1\n" ++
    codes "50 call 1 7 c1.1.3 list /\n" ++
    codes "51 look e3.1.1 c1.1.3 1 0.1 list 1.1\n" ++
    codes "51 reply 1 7 c1.1.3 ok a\n" ++
    codes "52 call 1 7 c1.1.4 stat /a\n" ++
    codes "53 look e3.1.1 c1.1.4 1 0.1 name a 1.1\n" ++
    codes "53 look e3.1.1 c1.1.4 2 0.2 stat 1.1\n" ++
    codes "53 reply 1 7 c1.1.4 ok f 0.2 0 1.1\n" ++
    codes "54 call 1 7 c1.1.5 stat /b\n" ++
    codes "55 look e3.1.1 c1.1.5 1 0.1 name b 1.1\n" ++
    codes "55 reply 1 7 c1.1.5 absent b\n" ++
    codes "56 call 2 7 c2.2.1 list /\n" ++
    codes "57 look e3.1.1 c2.2.1 1 0.1 list 1.1\n" ++
    codes "57 reply 2 7 c2.2.1 ok a\n" ++
    codes "58 call 2 7 c2.2.2 stat /a\n" ++
    codes "59 look e3.1.1 c2.2.2 1 0.1 name a 1.1\n" ++
    codes "59 look e3.1.1 c2.2.2 2 0.2 stat 1.1\n" ++
    codes "59 reply 2 7 c2.2.2 ok f 0.2 0 1.1\n" ++
    codes "60 call 2 7 c2.2.3 stat /b\n" ++
    codes "61 look e3.1.1 c2.2.3 1 0.1 name b 1.1\n" ++
    codes "61 reply 2 7 c2.2.3 absent b\n" ++
    codes "62 call 3 7 c3.1.7 list /\n" ++
    codes "63 look e3.1.1 c3.1.7 1 0.1 list 1.1\n" ++
    codes "63 reply 3 7 c3.1.7 ok a\n" ++
    codes "64 call 3 7 c3.1.8 stat /a\n" ++
    codes "65 look e3.1.1 c3.1.8 1 0.1 name a 1.1\n" ++
    codes "65 look e3.1.1 c3.1.8 2 0.2 stat 1.1\n" ++
    codes "65 reply 3 7 c3.1.8 ok f 0.2 0 1.1\n" ++
    codes "66 call 3 7 c3.1.9 stat /b\n" ++
    codes "67 look e3.1.1 c3.1.9 1 0.1 name b 1.1\n" ++
    codes "67 reply 3 7 c3.1.9 absent b\n" ++
    []

pub runs : printed (run lines) ≡ written
unfolding digits encode_with
runs = refl
