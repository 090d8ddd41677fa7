-- The run of a recorded schedule of 67 lines, to the whole text of its trace, 89 records.
use Rattle.std.specs.Prelude.{◌≡◌, refl, ℕ, List, [], ◌∷◌, ◌++◌, None, codes}
use Rattle.trace_book.specs.declared.call.Call.TheVariants as call
use Rattle.trace_book.specs.declared.call.OpenMode.TheVariants as how
use Rattle.schedule_lines.specs.declared.header.HeaderLine.TheVariants as header
use Rattle.schedule_lines.specs.declared.line.Line.TheVariants as line
use Rattle.schedule_lines.specs.declared.line.ScheduleLine.{ScheduleLine}
use Rattle.schedule_lines.specs.declared.line.ScheduleLine.TheVariants.{Header, Event}
use Rattle.std.specs.Fmt.{digits}
use Rattle.hex.specs.Hex.{encode_with}
use Rattle.the_run.specs.Runs.{run, printed}

abbrev lines : List ScheduleLine
lines =
    Header (header.Sites 2) ∷
    Header (header.Group 0 (record { 0 = 3 })) ∷
    Event (line.Merge 1) ∷
    Event (line.Settle 20000) ∷
    Event (line.Call 2 1 (call.Create (codes "/a") None)) ∷
    Event (line.Settle 20000) ∷
    Event (line.Call 2 1 (call.Create (codes "/a") None)) ∷
    Event (line.Settle 20000) ∷
    Event (line.Call 2 2 (call.Stat (codes "/"))) ∷
    Event (line.Settle 1) ∷
    Event (line.Call 1 8 (call.Open (codes "/a") how.Read)) ∷
    Event (line.Settle 20000) ∷
    Event (line.Settle 20000) ∷
    Event (line.Deliver 93) ∷
    Event (line.Tick 2) ∷
    Event (line.Deliver 158) ∷
    Event (line.Lose 147) ∷
    Event (line.Deliver 133) ∷
    Event (line.Tick 2) ∷
    Event (line.Call 2 8 (call.Open (codes "/a") (how.Resolve 2))) ∷
    Event (line.Settle 20000) ∷
    Event (line.Settle 20000) ∷
    Event (line.Call 1 1 (call.Stat (codes "/"))) ∷
    Event (line.Call 2 1 (call.Close 0)) ∷
    Event (line.Settle 20000) ∷
    Event (line.Call 1 1 (call.Open (codes "/a") how.Write)) ∷
    Event (line.Lose 190) ∷
    Event (line.Deliver 146) ∷
    Event (line.Tick 1) ∷
    Event (line.Tick 1) ∷
    Event (line.Tick 2) ∷
    Event (line.Lose 233) ∷
    Event line.Pending ∷
    Event (line.Call 1 1 (call.Create (codes "/a") None)) ∷
    Event (line.Settle 20000) ∷
    Event (line.Call 1 1 (call.Write 0 0 (239 ∷ 215 ∷ 98 ∷ 13 ∷ 123 ∷ 170 ∷ 63 ∷ 113 ∷ []))) ∷
    Event (line.Settle 10) ∷
    Event (line.Call 1 8 (call.Read 1 1000 16)) ∷
    Event (line.Settle 40) ∷
    Event (line.Tick 2) ∷
    Event (line.Lose 214) ∷
    Event (line.Tick 2) ∷
    Event (line.Lose 124) ∷
    Event (line.Call 2 1 (call.Open (codes "/a") (how.Resolve 1))) ∷
    Event (line.Settle 20000) ∷
    Event (line.Lose 238) ∷
    Event (line.Lose 201) ∷
    Event (line.Lose 225) ∷
    Event (line.Call 2 1 (call.Cut 0 1024)) ∷
    Event (line.Settle 1) ∷
    Event (line.Stop 1) ∷
    Event (line.Settle 10) ∷
    Event (line.Boot 1) ∷
    Event (line.Boot 2) ∷
    Event (line.Up 1 2) ∷
    Event (line.Merge 1) ∷
    Event (line.Settle 20000) ∷
    Event (line.Settle 20000) ∷
    Event (line.Settle 20000) ∷
    Event (line.Call 1 7 (call.List (codes "/"))) ∷
    Event (line.Settle 20000) ∷
    Event (line.Call 1 7 (call.Stat (codes "/a"))) ∷
    Event (line.Settle 20000) ∷
    Event (line.Call 2 7 (call.List (codes "/"))) ∷
    Event (line.Settle 20000) ∷
    Event (line.Call 2 7 (call.Stat (codes "/a"))) ∷
    Event (line.Settle 20000) ∷
    []

abbrev written : List ℕ
written =
    codes "4 join 1 e1.1.1 1:1,2:1\n" ++
    codes "4 join 2 e1.1.1 1:1,2:1\n" ++
    codes "4 start e1.1.1 0 1=0.0\n" ++
    codes "5 call 2 1 c2.1.1 create /a\n" ++
    codes "6 grant e1.1.1 c2.1.1 1 i2.1 w 0.1 0.0 2\n" ++
    codes "6 act e1.1.1 i2.1 1 probe a ok\n" ++
    codes "6 grant e1.1.1 c2.1.1 3 i2.2 n 0.65 - 2\n" ++
    codes "6 commit 0.65 2 2.1 - -\n" ++
    codes "6 release e1.1.1 i2.2 0.65 2.1\n" ++
    codes "6 adopt 0.65 1 2.1\n" ++
    codes "6 act e1.1.1 i2.1 2 insert a 65 f ok\n" ++
    codes "6 commit 0.1 2 2.1 0.0 016100410100000001\n" ++
    codes "6 release e1.1.1 i2.1 0.1 2.1\n" ++
    codes "6 reply 2 1 c2.1.1 ok 65\n" ++
    codes "6 adopt 0.1 1 2.1\n" ++
    codes "7 call 2 1 c2.1.2 create /a\n" ++
    codes "8 grant e1.1.1 c2.1.2 1 i2.3 w 0.1 2.1 2\n" ++
    codes "8 act e1.1.1 i2.3 1 probe a exists 65\n" ++
    codes "8 release e1.1.1 i2.3 0.1 -\n" ++
    codes "8 reply 2 1 c2.1.2 exists 65\n" ++
    codes "9 call 2 2 c2.1.3 stat /\n" ++
    codes "10 look e1.1.1 c2.1.3 1 0.1 stat 2.1\n" ++
    codes "10 budget\n" ++
    codes "11 call 1 8 c1.1.1 open /a r\n" ++
    codes "12 reply 2 2 c2.1.3 ok d 0.1 9 2.1\n" ++
    codes "12 look e1.1.1 c1.1.1 1 0.1 name a 2.1\n" ++
    codes "12 grant e1.1.1 c1.1.1 2 i1.1 r 0.65 2.1 1\n" ++
    codes "12 reply 1 8 c1.1.1 ok 0\n" ++
    codes "14 void\n" ++
    codes "16 void\n" ++
    codes "17 void\n" ++
    codes "18 void\n" ++
    codes "20 call 2 8 c2.1.4 open /a x 2\n" ++
    codes "21 look e1.1.1 c2.1.4 1 0.1 name a 2.1\n" ++
    codes "21 refuse e1.1.1 c2.1.4 2 i2.4 x 0.65 busy 1 8\n" ++
    codes "21 reply 2 8 c2.1.4 busy 1 8\n" ++
    codes "23 call 1 1 c1.1.2 stat /\n" ++
    codes "24 call 2 1 c2.1.5 close 0\n" ++
    codes "24 reply 2 1 c2.1.5 baddescriptor\n" ++
    codes "25 look e1.1.1 c1.1.2 1 0.1 stat 2.1\n" ++
    codes "25 reply 1 1 c1.1.2 ok d 0.1 9 2.1\n" ++
    codes "26 call 1 1 c1.1.3 open /a w\n" ++
    codes "27 void\n" ++
    codes "28 void\n" ++
    codes "32 void\n" ++
    codes "33 packet 83 1 1 look\n" ++
    codes "33 packet 84 1 1 look\n" ++
    codes "33 packet 85 1 1 look\n" ++
    codes "34 void\n" ++
    codes "35 look e1.1.1 c1.1.3 1 0.1 name a 2.1\n" ++
    codes "35 refuse e1.1.1 c1.1.3 2 i1.2 w 0.65 busy 1 8\n" ++
    codes "35 reply 1 1 c1.1.3 busy 1 8\n" ++
    codes "36 call 1 1 c1.1.4 write 0 0 efd7620d7baa3f71\n" ++
    codes "36 reply 1 1 c1.1.4 baddescriptor\n" ++
    codes "38 call 1 8 c1.1.5 read 1 1000 16\n" ++
    codes "38 reply 1 8 c1.1.5 baddescriptor\n" ++
    codes "41 void\n" ++
    codes "43 void\n" ++
    codes "44 call 2 1 c2.1.6 open /a x 1\n" ++
    codes "45 look e1.1.1 c2.1.6 1 0.1 name a 2.1\n" ++
    codes "45 refuse e1.1.1 c2.1.6 2 i2.5 x 0.65 busy 1 8\n" ++
    codes "45 reply 2 1 c2.1.6 busy 1 8\n" ++
    codes "46 void\n" ++
    codes "47 void\n" ++
    codes "48 void\n" ++
    codes "49 call 2 1 c2.1.7 cut 0 1024\n" ++
    codes "49 reply 2 1 c2.1.7 baddescriptor\n" ++
    codes "51 stopped 1 asked\n" ++
    codes "53 up 1 2\n" ++
    codes "54 void\n" ++
    codes "55 void\n" ++
    codes "57 leave 2 e1.1.1\n" ++
    codes "57 join 1 e1.1.2 1:2,2:1\n" ++
    codes "57 join 2 e1.1.2 1:2,2:1\n" ++
    codes "57 start e1.1.2 0 1=2.1 65=2.1\n" ++
    codes "60 call 1 7 c1.2.1 list /\n" ++
    codes "61 look e1.1.2 c1.2.1 1 0.1 list 2.1\n" ++
    codes "61 reply 1 7 c1.2.1 ok a\n" ++
    codes "62 call 1 7 c1.2.2 stat /a\n" ++
    codes "63 look e1.1.2 c1.2.2 1 0.1 name a 2.1\n" ++
    codes "63 look e1.1.2 c1.2.2 2 0.65 stat 2.1\n" ++
    codes "63 reply 1 7 c1.2.2 ok f 0.65 0 2.1\n" ++
    codes "64 call 2 7 c2.1.8 list /\n" ++
    codes "65 look e1.1.2 c2.1.8 1 0.1 list 2.1\n" ++
    codes "65 reply 2 7 c2.1.8 ok a\n" ++
    codes "66 call 2 7 c2.1.9 stat /a\n" ++
    codes "67 look e1.1.2 c2.1.9 1 0.1 name a 2.1\n" ++
    codes "67 look e1.1.2 c2.1.9 2 0.65 stat 2.1\n" ++
    codes "67 reply 2 7 c2.1.9 ok f 0.65 0 2.1\n" ++
    []

pub runs : printed (run lines) ≡ written
unfolding digits encode_with
runs = refl
