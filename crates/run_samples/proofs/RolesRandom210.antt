-- The run of a recorded schedule of 49 lines, to the whole text of its trace, 71 records.
use Rattle.std.specs.Prelude.{◌≡◌, refl, ℕ, List, [], ◌∷◌, ◌++◌, Some, None, codes}
use Rattle.trace_book.specs.declared.call.Call.TheVariants as call
use Rattle.trace_book.specs.declared.call.OpenMode.TheVariants as how
use Rattle.schedule_lines.specs.declared.header.HeaderLine.TheVariants as header
use Rattle.schedule_lines.specs.declared.line.Line.TheVariants as line
use Rattle.schedule_lines.specs.declared.line.ScheduleLine.{ScheduleLine}
use Rattle.schedule_lines.specs.declared.line.ScheduleLine.TheVariants.{Header, Event}
use Rattle.std.specs.Fmt.{digits}
use Rattle.hex.specs.Hex.{encode_with}
use Rattle.the_run.specs.Runs.{run, printed}

abbrev lines : List ScheduleLine
lines =
    Header (header.Sites 3) ∷
    Header (header.Group 0 (record { 0 = 7 })) ∷
    Event (line.Merge 2) ∷
    Event (line.Settle 20000) ∷
    Event (line.Call 2 1 (call.Create (codes "/a") None)) ∷
    Event (line.Settle 1) ∷
    Event (line.Tick 2) ∷
    Event (line.Tick 1) ∷
    Event line.Pending ∷
    Event (line.Call 2 1 (call.Open (codes "/a") how.Write)) ∷
    Event (line.Call 3 1 (call.Write 2 1 (235 ∷ 14 ∷ 204 ∷ 182 ∷ 133 ∷ 177 ∷ 45 ∷ 193 ∷ []))) ∷
    Event (line.Settle 20000) ∷
    Event (line.Settle 20000) ∷
    Event (line.Tick 2) ∷
    Event (line.Lose 68) ∷
    Event (line.Tick 1) ∷
    Event (line.Deliver 234) ∷
    Event (line.Lose 225) ∷
    Event (line.Settle 1) ∷
    Event (line.Call 3 1 (call.Open (codes "/a") how.Read)) ∷
    Event (line.Call 1 1 (call.Create (codes "/a") (Some (record { 0 = 3 })))) ∷
    Event (line.Settle 20000) ∷
    Event (line.Deliver 3) ∷
    Event (line.Call 3 8 (call.Open (codes "/a") how.Write)) ∷
    Event (line.Settle 1) ∷
    Event (line.Tick 3) ∷
    Event (line.Deliver 31) ∷
    Event (line.Call 1 1 (call.Open (codes "/a") how.Read)) ∷
    Event (line.Settle 20000) ∷
    Event (line.Tick 3) ∷
    Event (line.Tick 2) ∷
    Event (line.Call 1 8 (call.Open (codes "/a") how.Write)) ∷
    Event (line.Settle 20000) ∷
    Event (line.Settle 10) ∷
    Event (line.Settle 20000) ∷
    Event (line.Settle 20000) ∷
    Event (line.Settle 20000) ∷
    Event (line.Call 1 7 (call.List (codes "/"))) ∷
    Event (line.Settle 20000) ∷
    Event (line.Call 1 7 (call.Stat (codes "/a"))) ∷
    Event (line.Settle 20000) ∷
    Event (line.Call 2 7 (call.List (codes "/"))) ∷
    Event (line.Settle 20000) ∷
    Event (line.Call 2 7 (call.Stat (codes "/a"))) ∷
    Event (line.Settle 20000) ∷
    Event (line.Call 3 7 (call.List (codes "/"))) ∷
    Event (line.Settle 20000) ∷
    Event (line.Call 3 7 (call.Stat (codes "/a"))) ∷
    Event (line.Settle 20000) ∷
    []

abbrev written : List ℕ
written =
    codes "4 join 2 e1.2.1 1:1,2:1,3:1\n" ++
    codes "4 join 1 e1.2.1 1:1,2:1,3:1\n" ++
    codes "4 join 3 e1.2.1 1:1,2:1,3:1\n" ++
    codes "4 start e1.2.1 0 1=0.0\n" ++
    codes "5 call 2 1 c2.1.1 create /a\n" ++
    codes "6 grant e1.2.1 c2.1.1 1 i2.1 w 0.1 0.0 2\n" ++
    codes "6 budget\n" ++
    codes "9 packet 20 2 1 open\n" ++
    codes "9 packet 21 1 2 openss\n" ++
    codes "9 packet 22 2 1 open\n" ++
    codes "10 void\n" ++
    codes "11 call 3 1 c3.1.1 write 2 1 eb0eccb685b12dc1\n" ++
    codes "11 reply 3 1 c3.1.1 baddescriptor\n" ++
    codes "12 act e1.2.1 i2.1 1 probe a ok\n" ++
    codes "12 grant e1.2.1 c2.1.1 3 i2.2 n 0.65 - 2\n" ++
    codes "12 commit 0.65 2 2.1 - -\n" ++
    codes "12 release e1.2.1 i2.2 0.65 2.1\n" ++
    codes "12 adopt 0.65 1 2.1\n" ++
    codes "12 adopt 0.65 3 2.1\n" ++
    codes "12 act e1.2.1 i2.1 2 insert a 65 f ok\n" ++
    codes "12 commit 0.1 2 2.1 0.0 016100410100000001\n" ++
    codes "12 release e1.2.1 i2.1 0.1 2.1\n" ++
    codes "12 reply 2 1 c2.1.1 ok 65\n" ++
    codes "12 adopt 0.1 1 2.1\n" ++
    codes "12 adopt 0.1 3 2.1\n" ++
    codes "15 void\n" ++
    codes "17 void\n" ++
    codes "18 void\n" ++
    codes "20 call 3 1 c3.1.2 open /a r\n" ++
    codes "21 call 1 1 c1.1.1 create /a 1,2\n" ++
    codes "22 look e1.2.1 c3.1.2 1 0.1 name a 2.1\n" ++
    codes "22 grant e1.2.1 c1.1.1 1 i1.1 w 0.1 2.1 1\n" ++
    codes "22 grant e1.2.1 c3.1.2 2 i3.1 r 0.65 2.1 3\n" ++
    codes "22 act e1.2.1 i1.1 1 probe a exists 65\n" ++
    codes "22 reply 3 1 c3.1.2 ok 0\n" ++
    codes "22 release e1.2.1 i1.1 0.1 -\n" ++
    codes "22 reply 1 1 c1.1.1 exists 65\n" ++
    codes "24 call 3 8 c3.1.3 open /a w\n" ++
    codes "25 budget\n" ++
    codes "28 call 1 1 c1.1.2 open /a r\n" ++
    codes "29 look e1.2.1 c3.1.3 1 0.1 name a 2.1\n" ++
    codes "29 look e1.2.1 c1.1.2 1 0.1 name a 2.1\n" ++
    codes "29 refuse e1.2.1 c3.1.3 2 i3.2 w 0.65 busy 3 1\n" ++
    codes "29 grant e1.2.1 c1.1.2 2 i1.2 r 0.65 2.1 1\n" ++
    codes "29 reply 3 8 c3.1.3 busy 3 1\n" ++
    codes "29 reply 1 1 c1.1.2 ok 0\n" ++
    codes "32 call 1 8 c1.1.3 open /a w\n" ++
    codes "33 look e1.2.1 c1.1.3 1 0.1 name a 2.1\n" ++
    codes "33 refuse e1.2.1 c1.1.3 2 i1.3 w 0.65 busy 3 1\n" ++
    codes "33 reply 1 8 c1.1.3 busy 3 1\n" ++
    codes "38 call 1 7 c1.1.4 list /\n" ++
    codes "39 look e1.2.1 c1.1.4 1 0.1 list 2.1\n" ++
    codes "39 reply 1 7 c1.1.4 ok a\n" ++
    codes "40 call 1 7 c1.1.5 stat /a\n" ++
    codes "41 look e1.2.1 c1.1.5 1 0.1 name a 2.1\n" ++
    codes "41 look e1.2.1 c1.1.5 2 0.65 stat 2.1\n" ++
    codes "41 reply 1 7 c1.1.5 ok f 0.65 0 2.1\n" ++
    codes "42 call 2 7 c2.1.2 list /\n" ++
    codes "43 look e1.2.1 c2.1.2 1 0.1 list 2.1\n" ++
    codes "43 reply 2 7 c2.1.2 ok a\n" ++
    codes "44 call 2 7 c2.1.3 stat /a\n" ++
    codes "45 look e1.2.1 c2.1.3 1 0.1 name a 2.1\n" ++
    codes "45 look e1.2.1 c2.1.3 2 0.65 stat 2.1\n" ++
    codes "45 reply 2 7 c2.1.3 ok f 0.65 0 2.1\n" ++
    codes "46 call 3 7 c3.1.4 list /\n" ++
    codes "47 look e1.2.1 c3.1.4 1 0.1 list 2.1\n" ++
    codes "47 reply 3 7 c3.1.4 ok a\n" ++
    codes "48 call 3 7 c3.1.5 stat /a\n" ++
    codes "49 look e1.2.1 c3.1.5 1 0.1 name a 2.1\n" ++
    codes "49 look e1.2.1 c3.1.5 2 0.65 stat 2.1\n" ++
    codes "49 reply 3 7 c3.1.5 ok f 0.65 0 2.1\n" ++
    []

pub runs : printed (run lines) ≡ written
unfolding digits encode_with
runs = refl
