-- The run of a recorded schedule of 47 lines, to the whole text of its trace, 66 records.
use Rattle.std.specs.Prelude.{◌≡◌, refl, ℕ, List, [], ◌∷◌, ◌++◌, None, codes}
use Rattle.trace_book.specs.declared.call.Call.TheVariants as call
use Rattle.trace_book.specs.declared.call.OpenMode.TheVariants as how
use Rattle.schedule_lines.specs.declared.header.HeaderLine.TheVariants as header
use Rattle.schedule_lines.specs.declared.line.Line.TheVariants as line
use Rattle.schedule_lines.specs.declared.line.ScheduleLine.{ScheduleLine}
use Rattle.schedule_lines.specs.declared.line.ScheduleLine.TheVariants.{Header, Event}
use Rattle.std.specs.Fmt.{digits}
use Rattle.hex.specs.Hex.{encode_with}
use Rattle.the_run.specs.Runs.{run, printed}

abbrev lines : List ScheduleLine
lines =
    Header (header.Sites 4) ∷
    Header (header.Group 0 (record { 0 = 9 })) ∷
    Event (line.Merge 3) ∷
    Event (line.Settle 20000) ∷
    Event (line.Call 4 1 (call.Create (codes "/a") None)) ∷
    Event (line.Settle 3) ∷
    Event (line.Call 1 2 (call.Read 9 0 16)) ∷
    Event (line.Settle 20000) ∷
    Event (line.Settle 20000) ∷
    Event (line.Lose 238) ∷
    Event line.Pending ∷
    Event (line.Call 2 1 (call.Open (codes "/a") how.Write)) ∷
    Event (line.Settle 1) ∷
    Event (line.Tick 4) ∷
    Event (line.Lose 275) ∷
    Event (line.Lose 49) ∷
    Event (line.Settle 1) ∷
    Event (line.Call 2 1 (call.Open (codes "/a") how.Read)) ∷
    Event (line.Settle 20000) ∷
    Event (line.Settle 20000) ∷
    Event (line.Call 4 1 (call.Create (codes "/a") None)) ∷
    Event (line.Settle 3) ∷
    Event (line.Call 2 2 (call.Write 1 65535 (178 ∷ 62 ∷ 122 ∷ 26 ∷ 138 ∷ 168 ∷ 110 ∷ 146 ∷ 41 ∷ 109 ∷ 39 ∷ 150 ∷ 154 ∷ 52 ∷ 201 ∷ 34 ∷ 5 ∷ 252 ∷ 253 ∷ 73 ∷ 240 ∷ 71 ∷ 23 ∷ 119 ∷ 42 ∷ 0 ∷ 188 ∷ 34 ∷ 221 ∷ 40 ∷ 229 ∷ 141 ∷ 48 ∷ 36 ∷ 169 ∷ 42 ∷ 97 ∷ 141 ∷ 76 ∷ 184 ∷ []))) ∷
    Event (line.Lose 226) ∷
    Event (line.Settle 40) ∷
    Event (line.Settle 10) ∷
    Event (line.Tick 2) ∷
    Event (line.Deliver 72) ∷
    Event (line.Settle 20000) ∷
    Event (line.Settle 20000) ∷
    Event (line.Settle 20000) ∷
    Event (line.Call 1 7 (call.List (codes "/"))) ∷
    Event (line.Settle 20000) ∷
    Event (line.Call 1 7 (call.Stat (codes "/a"))) ∷
    Event (line.Settle 20000) ∷
    Event (line.Call 2 7 (call.List (codes "/"))) ∷
    Event (line.Settle 20000) ∷
    Event (line.Call 2 7 (call.Stat (codes "/a"))) ∷
    Event (line.Settle 20000) ∷
    Event (line.Call 3 7 (call.List (codes "/"))) ∷
    Event (line.Settle 20000) ∷
    Event (line.Call 3 7 (call.Stat (codes "/a"))) ∷
    Event (line.Settle 20000) ∷
    Event (line.Call 4 7 (call.List (codes "/"))) ∷
    Event (line.Settle 20000) ∷
    Event (line.Call 4 7 (call.Stat (codes "/a"))) ∷
    Event (line.Settle 20000) ∷
    []

abbrev written : List ℕ
written =
    codes "4 join 3 e1.3.1 1:1,2:1,3:1,4:1\n" ++
    codes "4 join 1 e1.3.1 1:1,2:1,3:1,4:1\n" ++
    codes "4 join 2 e1.3.1 1:1,2:1,3:1,4:1\n" ++
    codes "4 join 4 e1.3.1 1:1,2:1,3:1,4:1\n" ++
    codes "4 start e1.3.1 0 1=0.0\n" ++
    codes "5 call 4 1 c4.1.1 create /a\n" ++
    codes "6 grant e1.3.1 c4.1.1 1 i4.1 w 0.1 0.0 4\n" ++
    codes "6 budget\n" ++
    codes "7 call 1 2 c1.1.1 read 9 0 16\n" ++
    codes "7 reply 1 2 c1.1.1 baddescriptor\n" ++
    codes "8 act e1.3.1 i4.1 1 probe a ok\n" ++
    codes "8 grant e1.3.1 c4.1.1 3 i4.2 n 0.193 - 4\n" ++
    codes "8 commit 0.193 4 4.1 - -\n" ++
    codes "8 release e1.3.1 i4.2 0.193 4.1\n" ++
    codes "8 adopt 0.193 1 4.1\n" ++
    codes "8 act e1.3.1 i4.1 2 insert a 193 f ok\n" ++
    codes "8 commit 0.1 4 4.1 0.0 016100c10100000001\n" ++
    codes "8 release e1.3.1 i4.1 0.1 4.1\n" ++
    codes "8 reply 4 1 c4.1.1 ok 193\n" ++
    codes "8 adopt 0.1 1 4.1\n" ++
    codes "10 void\n" ++
    codes "12 call 2 1 c2.1.1 open /a w\n" ++
    codes "13 look e1.3.1 c2.1.1 1 0.1 name a 4.1\n" ++
    codes "13 budget\n" ++
    codes "15 void\n" ++
    codes "17 budget\n" ++
    codes "18 void\n" ++
    codes "19 grant e1.3.1 c2.1.1 2 i2.1 w 0.193 4.1 1\n" ++
    codes "19 reply 2 1 c2.1.1 ok 0\n" ++
    codes "21 call 4 1 c4.1.2 create /a\n" ++
    codes "22 grant e1.3.1 c4.1.2 1 i4.3 w 0.1 4.1 4\n" ++
    codes "22 budget\n" ++
    codes "23 call 2 2 c2.1.2 write 1 65535 b23e7a1a8aa86e92296d27969a34c92205fcfd49f04717772a00bc22dd28e58d3024a92a618d4cb8\n" ++
    codes "23 reply 2 2 c2.1.2 toolong\n" ++
    codes "24 void\n" ++
    codes "25 act e1.3.1 i4.3 1 probe a exists 193\n" ++
    codes "25 release e1.3.1 i4.3 0.1 -\n" ++
    codes "25 reply 4 1 c4.1.2 exists 193\n" ++
    codes "32 call 1 7 c1.1.2 list /\n" ++
    codes "33 look e1.3.1 c1.1.2 1 0.1 list 4.1\n" ++
    codes "33 reply 1 7 c1.1.2 ok a\n" ++
    codes "34 call 1 7 c1.1.3 stat /a\n" ++
    codes "35 look e1.3.1 c1.1.3 1 0.1 name a 4.1\n" ++
    codes "35 look e1.3.1 c1.1.3 2 0.193 stat 4.1\n" ++
    codes "35 reply 1 7 c1.1.3 ok f 0.193 0 4.1\n" ++
    codes "36 call 2 7 c2.1.3 list /\n" ++
    codes "37 look e1.3.1 c2.1.3 1 0.1 list 4.1\n" ++
    codes "37 reply 2 7 c2.1.3 ok a\n" ++
    codes "38 call 2 7 c2.1.4 stat /a\n" ++
    codes "39 look e1.3.1 c2.1.4 1 0.1 name a 4.1\n" ++
    codes "39 look e1.3.1 c2.1.4 2 0.193 stat 4.1\n" ++
    codes "39 reply 2 7 c2.1.4 ok f 0.193 0 4.1\n" ++
    codes "40 call 3 7 c3.1.1 list /\n" ++
    codes "41 look e1.3.1 c3.1.1 1 0.1 list 4.1\n" ++
    codes "41 reply 3 7 c3.1.1 ok a\n" ++
    codes "42 call 3 7 c3.1.2 stat /a\n" ++
    codes "43 look e1.3.1 c3.1.2 1 0.1 name a 4.1\n" ++
    codes "43 look e1.3.1 c3.1.2 2 0.193 stat 4.1\n" ++
    codes "43 reply 3 7 c3.1.2 ok f 0.193 0 4.1\n" ++
    codes "44 call 4 7 c4.1.3 list /\n" ++
    codes "45 look e1.3.1 c4.1.3 1 0.1 list 4.1\n" ++
    codes "45 reply 4 7 c4.1.3 ok a\n" ++
    codes "46 call 4 7 c4.1.4 stat /a\n" ++
    codes "47 look e1.3.1 c4.1.4 1 0.1 name a 4.1\n" ++
    codes "47 look e1.3.1 c4.1.4 2 0.193 stat 4.1\n" ++
    codes "47 reply 4 7 c4.1.4 ok f 0.193 0 4.1\n" ++
    []

pub runs : printed (run lines) ≡ written
unfolding digits encode_with
runs = refl
