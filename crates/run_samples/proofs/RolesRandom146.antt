-- The run of a recorded schedule of 51 lines, to the whole text of its trace, 66 records.
use Rattle.std.specs.Prelude.{◌≡◌, refl, ℕ, List, [], ◌∷◌, ◌++◌, None, codes}
use Rattle.trace_book.specs.declared.call.Call.TheVariants as call
use Rattle.trace_book.specs.declared.call.OpenMode.TheVariants as how
use Rattle.schedule_lines.specs.declared.header.HeaderLine.TheVariants as header
use Rattle.schedule_lines.specs.declared.line.Line.TheVariants as line
use Rattle.schedule_lines.specs.declared.line.ScheduleLine.{ScheduleLine}
use Rattle.schedule_lines.specs.declared.line.ScheduleLine.TheVariants.{Header, Event}
use Rattle.std.specs.Fmt.{digits}
use Rattle.hex.specs.Hex.{encode_with}
use Rattle.the_run.specs.Runs.{run, printed}

abbrev lines : List ScheduleLine
lines =
    Header (header.Sites 3) ∷
    Header (header.Group 0 (record { 0 = 4 })) ∷
    Event (line.Merge 1) ∷
    Event (line.Settle 20000) ∷
    Event (line.Call 3 1 (call.Create (codes "/a") None)) ∷
    Event (line.Settle 20000) ∷
    Event (line.Call 1 1 (call.Write 1 65535 (92 ∷ []))) ∷
    Event (line.Settle 1) ∷
    Event (line.Settle 20000) ∷
    Event (line.Call 1 8 (call.Create (codes "/a") None)) ∷
    Event (line.Settle 20000) ∷
    Event (line.Settle 10) ∷
    Event (line.Call 2 1 (call.Create (codes "/a") None)) ∷
    Event (line.Settle 1) ∷
    Event (line.Call 2 1 (call.Close 1)) ∷
    Event (line.Settle 3) ∷
    Event (line.Call 3 1 (call.Close 1)) ∷
    Event (line.Settle 20000) ∷
    Event (line.Settle 20000) ∷
    Event (line.Settle 40) ∷
    Event (line.Call 3 1 (call.Stat (codes "/"))) ∷
    Event (line.Settle 20000) ∷
    Event (line.Settle 40) ∷
    Event (line.Call 2 1 (call.Open (codes "/a") how.Write)) ∷
    Event (line.Settle 1) ∷
    Event (line.Settle 20000) ∷
    Event (line.Call 3 1 (call.Write 0 1 (86 ∷ 243 ∷ 164 ∷ []))) ∷
    Event (line.Settle 20000) ∷
    Event (line.Call 1 1 (call.Read 9 0 16)) ∷
    Event (line.Settle 1) ∷
    Event (line.Tick 2) ∷
    Event (line.Deliver 80) ∷
    Event (line.Lose 15) ∷
    Event (line.Deliver 103) ∷
    Event (line.Lose 118) ∷
    Event (line.Settle 10) ∷
    Event (line.Settle 20000) ∷
    Event (line.Settle 20000) ∷
    Event (line.Settle 20000) ∷
    Event (line.Call 1 7 (call.List (codes "/"))) ∷
    Event (line.Settle 20000) ∷
    Event (line.Call 1 7 (call.Stat (codes "/a"))) ∷
    Event (line.Settle 20000) ∷
    Event (line.Call 2 7 (call.List (codes "/"))) ∷
    Event (line.Settle 20000) ∷
    Event (line.Call 2 7 (call.Stat (codes "/a"))) ∷
    Event (line.Settle 20000) ∷
    Event (line.Call 3 7 (call.List (codes "/"))) ∷
    Event (line.Settle 20000) ∷
    Event (line.Call 3 7 (call.Stat (codes "/a"))) ∷
    Event (line.Settle 20000) ∷
    []

abbrev written : List ℕ
written =
    codes "4 join 1 e1.1.1 1:1,2:1,3:1\n" ++
    codes "4 join 2 e1.1.1 1:1,2:1,3:1\n" ++
    codes "4 join 3 e1.1.1 1:1,2:1,3:1\n" ++
    codes "4 start e1.1.1 0 1=0.0\n" ++
    codes "5 call 3 1 c3.1.1 create /a\n" ++
    codes "6 grant e1.1.1 c3.1.1 1 i3.1 w 0.1 0.0 3\n" ++
    codes "6 act e1.1.1 i3.1 1 probe a ok\n" ++
    codes "6 grant e1.1.1 c3.1.1 3 i3.2 n 0.129 - 3\n" ++
    codes "6 commit 0.129 3 3.1 - -\n" ++
    codes "6 release e1.1.1 i3.2 0.129 3.1\n" ++
    codes "6 act e1.1.1 i3.1 2 insert a 129 f ok\n" ++
    codes "6 commit 0.1 3 3.1 0.0 016100810100000001\n" ++
    codes "6 release e1.1.1 i3.1 0.1 3.1\n" ++
    codes "6 reply 3 1 c3.1.1 ok 129\n" ++
    codes "7 call 1 1 c1.1.1 write 1 65535 5c\n" ++
    codes "7 reply 1 1 c1.1.1 baddescriptor\n" ++
    codes "10 call 1 8 c1.1.2 create /a\n" ++
    codes "11 grant e1.1.1 c1.1.2 1 i1.1 w 0.1 3.1 3\n" ++
    codes "11 act e1.1.1 i1.1 1 probe a exists 129\n" ++
    codes "11 release e1.1.1 i1.1 0.1 -\n" ++
    codes "11 reply 1 8 c1.1.2 exists 129\n" ++
    codes "13 call 2 1 c2.1.1 create /a\n" ++
    codes "14 grant e1.1.1 c2.1.1 1 i2.1 w 0.1 3.1 3\n" ++
    codes "14 budget\n" ++
    codes "15 void\n" ++
    codes "16 budget\n" ++
    codes "17 call 3 1 c3.1.2 close 1\n" ++
    codes "17 reply 3 1 c3.1.2 baddescriptor\n" ++
    codes "18 act e1.1.1 i2.1 1 probe a exists 129\n" ++
    codes "18 release e1.1.1 i2.1 0.1 -\n" ++
    codes "18 reply 2 1 c2.1.1 exists 129\n" ++
    codes "21 call 3 1 c3.1.3 stat /\n" ++
    codes "22 look e1.1.1 c3.1.3 1 0.1 stat 3.1\n" ++
    codes "22 reply 3 1 c3.1.3 ok d 0.1 9 3.1\n" ++
    codes "24 call 2 1 c2.1.2 open /a w\n" ++
    codes "25 look e1.1.1 c2.1.2 1 0.1 name a 3.1\n" ++
    codes "25 budget\n" ++
    codes "26 grant e1.1.1 c2.1.2 2 i2.2 w 0.129 3.1 3\n" ++
    codes "26 reply 2 1 c2.1.2 ok 0\n" ++
    codes "27 call 3 1 c3.1.4 write 0 1 56f3a4\n" ++
    codes "27 reply 3 1 c3.1.4 baddescriptor\n" ++
    codes "29 call 1 1 c1.1.3 read 9 0 16\n" ++
    codes "29 reply 1 1 c1.1.3 baddescriptor\n" ++
    codes "34 void\n" ++
    codes "35 void\n" ++
    codes "40 call 1 7 c1.1.4 list /\n" ++
    codes "41 look e1.1.1 c1.1.4 1 0.1 list 3.1\n" ++
    codes "41 reply 1 7 c1.1.4 ok a\n" ++
    codes "42 call 1 7 c1.1.5 stat /a\n" ++
    codes "43 look e1.1.1 c1.1.5 1 0.1 name a 3.1\n" ++
    codes "43 look e1.1.1 c1.1.5 2 0.129 stat 3.1\n" ++
    codes "43 reply 1 7 c1.1.5 ok f 0.129 0 3.1\n" ++
    codes "44 call 2 7 c2.1.3 list /\n" ++
    codes "45 look e1.1.1 c2.1.3 1 0.1 list 3.1\n" ++
    codes "45 reply 2 7 c2.1.3 ok a\n" ++
    codes "46 call 2 7 c2.1.4 stat /a\n" ++
    codes "47 look e1.1.1 c2.1.4 1 0.1 name a 3.1\n" ++
    codes "47 look e1.1.1 c2.1.4 2 0.129 stat 3.1\n" ++
    codes "47 reply 2 7 c2.1.4 ok f 0.129 0 3.1\n" ++
    codes "48 call 3 7 c3.1.5 list /\n" ++
    codes "49 look e1.1.1 c3.1.5 1 0.1 list 3.1\n" ++
    codes "49 reply 3 7 c3.1.5 ok a\n" ++
    codes "50 call 3 7 c3.1.6 stat /a\n" ++
    codes "51 look e1.1.1 c3.1.6 1 0.1 name a 3.1\n" ++
    codes "51 look e1.1.1 c3.1.6 2 0.129 stat 3.1\n" ++
    codes "51 reply 3 7 c3.1.6 ok f 0.129 0 3.1\n" ++
    []

pub runs : printed (run lines) ≡ written
unfolding digits encode_with
runs = refl
