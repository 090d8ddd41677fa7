-- The run of a recorded schedule of 44 lines, to the whole text of its trace, 81 records.
use Rattle.std.specs.Prelude.{◌≡◌, refl, ℕ, List, [], ◌∷◌, ◌++◌, Some, None, codes}
use Rattle.trace_book.specs.declared.call.Call.TheVariants as call
use Rattle.trace_book.specs.declared.call.OpenMode.TheVariants as how
use Rattle.schedule_lines.specs.declared.header.HeaderLine.TheVariants as header
use Rattle.schedule_lines.specs.declared.line.Line.TheVariants as line
use Rattle.schedule_lines.specs.declared.line.ScheduleLine.{ScheduleLine}
use Rattle.schedule_lines.specs.declared.line.ScheduleLine.TheVariants.{Header, Event}
use Rattle.std.specs.Fmt.{digits}
use Rattle.hex.specs.Hex.{encode_with}
use Rattle.the_run.specs.Runs.{run, printed}

abbrev lines : List ScheduleLine
lines =
    Header (header.Sites 3) ∷
    Header (header.Group 0 (record { 0 = 7 })) ∷
    Event (line.Merge 3) ∷
    Event (line.Settle 20000) ∷
    Event (line.Call 3 1 (call.Close 0)) ∷
    Event (line.Settle 1) ∷
    Event (line.Call 1 1 (call.Open (codes "/a") how.Write)) ∷
    Event (line.Settle 3) ∷
    Event (line.Call 2 8 (call.List (codes "/"))) ∷
    Event (line.Settle 40) ∷
    Event (line.Call 1 1 (call.Open (codes "/a") how.Write)) ∷
    Event (line.Settle 20000) ∷
    Event (line.Call 2 1 (call.Write 0 5000 (140 ∷ 18 ∷ 238 ∷ []))) ∷
    Event (line.Call 2 1 (call.Create (codes "/a") None)) ∷
    Event (line.Settle 20000) ∷
    Event (line.Settle 20000) ∷
    Event (line.Call 1 1 (call.Create (codes "/a") None)) ∷
    Event (line.Settle 20000) ∷
    Event (line.Call 2 1 (call.Open (codes "/a") how.Write)) ∷
    Event (line.Call 2 8 (call.Create (codes "/a") (Some (record { 0 = 3 })))) ∷
    Event (line.Settle 20000) ∷
    Event (line.Call 2 1 (call.Create (codes "/a") (Some (record { 0 = 1 })))) ∷
    Event (line.Settle 20000) ∷
    Event (line.Call 1 1 (call.Write 1 1024 (102 ∷ []))) ∷
    Event (line.Settle 20000) ∷
    Event (line.Call 3 1 (call.Create (codes "/a") (Some (record { 0 = 3 })))) ∷
    Event (line.Call 3 1 (call.Close 0)) ∷
    Event (line.Settle 40) ∷
    Event (line.Deliver 243) ∷
    Event (line.Settle 20000) ∷
    Event (line.Settle 20000) ∷
    Event (line.Settle 20000) ∷
    Event (line.Call 1 7 (call.List (codes "/"))) ∷
    Event (line.Settle 20000) ∷
    Event (line.Call 1 7 (call.Stat (codes "/a"))) ∷
    Event (line.Settle 20000) ∷
    Event (line.Call 2 7 (call.List (codes "/"))) ∷
    Event (line.Settle 20000) ∷
    Event (line.Call 2 7 (call.Stat (codes "/a"))) ∷
    Event (line.Settle 20000) ∷
    Event (line.Call 3 7 (call.List (codes "/"))) ∷
    Event (line.Settle 20000) ∷
    Event (line.Call 3 7 (call.Stat (codes "/a"))) ∷
    Event (line.Settle 20000) ∷
    []

abbrev written : List ℕ
written =
    codes "4 join 3 e1.3.1 1:1,2:1,3:1\n" ++
    codes "4 join 1 e1.3.1 1:1,2:1,3:1\n" ++
    codes "4 join 2 e1.3.1 1:1,2:1,3:1\n" ++
    codes "4 start e1.3.1 0 1=0.0\n" ++
    codes "5 call 3 1 c3.1.1 close 0\n" ++
    codes "5 reply 3 1 c3.1.1 baddescriptor\n" ++
    codes "7 call 1 1 c1.1.1 open /a w\n" ++
    codes "8 look e1.3.1 c1.1.1 1 0.1 name a 0.0\n" ++
    codes "8 budget\n" ++
    codes "9 call 2 8 c2.1.1 list /\n" ++
    codes "10 reply 1 1 c1.1.1 absent a\n" ++
    codes "10 look e1.3.1 c2.1.1 1 0.1 list 0.0\n" ++
    codes "10 reply 2 8 c2.1.1 ok\n" ++
    codes "11 call 1 1 c1.1.2 open /a w\n" ++
    codes "12 look e1.3.1 c1.1.2 1 0.1 name a 0.0\n" ++
    codes "12 reply 1 1 c1.1.2 absent a\n" ++
    codes "13 call 2 1 c2.1.2 write 0 5000 8c12ee\n" ++
    codes "13 reply 2 1 c2.1.2 baddescriptor\n" ++
    codes "14 call 2 1 c2.1.3 create /a\n" ++
    codes "15 grant e1.3.1 c2.1.3 1 i2.1 w 0.1 0.0 2\n" ++
    codes "15 act e1.3.1 i2.1 1 probe a ok\n" ++
    codes "15 grant e1.3.1 c2.1.3 3 i2.2 n 0.65 - 2\n" ++
    codes "15 commit 0.65 2 2.1 - -\n" ++
    codes "15 release e1.3.1 i2.2 0.65 2.1\n" ++
    codes "15 adopt 0.65 1 2.1\n" ++
    codes "15 adopt 0.65 3 2.1\n" ++
    codes "15 act e1.3.1 i2.1 2 insert a 65 f ok\n" ++
    codes "15 commit 0.1 2 2.1 0.0 016100410100000001\n" ++
    codes "15 release e1.3.1 i2.1 0.1 2.1\n" ++
    codes "15 reply 2 1 c2.1.3 ok 65\n" ++
    codes "15 adopt 0.1 1 2.1\n" ++
    codes "15 adopt 0.1 3 2.1\n" ++
    codes "17 call 1 1 c1.1.3 create /a\n" ++
    codes "18 grant e1.3.1 c1.1.3 1 i1.1 w 0.1 2.1 1\n" ++
    codes "18 act e1.3.1 i1.1 1 probe a exists 65\n" ++
    codes "18 release e1.3.1 i1.1 0.1 -\n" ++
    codes "18 reply 1 1 c1.1.3 exists 65\n" ++
    codes "19 call 2 1 c2.1.4 open /a w\n" ++
    codes "20 call 2 8 c2.1.5 create /a 1,2\n" ++
    codes "21 look e1.3.1 c2.1.4 1 0.1 name a 2.1\n" ++
    codes "21 grant e1.3.1 c2.1.5 1 i2.3 w 0.1 2.1 2\n" ++
    codes "21 grant e1.3.1 c2.1.4 2 i2.4 w 0.65 2.1 2\n" ++
    codes "21 act e1.3.1 i2.3 1 probe a exists 65\n" ++
    codes "21 reply 2 1 c2.1.4 ok 0\n" ++
    codes "21 release e1.3.1 i2.3 0.1 -\n" ++
    codes "21 reply 2 8 c2.1.5 exists 65\n" ++
    codes "22 call 2 1 c2.1.6 create /a 1\n" ++
    codes "23 grant e1.3.1 c2.1.6 1 i2.5 w 0.1 2.1 2\n" ++
    codes "23 act e1.3.1 i2.5 1 probe a exists 65\n" ++
    codes "23 release e1.3.1 i2.5 0.1 -\n" ++
    codes "23 reply 2 1 c2.1.6 exists 65\n" ++
    codes "24 call 1 1 c1.1.4 write 1 1024 66\n" ++
    codes "24 reply 1 1 c1.1.4 baddescriptor\n" ++
    codes "26 call 3 1 c3.1.2 create /a 1,2\n" ++
    codes "27 void\n" ++
    codes "28 grant e1.3.1 c3.1.2 1 i3.1 w 0.1 2.1 3\n" ++
    codes "28 act e1.3.1 i3.1 1 probe a exists 65\n" ++
    codes "28 release e1.3.1 i3.1 0.1 -\n" ++
    codes "28 reply 3 1 c3.1.2 exists 65\n" ++
    codes "29 void\n" ++
    codes "33 call 1 7 c1.1.5 list /\n" ++
    codes "34 look e1.3.1 c1.1.5 1 0.1 list 2.1\n" ++
    codes "34 reply 1 7 c1.1.5 ok a\n" ++
    codes "35 call 1 7 c1.1.6 stat /a\n" ++
    codes "36 look e1.3.1 c1.1.6 1 0.1 name a 2.1\n" ++
    codes "36 look e1.3.1 c1.1.6 2 0.65 stat 2.1\n" ++
    codes "36 reply 1 7 c1.1.6 ok f 0.65 0 2.1\n" ++
    codes "37 call 2 7 c2.1.7 list /\n" ++
    codes "38 look e1.3.1 c2.1.7 1 0.1 list 2.1\n" ++
    codes "38 reply 2 7 c2.1.7 ok a\n" ++
    codes "39 call 2 7 c2.1.8 stat /a\n" ++
    codes "40 look e1.3.1 c2.1.8 1 0.1 name a 2.1\n" ++
    codes "40 look e1.3.1 c2.1.8 2 0.65 stat 2.1\n" ++
    codes "40 reply 2 7 c2.1.8 ok f 0.65 0 2.1\n" ++
    codes "41 call 3 7 c3.1.3 list /\n" ++
    codes "42 look e1.3.1 c3.1.3 1 0.1 list 2.1\n" ++
    codes "42 reply 3 7 c3.1.3 ok a\n" ++
    codes "43 call 3 7 c3.1.4 stat /a\n" ++
    codes "44 look e1.3.1 c3.1.4 1 0.1 name a 2.1\n" ++
    codes "44 look e1.3.1 c3.1.4 2 0.65 stat 2.1\n" ++
    codes "44 reply 3 7 c3.1.4 ok f 0.65 0 2.1\n" ++
    []

pub runs : printed (run lines) ≡ written
unfolding digits encode_with
runs = refl
