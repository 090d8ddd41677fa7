-- The run of a recorded schedule of 43 lines, to the whole text of its trace, 50 records.
use Rattle.std.specs.Prelude.{◌≡◌, refl, ℕ, List, [], ◌∷◌, ◌++◌, codes}
use Rattle.trace_book.specs.declared.call.Call.TheVariants as call
use Rattle.trace_book.specs.declared.call.OpenMode.TheVariants as how
use Rattle.schedule_lines.specs.declared.header.HeaderLine.TheVariants as header
use Rattle.schedule_lines.specs.declared.line.Line.TheVariants as line
use Rattle.schedule_lines.specs.declared.line.ScheduleLine.{ScheduleLine}
use Rattle.schedule_lines.specs.declared.line.ScheduleLine.TheVariants.{Header, Event}
use Rattle.std.specs.Fmt.{digits}
use Rattle.hex.specs.Hex.{encode_with}
use Rattle.the_run.specs.Runs.{run, printed}

abbrev lines : List ScheduleLine
lines =
    Header (header.Sites 1) ∷
    Header (header.Group 0 (record { 0 = 1 })) ∷
    Event (line.Merge 1) ∷
    Event (line.Settle 1000) ∷
    Event (line.Call 1 1 (call.Read 0 1 1)) ∷
    Event (line.Settle 5000) ∷
    Event (line.Call 1 1 (call.Write 2 0 (85 ∷ []))) ∷
    Event (line.Settle 1000) ∷
    Event (line.Call 1 1 (call.Open (codes "/a") how.Write)) ∷
    Event (line.Settle 5000) ∷
    Event (line.Call 1 1 (call.Write 1 65536 (193 ∷ 186 ∷ 200 ∷ 27 ∷ 59 ∷ 232 ∷ 61 ∷ 189 ∷ 6 ∷ 230 ∷ 167 ∷ 100 ∷ []))) ∷
    Event (line.Settle 1000000) ∷
    Event (line.Call 1 1 (call.Stat (codes "/none"))) ∷
    Event (line.Settle 1000) ∷
    Event (line.Boot 1) ∷
    Event (line.Merge 1) ∷
    Event (line.Settle 1000) ∷
    Event (line.Call 1 1 (call.Open (codes "/a") how.Write)) ∷
    Event (line.Settle 5000) ∷
    Event (line.Call 1 1 (call.Open (codes "/a") how.Write)) ∷
    Event (line.Settle 1000000) ∷
    Event (line.Call 1 1 (call.Stat (codes "/"))) ∷
    Event (line.Settle 5000) ∷
    Event (line.Call 1 1 (call.Write 1 40351 (22 ∷ []))) ∷
    Event (line.Settle 1000000) ∷
    Event (line.Call 1 1 (call.Open (codes "/a") how.Read)) ∷
    Event (line.Settle 1000) ∷
    Event (line.Call 1 1 (call.Cut 2 1)) ∷
    Event (line.Settle 1000) ∷
    Event (line.Call 1 1 (call.Write 0 0 (177 ∷ 156 ∷ 2 ∷ []))) ∷
    Event (line.Settle 1000000) ∷
    Event (line.Call 1 1 (call.Write 1 65536 (69 ∷ []))) ∷
    Event (line.Settle 1000000) ∷
    Event (line.Call 1 1 (call.Read 2 0 16)) ∷
    Event (line.Settle 1000000) ∷
    Event (line.Stop 1) ∷
    Event (line.Boot 1) ∷
    Event (line.Merge 1) ∷
    Event (line.Settle 1000) ∷
    Event (line.Call 1 1 (call.Stat (codes "/a"))) ∷
    Event (line.Settle 1000) ∷
    Event (line.Call 1 1 (call.Open (codes "/a") how.Read)) ∷
    Event (line.Settle 1000) ∷
    []

abbrev written : List ℕ
written =
    codes "3 join 1 e1.1.1 1:1\n" ++
    codes "4 start e1.1.1 0 1=0.0\n" ++
    codes "5 call 1 1 c1.1.1 read 0 1 1\n" ++
    codes "5 reply 1 1 c1.1.1 baddescriptor\n" ++
    codes "7 call 1 1 c1.1.2 write 2 0 55\n" ++
    codes "7 reply 1 1 c1.1.2 baddescriptor\n" ++
    codes "9 call 1 1 c1.1.3 open /a w\n" ++
    codes "10 look e1.1.1 c1.1.3 1 0.1 name a 0.0\n" ++
    codes "10 reply 1 1 c1.1.3 absent a\n" ++
    codes "11 call 1 1 c1.1.4 write 1 65536 c1bac81b3be83dbd06e6a764\n" ++
    codes "11 reply 1 1 c1.1.4 toolong\n" ++
    codes "13 call 1 1 c1.1.5 stat /none\n" ++
    codes "14 look e1.1.1 c1.1.5 1 0.1 name none 0.0\n" ++
    codes "14 reply 1 1 c1.1.5 absent none\n" ++
    codes "15 void\n" ++
    codes "16 leave 1 e1.1.1\n" ++
    codes "16 join 1 e2.1.1 1:1\n" ++
    codes "17 start e2.1.1 0 1=0.0\n" ++
    codes "18 call 1 1 c1.1.6 open /a w\n" ++
    codes "19 look e2.1.1 c1.1.6 1 0.1 name a 0.0\n" ++
    codes "19 reply 1 1 c1.1.6 absent a\n" ++
    codes "20 call 1 1 c1.1.7 open /a w\n" ++
    codes "21 look e2.1.1 c1.1.7 1 0.1 name a 0.0\n" ++
    codes "21 reply 1 1 c1.1.7 absent a\n" ++
    codes "22 call 1 1 c1.1.8 stat /\n" ++
    codes "23 look e2.1.1 c1.1.8 1 0.1 stat 0.0\n" ++
    codes "23 reply 1 1 c1.1.8 ok d 0.1 0 0.0\n" ++
    codes "24 call 1 1 c1.1.9 write 1 40351 16\n" ++
    codes "24 reply 1 1 c1.1.9 baddescriptor\n" ++
    codes "26 call 1 1 c1.1.10 open /a r\n" ++
    codes "27 look e2.1.1 c1.1.10 1 0.1 name a 0.0\n" ++
    codes "27 reply 1 1 c1.1.10 absent a\n" ++
    codes "28 call 1 1 c1.1.11 cut 2 1\n" ++
    codes "28 reply 1 1 c1.1.11 baddescriptor\n" ++
    codes "30 call 1 1 c1.1.12 write 0 0 b19c02\n" ++
    codes "30 reply 1 1 c1.1.12 baddescriptor\n" ++
    codes "32 call 1 1 c1.1.13 write 1 65536 45\n" ++
    codes "32 reply 1 1 c1.1.13 toolong\n" ++
    codes "34 call 1 1 c1.1.14 read 2 0 16\n" ++
    codes "34 reply 1 1 c1.1.14 baddescriptor\n" ++
    codes "36 stopped 1 asked\n" ++
    codes "37 up 1 2\n" ++
    codes "38 join 1 e1.1.2 1:2\n" ++
    codes "39 start e1.1.2 0 1=0.0\n" ++
    codes "40 call 1 1 c1.2.1 stat /a\n" ++
    codes "41 look e1.1.2 c1.2.1 1 0.1 name a 0.0\n" ++
    codes "41 reply 1 1 c1.2.1 absent a\n" ++
    codes "42 call 1 1 c1.2.2 open /a r\n" ++
    codes "43 look e1.1.2 c1.2.2 1 0.1 name a 0.0\n" ++
    codes "43 reply 1 1 c1.2.2 absent a\n" ++
    []

pub runs : printed (run lines) ≡ written
unfolding digits encode_with
runs = refl
