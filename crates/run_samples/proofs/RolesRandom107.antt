-- The run of a recorded schedule of 43 lines, to the whole text of its trace, 57 records.
use Rattle.std.specs.Prelude.{◌≡◌, refl, ℕ, List, [], ◌∷◌, ◌++◌, Some, None, codes}
use Rattle.trace_book.specs.declared.call.Call.TheVariants as call
use Rattle.trace_book.specs.declared.call.OpenMode.TheVariants as how
use Rattle.schedule_lines.specs.declared.header.HeaderLine.TheVariants as header
use Rattle.schedule_lines.specs.declared.line.Line.TheVariants as line
use Rattle.schedule_lines.specs.declared.line.ScheduleLine.{ScheduleLine}
use Rattle.schedule_lines.specs.declared.line.ScheduleLine.TheVariants.{Header, Event}
use Rattle.std.specs.Fmt.{digits}
use Rattle.hex.specs.Hex.{encode_with}
use Rattle.the_run.specs.Runs.{run, printed}

abbrev lines : List ScheduleLine
lines =
    Header (header.Sites 2) ∷
    Header (header.Group 0 (record { 0 = 1 })) ∷
    Event (line.Merge 2) ∷
    Event (line.Settle 20000) ∷
    Event (line.Call 2 1 (call.Create (codes "/a") None)) ∷
    Event (line.Settle 10) ∷
    Event (line.Call 2 1 (call.Open (codes "/a") how.Write)) ∷
    Event (line.Settle 10) ∷
    Event (line.Settle 40) ∷
    Event (line.Call 2 1 (call.Close 0)) ∷
    Event (line.Settle 3) ∷
    Event (line.Call 1 2 (call.Write 2 0 (159 ∷ 56 ∷ 10 ∷ 119 ∷ 7 ∷ 229 ∷ 170 ∷ 59 ∷ []))) ∷
    Event (line.Settle 3) ∷
    Event (line.Call 1 1 (call.Stat (codes "/a"))) ∷
    Event (line.Settle 10) ∷
    Event (line.Settle 1) ∷
    Event (line.Settle 10) ∷
    Event (line.Call 1 1 (call.Create (codes "/a") (Some (record { 0 = 1 })))) ∷
    Event (line.Settle 20000) ∷
    Event (line.Call 2 1 (call.Read 2 0 16)) ∷
    Event (line.Settle 20000) ∷
    Event (line.Call 1 8 (call.Close 0)) ∷
    Event (line.Settle 20000) ∷
    Event (line.Settle 20000) ∷
    Event (line.Call 1 2 (call.Read 0 1000 4096)) ∷
    Event (line.Settle 20000) ∷
    Event (line.Call 1 1 (call.Write 1 65535 (226 ∷ 84 ∷ []))) ∷
    Event (line.Call 1 2 (call.Close 0)) ∷
    Event (line.Settle 3) ∷
    Event (line.Settle 40) ∷
    Event (line.Call 1 1 (call.Open (codes "/a") how.Read)) ∷
    Event (line.Settle 20000) ∷
    Event (line.Settle 20000) ∷
    Event (line.Settle 20000) ∷
    Event (line.Settle 20000) ∷
    Event (line.Call 1 7 (call.List (codes "/"))) ∷
    Event (line.Settle 20000) ∷
    Event (line.Call 1 7 (call.Stat (codes "/a"))) ∷
    Event (line.Settle 20000) ∷
    Event (line.Call 2 7 (call.List (codes "/"))) ∷
    Event (line.Settle 20000) ∷
    Event (line.Call 2 7 (call.Stat (codes "/a"))) ∷
    Event (line.Settle 20000) ∷
    []

abbrev written : List ℕ
written =
    codes "4 join 2 e1.2.1 1:1,2:1\n" ++
    codes "4 join 1 e1.2.1 1:1,2:1\n" ++
    codes "4 start e1.2.1 0 1=0.0\n" ++
    codes "5 call 2 1 c2.1.1 create /a\n" ++
    codes "6 grant e1.2.1 c2.1.1 1 i2.1 w 0.1 0.0 1\n" ++
    codes "6 act e1.2.1 i2.1 1 probe a ok\n" ++
    codes "6 budget\n" ++
    codes "7 void\n" ++
    codes "8 grant e1.2.1 c2.1.1 3 i2.2 n 0.2 - 1\n" ++
    codes "8 commit 0.2 1 1.1 - -\n" ++
    codes "8 release e1.2.1 i2.2 0.2 1.1\n" ++
    codes "8 budget\n" ++
    codes "9 act e1.2.1 i2.1 2 insert a 2 f ok\n" ++
    codes "9 commit 0.1 1 1.1 0.0 016100020100000001\n" ++
    codes "9 release e1.2.1 i2.1 0.1 1.1\n" ++
    codes "9 reply 2 1 c2.1.1 ok 2\n" ++
    codes "10 call 2 1 c2.1.2 close 0\n" ++
    codes "10 reply 2 1 c2.1.2 baddescriptor\n" ++
    codes "12 call 1 2 c1.1.1 write 2 0 9f380a7707e5aa3b\n" ++
    codes "12 reply 1 2 c1.1.1 baddescriptor\n" ++
    codes "14 call 1 1 c1.1.2 stat /a\n" ++
    codes "15 look e1.2.1 c1.1.2 1 0.1 name a 1.1\n" ++
    codes "15 look e1.2.1 c1.1.2 2 0.2 stat 1.1\n" ++
    codes "15 reply 1 1 c1.1.2 ok f 0.2 0 1.1\n" ++
    codes "18 call 1 1 c1.1.3 create /a 1\n" ++
    codes "19 grant e1.2.1 c1.1.3 1 i1.1 w 0.1 1.1 1\n" ++
    codes "19 act e1.2.1 i1.1 1 probe a exists 2\n" ++
    codes "19 release e1.2.1 i1.1 0.1 -\n" ++
    codes "19 reply 1 1 c1.1.3 exists 2\n" ++
    codes "20 call 2 1 c2.1.3 read 2 0 16\n" ++
    codes "20 reply 2 1 c2.1.3 baddescriptor\n" ++
    codes "22 call 1 8 c1.1.4 close 0\n" ++
    codes "22 reply 1 8 c1.1.4 baddescriptor\n" ++
    codes "25 call 1 2 c1.1.5 read 0 1000 4096\n" ++
    codes "25 reply 1 2 c1.1.5 baddescriptor\n" ++
    codes "27 call 1 1 c1.1.6 write 1 65535 e254\n" ++
    codes "27 reply 1 1 c1.1.6 toolong\n" ++
    codes "28 call 1 2 c1.1.7 close 0\n" ++
    codes "28 reply 1 2 c1.1.7 baddescriptor\n" ++
    codes "31 call 1 1 c1.1.8 open /a r\n" ++
    codes "32 look e1.2.1 c1.1.8 1 0.1 name a 1.1\n" ++
    codes "32 grant e1.2.1 c1.1.8 2 i1.2 r 0.2 1.1 1\n" ++
    codes "32 reply 1 1 c1.1.8 ok 0\n" ++
    codes "36 call 1 7 c1.1.9 list /\n" ++
    codes "37 look e1.2.1 c1.1.9 1 0.1 list 1.1\n" ++
    codes "37 reply 1 7 c1.1.9 ok a\n" ++
    codes "38 call 1 7 c1.1.10 stat /a\n" ++
    codes "39 look e1.2.1 c1.1.10 1 0.1 name a 1.1\n" ++
    codes "39 look e1.2.1 c1.1.10 2 0.2 stat 1.1\n" ++
    codes "39 reply 1 7 c1.1.10 ok f 0.2 0 1.1\n" ++
    codes "40 call 2 7 c2.1.4 list /\n" ++
    codes "41 look e1.2.1 c2.1.4 1 0.1 list 1.1\n" ++
    codes "41 reply 2 7 c2.1.4 ok a\n" ++
    codes "42 call 2 7 c2.1.5 stat /a\n" ++
    codes "43 look e1.2.1 c2.1.5 1 0.1 name a 1.1\n" ++
    codes "43 look e1.2.1 c2.1.5 2 0.2 stat 1.1\n" ++
    codes "43 reply 2 7 c2.1.5 ok f 0.2 0 1.1\n" ++
    []

pub runs : printed (run lines) ≡ written
unfolding digits encode_with
runs = refl
