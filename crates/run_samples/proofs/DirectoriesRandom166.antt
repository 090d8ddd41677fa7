-- The run of a recorded schedule of 61 lines, to the whole text of its trace, 79 records.
use Rattle.std.specs.Prelude.{◌≡◌, refl, ℕ, List, [], ◌∷◌, ◌++◌, Some, None, codes}
use Rattle.trace_book.specs.declared.call.Call.TheVariants as call
use Rattle.trace_book.specs.declared.call.OpenMode.TheVariants as how
use Rattle.schedule_lines.specs.declared.header.HeaderLine.TheVariants as header
use Rattle.schedule_lines.specs.declared.line.Line.TheVariants as line
use Rattle.schedule_lines.specs.declared.line.ScheduleLine.{ScheduleLine}
use Rattle.schedule_lines.specs.declared.line.ScheduleLine.TheVariants.{Header, Event}
use Rattle.std.specs.Fmt.{digits}
use Rattle.hex.specs.Hex.{encode_with}
use Rattle.the_run.specs.Runs.{run, printed}

abbrev lines : List ScheduleLine
lines =
    Header (header.Sites 2) ∷
    Header (header.Group 0 (record { 0 = 1 })) ∷
    Event (line.Merge 1) ∷
    Event (line.Settle 20000) ∷
    Event (line.Call 1 1 (call.Create (codes "/a") None)) ∷
    Event (line.Settle 3) ∷
    Event (line.Call 1 1 (call.MakeDir (codes "/d"))) ∷
    Event (line.Settle 20000) ∷
    Event (line.Call 2 1 (call.Create (codes "/d/a") None)) ∷
    Event (line.Settle 20000) ∷
    Event (line.Call 2 1 (call.Open (codes "/a") how.Write)) ∷
    Event (line.Settle 20000) ∷
    Event (line.Call 1 1 (call.Read 1 1000 1)) ∷
    Event (line.Settle 20000) ∷
    Event (line.Call 2 8 (call.Write 2 1 (216 ∷ 0 ∷ []))) ∷
    Event (line.Settle 10) ∷
    Event (line.Call 1 1 (call.Open (codes "/a") (how.Resolve 2))) ∷
    Event (line.Settle 40) ∷
    Event (line.Call 2 1 (call.Create (codes "/e@65") None)) ∷
    Event (line.Settle 20000) ∷
    Event (line.Part 2) ∷
    Event (line.Settle 1) ∷
    Event (line.Call 2 1 (call.List (codes "/d/usr/a"))) ∷
    Event (line.Settle 20000) ∷
    Event (line.Tick 2) ∷
    Event (line.Lose 137) ∷
    Event (line.Tick 1) ∷
    Event (line.Tick 2) ∷
    Event (line.Settle 20000) ∷
    Event (line.Down 1 2) ∷
    Event (line.Settle 40) ∷
    Event (line.Call 2 2 (call.Close 2)) ∷
    Event (line.Call 1 1 (call.Commit 0)) ∷
    Event (line.Settle 20000) ∷
    Event (line.Call 2 1 (call.Create (codes "/usr/a") (Some (record { 0 = 3 })))) ∷
    Event (line.Settle 20000) ∷
    Event (line.Call 1 1 (call.List (codes "/a"))) ∷
    Event (line.Settle 20000) ∷
    Event (line.Call 1 1 (call.Write 9 1024 (185 ∷ []))) ∷
    Event (line.Call 1 1 (call.List (codes "/d/e/a"))) ∷
    Event (line.Settle 3) ∷
    Event (line.Settle 20000) ∷
    Event (line.Tick 2) ∷
    Event (line.Tick 1) ∷
    Event (line.Call 2 8 (call.Open (codes "/a/d") (how.Resolve 2))) ∷
    Event (line.Settle 10) ∷
    Event (line.Boot 1) ∷
    Event (line.Boot 2) ∷
    Event (line.Up 1 2) ∷
    Event (line.Merge 1) ∷
    Event (line.Settle 20000) ∷
    Event (line.Settle 20000) ∷
    Event (line.Settle 20000) ∷
    Event (line.Call 1 7 (call.List (codes "/"))) ∷
    Event (line.Settle 20000) ∷
    Event (line.Call 1 7 (call.Stat (codes "/a"))) ∷
    Event (line.Settle 20000) ∷
    Event (line.Call 2 7 (call.List (codes "/"))) ∷
    Event (line.Settle 20000) ∷
    Event (line.Call 2 7 (call.Stat (codes "/a"))) ∷
    Event (line.Settle 20000) ∷
    []

abbrev written : List ℕ
written =
    codes "4 join 1 e1.1.1 1:1,2:1\n" ++
    codes "4 join 2 e1.1.1 1:1,2:1\n" ++
    codes "4 start e1.1.1 0 1=0.0\n" ++
    codes "5 call 1 1 c1.1.1 create /a\n" ++
    codes "6 grant e1.1.1 c1.1.1 1 i1.1 w 0.1 0.0 1\n" ++
    codes "6 budget\n" ++
    codes "7 void\n" ++
    codes "8 act e1.1.1 i1.1 1 probe a ok\n" ++
    codes "8 grant e1.1.1 c1.1.1 3 i1.2 n 0.2 - 1\n" ++
    codes "8 commit 0.2 1 1.1 - -\n" ++
    codes "8 release e1.1.1 i1.2 0.2 1.1\n" ++
    codes "8 act e1.1.1 i1.1 2 insert a 2 f ok\n" ++
    codes "8 commit 0.1 1 1.1 0.0 016100020100000001\n" ++
    codes "8 release e1.1.1 i1.1 0.1 1.1\n" ++
    codes "8 reply 1 1 c1.1.1 ok 2\n" ++
    codes "9 call 2 1 c2.1.1 create /d/a\n" ++
    codes "10 look e1.1.1 c2.1.1 1 0.1 name d 1.1\n" ++
    codes "10 reply 2 1 c2.1.1 absent d\n" ++
    codes "11 call 2 1 c2.1.2 open /a w\n" ++
    codes "12 look e1.1.1 c2.1.2 1 0.1 name a 1.1\n" ++
    codes "12 grant e1.1.1 c2.1.2 2 i2.1 w 0.2 1.1 1\n" ++
    codes "12 reply 2 1 c2.1.2 ok 0\n" ++
    codes "13 call 1 1 c1.1.2 read 1 1000 1\n" ++
    codes "13 reply 1 1 c1.1.2 baddescriptor\n" ++
    codes "15 call 2 8 c2.1.3 write 2 1 d800\n" ++
    codes "15 reply 2 8 c2.1.3 baddescriptor\n" ++
    codes "17 call 1 1 c1.1.3 open /a x 2\n" ++
    codes "18 look e1.1.1 c1.1.3 1 0.1 name a 1.1\n" ++
    codes "18 refuse e1.1.1 c1.1.3 2 i1.3 x 0.2 busy 2 1\n" ++
    codes "18 reply 1 1 c1.1.3 busy 2 1\n" ++
    codes "19 call 2 1 c2.1.4 create /e@65\n" ++
    codes "19 reply 2 1 c2.1.4 badname\n" ++
    codes "21 leave 2 e1.1.1\n" ++
    codes "22 leave 1 e1.1.1\n" ++
    codes "22 budget\n" ++
    codes "23 call 2 1 c2.1.5 list /d/usr/a\n" ++
    codes "23 reply 2 1 c2.1.5 nopartition\n" ++
    codes "24 join 2 e2.2.1 1:1,2:1\n" ++
    codes "24 join 1 e2.2.1 1:1,2:1\n" ++
    codes "24 start e2.2.1 0 1=1.1 2=1.1\n" ++
    codes "26 void\n" ++
    codes "32 call 2 2 c2.1.6 close 2\n" ++
    codes "32 reply 2 2 c2.1.6 baddescriptor\n" ++
    codes "33 call 1 1 c1.1.4 commit 0\n" ++
    codes "33 reply 1 1 c1.1.4 baddescriptor\n" ++
    codes "35 call 2 1 c2.1.7 create /usr/a 1,2\n" ++
    codes "37 call 1 1 c1.1.5 list /a\n" ++
    codes "38 look e2.2.1 c1.1.5 1 0.1 name a 1.1\n" ++
    codes "38 reply 1 1 c1.1.5 notdir a\n" ++
    codes "39 call 1 1 c1.1.6 write 9 1024 b9\n" ++
    codes "39 reply 1 1 c1.1.6 baddescriptor\n" ++
    codes "40 call 1 1 c1.1.7 list /d/e/a\n" ++
    codes "41 look e2.2.1 c1.1.7 1 0.1 name d 1.1\n" ++
    codes "41 budget\n" ++
    codes "42 reply 1 1 c1.1.7 absent d\n" ++
    codes "45 call 2 8 c2.1.8 open /a/d x 2\n" ++
    codes "47 void\n" ++
    codes "48 void\n" ++
    codes "50 leave 1 e2.2.1\n" ++
    codes "51 leave 2 e2.2.1\n" ++
    codes "51 reply 2 1 c2.1.7 changed e2.2.1\n" ++
    codes "51 reply 2 8 c2.1.8 changed e2.2.1\n" ++
    codes "51 join 1 e3.1.1 1:1,2:1\n" ++
    codes "51 join 2 e3.1.1 1:1,2:1\n" ++
    codes "51 start e3.1.1 0 1=1.1 2=1.1\n" ++
    codes "54 call 1 7 c1.1.8 list /\n" ++
    codes "55 look e3.1.1 c1.1.8 1 0.1 list 1.1\n" ++
    codes "55 reply 1 7 c1.1.8 ok a\n" ++
    codes "56 call 1 7 c1.1.9 stat /a\n" ++
    codes "57 look e3.1.1 c1.1.9 1 0.1 name a 1.1\n" ++
    codes "57 look e3.1.1 c1.1.9 2 0.2 stat 1.1\n" ++
    codes "57 reply 1 7 c1.1.9 ok f 0.2 0 1.1\n" ++
    codes "58 call 2 7 c2.1.9 list /\n" ++
    codes "59 look e3.1.1 c2.1.9 1 0.1 list 1.1\n" ++
    codes "59 reply 2 7 c2.1.9 ok a\n" ++
    codes "60 call 2 7 c2.1.10 stat /a\n" ++
    codes "61 look e3.1.1 c2.1.10 1 0.1 name a 1.1\n" ++
    codes "61 look e3.1.1 c2.1.10 2 0.2 stat 1.1\n" ++
    codes "61 reply 2 7 c2.1.10 ok f 0.2 0 1.1\n" ++
    []

pub runs : printed (run lines) ≡ written
unfolding digits encode_with
runs = refl
