-- The run of a recorded schedule of 55 lines, to the whole text of its trace, 89 records.
use Rattle.std.specs.Prelude.{◌≡◌, refl, ℕ, List, [], ◌∷◌, ◌++◌, None, codes}
use Rattle.trace_book.specs.declared.call.Call.TheVariants as call
use Rattle.trace_book.specs.declared.call.OpenMode.TheVariants as how
use Rattle.schedule_lines.specs.declared.header.HeaderLine.TheVariants as header
use Rattle.schedule_lines.specs.declared.line.Line.TheVariants as line
use Rattle.schedule_lines.specs.declared.line.ScheduleLine.{ScheduleLine}
use Rattle.schedule_lines.specs.declared.line.ScheduleLine.TheVariants.{Header, Event}
use Rattle.std.specs.Fmt.{digits}
use Rattle.hex.specs.Hex.{encode_with}
use Rattle.the_run.specs.Runs.{run, printed}

abbrev lines : List ScheduleLine
lines =
    Header (header.Sites 3) ∷
    Header (header.Group 0 (record { 0 = 2 })) ∷
    Event (line.Merge 1) ∷
    Event (line.Settle 20000) ∷
    Event (line.Call 3 1 (call.Create (codes "/a") None)) ∷
    Event (line.Settle 1) ∷
    Event (line.Call 2 1 (call.MakeDir (codes "/d"))) ∷
    Event (line.Settle 20000) ∷
    Event (line.Call 1 1 (call.Create (codes "/d/a") None)) ∷
    Event (line.Settle 1) ∷
    Event (line.Call 2 1 (call.Write 9 1 (205 ∷ 130 ∷ 251 ∷ 1 ∷ 169 ∷ 227 ∷ 245 ∷ 234 ∷ []))) ∷
    Event (line.Settle 20000) ∷
    Event (line.Call 2 1 (call.List (codes "/d/usr@65"))) ∷
    Event (line.Settle 20000) ∷
    Event (line.Call 3 1 (call.MakeDir (codes "/e/e/d"))) ∷
    Event (line.Settle 10) ∷
    Event (line.GiveUp 2) ∷
    Event (line.Settle 20000) ∷
    Event (line.Call 1 1 (call.Read 1 1000 16)) ∷
    Event (line.Call 2 1 (call.Unlink (codes "/usr@2"))) ∷
    Event (line.Part 3) ∷
    Event (line.Settle 20000) ∷
    Event (line.Call 1 1 (call.Commit 1)) ∷
    Event (line.Call 2 2 (call.Close 0)) ∷
    Event (line.Settle 20000) ∷
    Event (line.Call 3 1 (call.Open (codes "/e") (how.Resolve 2))) ∷
    Event (line.Settle 20000) ∷
    Event (line.Call 1 8 (call.Write 0 1024 (33 ∷ 117 ∷ 139 ∷ []))) ∷
    Event (line.Call 1 8 (call.MakeDir (codes "/a/d"))) ∷
    Event (line.Settle 20000) ∷
    Event (line.Call 1 1 (call.Read 1 0 1)) ∷
    Event (line.Settle 20000) ∷
    Event (line.Settle 20000) ∷
    Event (line.Boot 1) ∷
    Event (line.Boot 2) ∷
    Event (line.Boot 3) ∷
    Event (line.Up 1 2) ∷
    Event (line.Up 1 3) ∷
    Event (line.Up 2 3) ∷
    Event (line.Merge 1) ∷
    Event (line.Settle 20000) ∷
    Event (line.Settle 20000) ∷
    Event (line.Settle 20000) ∷
    Event (line.Call 1 7 (call.List (codes "/"))) ∷
    Event (line.Settle 20000) ∷
    Event (line.Call 1 7 (call.Stat (codes "/a"))) ∷
    Event (line.Settle 20000) ∷
    Event (line.Call 2 7 (call.List (codes "/"))) ∷
    Event (line.Settle 20000) ∷
    Event (line.Call 2 7 (call.Stat (codes "/a"))) ∷
    Event (line.Settle 20000) ∷
    Event (line.Call 3 7 (call.List (codes "/"))) ∷
    Event (line.Settle 20000) ∷
    Event (line.Call 3 7 (call.Stat (codes "/a"))) ∷
    Event (line.Settle 20000) ∷
    []

abbrev written : List ℕ
written =
    codes "4 join 1 e1.1.1 1:1,2:1,3:1\n" ++
    codes "4 join 2 e1.1.1 1:1,2:1,3:1\n" ++
    codes "4 join 3 e1.1.1 1:1,2:1,3:1\n" ++
    codes "4 start e1.1.1 0 1=0.0\n" ++
    codes "5 call 3 1 c3.1.1 create /a\n" ++
    codes "6 grant e1.1.1 c3.1.1 1 i3.1 w 0.1 0.0 2\n" ++
    codes "6 budget\n" ++
    codes "7 call 2 1 c2.1.1 mkdir /d\n" ++
    codes "8 refuse e1.1.1 c2.1.1 1 i2.1 w 0.1 busy 3 1\n" ++
    codes "8 reply 2 1 c2.1.1 busy 3 1\n" ++
    codes "8 act e1.1.1 i3.1 1 probe a ok\n" ++
    codes "8 grant e1.1.1 c3.1.1 3 i3.2 n 0.65 - 2\n" ++
    codes "8 commit 0.65 2 2.1 - -\n" ++
    codes "8 release e1.1.1 i3.2 0.65 2.1\n" ++
    codes "8 act e1.1.1 i3.1 2 insert a 65 f ok\n" ++
    codes "8 commit 0.1 2 2.1 0.0 016100410100000001\n" ++
    codes "8 release e1.1.1 i3.1 0.1 2.1\n" ++
    codes "8 reply 3 1 c3.1.1 ok 65\n" ++
    codes "9 call 1 1 c1.1.1 create /d/a\n" ++
    codes "10 look e1.1.1 c1.1.1 1 0.1 name d 2.1\n" ++
    codes "10 budget\n" ++
    codes "11 call 2 1 c2.1.2 write 9 1 cd82fb01a9e3f5ea\n" ++
    codes "11 reply 2 1 c2.1.2 baddescriptor\n" ++
    codes "12 reply 1 1 c1.1.1 absent d\n" ++
    codes "13 call 2 1 c2.1.3 list /d/usr@65\n" ++
    codes "14 look e1.1.1 c2.1.3 1 0.1 name d 2.1\n" ++
    codes "14 reply 2 1 c2.1.3 absent d\n" ++
    codes "15 call 3 1 c3.1.2 mkdir /e/e/d\n" ++
    codes "16 look e1.1.1 c3.1.2 1 0.1 name e 2.1\n" ++
    codes "16 reply 3 1 c3.1.2 absent e\n" ++
    codes "17 leave 2 e1.1.1\n" ++
    codes "19 call 1 1 c1.1.2 read 1 1000 16\n" ++
    codes "19 reply 1 1 c1.1.2 baddescriptor\n" ++
    codes "20 call 2 1 c2.1.4 unlink /usr@2\n" ++
    codes "20 reply 2 1 c2.1.4 nopartition\n" ++
    codes "21 leave 3 e1.1.1\n" ++
    codes "22 leave 1 e1.1.1\n" ++
    codes "22 join 3 e2.3.1 1:1,2:1,3:1\n" ++
    codes "22 join 1 e2.3.1 1:1,2:1,3:1\n" ++
    codes "22 join 2 e2.3.1 1:1,2:1,3:1\n" ++
    codes "22 start e2.3.1 0 1=2.1 65=2.1\n" ++
    codes "23 call 1 1 c1.1.3 commit 1\n" ++
    codes "23 reply 1 1 c1.1.3 baddescriptor\n" ++
    codes "24 call 2 2 c2.1.5 close 0\n" ++
    codes "24 reply 2 2 c2.1.5 baddescriptor\n" ++
    codes "26 call 3 1 c3.1.3 open /e x 2\n" ++
    codes "27 look e2.3.1 c3.1.3 1 0.1 name e 2.1\n" ++
    codes "27 reply 3 1 c3.1.3 absent e\n" ++
    codes "28 call 1 8 c1.1.4 write 0 1024 21758b\n" ++
    codes "28 reply 1 8 c1.1.4 baddescriptor\n" ++
    codes "29 call 1 8 c1.1.5 mkdir /a/d\n" ++
    codes "30 look e2.3.1 c1.1.5 1 0.1 name a 2.1\n" ++
    codes "30 reply 1 8 c1.1.5 notdir a\n" ++
    codes "31 call 1 1 c1.1.6 read 1 0 1\n" ++
    codes "31 reply 1 1 c1.1.6 baddescriptor\n" ++
    codes "34 void\n" ++
    codes "35 void\n" ++
    codes "36 void\n" ++
    codes "37 void\n" ++
    codes "38 void\n" ++
    codes "39 void\n" ++
    codes "40 leave 1 e2.3.1\n" ++
    codes "41 leave 2 e2.3.1\n" ++
    codes "41 leave 3 e2.3.1\n" ++
    codes "41 join 1 e3.1.1 1:1,2:1,3:1\n" ++
    codes "41 join 2 e3.1.1 1:1,2:1,3:1\n" ++
    codes "41 join 3 e3.1.1 1:1,2:1,3:1\n" ++
    codes "41 start e3.1.1 0 1=2.1 65=2.1\n" ++
    codes "44 call 1 7 c1.1.7 list /\n" ++
    codes "45 look e3.1.1 c1.1.7 1 0.1 list 2.1\n" ++
    codes "45 reply 1 7 c1.1.7 ok a\n" ++
    codes "46 call 1 7 c1.1.8 stat /a\n" ++
    codes "47 look e3.1.1 c1.1.8 1 0.1 name a 2.1\n" ++
    codes "47 look e3.1.1 c1.1.8 2 0.65 stat 2.1\n" ++
    codes "47 reply 1 7 c1.1.8 ok f 0.65 0 2.1\n" ++
    codes "48 call 2 7 c2.1.6 list /\n" ++
    codes "49 look e3.1.1 c2.1.6 1 0.1 list 2.1\n" ++
    codes "49 reply 2 7 c2.1.6 ok a\n" ++
    codes "50 call 2 7 c2.1.7 stat /a\n" ++
    codes "51 look e3.1.1 c2.1.7 1 0.1 name a 2.1\n" ++
    codes "51 look e3.1.1 c2.1.7 2 0.65 stat 2.1\n" ++
    codes "51 reply 2 7 c2.1.7 ok f 0.65 0 2.1\n" ++
    codes "52 call 3 7 c3.1.4 list /\n" ++
    codes "53 look e3.1.1 c3.1.4 1 0.1 list 2.1\n" ++
    codes "53 reply 3 7 c3.1.4 ok a\n" ++
    codes "54 call 3 7 c3.1.5 stat /a\n" ++
    codes "55 look e3.1.1 c3.1.5 1 0.1 name a 2.1\n" ++
    codes "55 look e3.1.1 c3.1.5 2 0.65 stat 2.1\n" ++
    codes "55 reply 3 7 c3.1.5 ok f 0.65 0 2.1\n" ++
    []

pub runs : printed (run lines) ≡ written
unfolding digits encode_with
runs = refl
