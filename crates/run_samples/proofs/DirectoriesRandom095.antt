-- The run of a recorded schedule of 60 lines, to the whole text of its trace, 91 records.
use Rattle.std.specs.Prelude.{◌≡◌, refl, ℕ, List, [], ◌∷◌, ◌++◌, None, codes}
use Rattle.trace_book.specs.declared.call.Call.TheVariants as call
use Rattle.trace_book.specs.declared.call.OpenMode.TheVariants as how
use Rattle.schedule_lines.specs.declared.header.HeaderLine.TheVariants as header
use Rattle.schedule_lines.specs.declared.line.Line.TheVariants as line
use Rattle.schedule_lines.specs.declared.line.ScheduleLine.{ScheduleLine}
use Rattle.schedule_lines.specs.declared.line.ScheduleLine.TheVariants.{Header, Event}
use Rattle.std.specs.Fmt.{digits}
use Rattle.hex.specs.Hex.{encode_with}
use Rattle.the_run.specs.Runs.{run, printed}

abbrev lines : List ScheduleLine
lines =
    Header (header.Sites 2) ∷
    Header (header.Group 0 (record { 0 = 1 })) ∷
    Header (header.Group 1 (record { 0 = 2 })) ∷
    Header (header.Mount 1 (codes "usr")) ∷
    Event (line.Merge 2) ∷
    Event (line.Settle 20000) ∷
    Event (line.Call 1 1 (call.Create (codes "/a") None)) ∷
    Event (line.Settle 40) ∷
    Event (line.Call 1 1 (call.MakeDir (codes "/d"))) ∷
    Event (line.Settle 3) ∷
    Event (line.Call 1 1 (call.MakeDir (codes "/d/e"))) ∷
    Event (line.Settle 10) ∷
    Event (line.Call 1 1 (call.Create (codes "/d/a") None)) ∷
    Event (line.Settle 10) ∷
    Event (line.ArmFail 2 1) ∷
    Event (line.Call 1 2 (call.Open (codes "/d/d/e") (how.Resolve 1))) ∷
    Event (line.Call 2 8 (call.Open (codes "/usr") how.Read)) ∷
    Event (line.Settle 20000) ∷
    Event (line.Call 1 2 (call.RemoveDir (codes "/a/usr/d@2"))) ∷
    Event (line.Settle 1) ∷
    Event (line.Down 2 1) ∷
    Event (line.Part 2) ∷
    Event (line.Settle 20000) ∷
    Event (line.Part 1) ∷
    Event (line.Call 2 8 (call.Cut 2 1024)) ∷
    Event (line.Settle 20000) ∷
    Event (line.Call 2 1 (call.Close 0)) ∷
    Event (line.Call 2 1 (call.Read 9 0 16)) ∷
    Event (line.Settle 40) ∷
    Event (line.Call 2 1 (call.Close 1)) ∷
    Event (line.Settle 20000) ∷
    Event (line.Call 2 1 (call.Read 0 0 4096)) ∷
    Event (line.Settle 20000) ∷
    Event (line.Call 1 1 (call.Read 1 0 4096)) ∷
    Event (line.Settle 3) ∷
    Event (line.Call 1 1 (call.Open (codes "/usr/a") (how.Resolve 1))) ∷
    Event (line.Settle 40) ∷
    Event (line.Call 2 1 (call.Read 2 0 1)) ∷
    Event (line.Settle 3) ∷
    Event (line.Call 2 1 (call.Create (codes "/e/a") None)) ∷
    Event (line.Settle 1) ∷
    Event (line.Settle 1) ∷
    Event (line.Settle 20000) ∷
    Event (line.Call 1 1 (call.RemoveDir (codes "/e"))) ∷
    Event (line.Settle 20000) ∷
    Event (line.Boot 1) ∷
    Event (line.Boot 2) ∷
    Event (line.Up 1 2) ∷
    Event (line.Merge 1) ∷
    Event (line.Settle 20000) ∷
    Event (line.Settle 20000) ∷
    Event (line.Settle 20000) ∷
    Event (line.Call 1 7 (call.List (codes "/"))) ∷
    Event (line.Settle 20000) ∷
    Event (line.Call 1 7 (call.Stat (codes "/a"))) ∷
    Event (line.Settle 20000) ∷
    Event (line.Call 2 7 (call.List (codes "/"))) ∷
    Event (line.Settle 20000) ∷
    Event (line.Call 2 7 (call.Stat (codes "/a"))) ∷
    Event (line.Settle 20000) ∷
    []

abbrev written : List ℕ
written =
    codes "6 join 2 e1.2.1 1:1,2:1\n" ++
    codes "6 join 1 e1.2.1 1:1,2:1\n" ++
    codes "6 start e1.2.1 1 1=0.0\n" ++
    codes "6 start e1.2.1 0 1=0.0\n" ++
    codes "7 call 1 1 c1.1.1 create /a\n" ++
    codes "8 grant e1.2.1 c1.1.1 1 i1.1 w 0.1 0.0 1\n" ++
    codes "8 act e1.2.1 i1.1 1 probe a ok\n" ++
    codes "8 grant e1.2.1 c1.1.1 3 i1.2 n 0.2 - 1\n" ++
    codes "8 commit 0.2 1 1.1 - -\n" ++
    codes "8 release e1.2.1 i1.2 0.2 1.1\n" ++
    codes "8 act e1.2.1 i1.1 2 insert a 2 f ok\n" ++
    codes "8 commit 0.1 1 1.1 0.0 016100020100000001\n" ++
    codes "8 release e1.2.1 i1.1 0.1 1.1\n" ++
    codes "8 reply 1 1 c1.1.1 ok 2\n" ++
    codes "9 call 1 1 c1.1.2 mkdir /d\n" ++
    codes "10 grant e1.2.1 c1.1.2 1 i1.3 w 0.1 1.1 1\n" ++
    codes "10 budget\n" ++
    codes "11 void\n" ++
    codes "12 act e1.2.1 i1.3 1 probe d ok\n" ++
    codes "12 budget\n" ++
    codes "13 void\n" ++
    codes "14 grant e1.2.1 c1.1.2 3 i1.4 n 0.3 - 1\n" ++
    codes "14 commit 0.3 1 1.1 - -\n" ++
    codes "14 release e1.2.1 i1.4 0.3 1.1\n" ++
    codes "14 act e1.2.1 i1.3 2 insert d 3 d ok\n" ++
    codes "14 budget\n" ++
    codes "16 call 1 2 c1.1.3 open /d/d/e x 1\n" ++
    codes "17 call 2 8 c2.1.1 open /usr r\n" ++
    codes "17 reply 2 8 c2.1.1 isdir\n" ++
    codes "18 commit 0.1 1 1.2 1.1 016100020100000001016400030200000001\n" ++
    codes "18 look e1.2.1 c1.1.3 1 0.1 name d 1.1\n" ++
    codes "18 release e1.2.1 i1.3 0.1 1.2\n" ++
    codes "18 reply 1 1 c1.1.2 ok 3\n" ++
    codes "18 look e1.2.1 c1.1.3 1 0.1 name d 1.2\n" ++
    codes "18 look e1.2.1 c1.1.3 2 0.3 name d 1.1\n" ++
    codes "18 reply 1 2 c1.1.3 absent d\n" ++
    codes "19 call 1 2 c1.1.4 rmdir /a/usr/d@2\n" ++
    codes "20 look e1.2.1 c1.1.4 1 0.1 name a 1.2\n" ++
    codes "20 budget\n" ++
    codes "22 leave 2 e1.2.1\n" ++
    codes "22 join 2 e2.2.1 2:1\n" ++
    codes "23 start e2.2.1 1 1=0.0\n" ++
    codes "23 reply 1 2 c1.1.4 notdir a\n" ++
    codes "24 leave 1 e1.2.1\n" ++
    codes "24 join 1 e2.1.1 1:1\n" ++
    codes "25 call 2 8 c2.1.2 cut 2 1024\n" ++
    codes "25 reply 2 8 c2.1.2 baddescriptor\n" ++
    codes "26 start e2.1.1 0 1=1.2 2=1.1 3=1.1\n" ++
    codes "27 call 2 1 c2.1.3 close 0\n" ++
    codes "27 reply 2 1 c2.1.3 baddescriptor\n" ++
    codes "28 call 2 1 c2.1.4 read 9 0 16\n" ++
    codes "28 reply 2 1 c2.1.4 baddescriptor\n" ++
    codes "30 call 2 1 c2.1.5 close 1\n" ++
    codes "30 reply 2 1 c2.1.5 baddescriptor\n" ++
    codes "32 call 2 1 c2.1.6 read 0 0 4096\n" ++
    codes "32 reply 2 1 c2.1.6 baddescriptor\n" ++
    codes "34 call 1 1 c1.1.5 read 1 0 4096\n" ++
    codes "34 reply 1 1 c1.1.5 baddescriptor\n" ++
    codes "36 call 1 1 c1.1.6 open /usr/a x 1\n" ++
    codes "36 reply 1 1 c1.1.6 nostorage\n" ++
    codes "38 call 2 1 c2.1.7 read 2 0 1\n" ++
    codes "38 reply 2 1 c2.1.7 baddescriptor\n" ++
    codes "40 call 2 1 c2.1.8 create /e/a\n" ++
    codes "40 reply 2 1 c2.1.8 nostorage\n" ++
    codes "44 call 1 1 c1.1.7 rmdir /e\n" ++
    codes "45 grant e2.1.1 c1.1.7 1 i1.5 w 0.1 1.2 1\n" ++
    codes "45 act e2.1.1 i1.5 1 find e absent e\n" ++
    codes "45 release e2.1.1 i1.5 0.1 -\n" ++
    codes "45 reply 1 1 c1.1.7 absent e\n" ++
    codes "46 void\n" ++
    codes "47 void\n" ++
    codes "49 leave 1 e2.1.1\n" ++
    codes "50 leave 2 e2.2.1\n" ++
    codes "50 join 1 e3.1.1 1:1,2:1\n" ++
    codes "50 join 2 e3.1.1 1:1,2:1\n" ++
    codes "50 start e3.1.1 0 1=1.2 2=1.1 3=1.1\n" ++
    codes "50 start e3.1.1 1 1=0.0\n" ++
    codes "53 call 1 7 c1.1.8 list /\n" ++
    codes "54 look e3.1.1 c1.1.8 1 0.1 list 1.2\n" ++
    codes "54 reply 1 7 c1.1.8 ok a d usr\n" ++
    codes "55 call 1 7 c1.1.9 stat /a\n" ++
    codes "56 look e3.1.1 c1.1.9 1 0.1 name a 1.2\n" ++
    codes "56 look e3.1.1 c1.1.9 2 0.2 stat 1.1\n" ++
    codes "56 reply 1 7 c1.1.9 ok f 0.2 0 1.1\n" ++
    codes "57 call 2 7 c2.1.9 list /\n" ++
    codes "58 look e3.1.1 c2.1.9 1 0.1 list 1.2\n" ++
    codes "58 reply 2 7 c2.1.9 ok a d usr\n" ++
    codes "59 call 2 7 c2.1.10 stat /a\n" ++
    codes "60 look e3.1.1 c2.1.10 1 0.1 name a 1.2\n" ++
    codes "60 look e3.1.1 c2.1.10 2 0.2 stat 1.1\n" ++
    codes "60 reply 2 7 c2.1.10 ok f 0.2 0 1.1\n" ++
    []

pub runs : printed (run lines) ≡ written
unfolding digits encode_with
runs = refl
