-- The run of a recorded schedule of 55 lines, to the whole text of its trace, 98 records.
use Rattle.std.specs.Prelude.{◌≡◌, refl, ℕ, List, [], ◌∷◌, ◌++◌, None, codes}
use Rattle.trace_book.specs.declared.call.Call.TheVariants as call
use Rattle.trace_book.specs.declared.call.OpenMode.TheVariants as how
use Rattle.schedule_lines.specs.declared.header.HeaderLine.TheVariants as header
use Rattle.schedule_lines.specs.declared.line.Line.TheVariants as line
use Rattle.schedule_lines.specs.declared.line.ScheduleLine.{ScheduleLine}
use Rattle.schedule_lines.specs.declared.line.ScheduleLine.TheVariants.{Header, Event}
use Rattle.std.specs.Fmt.{digits}
use Rattle.hex.specs.Hex.{encode_with}
use Rattle.the_run.specs.Runs.{run, printed}

abbrev lines : List ScheduleLine
lines =
    Header (header.Sites 2) ∷
    Header (header.Group 0 (record { 0 = 3 })) ∷
    Event (line.Merge 2) ∷
    Event (line.Settle 20000) ∷
    Event (line.Call 1 1 (call.MakeDir (codes "/d"))) ∷
    Event (line.Settle 20000) ∷
    Event (line.Call 2 1 (call.MakeDir (codes "/d/e"))) ∷
    Event (line.Settle 20000) ∷
    Event (line.Call 1 1 (call.Create (codes "/d/a") None)) ∷
    Event (line.Settle 1) ∷
    Event (line.Settle 20000) ∷
    Event (line.Lose 99) ∷
    Event line.Pending ∷
    Event (line.Lose 84) ∷
    Event (line.Tick 2) ∷
    Event (line.Call 1 8 (call.Write 0 65535 (19 ∷ []))) ∷
    Event (line.Settle 20000) ∷
    Event (line.Lose 241) ∷
    Event (line.Lose 173) ∷
    Event (line.Tick 1) ∷
    Event (line.Tick 2) ∷
    Event (line.Call 1 2 (call.Write 0 5000 (179 ∷ []))) ∷
    Event (line.Settle 1) ∷
    Event (line.Tick 2) ∷
    Event (line.Call 2 1 (call.Open (codes "/d/e/usr") how.Write)) ∷
    Event (line.Call 1 1 (call.Write 2 1020 (60 ∷ []))) ∷
    Event (line.Settle 20000) ∷
    Event (line.Down 2 1) ∷
    Event (line.Part 2) ∷
    Event (line.Settle 20000) ∷
    Event (line.Part 1) ∷
    Event (line.Call 1 8 (call.List (codes "/"))) ∷
    Event (line.Settle 20000) ∷
    Event (line.Call 2 2 (call.Close 9)) ∷
    Event (line.Call 2 2 (call.Create (codes "/e") None)) ∷
    Event (line.Settle 40) ∷
    Event (line.Stop 1) ∷
    Event (line.Settle 20000) ∷
    Event (line.Call 1 1 (call.Close 9)) ∷
    Event (line.Settle 10) ∷
    Event (line.Boot 1) ∷
    Event (line.Boot 2) ∷
    Event (line.Up 1 2) ∷
    Event (line.Merge 1) ∷
    Event (line.Settle 20000) ∷
    Event (line.Settle 20000) ∷
    Event (line.Settle 20000) ∷
    Event (line.Call 1 7 (call.List (codes "/"))) ∷
    Event (line.Settle 20000) ∷
    Event (line.Call 1 7 (call.Stat (codes "/a"))) ∷
    Event (line.Settle 20000) ∷
    Event (line.Call 2 7 (call.List (codes "/"))) ∷
    Event (line.Settle 20000) ∷
    Event (line.Call 2 7 (call.Stat (codes "/a"))) ∷
    Event (line.Settle 20000) ∷
    []

abbrev written : List ℕ
written =
    codes "4 join 2 e1.2.1 1:1,2:1\n" ++
    codes "4 join 1 e1.2.1 1:1,2:1\n" ++
    codes "4 start e1.2.1 0 1=0.0\n" ++
    codes "5 call 1 1 c1.1.1 mkdir /d\n" ++
    codes "6 grant e1.2.1 c1.1.1 1 i1.1 w 0.1 0.0 1\n" ++
    codes "6 act e1.2.1 i1.1 1 probe d ok\n" ++
    codes "6 grant e1.2.1 c1.1.1 3 i1.2 n 0.2 - 1\n" ++
    codes "6 commit 0.2 1 1.1 - -\n" ++
    codes "6 release e1.2.1 i1.2 0.2 1.1\n" ++
    codes "6 adopt 0.2 2 1.1\n" ++
    codes "6 act e1.2.1 i1.1 2 insert d 2 d ok\n" ++
    codes "6 commit 0.1 1 1.1 0.0 016400020200000001\n" ++
    codes "6 release e1.2.1 i1.1 0.1 1.1\n" ++
    codes "6 reply 1 1 c1.1.1 ok 2\n" ++
    codes "6 adopt 0.1 2 1.1\n" ++
    codes "7 call 2 1 c2.1.1 mkdir /d/e\n" ++
    codes "8 look e1.2.1 c2.1.1 1 0.1 name d 1.1\n" ++
    codes "8 grant e1.2.1 c2.1.1 2 i2.1 w 0.2 1.1 2\n" ++
    codes "8 act e1.2.1 i2.1 1 probe e ok\n" ++
    codes "8 grant e1.2.1 c2.1.1 4 i2.2 n 0.65 - 2\n" ++
    codes "8 commit 0.65 2 2.1 - -\n" ++
    codes "8 release e1.2.1 i2.2 0.65 2.1\n" ++
    codes "8 adopt 0.65 1 2.1\n" ++
    codes "8 act e1.2.1 i2.1 2 insert e 65 d ok\n" ++
    codes "8 commit 0.2 2 2.1 1.1 016500410200000001\n" ++
    codes "8 release e1.2.1 i2.1 0.2 2.1\n" ++
    codes "8 reply 2 1 c2.1.1 ok 65\n" ++
    codes "8 adopt 0.2 1 2.1\n" ++
    codes "9 call 1 1 c1.1.2 create /d/a\n" ++
    codes "10 look e1.2.1 c1.1.2 1 0.1 name d 1.1\n" ++
    codes "10 budget\n" ++
    codes "11 grant e1.2.1 c1.1.2 2 i1.3 w 0.2 2.1 1\n" ++
    codes "11 act e1.2.1 i1.3 1 probe a ok\n" ++
    codes "11 grant e1.2.1 c1.1.2 4 i1.4 n 0.3 - 1\n" ++
    codes "11 commit 0.3 1 1.1 - -\n" ++
    codes "11 release e1.2.1 i1.4 0.3 1.1\n" ++
    codes "11 adopt 0.3 2 1.1\n" ++
    codes "11 act e1.2.1 i1.3 2 insert a 3 f ok\n" ++
    codes "11 commit 0.2 1 1.2 2.1 016100030100000001016500410200000001\n" ++
    codes "11 release e1.2.1 i1.3 0.2 1.2\n" ++
    codes "11 reply 1 1 c1.1.2 ok 3\n" ++
    codes "11 adopt 0.2 2 1.2\n" ++
    codes "16 call 1 8 c1.1.3 write 0 65535 13\n" ++
    codes "16 reply 1 8 c1.1.3 baddescriptor\n" ++
    codes "18 void\n" ++
    codes "19 void\n" ++
    codes "22 call 1 2 c1.1.4 write 0 5000 b3\n" ++
    codes "22 reply 1 2 c1.1.4 baddescriptor\n" ++
    codes "25 call 2 1 c2.1.2 open /d/e/usr w\n" ++
    codes "26 call 1 1 c1.1.5 write 2 1020 3c\n" ++
    codes "26 reply 1 1 c1.1.5 baddescriptor\n" ++
    codes "27 look e1.2.1 c2.1.2 1 0.1 name d 1.1\n" ++
    codes "27 look e1.2.1 c2.1.2 2 0.2 name e 1.2\n" ++
    codes "27 look e1.2.1 c2.1.2 3 0.65 name usr 2.1\n" ++
    codes "27 reply 2 1 c2.1.2 absent usr\n" ++
    codes "29 leave 2 e1.2.1\n" ++
    codes "29 join 2 e2.2.1 2:1\n" ++
    codes "30 start e2.2.1 0 1=1.1 2=1.2 3=1.1 65=2.1\n" ++
    codes "31 leave 1 e1.2.1\n" ++
    codes "31 join 1 e2.1.1 1:1\n" ++
    codes "32 call 1 8 c1.1.6 list /\n" ++
    codes "33 start e2.1.1 0 1=1.1 2=1.2 3=1.1 65=2.1\n" ++
    codes "33 look e2.1.1 c1.1.6 1 0.1 list 1.1\n" ++
    codes "33 reply 1 8 c1.1.6 ok d\n" ++
    codes "34 call 2 2 c2.1.3 close 9\n" ++
    codes "34 reply 2 2 c2.1.3 baddescriptor\n" ++
    codes "35 call 2 2 c2.1.4 create /e\n" ++
    codes "36 grant e2.2.1 c2.1.4 1 i2.3 w 0.1 1.1 2\n" ++
    codes "36 act e2.2.1 i2.3 1 probe e ok\n" ++
    codes "36 grant e2.2.1 c2.1.4 3 i2.4 n 0.66 - 2\n" ++
    codes "36 commit 0.66 2 2.1 - -\n" ++
    codes "36 release e2.2.1 i2.4 0.66 2.1\n" ++
    codes "36 act e2.2.1 i2.3 2 insert e 66 f ok\n" ++
    codes "36 commit 0.1 2 2.1 1.1 016400020200000001016500420100000001\n" ++
    codes "36 release e2.2.1 i2.3 0.1 2.1\n" ++
    codes "36 reply 2 2 c2.1.4 ok 66\n" ++
    codes "37 stopped 1 asked\n" ++
    codes "39 void\n" ++
    codes "41 up 1 2\n" ++
    codes "42 void\n" ++
    codes "45 leave 2 e2.2.1\n" ++
    codes "45 join 1 e3.1.2 1:2,2:1\n" ++
    codes "45 join 2 e3.1.2 1:2,2:1\n" ++
    codes "45 start e3.1.2 0 1=1.1 1=2.1 2=1.2 3=1.1 65=2.1 66=2.1\n" ++
    codes "45 adopt 0.66 1 2.1\n" ++
    codes "45 adopt 0.1 1 2.1\n" ++
    codes "48 call 1 7 c1.2.1 list /\n" ++
    codes "49 look e3.1.2 c1.2.1 1 0.1 list 2.1\n" ++
    codes "49 reply 1 7 c1.2.1 ok d e\n" ++
    codes "50 call 1 7 c1.2.2 stat /a\n" ++
    codes "51 look e3.1.2 c1.2.2 1 0.1 name a 2.1\n" ++
    codes "51 reply 1 7 c1.2.2 absent a\n" ++
    codes "52 call 2 7 c2.1.5 list /\n" ++
    codes "53 look e3.1.2 c2.1.5 1 0.1 list 2.1\n" ++
    codes "53 reply 2 7 c2.1.5 ok d e\n" ++
    codes "54 call 2 7 c2.1.6 stat /a\n" ++
    codes "55 look e3.1.2 c2.1.6 1 0.1 name a 2.1\n" ++
    codes "55 reply 2 7 c2.1.6 absent a\n" ++
    []

pub runs : printed (run lines) ≡ written
unfolding digits encode_with
runs = refl
