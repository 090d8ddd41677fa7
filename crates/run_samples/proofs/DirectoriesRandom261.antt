-- The run of a recorded schedule of 59 lines, to the whole text of its trace, 77 records.
use Rattle.std.specs.Prelude.{◌≡◌, refl, ℕ, List, [], ◌∷◌, ◌++◌, None, codes}
use Rattle.trace_book.specs.declared.call.Call.TheVariants as call
use Rattle.trace_book.specs.declared.call.OpenMode.TheVariants as how
use Rattle.schedule_lines.specs.declared.header.HeaderLine.TheVariants as header
use Rattle.schedule_lines.specs.declared.line.Line.TheVariants as line
use Rattle.schedule_lines.specs.declared.line.ScheduleLine.{ScheduleLine}
use Rattle.schedule_lines.specs.declared.line.ScheduleLine.TheVariants.{Header, Event}
use Rattle.std.specs.Fmt.{digits}
use Rattle.hex.specs.Hex.{encode_with}
use Rattle.the_run.specs.Runs.{run, printed}

abbrev lines : List ScheduleLine
lines =
    Header (header.Sites 3) ∷
    Header (header.Group 0 (record { 0 = 7 })) ∷
    Event (line.Merge 3) ∷
    Event (line.Settle 20000) ∷
    Event (line.Call 2 1 (call.MakeDir (codes "/d/e"))) ∷
    Event (line.Settle 1) ∷
    Event (line.Call 1 1 (call.Create (codes "/d/a") None)) ∷
    Event (line.Settle 20000) ∷
    Event (line.Lose 252) ∷
    Event (line.Lose 89) ∷
    Event (line.Settle 20000) ∷
    Event (line.Call 3 1 (call.List (codes "/d/usr"))) ∷
    Event (line.Settle 20000) ∷
    Event (line.Settle 10) ∷
    Event (line.Settle 1) ∷
    Event (line.Call 2 1 (call.Close 0)) ∷
    Event (line.Settle 20000) ∷
    Event (line.Call 1 1 (call.Open (codes "/a") (how.Resolve 1))) ∷
    Event (line.Settle 20000) ∷
    Event (line.Call 2 8 (call.Close 9)) ∷
    Event (line.Settle 40) ∷
    Event (line.Call 1 1 (call.Create (codes "/a/usr") None)) ∷
    Event (line.Settle 40) ∷
    Event (line.Call 2 1 (call.Rename (codes "/a/usr/a") (codes "d"))) ∷
    Event (line.Call 2 8 (call.Close 2)) ∷
    Event (line.Settle 20000) ∷
    Event (line.Call 3 1 (call.Stat (codes "/"))) ∷
    Event (line.Settle 20000) ∷
    Event (line.Call 1 1 (call.Rename (codes "/a") (codes "d"))) ∷
    Event (line.Settle 10) ∷
    Event (line.Call 3 2 (call.Write 0 0 (21 ∷ 103 ∷ 120 ∷ 75 ∷ 141 ∷ 194 ∷ 95 ∷ 88 ∷ []))) ∷
    Event (line.Settle 3) ∷
    Event (line.Tick 3) ∷
    Event (line.Lose 71) ∷
    Event (line.Deliver 113) ∷
    Event (line.Call 1 8 (call.Close 9)) ∷
    Event (line.Settle 20000) ∷
    Event (line.Boot 1) ∷
    Event (line.Boot 2) ∷
    Event (line.Boot 3) ∷
    Event (line.Up 1 2) ∷
    Event (line.Up 1 3) ∷
    Event (line.Up 2 3) ∷
    Event (line.Merge 1) ∷
    Event (line.Settle 20000) ∷
    Event (line.Settle 20000) ∷
    Event (line.Settle 20000) ∷
    Event (line.Call 1 7 (call.List (codes "/"))) ∷
    Event (line.Settle 20000) ∷
    Event (line.Call 1 7 (call.Stat (codes "/a"))) ∷
    Event (line.Settle 20000) ∷
    Event (line.Call 2 7 (call.List (codes "/"))) ∷
    Event (line.Settle 20000) ∷
    Event (line.Call 2 7 (call.Stat (codes "/a"))) ∷
    Event (line.Settle 20000) ∷
    Event (line.Call 3 7 (call.List (codes "/"))) ∷
    Event (line.Settle 20000) ∷
    Event (line.Call 3 7 (call.Stat (codes "/a"))) ∷
    Event (line.Settle 20000) ∷
    []

abbrev written : List ℕ
written =
    codes "4 join 3 e1.3.1 1:1,2:1,3:1\n" ++
    codes "4 join 1 e1.3.1 1:1,2:1,3:1\n" ++
    codes "4 join 2 e1.3.1 1:1,2:1,3:1\n" ++
    codes "4 start e1.3.1 0 1=0.0\n" ++
    codes "5 call 2 1 c2.1.1 mkdir /d/e\n" ++
    codes "6 look e1.3.1 c2.1.1 1 0.1 name d 0.0\n" ++
    codes "6 budget\n" ++
    codes "7 call 1 1 c1.1.1 create /d/a\n" ++
    codes "8 look e1.3.1 c1.1.1 1 0.1 name d 0.0\n" ++
    codes "8 reply 2 1 c2.1.1 absent d\n" ++
    codes "8 reply 1 1 c1.1.1 absent d\n" ++
    codes "9 void\n" ++
    codes "10 void\n" ++
    codes "12 call 3 1 c3.1.1 list /d/usr\n" ++
    codes "13 look e1.3.1 c3.1.1 1 0.1 name d 0.0\n" ++
    codes "13 reply 3 1 c3.1.1 absent d\n" ++
    codes "16 call 2 1 c2.1.2 close 0\n" ++
    codes "16 reply 2 1 c2.1.2 baddescriptor\n" ++
    codes "18 call 1 1 c1.1.2 open /a x 1\n" ++
    codes "19 look e1.3.1 c1.1.2 1 0.1 name a 0.0\n" ++
    codes "19 reply 1 1 c1.1.2 absent a\n" ++
    codes "20 call 2 8 c2.1.3 close 9\n" ++
    codes "20 reply 2 8 c2.1.3 baddescriptor\n" ++
    codes "22 call 1 1 c1.1.3 create /a/usr\n" ++
    codes "23 look e1.3.1 c1.1.3 1 0.1 name a 0.0\n" ++
    codes "23 reply 1 1 c1.1.3 absent a\n" ++
    codes "24 call 2 1 c2.1.4 rename /a/usr/a d\n" ++
    codes "25 call 2 8 c2.1.5 close 2\n" ++
    codes "25 reply 2 8 c2.1.5 baddescriptor\n" ++
    codes "26 look e1.3.1 c2.1.4 1 0.1 name a 0.0\n" ++
    codes "26 reply 2 1 c2.1.4 absent a\n" ++
    codes "27 call 3 1 c3.1.2 stat /\n" ++
    codes "28 look e1.3.1 c3.1.2 1 0.1 stat 0.0\n" ++
    codes "28 reply 3 1 c3.1.2 ok d 0.1 0 0.0\n" ++
    codes "29 call 1 1 c1.1.4 rename /a d\n" ++
    codes "30 grant e1.3.1 c1.1.4 1 i1.1 w 0.1 0.0 1\n" ++
    codes "30 act e1.3.1 i1.1 1 rename a d absent a\n" ++
    codes "30 budget\n" ++
    codes "31 call 3 2 c3.1.3 write 0 0 1567784b8dc25f58\n" ++
    codes "31 reply 3 2 c3.1.3 baddescriptor\n" ++
    codes "32 release e1.3.1 i1.1 0.1 -\n" ++
    codes "32 budget\n" ++
    codes "35 void\n" ++
    codes "36 call 1 8 c1.1.5 close 9\n" ++
    codes "36 reply 1 8 c1.1.5 baddescriptor\n" ++
    codes "37 reply 1 1 c1.1.4 absent a\n" ++
    codes "38 void\n" ++
    codes "39 void\n" ++
    codes "40 void\n" ++
    codes "41 void\n" ++
    codes "42 void\n" ++
    codes "43 void\n" ++
    codes "44 leave 1 e1.3.1\n" ++
    codes "45 leave 2 e1.3.1\n" ++
    codes "45 leave 3 e1.3.1\n" ++
    codes "45 join 1 e2.1.1 1:1,2:1,3:1\n" ++
    codes "45 join 2 e2.1.1 1:1,2:1,3:1\n" ++
    codes "45 join 3 e2.1.1 1:1,2:1,3:1\n" ++
    codes "45 start e2.1.1 0 1=0.0\n" ++
    codes "48 call 1 7 c1.1.6 list /\n" ++
    codes "49 look e2.1.1 c1.1.6 1 0.1 list 0.0\n" ++
    codes "49 reply 1 7 c1.1.6 ok\n" ++
    codes "50 call 1 7 c1.1.7 stat /a\n" ++
    codes "51 look e2.1.1 c1.1.7 1 0.1 name a 0.0\n" ++
    codes "51 reply 1 7 c1.1.7 absent a\n" ++
    codes "52 call 2 7 c2.1.6 list /\n" ++
    codes "53 look e2.1.1 c2.1.6 1 0.1 list 0.0\n" ++
    codes "53 reply 2 7 c2.1.6 ok\n" ++
    codes "54 call 2 7 c2.1.7 stat /a\n" ++
    codes "55 look e2.1.1 c2.1.7 1 0.1 name a 0.0\n" ++
    codes "55 reply 2 7 c2.1.7 absent a\n" ++
    codes "56 call 3 7 c3.1.4 list /\n" ++
    codes "57 look e2.1.1 c3.1.4 1 0.1 list 0.0\n" ++
    codes "57 reply 3 7 c3.1.4 ok\n" ++
    codes "58 call 3 7 c3.1.5 stat /a\n" ++
    codes "59 look e2.1.1 c3.1.5 1 0.1 name a 0.0\n" ++
    codes "59 reply 3 7 c3.1.5 absent a\n" ++
    []

pub runs : printed (run lines) ≡ written
unfolding digits encode_with
runs = refl
