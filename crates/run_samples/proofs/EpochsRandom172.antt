-- The run of a recorded schedule of 59 lines, to the whole text of its trace, 71 records.
use Rattle.std.specs.Prelude.{◌≡◌, refl, ℕ, List, [], ◌∷◌, ◌++◌, Some, None, codes}
use Rattle.trace_book.specs.declared.call.Call.TheVariants as call
use Rattle.trace_book.specs.declared.call.OpenMode.TheVariants as how
use Rattle.schedule_lines.specs.declared.header.HeaderLine.TheVariants as header
use Rattle.schedule_lines.specs.declared.line.Line.TheVariants as line
use Rattle.schedule_lines.specs.declared.line.ScheduleLine.{ScheduleLine}
use Rattle.schedule_lines.specs.declared.line.ScheduleLine.TheVariants.{Header, Event}
use Rattle.std.specs.Fmt.{digits}
use Rattle.hex.specs.Hex.{encode_with}
use Rattle.the_run.specs.Runs.{run, printed}

abbrev lines : List ScheduleLine
lines =
    Header (header.Sites 3) ∷
    Header (header.Group 0 (record { 0 = 4 })) ∷
    Event (line.Merge 2) ∷
    Event (line.Settle 20000) ∷
    Event (line.Call 1 1 (call.Open (codes "/a") how.Write)) ∷
    Event (line.Settle 3) ∷
    Event (line.Call 2 1 (call.Open (codes "/a") how.Write)) ∷
    Event (line.Lose 258) ∷
    Event (line.Call 1 1 (call.Write 0 0 (156 ∷ 251 ∷ 78 ∷ 189 ∷ 166 ∷ 208 ∷ 136 ∷ 11 ∷ 28 ∷ 138 ∷ 27 ∷ 13 ∷ 122 ∷ 102 ∷ 19 ∷ 243 ∷ 164 ∷ 151 ∷ 235 ∷ 231 ∷ 93 ∷ 5 ∷ 83 ∷ 57 ∷ 104 ∷ 65 ∷ 204 ∷ 91 ∷ 102 ∷ 141 ∷ 4 ∷ 33 ∷ 234 ∷ 107 ∷ 101 ∷ 183 ∷ 238 ∷ 166 ∷ []))) ∷
    Event (line.Settle 20000) ∷
    Event (line.Call 2 1 (call.Open (codes "/a") how.Read)) ∷
    Event (line.Call 3 1 (call.Write 0 65535 (17 ∷ 196 ∷ 122 ∷ 2 ∷ 89 ∷ 225 ∷ 120 ∷ 234 ∷ 247 ∷ 221 ∷ 154 ∷ 172 ∷ 93 ∷ 31 ∷ []))) ∷
    Event (line.Settle 1) ∷
    Event (line.Down 1 2) ∷
    Event (line.Settle 20000) ∷
    Event (line.Call 3 1 (call.Open (codes "/a") (how.Resolve 3))) ∷
    Event (line.Settle 20000) ∷
    Event (line.Call 3 1 (call.Create (codes "/a") (Some (record { 0 = 3 })))) ∷
    Event (line.Settle 20000) ∷
    Event (line.Settle 3) ∷
    Event (line.Call 3 8 (call.Read 9 1000 16)) ∷
    Event (line.Settle 1) ∷
    Event (line.Call 1 1 (call.Open (codes "/a") (how.Resolve 1))) ∷
    Event (line.Settle 20000) ∷
    Event (line.Stop 3) ∷
    Event (line.Settle 20000) ∷
    Event (line.Call 2 1 (call.Write 0 1024 (253 ∷ []))) ∷
    Event (line.Settle 20000) ∷
    Event (line.GiveUp 1) ∷
    Event (line.Settle 40) ∷
    Event (line.Call 2 1 (call.Open (codes "/a") how.Write)) ∷
    Event (line.Settle 1) ∷
    Event (line.Call 1 1 (call.Write 0 65535 (188 ∷ 128 ∷ 180 ∷ 191 ∷ 173 ∷ 150 ∷ 220 ∷ 48 ∷ []))) ∷
    Event (line.Settle 20000) ∷
    Event (line.Call 3 1 (call.Create (codes "/a") None)) ∷
    Event (line.Settle 20000) ∷
    Event (line.Call 3 2 (call.Close 1)) ∷
    Event (line.Boot 1) ∷
    Event (line.Boot 2) ∷
    Event (line.Boot 3) ∷
    Event (line.Up 1 2) ∷
    Event (line.Up 1 3) ∷
    Event (line.Up 2 3) ∷
    Event (line.Merge 1) ∷
    Event (line.Settle 20000) ∷
    Event (line.Settle 20000) ∷
    Event (line.Settle 20000) ∷
    Event (line.Call 1 7 (call.List (codes "/"))) ∷
    Event (line.Settle 20000) ∷
    Event (line.Call 1 7 (call.Stat (codes "/a"))) ∷
    Event (line.Settle 20000) ∷
    Event (line.Call 2 7 (call.List (codes "/"))) ∷
    Event (line.Settle 20000) ∷
    Event (line.Call 2 7 (call.Stat (codes "/a"))) ∷
    Event (line.Settle 20000) ∷
    Event (line.Call 3 7 (call.List (codes "/"))) ∷
    Event (line.Settle 20000) ∷
    Event (line.Call 3 7 (call.Stat (codes "/a"))) ∷
    Event (line.Settle 20000) ∷
    []

abbrev written : List ℕ
written =
    codes "4 join 2 e1.2.1 1:1,2:1,3:1\n" ++
    codes "4 join 1 e1.2.1 1:1,2:1,3:1\n" ++
    codes "4 join 3 e1.2.1 1:1,2:1,3:1\n" ++
    codes "4 start e1.2.1 0 1=0.0\n" ++
    codes "5 call 1 1 c1.1.1 open /a w\n" ++
    codes "6 look e1.2.1 c1.1.1 1 0.1 name a 0.0\n" ++
    codes "6 budget\n" ++
    codes "7 call 2 1 c2.1.1 open /a w\n" ++
    codes "8 void\n" ++
    codes "9 void\n" ++
    codes "10 reply 1 1 c1.1.1 absent a\n" ++
    codes "10 look e1.2.1 c2.1.1 1 0.1 name a 0.0\n" ++
    codes "10 reply 2 1 c2.1.1 absent a\n" ++
    codes "11 call 2 1 c2.1.2 open /a r\n" ++
    codes "12 call 3 1 c3.1.1 write 0 65535 11c47a0259e178eaf7dd9aac5d1f\n" ++
    codes "12 reply 3 1 c3.1.1 toolong\n" ++
    codes "13 look e1.2.1 c2.1.2 1 0.1 name a 0.0\n" ++
    codes "13 budget\n" ++
    codes "15 reply 2 1 c2.1.2 absent a\n" ++
    codes "16 call 3 1 c3.1.2 open /a x 3\n" ++
    codes "17 look e1.2.1 c3.1.2 1 0.1 name a 0.0\n" ++
    codes "17 reply 3 1 c3.1.2 absent a\n" ++
    codes "18 call 3 1 c3.1.3 create /a 1,2\n" ++
    codes "19 grant e1.2.1 c3.1.3 1 i3.1 w 0.1 0.0 3\n" ++
    codes "19 act e1.2.1 i3.1 1 probe a ok\n" ++
    codes "19 refuse e1.2.1 c3.1.3 3 i3.2 n 0.0 nostorage\n" ++
    codes "19 release e1.2.1 i3.1 0.1 -\n" ++
    codes "19 reply 3 1 c3.1.3 nostorage\n" ++
    codes "21 call 3 8 c3.1.4 read 9 1000 16\n" ++
    codes "21 reply 3 8 c3.1.4 baddescriptor\n" ++
    codes "23 call 1 1 c1.1.2 open /a x 1\n" ++
    codes "24 look e1.2.1 c1.1.2 1 0.1 name a 0.0\n" ++
    codes "24 reply 1 1 c1.1.2 absent a\n" ++
    codes "25 stopped 3 asked\n" ++
    codes "27 call 2 1 c2.1.3 write 0 1024 fd\n" ++
    codes "27 reply 2 1 c2.1.3 baddescriptor\n" ++
    codes "29 leave 1 e1.2.1\n" ++
    codes "31 call 2 1 c2.1.4 open /a w\n" ++
    codes "33 call 1 1 c1.1.3 write 0 65535 bc80b4bfad96dc30\n" ++
    codes "33 reply 1 1 c1.1.3 toolong\n" ++
    codes "35 void\n" ++
    codes "37 void\n" ++
    codes "38 void\n" ++
    codes "39 void\n" ++
    codes "40 up 3 2\n" ++
    codes "42 void\n" ++
    codes "43 void\n" ++
    codes "45 leave 2 e1.2.1\n" ++
    codes "45 reply 2 1 c2.1.4 changed e1.2.1\n" ++
    codes "45 join 1 e2.1.1 1:1,2:1,3:2\n" ++
    codes "45 join 2 e2.1.1 1:1,2:1,3:2\n" ++
    codes "45 join 3 e2.1.1 1:1,2:1,3:2\n" ++
    codes "45 start e2.1.1 0 1=0.0\n" ++
    codes "48 call 1 7 c1.1.4 list /\n" ++
    codes "49 look e2.1.1 c1.1.4 1 0.1 list 0.0\n" ++
    codes "49 reply 1 7 c1.1.4 ok\n" ++
    codes "50 call 1 7 c1.1.5 stat /a\n" ++
    codes "51 look e2.1.1 c1.1.5 1 0.1 name a 0.0\n" ++
    codes "51 reply 1 7 c1.1.5 absent a\n" ++
    codes "52 call 2 7 c2.1.5 list /\n" ++
    codes "53 look e2.1.1 c2.1.5 1 0.1 list 0.0\n" ++
    codes "53 reply 2 7 c2.1.5 ok\n" ++
    codes "54 call 2 7 c2.1.6 stat /a\n" ++
    codes "55 look e2.1.1 c2.1.6 1 0.1 name a 0.0\n" ++
    codes "55 reply 2 7 c2.1.6 absent a\n" ++
    codes "56 call 3 7 c3.2.1 list /\n" ++
    codes "57 look e2.1.1 c3.2.1 1 0.1 list 0.0\n" ++
    codes "57 reply 3 7 c3.2.1 ok\n" ++
    codes "58 call 3 7 c3.2.2 stat /a\n" ++
    codes "59 look e2.1.1 c3.2.2 1 0.1 name a 0.0\n" ++
    codes "59 reply 3 7 c3.2.2 absent a\n" ++
    []

pub runs : printed (run lines) ≡ written
unfolding digits encode_with
runs = refl
