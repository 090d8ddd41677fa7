-- The run of a recorded schedule of 195 lines, to the whole text of its trace, 164 records.
use Rattle.std.specs.Prelude.{◌≡◌, refl, ℕ, List, [], ◌∷◌, ◌++◌, Some, None, codes}
use Rattle.trace_book.specs.declared.call.Call.TheVariants as call
use Rattle.trace_book.specs.declared.call.OpenMode.TheVariants as how
use Rattle.schedule_lines.specs.declared.header.HeaderLine.TheVariants as header
use Rattle.schedule_lines.specs.declared.line.Leave.TheVariants as leave
use Rattle.schedule_lines.specs.declared.line.Line.TheVariants as line
use Rattle.schedule_lines.specs.declared.line.ScheduleLine.{ScheduleLine}
use Rattle.schedule_lines.specs.declared.line.ScheduleLine.TheVariants.{Header, Event}
use Rattle.std.specs.Fmt.{digits}
use Rattle.hex.specs.Hex.{encode_with}
use Rattle.the_run.specs.Runs.{run, printed}

abbrev lines : List ScheduleLine
lines =
    Header (header.Sites 1) ∷
    Header (header.Group 0 (record { 0 = 1 })) ∷
    Header (header.Group 1 (record { 0 = 1 })) ∷
    Header (header.Mount 1 (codes "usr")) ∷
    Header (header.Group 3 (record { 0 = 1 })) ∷
    Header (header.Mount 3 (codes "m3")) ∷
    Event (line.Merge 1) ∷
    Event (line.Settle 262144) ∷
    Event (line.Call 1 7 (call.MakeDir (codes "/d/s"))) ∷
    Event (line.Settle 262144) ∷
    Event (line.Call 1 7 (call.Create (codes "/a") None)) ∷
    Event (line.Settle 262144) ∷
    Event (line.Call 1 7 (call.Create (codes "/b") None)) ∷
    Event (line.Settle 262144) ∷
    Event (line.Call 1 7 (call.Create (codes "/d/b") None)) ∷
    Event (line.Settle 262144) ∷
    Event (line.Call 1 7 (call.Create (codes "/h/b") None)) ∷
    Event (line.Settle 262144) ∷
    Event (line.Lose 5) ∷
    Event (line.Deliver 51) ∷
    Event (line.Deliver 41) ∷
    Event (line.Deliver 23) ∷
    Event (line.Tick 1) ∷
    Event (line.Call 1 2 (call.MakeDir (codes "/usr/h"))) ∷
    Event (line.Lose 77) ∷
    Event (line.Deliver 9) ∷
    Event (line.Deliver 68) ∷
    Event (line.Deliver 76) ∷
    Event (line.Settle 262144) ∷
    Event (line.Tick 1) ∷
    Event (line.Deliver 5) ∷
    Event (line.Deliver 1) ∷
    Event (line.Deliver 99) ∷
    Event (line.Deliver 56) ∷
    Event (line.Deliver 100) ∷
    Event (line.Deliver 81) ∷
    Event (line.Deliver 35) ∷
    Event (line.ArmStop 1 1 (leave.Byte 90)) ∷
    Event (line.Call 1 1 (call.Unlink (codes "/a"))) ∷
    Event (line.Call 1 2 (call.Stat (codes "/"))) ∷
    Event (line.Deliver 101) ∷
    Event (line.Deliver 102) ∷
    Event (line.Deliver 103) ∷
    Event (line.Deliver 104) ∷
    Event (line.ArmStop 1 7 leave.Old) ∷
    Event (line.Deliver 105) ∷
    Event (line.Deliver 106) ∷
    Event (line.Deliver 107) ∷
    Event (line.Deliver 108) ∷
    Event (line.Settle 10) ∷
    Event (line.Deliver 119) ∷
    Event (line.Deliver 120) ∷
    Event (line.Deliver 121) ∷
    Event (line.Tick 1) ∷
    Event (line.Settle 17) ∷
    Event (line.Call 1 2 (call.Open (codes "/b") how.Read)) ∷
    Event (line.Deliver 132) ∷
    Event (line.Deliver 133) ∷
    Event (line.Deliver 134) ∷
    Event (line.Deliver 135) ∷
    Event (line.Call 1 1 (call.Open (codes "/b") how.Write)) ∷
    Event (line.Call 1 3 (call.Open (codes "/b") how.Write)) ∷
    Event (line.Deliver 138) ∷
    Event (line.Deliver 136) ∷
    Event (line.Deliver 137) ∷
    Event (line.Deliver 141) ∷
    Event (line.Deliver 140) ∷
    Event (line.Deliver 139) ∷
    Event (line.Call 1 4 (call.MakeDir (codes "/h"))) ∷
    Event (line.Merge 1) ∷
    Event (line.Settle 262144) ∷
    Event (line.Tick 1) ∷
    Event (line.Deliver 124) ∷
    Event (line.Deliver 122) ∷
    Event (line.Call 1 1 (call.Unlink (codes "/a"))) ∷
    Event (line.Deliver 158) ∷
    Event (line.Deliver 159) ∷
    Event (line.Deliver 160) ∷
    Event (line.Deliver 161) ∷
    Event (line.Call 1 2 (call.Open (codes "/a") how.Read)) ∷
    Event (line.ArmStop 1 3 leave.New) ∷
    Event (line.ArmStop 1 5 leave.New) ∷
    Event (line.Deliver 162) ∷
    Event (line.Deliver 163) ∷
    Event (line.Deliver 164) ∷
    Event (line.Deliver 166) ∷
    Event (line.Settle 19) ∷
    Event (line.ArmStop 1 8 (leave.Byte 90)) ∷
    Event (line.Deliver 153) ∷
    Event (line.Tick 1) ∷
    Event (line.ArmStop 1 4 (leave.Byte 90)) ∷
    Event (line.Call 1 2 (call.Create (codes "/d/b") None)) ∷
    Event (line.Deliver 179) ∷
    Event (line.Call 1 1 (call.Open (codes "/a") (how.Resolve 1))) ∷
    Event (line.Call 1 1 (call.Unlink (codes "/b"))) ∷
    Event (line.Call 1 2 (call.Unlink (codes "/b"))) ∷
    Event (line.Call 1 3 (call.Create (codes "/b") (Some (record { 0 = 1 })))) ∷
    Event (line.ArmStop 1 8 leave.Old) ∷
    Event (line.Deliver 182) ∷
    Event (line.Deliver 181) ∷
    Event (line.Deliver 184) ∷
    Event (line.Deliver 13) ∷
    Event (line.Call 1 4 (call.List (codes "/d/s"))) ∷
    Event (line.Deliver 138) ∷
    Event (line.Deliver 183) ∷
    Event (line.Deliver 180) ∷
    Event (line.Deliver 185) ∷
    Event (line.Deliver 186) ∷
    Event (line.Deliver 187) ∷
    Event (line.ArmStop 1 8 (leave.Byte 0)) ∷
    Event (line.Deliver 181) ∷
    Event (line.Deliver 188) ∷
    Event (line.Deliver 191) ∷
    Event (line.Deliver 190) ∷
    Event (line.Stop 1) ∷
    Event (line.Settle 12) ∷
    Event (line.ArmStop 1 5 (leave.Byte 90)) ∷
    Event (line.Tick 1) ∷
    Event (line.Deliver 189) ∷
    Event (line.Deliver 189) ∷
    Event (line.ArmFail 1 4) ∷
    Event (line.Deliver 189) ∷
    Event (line.Deliver 187) ∷
    Event (line.Deliver 189) ∷
    Event (line.Deliver 192) ∷
    Event (line.Deliver 189) ∷
    Event (line.Call 1 2 (call.Stat (codes "/b"))) ∷
    Event (line.Stop 1) ∷
    Event (line.Deliver 193) ∷
    Event (line.Deliver 189) ∷
    Event (line.Deliver 189) ∷
    Event (line.Deliver 193) ∷
    Event (line.Deliver 189) ∷
    Event (line.Deliver 192) ∷
    Event (line.Deliver 10) ∷
    Event (line.Deliver 192) ∷
    Event (line.Deliver 192) ∷
    Event (line.Deliver 17) ∷
    Event (line.Deliver 189) ∷
    Event (line.Deliver 189) ∷
    Event (line.Call 1 2 (call.Open (codes "/a") how.Read)) ∷
    Event (line.Deliver 193) ∷
    Event (line.Deliver 189) ∷
    Event (line.Settle 18) ∷
    Event (line.Call 1 2 (call.Stat (codes "/a"))) ∷
    Event (line.ArmFail 1 9) ∷
    Event (line.Deliver 189) ∷
    Event (line.Deliver 193) ∷
    Event (line.Deliver 189) ∷
    Event (line.Call 1 2 (call.Open (codes "/a") (how.Resolve 1))) ∷
    Event (line.Deliver 189) ∷
    Event (line.Deliver 192) ∷
    Event (line.Deliver 193) ∷
    Event (line.ArmFail 1 7) ∷
    Event (line.Stop 1) ∷
    Event (line.Settle 20) ∷
    Event (line.Call 1 2 (call.MakeDir (codes "/usr/h"))) ∷
    Event (line.Call 1 2 (call.Open (codes "/b") (how.Resolve 1))) ∷
    Event (line.Call 1 1 (call.Unlink (codes "/a"))) ∷
    Event (line.Call 1 2 (call.Unlink (codes "/b"))) ∷
    Event (line.Deliver 162) ∷
    Event (line.Deliver 189) ∷
    Event (line.Deliver 192) ∷
    Event (line.Deliver 189) ∷
    Event (line.Deliver 189) ∷
    Event (line.Deliver 189) ∷
    Event (line.Deliver 193) ∷
    Event (line.Deliver 193) ∷
    Event (line.Deliver 192) ∷
    Event (line.Deliver 193) ∷
    Event (line.Deliver 189) ∷
    Event (line.Deliver 192) ∷
    Event (line.Deliver 193) ∷
    Event (line.Deliver 144) ∷
    Event (line.Deliver 193) ∷
    Event (line.Deliver 189) ∷
    Event (line.Deliver 133) ∷
    Event (line.Deliver 189) ∷
    Event (line.Deliver 189) ∷
    Event (line.Deliver 189) ∷
    Event (line.Deliver 189) ∷
    Event (line.Call 1 1 (call.Create (codes "/b") None)) ∷
    Event (line.Deliver 189) ∷
    Event (line.Deliver 189) ∷
    Event (line.Deliver 189) ∷
    Event (line.Deliver 189) ∷
    Event (line.Boot 1) ∷
    Event (line.Merge 1) ∷
    Event (line.Settle 262144) ∷
    Event (line.Settle 262144) ∷
    Event (line.Settle 262144) ∷
    Event (line.Settle 262144) ∷
    Event (line.Settle 262144) ∷
    Event (line.Settle 262144) ∷
    Event (line.Settle 262144) ∷
    []

abbrev written : List ℕ
written =
    codes "7 join 1 e1.1.1 1:1\n" ++
    codes "8 start e1.1.1 0 1=0.0\n" ++
    codes "8 start e1.1.1 1 1=0.0\n" ++
    codes "8 start e1.1.1 3 1=0.0\n" ++
    codes "9 call 1 7 c1.1.1 mkdir /d/s\n" ++
    codes "10 look e1.1.1 c1.1.1 1 0.1 name d 0.0\n" ++
    codes "10 reply 1 7 c1.1.1 absent d\n" ++
    codes "11 call 1 7 c1.1.2 create /a\n" ++
    codes "12 grant e1.1.1 c1.1.2 1 i1.1 w 0.1 0.0 1\n" ++
    codes "12 act e1.1.1 i1.1 1 probe a ok\n" ++
    codes "12 grant e1.1.1 c1.1.2 3 i1.2 n 0.2 - 1\n" ++
    codes "12 commit 0.2 1 1.1 - -\n" ++
    codes "12 release e1.1.1 i1.2 0.2 1.1\n" ++
    codes "12 act e1.1.1 i1.1 2 insert a 2 f ok\n" ++
    codes "12 commit 0.1 1 1.1 0.0 016100020100000001\n" ++
    codes "12 release e1.1.1 i1.1 0.1 1.1\n" ++
    codes "12 reply 1 7 c1.1.2 ok 2\n" ++
    codes "13 call 1 7 c1.1.3 create /b\n" ++
    codes "14 grant e1.1.1 c1.1.3 1 i1.3 w 0.1 1.1 1\n" ++
    codes "14 act e1.1.1 i1.3 1 probe b ok\n" ++
    codes "14 grant e1.1.1 c1.1.3 3 i1.4 n 0.3 - 1\n" ++
    codes "14 commit 0.3 1 1.1 - -\n" ++
    codes "14 release e1.1.1 i1.4 0.3 1.1\n" ++
    codes "14 act e1.1.1 i1.3 2 insert b 3 f ok\n" ++
    codes "14 commit 0.1 1 1.2 1.1 016100020100000001016200030100000001\n" ++
    codes "14 release e1.1.1 i1.3 0.1 1.2\n" ++
    codes "14 reply 1 7 c1.1.3 ok 3\n" ++
    codes "15 call 1 7 c1.1.4 create /d/b\n" ++
    codes "16 look e1.1.1 c1.1.4 1 0.1 name d 1.2\n" ++
    codes "16 reply 1 7 c1.1.4 absent d\n" ++
    codes "17 call 1 7 c1.1.5 create /h/b\n" ++
    codes "18 look e1.1.1 c1.1.5 1 0.1 name h 1.2\n" ++
    codes "18 reply 1 7 c1.1.5 absent h\n" ++
    codes "24 call 1 2 c1.1.6 mkdir /usr/h\n" ++
    codes "29 grant e1.1.1 c1.1.6 1 i1.5 w 1.1 0.0 1\n" ++
    codes "29 act e1.1.1 i1.5 1 probe h ok\n" ++
    codes "29 grant e1.1.1 c1.1.6 3 i1.6 n 1.2 - 1\n" ++
    codes "29 commit 1.2 1 1.1 - -\n" ++
    codes "29 release e1.1.1 i1.6 1.2 1.1\n" ++
    codes "29 act e1.1.1 i1.5 2 insert h 2 d ok\n" ++
    codes "29 commit 1.1 1 1.1 0.0 016800020200000001\n" ++
    codes "29 release e1.1.1 i1.5 1.1 1.1\n" ++
    codes "29 reply 1 2 c1.1.6 ok 2\n" ++
    codes "31 void\n" ++
    codes "39 call 1 1 c1.1.7 unlink /a\n" ++
    codes "40 call 1 2 c1.1.8 stat /\n" ++
    codes "41 grant e1.1.1 c1.1.7 1 i1.7 w 0.1 1.2 1\n" ++
    codes "42 look e1.1.1 c1.1.8 1 0.1 stat 1.2\n" ++
    codes "44 reply 1 2 c1.1.8 ok d 0.1 18 1.2\n" ++
    codes "48 act e1.1.1 i1.7 1 find a ok 2 f\n" ++
    codes "50 grant e1.1.1 c1.1.7 3 i1.8 w 0.2 1.1 1\n" ++
    codes "50 act e1.1.1 i1.7 2 remove a 2 ok\n" ++
    codes "50 commit 0.1 1 1.3 1.2 01610002010000000200000001000000000000000000000000000000000000000000000000000000000000000000000000000000000000000000000000000000000000000000000000016200030100000001\n" ++
    codes "50 budget\n" ++
    codes "51 release e1.1.1 i1.7 0.1 1.3\n" ++
    codes "55 release e1.1.1 i1.8 0.2 -\n" ++
    codes "55 reply 1 1 c1.1.7 ok\n" ++
    codes "56 call 1 2 c1.1.9 open /b r\n" ++
    codes "57 look e1.1.1 c1.1.9 1 0.1 name b 1.3\n" ++
    codes "60 grant e1.1.1 c1.1.9 2 i1.9 r 0.3 1.1 1\n" ++
    codes "61 call 1 1 c1.1.10 open /b w\n" ++
    codes "62 call 1 3 c1.1.11 open /b w\n" ++
    codes "63 look e1.1.1 c1.1.11 1 0.1 name b 1.3\n" ++
    codes "65 look e1.1.1 c1.1.10 1 0.1 name b 1.3\n" ++
    codes "69 call 1 4 c1.1.12 mkdir /h\n" ++
    codes "70 leave 1 e1.1.1\n" ++
    codes "70 reply 1 1 c1.1.10 changed e1.1.1\n" ++
    codes "70 reply 1 2 c1.1.9 changed e1.1.1\n" ++
    codes "70 reply 1 3 c1.1.11 changed e1.1.1\n" ++
    codes "70 reply 1 4 c1.1.12 changed e1.1.1\n" ++
    codes "70 join 1 e2.1.1 1:1\n" ++
    codes "71 start e2.1.1 0 1=1.3 2=1.1 3=1.1\n" ++
    codes "71 start e2.1.1 1 1=1.1 2=1.1\n" ++
    codes "71 start e2.1.1 3 1=0.0\n" ++
    codes "75 call 1 1 c1.1.13 unlink /a\n" ++
    codes "76 grant e2.1.1 c1.1.13 1 i1.11 w 0.1 1.3 1\n" ++
    codes "80 call 1 2 c1.1.14 open /a r\n" ++
    codes "83 act e2.1.1 i1.11 1 find a absent a\n" ++
    codes "84 look e2.1.1 c1.1.14 1 0.1 name a 1.3\n" ++
    codes "87 release e2.1.1 i1.11 0.1 -\n" ++
    codes "87 reply 1 2 c1.1.14 absent a\n" ++
    codes "87 reply 1 1 c1.1.13 absent a\n" ++
    codes "92 call 1 2 c1.1.15 create /d/b\n" ++
    codes "93 look e2.1.1 c1.1.15 1 0.1 name d 1.3\n" ++
    codes "94 call 1 1 c1.1.16 open /a x 1\n" ++
    codes "95 void\n" ++
    codes "96 void\n" ++
    codes "97 call 1 3 c1.1.17 create /b 1\n" ++
    codes "99 grant e2.1.1 c1.1.17 1 i1.12 w 0.1 1.3 1\n" ++
    codes "100 look e2.1.1 c1.1.16 1 0.1 name a 1.3\n" ++
    codes "103 call 1 4 c1.1.18 list /d/s\n" ++
    codes "107 reply 1 1 c1.1.16 absent a\n" ++
    codes "108 look e2.1.1 c1.1.18 1 0.1 name d 1.3\n" ++
    codes "112 reply 1 2 c1.1.15 absent d\n" ++
    codes "115 stopped 1 asked\n" ++
    codes "118 void\n" ++
    codes "119 void\n" ++
    codes "120 void\n" ++
    codes "122 void\n" ++
    codes "123 void\n" ++
    codes "124 void\n" ++
    codes "125 void\n" ++
    codes "126 void\n" ++
    codes "127 void\n" ++
    codes "128 void\n" ++
    codes "129 void\n" ++
    codes "130 void\n" ++
    codes "131 void\n" ++
    codes "132 void\n" ++
    codes "133 void\n" ++
    codes "134 void\n" ++
    codes "135 void\n" ++
    codes "136 void\n" ++
    codes "137 void\n" ++
    codes "138 void\n" ++
    codes "139 void\n" ++
    codes "140 void\n" ++
    codes "141 void\n" ++
    codes "142 void\n" ++
    codes "143 void\n" ++
    codes "145 void\n" ++
    codes "147 void\n" ++
    codes "148 void\n" ++
    codes "149 void\n" ++
    codes "150 void\n" ++
    codes "151 void\n" ++
    codes "152 void\n" ++
    codes "153 void\n" ++
    codes "155 void\n" ++
    codes "157 void\n" ++
    codes "158 void\n" ++
    codes "159 void\n" ++
    codes "160 void\n" ++
    codes "161 void\n" ++
    codes "162 void\n" ++
    codes "163 void\n" ++
    codes "164 void\n" ++
    codes "165 void\n" ++
    codes "166 void\n" ++
    codes "167 void\n" ++
    codes "168 void\n" ++
    codes "169 void\n" ++
    codes "170 void\n" ++
    codes "171 void\n" ++
    codes "172 void\n" ++
    codes "173 void\n" ++
    codes "174 void\n" ++
    codes "175 void\n" ++
    codes "176 void\n" ++
    codes "177 void\n" ++
    codes "178 void\n" ++
    codes "179 void\n" ++
    codes "180 void\n" ++
    codes "181 void\n" ++
    codes "182 void\n" ++
    codes "183 void\n" ++
    codes "184 void\n" ++
    codes "185 void\n" ++
    codes "186 void\n" ++
    codes "187 up 1 2\n" ++
    codes "188 join 1 e1.1.2 1:2\n" ++
    codes "189 start e1.1.2 0 1=1.3 2=1.1 3=1.1\n" ++
    codes "189 start e1.1.2 1 1=1.1 2=1.1\n" ++
    codes "189 start e1.1.2 3 1=0.0\n" ++
    []

pub runs : printed (run lines) ≡ written
unfolding digits encode_with
runs = refl
