-- The run of a recorded schedule of 165 lines, to the whole text of its trace, 193 records.
use Rattle.std.specs.Prelude.{◌≡◌, refl, ℕ, List, [], ◌∷◌, ◌++◌, Some, None, codes}
use Rattle.trace_book.specs.declared.call.Call.TheVariants as call
use Rattle.trace_book.specs.declared.call.OpenMode.TheVariants as how
use Rattle.schedule_lines.specs.declared.header.HeaderLine.TheVariants as header
use Rattle.schedule_lines.specs.declared.line.Leave.TheVariants as leave
use Rattle.schedule_lines.specs.declared.line.Line.TheVariants as line
use Rattle.schedule_lines.specs.declared.line.ScheduleLine.{ScheduleLine}
use Rattle.schedule_lines.specs.declared.line.ScheduleLine.TheVariants.{Header, Event}
use Rattle.std.specs.Fmt.{digits}
use Rattle.hex.specs.Hex.{encode_with}
use Rattle.the_run.specs.Runs.{run, printed}

abbrev lines : List ScheduleLine
lines =
    Header (header.Sites 3) ∷
    Header (header.Group 0 (record { 0 = 1 })) ∷
    Header (header.Group 1 (record { 0 = 7 })) ∷
    Header (header.Mount 1 (codes "usr")) ∷
    Event (line.Merge 1) ∷
    Event (line.Settle 262144) ∷
    Event (line.Call 1 7 (call.MakeDir (codes "/usr/d"))) ∷
    Event (line.Settle 262144) ∷
    Event (line.Call 1 7 (call.Create (codes "/a") None)) ∷
    Event (line.Settle 262144) ∷
    Event (line.Call 3 7 (call.Create (codes "/d/s/a") None)) ∷
    Event (line.Settle 262144) ∷
    Event (line.Call 1 2 (call.Open (codes "/a") (how.Resolve 2))) ∷
    Event (line.Settle 9) ∷
    Event (line.Call 1 1 (call.Create (codes "/a") None)) ∷
    Event (line.Settle 262144) ∷
    Event (line.ArmStop 1 6 (leave.Byte 0)) ∷
    Event (line.Call 2 2 (call.MakeDir (codes "/usr/d"))) ∷
    Event (line.Call 1 2 (call.MakeDir (codes "/d/s"))) ∷
    Event (line.Settle 262144) ∷
    Event (line.Call 2 2 (call.Open (codes "/a") how.Write)) ∷
    Event (line.Settle 262144) ∷
    Event (line.Call 3 1 (call.RemoveDir (codes "/usr/d"))) ∷
    Event (line.Settle 262144) ∷
    Event (line.Call 3 2 (call.Stat (codes "/h"))) ∷
    Event (line.Settle 262144) ∷
    Event (line.Call 2 1 (call.MakeDir (codes "/d/s"))) ∷
    Event (line.Settle 262144) ∷
    Event (line.Call 2 2 (call.Stat (codes "/"))) ∷
    Event (line.Call 2 3 (call.Rename (codes "/usr") (codes "a"))) ∷
    Event (line.Settle 262144) ∷
    Event (line.ArmFail 2 5) ∷
    Event (line.Call 2 3 (call.Unlink (codes "/a"))) ∷
    Event (line.Call 2 4 (call.MakeDir (codes "/d/s"))) ∷
    Event (line.Settle 262144) ∷
    Event (line.Call 2 5 (call.RemoveDir (codes "/usr"))) ∷
    Event (line.Merge 2) ∷
    Event (line.Call 2 1 (call.Open (codes "/a") how.Read)) ∷
    Event (line.Settle 11) ∷
    Event (line.Stop 2) ∷
    Event (line.Call 3 1 (call.Create (codes "/a") None)) ∷
    Event (line.Settle 262144) ∷
    Event (line.Call 3 2 (call.Open (codes "/a") how.Write)) ∷
    Event (line.Settle 262144) ∷
    Event (line.Call 3 1 (call.Stat (codes "/usr/d"))) ∷
    Event (line.Settle 262144) ∷
    Event (line.Call 3 2 (call.Open (codes "/a") how.Write)) ∷
    Event (line.Settle 262144) ∷
    Event (line.Stop 3) ∷
    Event (line.Call 1 2 (call.List (codes "/"))) ∷
    Event (line.Settle 262144) ∷
    Event (line.Call 1 2 (call.Open (codes "/a") (how.Resolve 1))) ∷
    Event (line.Call 2 1 (call.Open (codes "/a") (how.Resolve 1))) ∷
    Event (line.Settle 262144) ∷
    Event (line.Call 2 2 (call.Open (codes "/a") how.Read)) ∷
    Event (line.Settle 262144) ∷
    Event (line.Call 2 1 (call.List (codes "/usr/d"))) ∷
    Event (line.Settle 11) ∷
    Event (line.ArmStop 3 5 (leave.Byte 165)) ∷
    Event (line.Call 3 1 (call.Create (codes "/a") (Some (record { 0 = 2 })))) ∷
    Event (line.Settle 262144) ∷
    Event (line.Call 2 2 (call.Open (codes "/usr/d/a") how.Read)) ∷
    Event (line.Settle 262144) ∷
    Event (line.Call 3 1 (call.Open (codes "/a") how.Read)) ∷
    Event (line.Call 2 1 (call.Open (codes "/a") how.Read)) ∷
    Event (line.Settle 262144) ∷
    Event (line.Call 1 2 (call.Unlink (codes "/a"))) ∷
    Event (line.ArmStop 2 5 (leave.Byte 165)) ∷
    Event (line.Call 3 1 (call.Create (codes "/usr/d/a") None)) ∷
    Event (line.Settle 6) ∷
    Event (line.Call 3 1 (call.Rename (codes "/a") (codes "a"))) ∷
    Event (line.Call 1 2 (call.Open (codes "/a") how.Read)) ∷
    Event (line.Settle 30) ∷
    Event (line.Call 2 1 (call.Open (codes "/a") how.Write)) ∷
    Event (line.Settle 262144) ∷
    Event (line.Call 1 1 (call.Open (codes "/a") how.Read)) ∷
    Event (line.Settle 262144) ∷
    Event (line.Call 1 2 (call.List (codes "/usr/d"))) ∷
    Event (line.Settle 262144) ∷
    Event (line.Part 3) ∷
    Event (line.Part 2) ∷
    Event (line.Settle 262144) ∷
    Event (line.Call 3 5 (call.Unlink (codes "/a"))) ∷
    Event (line.Settle 262144) ∷
    Event (line.Call 2 3 (call.Create (codes "/a") None)) ∷
    Event (line.Settle 262144) ∷
    Event (line.Call 2 3 (call.Open (codes "/a") how.Write)) ∷
    Event (line.Settle 3) ∷
    Event (line.Call 2 3 (call.Write 2 0 (207 ∷ 208 ∷ 209 ∷ []))) ∷
    Event (line.Settle 262144) ∷
    Event (line.Call 2 3 (call.Close 2)) ∷
    Event (line.Settle 184) ∷
    Event (line.Call 1 5 (call.Rename (codes "/a") (codes "b"))) ∷
    Event (line.Settle 262144) ∷
    Event (line.Call 2 5 (call.Rename (codes "/a") (codes "e"))) ∷
    Event (line.Settle 262144) ∷
    Event (line.Boot 1) ∷
    Event (line.Boot 2) ∷
    Event (line.Boot 3) ∷
    Event (line.Merge 1) ∷
    Event (line.Settle 262144) ∷
    Event (line.Call 1 4 (call.Unlink (codes "/a"))) ∷
    Event (line.Settle 262144) ∷
    Event (line.Call 1 6 (call.Open (codes "/a") (how.Resolve 2))) ∷
    Event (line.Settle 262144) ∷
    Event (line.Call 1 6 (call.Close 1)) ∷
    Event (line.Settle 262144) ∷
    Event (line.Call 1 1 (call.Create (codes "/usr/d/a") (Some (record { 0 = 6 })))) ∷
    Event (line.Settle 262144) ∷
    Event (line.Call 1 2 (call.Create (codes "/usr/a") None)) ∷
    Event (line.Call 1 1 (call.Create (codes "/usr/d/a") None)) ∷
    Event (line.Settle 262144) ∷
    Event (line.Call 1 2 (call.Open (codes "/a") how.Write)) ∷
    Event (line.Settle 262144) ∷
    Event (line.Stop 1) ∷
    Event (line.Stop 2) ∷
    Event (line.Call 1 1 (call.Create (codes "/usr/d/a") (Some (record { 0 = 3 })))) ∷
    Event (line.Settle 262144) ∷
    Event (line.Call 3 2 (call.Open (codes "/a") how.Read)) ∷
    Event (line.Settle 262144) ∷
    Event (line.Call 1 2 (call.Create (codes "/a") None)) ∷
    Event (line.Settle 74) ∷
    Event (line.ArmFail 1 8) ∷
    Event (line.Stop 1) ∷
    Event (line.Call 3 2 (call.Open (codes "/a") how.Write)) ∷
    Event (line.Settle 262144) ∷
    Event (line.Call 2 1 (call.Unlink (codes "/usr/a"))) ∷
    Event (line.Call 2 2 (call.Create (codes "/a") None)) ∷
    Event (line.Settle 262144) ∷
    Event (line.Call 1 2 (call.Unlink (codes "/a"))) ∷
    Event (line.Settle 262144) ∷
    Event (line.Call 3 1 (call.MakeDir (codes "/h"))) ∷
    Event (line.Settle 262144) ∷
    Event (line.Stop 3) ∷
    Event (line.Call 2 1 (call.List (codes "/usr/d"))) ∷
    Event (line.Settle 92) ∷
    Event (line.Call 1 1 (call.MakeDir (codes "/usr/d"))) ∷
    Event (line.Settle 262144) ∷
    Event (line.Call 1 2 (call.Open (codes "/a") how.Read)) ∷
    Event (line.Call 3 1 (call.Open (codes "/usr/a") how.Write)) ∷
    Event (line.Settle 189) ∷
    Event (line.Call 1 2 (call.Stat (codes "/a"))) ∷
    Event (line.Settle 262144) ∷
    Event (line.Call 3 1 (call.RemoveDir (codes "/d/s"))) ∷
    Event (line.Settle 29) ∷
    Event (line.Call 2 2 (call.Open (codes "/a") how.Write)) ∷
    Event (line.Settle 262144) ∷
    Event (line.Call 2 2 (call.Open (codes "/usr/a") how.Write)) ∷
    Event (line.Settle 262144) ∷
    Event (line.ArmStop 2 4 leave.Old) ∷
    Event (line.Call 3 1 (call.List (codes "/d/s"))) ∷
    Event (line.Settle 43) ∷
    Event (line.ArmStop 2 8 leave.New) ∷
    Event (line.Call 2 1 (call.Rename (codes "/usr/a") (codes "a"))) ∷
    Event (line.Boot 1) ∷
    Event (line.Boot 2) ∷
    Event (line.Boot 3) ∷
    Event (line.Merge 3) ∷
    Event (line.Settle 262144) ∷
    Event (line.Settle 5) ∷
    Event (line.Settle 262144) ∷
    Event (line.Settle 262144) ∷
    Event (line.Settle 262144) ∷
    Event (line.Settle 262144) ∷
    Event (line.Settle 262144) ∷
    []

abbrev written : List ℕ
written =
    codes "6 join 1 e1.1.1 1:1,2:1,3:1\n" ++
    codes "6 join 2 e1.1.1 1:1,2:1,3:1\n" ++
    codes "6 join 3 e1.1.1 1:1,2:1,3:1\n" ++
    codes "6 start e1.1.1 0 1=0.0\n" ++
    codes "6 start e1.1.1 1 1=0.0\n" ++
    codes "7 call 1 7 c1.1.1 mkdir /usr/d\n" ++
    codes "8 grant e1.1.1 c1.1.1 1 i1.1 w 1.1 0.0 1\n" ++
    codes "8 act e1.1.1 i1.1 1 probe d ok\n" ++
    codes "8 grant e1.1.1 c1.1.1 3 i1.2 n 1.2 - 1\n" ++
    codes "8 commit 1.2 1 1.1 - -\n" ++
    codes "8 release e1.1.1 i1.2 1.2 1.1\n" ++
    codes "8 adopt 1.2 2 1.1\n" ++
    codes "8 adopt 1.2 3 1.1\n" ++
    codes "8 act e1.1.1 i1.1 2 insert d 2 d ok\n" ++
    codes "8 commit 1.1 1 1.1 0.0 016400020200000001\n" ++
    codes "8 release e1.1.1 i1.1 1.1 1.1\n" ++
    codes "8 reply 1 7 c1.1.1 ok 2\n" ++
    codes "8 adopt 1.1 2 1.1\n" ++
    codes "8 adopt 1.1 3 1.1\n" ++
    codes "9 call 1 7 c1.1.2 create /a\n" ++
    codes "10 grant e1.1.1 c1.1.2 1 i1.3 w 0.1 0.0 1\n" ++
    codes "10 act e1.1.1 i1.3 1 probe a ok\n" ++
    codes "10 grant e1.1.1 c1.1.2 3 i1.4 n 0.2 - 1\n" ++
    codes "10 commit 0.2 1 1.1 - -\n" ++
    codes "10 release e1.1.1 i1.4 0.2 1.1\n" ++
    codes "10 act e1.1.1 i1.3 2 insert a 2 f ok\n" ++
    codes "10 commit 0.1 1 1.1 0.0 016100020100000001\n" ++
    codes "10 release e1.1.1 i1.3 0.1 1.1\n" ++
    codes "10 reply 1 7 c1.1.2 ok 2\n" ++
    codes "11 call 3 7 c3.1.1 create /d/s/a\n" ++
    codes "12 look e1.1.1 c3.1.1 1 0.1 name d 1.1\n" ++
    codes "12 reply 3 7 c3.1.1 absent d\n" ++
    codes "13 call 1 2 c1.1.3 open /a x 2\n" ++
    codes "14 look e1.1.1 c1.1.3 1 0.1 name a 1.1\n" ++
    codes "14 refuse e1.1.1 c1.1.3 2 i1.5 x 0.2 noconflict\n" ++
    codes "14 reply 1 2 c1.1.3 noconflict\n" ++
    codes "15 call 1 1 c1.1.4 create /a\n" ++
    codes "16 grant e1.1.1 c1.1.4 1 i1.6 w 0.1 1.1 1\n" ++
    codes "16 act e1.1.1 i1.6 1 probe a exists 2\n" ++
    codes "16 release e1.1.1 i1.6 0.1 -\n" ++
    codes "16 reply 1 1 c1.1.4 exists 2\n" ++
    codes "18 call 2 2 c2.1.1 mkdir /usr/d\n" ++
    codes "19 call 1 2 c1.1.5 mkdir /d/s\n" ++
    codes "20 grant e1.1.1 c2.1.1 1 i2.1 w 1.1 1.1 2\n" ++
    codes "20 look e1.1.1 c1.1.5 1 0.1 name d 1.1\n" ++
    codes "20 reply 1 2 c1.1.5 absent d\n" ++
    codes "20 act e1.1.1 i2.1 1 probe d exists 2\n" ++
    codes "20 release e1.1.1 i2.1 1.1 -\n" ++
    codes "20 reply 2 2 c2.1.1 exists 2\n" ++
    codes "21 call 2 2 c2.1.2 open /a w\n" ++
    codes "22 look e1.1.1 c2.1.2 1 0.1 name a 1.1\n" ++
    codes "22 grant e1.1.1 c2.1.2 2 i2.2 w 0.2 1.1 1\n" ++
    codes "22 reply 2 2 c2.1.2 ok 0\n" ++
    codes "23 call 3 1 c3.1.2 rmdir /usr/d\n" ++
    codes "24 grant e1.1.1 c3.1.2 1 i3.1 w 1.1 1.1 3\n" ++
    codes "24 act e1.1.1 i3.1 1 find d ok 2 d\n" ++
    codes "24 grant e1.1.1 c3.1.2 3 i3.2 w 1.2 1.1 3\n" ++
    codes "24 act e1.1.1 i3.2 1 empty ok\n" ++
    codes "24 act e1.1.1 i3.1 2 remove d 2 ok\n" ++
    codes "24 commit 1.1 3 3.1 1.1 01640002020000000200000001000000000000000000000000000000000000000000000000000000000000000000000000000000000000000000000000000000000000000000000000\n" ++
    codes "24 release e1.1.1 i3.1 1.1 3.1\n" ++
    codes "24 release e1.1.1 i3.2 1.2 -\n" ++
    codes "24 adopt 1.1 1 3.1\n" ++
    codes "24 stopped 1 fuse\n" ++
    codes "24 adopt 1.1 2 3.1\n" ++
    codes "24 reply 3 1 c3.1.2 ok\n" ++
    codes "25 call 3 2 c3.1.3 stat /h\n" ++
    codes "27 call 2 1 c2.1.3 mkdir /d/s\n" ++
    codes "29 call 2 2 c2.1.4 stat /\n" ++
    codes "30 call 2 3 c2.1.5 rename /usr a\n" ++
    codes "30 reply 2 3 c2.1.5 badname\n" ++
    codes "33 call 2 3 c2.1.6 unlink /a\n" ++
    codes "34 call 2 4 c2.1.7 mkdir /d/s\n" ++
    codes "36 call 2 5 c2.1.8 rmdir /usr\n" ++
    codes "36 reply 2 5 c2.1.8 badname\n" ++
    codes "37 leave 2 e1.1.1\n" ++
    codes "37 reply 2 1 c2.1.3 changed e1.1.1\n" ++
    codes "37 reply 2 2 c2.1.4 changed e1.1.1\n" ++
    codes "37 reply 2 3 c2.1.6 changed e1.1.1\n" ++
    codes "37 reply 2 4 c2.1.7 changed e1.1.1\n" ++
    codes "38 call 2 1 c2.1.9 open /a r\n" ++
    codes "38 reply 2 1 c2.1.9 nopartition\n" ++
    codes "39 leave 3 e1.1.1\n" ++
    codes "39 reply 3 2 c3.1.3 changed e1.1.1\n" ++
    codes "39 join 2 e2.2.1 2:1,3:1\n" ++
    codes "39 join 3 e2.2.1 2:1,3:1\n" ++
    codes "39 start e2.2.1 1 1=3.1 2=1.1\n" ++
    codes "40 stopped 2 asked\n" ++
    codes "41 call 3 1 c3.1.4 create /a\n" ++
    codes "41 reply 3 1 c3.1.4 nostorage\n" ++
    codes "43 call 3 2 c3.1.5 open /a w\n" ++
    codes "43 reply 3 2 c3.1.5 nostorage\n" ++
    codes "45 call 3 1 c3.1.6 stat /usr/d\n" ++
    codes "47 call 3 2 c3.1.7 open /a w\n" ++
    codes "47 reply 3 2 c3.1.7 nostorage\n" ++
    codes "49 stopped 3 asked\n" ++
    codes "50 void\n" ++
    codes "52 void\n" ++
    codes "53 void\n" ++
    codes "55 void\n" ++
    codes "57 void\n" ++
    codes "60 void\n" ++
    codes "62 void\n" ++
    codes "64 void\n" ++
    codes "65 void\n" ++
    codes "67 void\n" ++
    codes "69 void\n" ++
    codes "71 void\n" ++
    codes "72 void\n" ++
    codes "74 void\n" ++
    codes "76 void\n" ++
    codes "78 void\n" ++
    codes "80 void\n" ++
    codes "81 void\n" ++
    codes "83 void\n" ++
    codes "85 void\n" ++
    codes "87 void\n" ++
    codes "89 void\n" ++
    codes "91 void\n" ++
    codes "93 void\n" ++
    codes "95 void\n" ++
    codes "97 up 1 2\n" ++
    codes "98 stopped 2 fuse\n" ++
    codes "99 stopped 3 fuse\n" ++
    codes "100 join 1 e1.1.2 1:2\n" ++
    codes "101 start e1.1.2 0 1=1.1 2=1.1\n" ++
    codes "101 start e1.1.2 1 1=3.1 2=1.1\n" ++
    codes "102 call 1 4 c1.2.1 unlink /a\n" ++
    codes "103 grant e1.1.2 c1.2.1 1 i1.1 w 0.1 1.1 1\n" ++
    codes "103 act e1.1.2 i1.1 1 find a ok 2 f\n" ++
    codes "103 grant e1.1.2 c1.2.1 3 i1.2 w 0.2 1.1 1\n" ++
    codes "103 act e1.1.2 i1.1 2 remove a 2 ok\n" ++
    codes "103 commit 0.1 1 1.2 1.1 01610002010000000200000001000000000000000000000000000000000000000000000000000000000000000000000000000000000000000000000000000000000000000000000000\n" ++
    codes "103 release e1.1.2 i1.1 0.1 1.2\n" ++
    codes "103 release e1.1.2 i1.2 0.2 -\n" ++
    codes "103 reply 1 4 c1.2.1 ok\n" ++
    codes "104 call 1 6 c1.2.2 open /a x 2\n" ++
    codes "105 look e1.1.2 c1.2.2 1 0.1 name a 1.2\n" ++
    codes "105 reply 1 6 c1.2.2 absent a\n" ++
    codes "106 call 1 6 c1.2.3 close 1\n" ++
    codes "106 reply 1 6 c1.2.3 baddescriptor\n" ++
    codes "108 call 1 1 c1.2.4 create /usr/d/a 2,3\n" ++
    codes "109 look e1.1.2 c1.2.4 1 1.1 name d 3.1\n" ++
    codes "109 reply 1 1 c1.2.4 absent d\n" ++
    codes "110 call 1 2 c1.2.5 create /usr/a\n" ++
    codes "111 call 1 1 c1.2.6 create /usr/d/a\n" ++
    codes "112 grant e1.1.2 c1.2.5 1 i1.3 w 1.1 3.1 1\n" ++
    codes "112 look e1.1.2 c1.2.6 1 1.1 name d 3.1\n" ++
    codes "112 reply 1 1 c1.2.6 absent d\n" ++
    codes "112 act e1.1.2 i1.3 1 probe a ok\n" ++
    codes "112 grant e1.1.2 c1.2.5 3 i1.4 n 1.3 - 1\n" ++
    codes "112 commit 1.3 1 1.1 - -\n" ++
    codes "112 release e1.1.2 i1.4 1.3 1.1\n" ++
    codes "112 act e1.1.2 i1.3 2 insert a 3 f ok\n" ++
    codes "112 commit 1.1 1 1.2 3.1 01610003010000000101640002020000000200000001000000000000000000000000000000000000000000000000000000000000000000000000000000000000000000000000000000000000000000000000\n" ++
    codes "112 release e1.1.2 i1.3 1.1 1.2\n" ++
    codes "112 reply 1 2 c1.2.5 ok 3\n" ++
    codes "113 call 1 2 c1.2.7 open /a w\n" ++
    codes "114 look e1.1.2 c1.2.7 1 0.1 name a 1.2\n" ++
    codes "114 reply 1 2 c1.2.7 absent a\n" ++
    codes "115 stopped 1 asked\n" ++
    codes "116 void\n" ++
    codes "117 void\n" ++
    codes "119 void\n" ++
    codes "121 void\n" ++
    codes "124 void\n" ++
    codes "125 void\n" ++
    codes "127 void\n" ++
    codes "128 void\n" ++
    codes "130 void\n" ++
    codes "132 void\n" ++
    codes "134 void\n" ++
    codes "135 void\n" ++
    codes "137 void\n" ++
    codes "139 void\n" ++
    codes "140 void\n" ++
    codes "142 void\n" ++
    codes "144 void\n" ++
    codes "146 void\n" ++
    codes "148 void\n" ++
    codes "151 void\n" ++
    codes "154 void\n" ++
    codes "155 up 1 3\n" ++
    codes "156 up 2 3\n" ++
    codes "157 up 3 3\n" ++
    codes "159 join 3 e1.3.3 1:3,2:3,3:3\n" ++
    codes "159 join 1 e1.3.3 1:3,2:3,3:3\n" ++
    codes "159 join 2 e1.3.3 1:3,2:3,3:3\n" ++
    codes "159 start e1.3.3 0 1=1.2 2=1.1\n" ++
    codes "159 start e1.3.3 1 1=1.2 1=3.1 2=1.1 3=1.1\n" ++
    codes "159 stopped 2 fuse\n" ++
    codes "159 adopt 1.3 3 1.1\n" ++
    codes "159 adopt 1.1 3 1.2\n" ++
    []

pub runs : printed (run lines) ≡ written
unfolding digits encode_with
runs = refl
