-- The run of a recorded schedule of 175 lines, to the whole text of its trace, 190 records.
use Rattle.std.specs.Prelude.{◌≡◌, refl, ℕ, List, [], ◌∷◌, ◌++◌, None, codes}
use Rattle.trace_book.specs.declared.call.Call.TheVariants as call
use Rattle.trace_book.specs.declared.call.OpenMode.TheVariants as how
use Rattle.schedule_lines.specs.declared.header.HeaderLine.TheVariants as header
use Rattle.schedule_lines.specs.declared.line.Leave.TheVariants as leave
use Rattle.schedule_lines.specs.declared.line.Line.TheVariants as line
use Rattle.schedule_lines.specs.declared.line.ScheduleLine.{ScheduleLine}
use Rattle.schedule_lines.specs.declared.line.ScheduleLine.TheVariants.{Header, Event}
use Rattle.std.specs.Fmt.{digits}
use Rattle.hex.specs.Hex.{encode_with}
use Rattle.the_run.specs.Runs.{run, printed}

abbrev lines : List ScheduleLine
lines =
    Header (header.Sites 4) ∷
    Header (header.Group 0 (record { 0 = 15 })) ∷
    Header (header.Group 1 (record { 0 = 15 })) ∷
    Header (header.Mount 1 (codes "usr")) ∷
    Header (header.Group 2 (record { 0 = 15 })) ∷
    Header (header.Mount 2 (codes "d")) ∷
    Event (line.Merge 1) ∷
    Event (line.Settle 262144) ∷
    Event (line.Call 3 2 (call.Open (codes "/a") how.Read)) ∷
    Event (line.Call 4 1 (call.Open (codes "/b") how.Read)) ∷
    Event (line.Tick 4) ∷
    Event (line.Tick 3) ∷
    Event (line.ArmFail 4 7) ∷
    Event (line.ArmFail 1 4) ∷
    Event (line.ArmStop 4 5 leave.Old) ∷
    Event (line.Deliver 17) ∷
    Event (line.Deliver 43) ∷
    Event (line.Deliver 47) ∷
    Event (line.Deliver 44) ∷
    Event (line.Deliver 32) ∷
    Event (line.Merge 2) ∷
    Event (line.Settle 262144) ∷
    Event (line.Settle 262144) ∷
    Event (line.Settle 262144) ∷
    Event (line.ArmStop 4 7 (leave.Byte 0)) ∷
    Event (line.Call 3 1 (call.MakeDir (codes "/d"))) ∷
    Event (line.Tick 4) ∷
    Event (line.Call 2 2 (call.Rename (codes "/dd") (codes "c"))) ∷
    Event (line.Deliver 98) ∷
    Event (line.Deliver 99) ∷
    Event (line.Stop 2) ∷
    Event (line.Call 1 1 (call.Open (codes "/a") how.Read)) ∷
    Event (line.ArmFail 1 2) ∷
    Event (line.Call 4 2 (call.Open (codes "/a") (how.Resolve 4))) ∷
    Event (line.Deliver 100) ∷
    Event (line.Lose 100) ∷
    Event (line.Deliver 86) ∷
    Event (line.Deliver 101) ∷
    Event (line.Deliver 103) ∷
    Event (line.Deliver 104) ∷
    Event (line.Call 4 1 (call.Stat (codes "/usr"))) ∷
    Event (line.Deliver 102) ∷
    Event (line.Deliver 105) ∷
    Event (line.Deliver 106) ∷
    Event (line.Lose 107) ∷
    Event (line.Deliver 73) ∷
    Event (line.Lose 66) ∷
    Event (line.Deliver 108) ∷
    Event (line.Deliver 27) ∷
    Event (line.ArmStop 3 9 leave.Old) ∷
    Event (line.Call 1 2 (call.Open (codes "/e") how.Read)) ∷
    Event (line.Stop 3) ∷
    Event (line.Deliver 92) ∷
    Event (line.Deliver 109) ∷
    Event (line.Deliver 110) ∷
    Event (line.Deliver 111) ∷
    Event (line.Deliver 102) ∷
    Event (line.Deliver 112) ∷
    Event (line.Deliver 113) ∷
    Event (line.ArmFail 1 2) ∷
    Event (line.Tick 4) ∷
    Event (line.Deliver 114) ∷
    Event (line.Deliver 115) ∷
    Event (line.Deliver 10) ∷
    Event (line.Deliver 85) ∷
    Event (line.Deliver 116) ∷
    Event (line.Deliver 42) ∷
    Event (line.Deliver 3) ∷
    Event (line.Deliver 117) ∷
    Event (line.Deliver 96) ∷
    Event (line.Deliver 116) ∷
    Event (line.Boot 2) ∷
    Event (line.Boot 3) ∷
    Event (line.Merge 4) ∷
    Event (line.Settle 262144) ∷
    Event (line.Settle 262144) ∷
    Event (line.Settle 262144) ∷
    Event (line.Deliver 48) ∷
    Event (line.Deliver 56) ∷
    Event (line.Deliver 39) ∷
    Event (line.Deliver 38) ∷
    Event (line.Tick 4) ∷
    Event (line.ArmStop 3 5 leave.Old) ∷
    Event (line.Settle 9) ∷
    Event (line.Stop 3) ∷
    Event (line.Down 1 4) ∷
    Event (line.Down 2 4) ∷
    Event (line.Merge 4) ∷
    Event (line.Settle 262144) ∷
    Event (line.Merge 2) ∷
    Event (line.Settle 262144) ∷
    Event (line.Deliver 160) ∷
    Event (line.Deliver 190) ∷
    Event (line.ArmStop 1 0 (leave.Byte 90)) ∷
    Event (line.Deliver 171) ∷
    Event (line.Deliver 7) ∷
    Event (line.Deliver 19) ∷
    Event (line.Deliver 80) ∷
    Event (line.Call 1 2 (call.Open (codes "/d/a") how.Read)) ∷
    Event (line.Call 1 1 (call.Create (codes "/h/b") None)) ∷
    Event (line.Call 1 1 (call.Stat (codes "/"))) ∷
    Event (line.Call 4 1 (call.Rename (codes "/usr") (codes "b"))) ∷
    Event (line.Call 1 3 (call.MakeDir (codes "/d"))) ∷
    Event (line.Merge 2) ∷
    Event (line.Part 4) ∷
    Event (line.Settle 262144) ∷
    Event (line.Call 1 3 (call.Open (codes "/a") how.Write)) ∷
    Event (line.Settle 262144) ∷
    Event (line.Call 1 3 (call.Write 1 0 (225 ∷ []))) ∷
    Event (line.Settle 262144) ∷
    Event (line.Call 1 3 (call.Close 1)) ∷
    Event (line.Settle 262144) ∷
    Event (line.Call 4 5 (call.Rename (codes "/a") (codes "b"))) ∷
    Event (line.Settle 262144) ∷
    Event (line.Boot 3) ∷
    Event (line.Up 1 4) ∷
    Event (line.Up 2 4) ∷
    Event (line.Merge 1) ∷
    Event (line.Settle 262144) ∷
    Event (line.Call 3 4 (call.Stat (codes "/a"))) ∷
    Event (line.Settle 262144) ∷
    Event (line.Call 3 6 (call.Open (codes "/a") (how.Resolve 2))) ∷
    Event (line.Settle 262144) ∷
    Event (line.Call 3 6 (call.Write 0 0 (119 ∷ []))) ∷
    Event (line.Settle 262144) ∷
    Event (line.Call 3 6 (call.Close 0)) ∷
    Event (line.Settle 262144) ∷
    Event (line.Deliver 123) ∷
    Event (line.Deliver 277) ∷
    Event (line.Deliver 284) ∷
    Event (line.Deliver 236) ∷
    Event (line.Deliver 88) ∷
    Event (line.Lose 77) ∷
    Event (line.Deliver 26) ∷
    Event (line.Deliver 142) ∷
    Event (line.Call 1 4 (call.Open (codes "/usr/b") how.Write)) ∷
    Event (line.Settle 262144) ∷
    Event (line.Call 1 4 (call.Write 1 0 (182 ∷ []))) ∷
    Event (line.Settle 262144) ∷
    Event (line.Call 1 4 (call.Close 1)) ∷
    Event (line.Settle 262144) ∷
    Event (line.Down 1 2) ∷
    Event (line.Down 1 3) ∷
    Event (line.Down 1 4) ∷
    Event (line.Part 2) ∷
    Event (line.Settle 262144) ∷
    Event (line.Part 1) ∷
    Event (line.Settle 262144) ∷
    Event (line.Call 3 5 (call.Unlink (codes "/usr/b"))) ∷
    Event (line.Settle 116) ∷
    Event (line.Call 1 3 (call.Open (codes "/usr/b") how.Write)) ∷
    Event (line.Settle 262144) ∷
    Event (line.Call 1 3 (call.Write 0 0 (165 ∷ 166 ∷ 167 ∷ 168 ∷ []))) ∷
    Event (line.Settle 262144) ∷
    Event (line.Call 1 3 (call.Close 0)) ∷
    Event (line.Settle 262144) ∷
    Event (line.Up 1 2) ∷
    Event (line.Up 1 3) ∷
    Event (line.Up 1 4) ∷
    Event (line.Merge 3) ∷
    Event (line.Settle 262144) ∷
    Event (line.Settle 262144) ∷
    Event (line.Call 2 6 (call.Open (codes "/usr/b") (how.Resolve 4))) ∷
    Event (line.Settle 262144) ∷
    Event (line.Call 2 6 (call.Commit 1)) ∷
    Event (line.Settle 5) ∷
    Event (line.Call 2 6 (call.Close 1)) ∷
    Event (line.Settle 262144) ∷
    Event (line.Merge 1) ∷
    Event (line.Settle 262144) ∷
    Event (line.Settle 262144) ∷
    Event (line.Settle 262144) ∷
    Event (line.Settle 262144) ∷
    Event (line.Settle 262144) ∷
    Event (line.Settle 262144) ∷
    []

abbrev written : List ℕ
written =
    codes "8 join 1 e1.1.1 1:1,2:1,3:1,4:1\n" ++
    codes "8 join 2 e1.1.1 1:1,2:1,3:1,4:1\n" ++
    codes "8 join 3 e1.1.1 1:1,2:1,3:1,4:1\n" ++
    codes "8 join 4 e1.1.1 1:1,2:1,3:1,4:1\n" ++
    codes "8 start e1.1.1 0 1=0.0\n" ++
    codes "8 start e1.1.1 1 1=0.0\n" ++
    codes "8 start e1.1.1 2 1=0.0\n" ++
    codes "9 call 3 2 c3.1.1 open /a r\n" ++
    codes "10 call 4 1 c4.1.1 open /b r\n" ++
    codes "17 look e1.1.1 c3.1.1 1 0.1 name a 0.0\n" ++
    codes "19 look e1.1.1 c4.1.1 1 0.1 name b 0.0\n" ++
    codes "21 leave 2 e1.1.1\n" ++
    codes "22 leave 1 e1.1.1\n" ++
    codes "22 leave 3 e1.1.1\n" ++
    codes "22 reply 3 2 c3.1.1 changed e1.1.1\n" ++
    codes "22 leave 4 e1.1.1\n" ++
    codes "22 reply 4 1 c4.1.1 changed e1.1.1\n" ++
    codes "22 join 2 e2.2.1 1:1,2:1,3:1,4:1\n" ++
    codes "22 join 1 e2.2.1 1:1,2:1,3:1,4:1\n" ++
    codes "22 join 3 e2.2.1 1:1,2:1,3:1,4:1\n" ++
    codes "22 join 4 e2.2.1 1:1,2:1,3:1,4:1\n" ++
    codes "22 start e2.2.1 0 1=0.0\n" ++
    codes "22 start e2.2.1 1 1=0.0\n" ++
    codes "22 start e2.2.1 2 1=0.0\n" ++
    codes "26 call 3 1 c3.1.2 mkdir /d\n" ++
    codes "26 reply 3 1 c3.1.2 badname\n" ++
    codes "28 call 2 2 c2.1.1 rename /dd c\n" ++
    codes "29 grant e2.2.1 c2.1.1 1 i2.1 w 0.1 0.0 2\n" ++
    codes "31 stopped 2 asked\n" ++
    codes "32 call 1 1 c1.1.1 open /a r\n" ++
    codes "34 call 4 2 c4.1.2 open /a x 4\n" ++
    codes "35 void\n" ++
    codes "37 void\n" ++
    codes "38 look e2.2.1 c1.1.1 1 0.1 name a 0.0\n" ++
    codes "40 reply 1 1 c1.1.1 absent a\n" ++
    codes "41 call 4 1 c4.1.3 stat /usr\n" ++
    codes "42 look e2.2.1 c4.1.2 1 0.1 name a 0.0\n" ++
    codes "43 look e2.2.1 c4.1.3 1 1.1 stat 0.0\n" ++
    codes "46 void\n" ++
    codes "48 reply 4 2 c4.1.2 absent a\n" ++
    codes "51 call 1 2 c1.1.2 open /e r\n" ++
    codes "52 stopped 3 asked\n" ++
    codes "53 void\n" ++
    codes "54 look e2.2.1 c1.1.2 1 0.1 name e 0.0\n" ++
    codes "56 reply 1 2 c1.1.2 absent e\n" ++
    codes "63 reply 4 1 c4.1.3 ok d 1.1 0 0.0\n" ++
    codes "64 void\n" ++
    codes "72 up 2 2\n" ++
    codes "73 up 3 2\n" ++
    codes "74 leave 4 e2.2.1\n" ++
    codes "75 leave 1 e2.2.1\n" ++
    codes "75 join 4 e3.4.1 1:1,2:2,3:2,4:1\n" ++
    codes "75 join 1 e3.4.1 1:1,2:2,3:2,4:1\n" ++
    codes "75 join 2 e3.4.1 1:1,2:2,3:2,4:1\n" ++
    codes "75 join 3 e3.4.1 1:1,2:2,3:2,4:1\n" ++
    codes "75 start e3.4.1 0 1=0.0\n" ++
    codes "75 start e3.4.1 1 1=0.0\n" ++
    codes "75 start e3.4.1 2 1=0.0\n" ++
    codes "85 stopped 3 asked\n" ++
    codes "88 leave 4 e3.4.1\n" ++
    codes "88 join 4 e4.4.1 4:1\n" ++
    codes "89 start e4.4.1 0 1=0.0\n" ++
    codes "89 start e4.4.1 1 1=0.0\n" ++
    codes "89 start e4.4.1 2 1=0.0\n" ++
    codes "90 leave 2 e3.4.1\n" ++
    codes "91 leave 1 e3.4.1\n" ++
    codes "91 join 2 e4.2.2 1:1,2:2\n" ++
    codes "91 join 1 e4.2.2 1:1,2:2\n" ++
    codes "91 start e4.2.2 0 1=0.0\n" ++
    codes "91 start e4.2.2 1 1=0.0\n" ++
    codes "91 start e4.2.2 2 1=0.0\n" ++
    codes "98 void\n" ++
    codes "99 call 1 2 c1.1.3 open /d/a r\n" ++
    codes "100 call 1 1 c1.1.4 create /h/b\n" ++
    codes "101 void\n" ++
    codes "102 call 4 1 c4.1.4 rename /usr b\n" ++
    codes "102 reply 4 1 c4.1.4 badname\n" ++
    codes "103 call 1 3 c1.1.5 mkdir /d\n" ++
    codes "103 reply 1 3 c1.1.5 badname\n" ++
    codes "104 leave 2 e4.2.2\n" ++
    codes "105 leave 4 e4.4.1\n" ++
    codes "105 join 4 e5.4.1 4:1\n" ++
    codes "106 look e4.2.2 c1.1.3 1 2.1 name a 0.0\n" ++
    codes "106 look e4.2.2 c1.1.4 1 0.1 name h 0.0\n" ++
    codes "106 leave 1 e4.2.2\n" ++
    codes "106 reply 1 1 c1.1.4 changed e4.2.2\n" ++
    codes "106 reply 1 2 c1.1.3 changed e4.2.2\n" ++
    codes "106 start e5.4.1 0 1=0.0\n" ++
    codes "106 start e5.4.1 1 1=0.0\n" ++
    codes "106 start e5.4.1 2 1=0.0\n" ++
    codes "106 join 2 e5.2.2 1:1,2:2\n" ++
    codes "106 join 1 e5.2.2 1:1,2:2\n" ++
    codes "106 start e5.2.2 0 1=0.0\n" ++
    codes "106 start e5.2.2 1 1=0.0\n" ++
    codes "106 start e5.2.2 2 1=0.0\n" ++
    codes "107 call 1 3 c1.1.6 open /a w\n" ++
    codes "108 look e5.2.2 c1.1.6 1 0.1 name a 0.0\n" ++
    codes "108 reply 1 3 c1.1.6 absent a\n" ++
    codes "109 call 1 3 c1.1.7 write 1 0 e1\n" ++
    codes "109 reply 1 3 c1.1.7 baddescriptor\n" ++
    codes "111 call 1 3 c1.1.8 close 1\n" ++
    codes "111 reply 1 3 c1.1.8 baddescriptor\n" ++
    codes "113 call 4 5 c4.1.5 rename /a b\n" ++
    codes "114 grant e5.4.1 c4.1.5 1 i4.1 w 0.1 0.0 4\n" ++
    codes "114 act e5.4.1 i4.1 1 rename a b absent a\n" ++
    codes "114 release e5.4.1 i4.1 0.1 -\n" ++
    codes "114 reply 4 5 c4.1.5 absent a\n" ++
    codes "115 up 3 3\n" ++
    codes "118 leave 1 e5.2.2\n" ++
    codes "119 leave 2 e5.2.2\n" ++
    codes "119 leave 4 e5.4.1\n" ++
    codes "119 join 1 e6.1.1 1:1,2:2,3:3,4:1\n" ++
    codes "119 join 2 e6.1.1 1:1,2:2,3:3,4:1\n" ++
    codes "119 join 3 e6.1.1 1:1,2:2,3:3,4:1\n" ++
    codes "119 join 4 e6.1.1 1:1,2:2,3:3,4:1\n" ++
    codes "119 start e6.1.1 0 1=0.0\n" ++
    codes "119 start e6.1.1 1 1=0.0\n" ++
    codes "119 start e6.1.1 2 1=0.0\n" ++
    codes "120 call 3 4 c3.3.1 stat /a\n" ++
    codes "121 look e6.1.1 c3.3.1 1 0.1 name a 0.0\n" ++
    codes "121 reply 3 4 c3.3.1 absent a\n" ++
    codes "122 call 3 6 c3.3.2 open /a x 2\n" ++
    codes "123 look e6.1.1 c3.3.2 1 0.1 name a 0.0\n" ++
    codes "123 reply 3 6 c3.3.2 absent a\n" ++
    codes "124 call 3 6 c3.3.3 write 0 0 77\n" ++
    codes "124 reply 3 6 c3.3.3 baddescriptor\n" ++
    codes "126 call 3 6 c3.3.4 close 0\n" ++
    codes "126 reply 3 6 c3.3.4 baddescriptor\n" ++
    codes "136 call 1 4 c1.1.9 open /usr/b w\n" ++
    codes "137 look e6.1.1 c1.1.9 1 1.1 name b 0.0\n" ++
    codes "137 reply 1 4 c1.1.9 absent b\n" ++
    codes "138 call 1 4 c1.1.10 write 1 0 b6\n" ++
    codes "138 reply 1 4 c1.1.10 baddescriptor\n" ++
    codes "140 call 1 4 c1.1.11 close 1\n" ++
    codes "140 reply 1 4 c1.1.11 baddescriptor\n" ++
    codes "145 leave 2 e6.1.1\n" ++
    codes "146 leave 3 e6.1.1\n" ++
    codes "146 leave 4 e6.1.1\n" ++
    codes "146 join 2 e7.2.2 2:2,3:3,4:1\n" ++
    codes "146 join 3 e7.2.2 2:2,3:3,4:1\n" ++
    codes "146 join 4 e7.2.2 2:2,3:3,4:1\n" ++
    codes "146 start e7.2.2 0 1=0.0\n" ++
    codes "146 start e7.2.2 1 1=0.0\n" ++
    codes "146 start e7.2.2 2 1=0.0\n" ++
    codes "147 leave 1 e6.1.1\n" ++
    codes "147 join 1 e7.1.1 1:1\n" ++
    codes "148 start e7.1.1 0 1=0.0\n" ++
    codes "148 start e7.1.1 1 1=0.0\n" ++
    codes "148 start e7.1.1 2 1=0.0\n" ++
    codes "149 call 3 5 c3.3.5 unlink /usr/b\n" ++
    codes "150 grant e7.2.2 c3.3.5 1 i3.1 w 1.1 0.0 3\n" ++
    codes "150 act e7.2.2 i3.1 1 find b absent b\n" ++
    codes "150 release e7.2.2 i3.1 1.1 -\n" ++
    codes "150 reply 3 5 c3.3.5 absent b\n" ++
    codes "151 call 1 3 c1.1.12 open /usr/b w\n" ++
    codes "152 look e7.1.1 c1.1.12 1 1.1 name b 0.0\n" ++
    codes "152 reply 1 3 c1.1.12 absent b\n" ++
    codes "153 call 1 3 c1.1.13 write 0 0 a5a6a7a8\n" ++
    codes "153 reply 1 3 c1.1.13 baddescriptor\n" ++
    codes "155 call 1 3 c1.1.14 close 0\n" ++
    codes "155 reply 1 3 c1.1.14 baddescriptor\n" ++
    codes "160 leave 3 e7.2.2\n" ++
    codes "161 leave 1 e7.1.1\n" ++
    codes "161 leave 2 e7.2.2\n" ++
    codes "161 leave 4 e7.2.2\n" ++
    codes "161 join 3 e8.3.3 1:1,2:2,3:3,4:1\n" ++
    codes "161 join 1 e8.3.3 1:1,2:2,3:3,4:1\n" ++
    codes "161 join 2 e8.3.3 1:1,2:2,3:3,4:1\n" ++
    codes "161 join 4 e8.3.3 1:1,2:2,3:3,4:1\n" ++
    codes "161 start e8.3.3 0 1=0.0\n" ++
    codes "161 start e8.3.3 1 1=0.0\n" ++
    codes "161 start e8.3.3 2 1=0.0\n" ++
    codes "163 call 2 6 c2.2.1 open /usr/b x 4\n" ++
    codes "164 look e8.3.3 c2.2.1 1 1.1 name b 0.0\n" ++
    codes "164 reply 2 6 c2.2.1 absent b\n" ++
    codes "165 call 2 6 c2.2.2 commit 1\n" ++
    codes "165 reply 2 6 c2.2.2 baddescriptor\n" ++
    codes "167 call 2 6 c2.2.3 close 1\n" ++
    codes "167 reply 2 6 c2.2.3 baddescriptor\n" ++
    codes "169 leave 1 e8.3.3\n" ++
    codes "170 leave 2 e8.3.3\n" ++
    codes "170 leave 3 e8.3.3\n" ++
    codes "170 leave 4 e8.3.3\n" ++
    codes "170 join 1 e9.1.1 1:1,2:2,3:3,4:1\n" ++
    codes "170 join 2 e9.1.1 1:1,2:2,3:3,4:1\n" ++
    codes "170 join 3 e9.1.1 1:1,2:2,3:3,4:1\n" ++
    codes "170 join 4 e9.1.1 1:1,2:2,3:3,4:1\n" ++
    codes "170 start e9.1.1 0 1=0.0\n" ++
    codes "170 start e9.1.1 1 1=0.0\n" ++
    codes "170 start e9.1.1 2 1=0.0\n" ++
    []

pub runs : printed (run lines) ≡ written
unfolding digits encode_with
runs = refl
