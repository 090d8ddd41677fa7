-- The run of a recorded schedule of 252 lines, to the whole text of its trace, 134 records.
use Rattle.std.specs.Prelude.{◌≡◌, refl, ℕ, List, [], ◌∷◌, ◌++◌, None, codes}
use Rattle.trace_book.specs.declared.call.Call.TheVariants as call
use Rattle.trace_book.specs.declared.call.OpenMode.TheVariants as how
use Rattle.schedule_lines.specs.declared.header.HeaderLine.TheVariants as header
use Rattle.schedule_lines.specs.declared.line.Leave.TheVariants as leave
use Rattle.schedule_lines.specs.declared.line.Line.TheVariants as line
use Rattle.schedule_lines.specs.declared.line.ScheduleLine.{ScheduleLine}
use Rattle.schedule_lines.specs.declared.line.ScheduleLine.TheVariants.{Header, Event}
use Rattle.std.specs.Fmt.{digits}
use Rattle.hex.specs.Hex.{encode_with}
use Rattle.the_run.specs.Runs.{run, printed}

abbrev lines : List ScheduleLine
lines =
    Header (header.Sites 3) ∷
    Header (header.Group 0 (record { 0 = 7 })) ∷
    Header (header.Group 1 (record { 0 = 1 })) ∷
    Header (header.Mount 1 (codes "usr")) ∷
    Event (line.Merge 3) ∷
    Event (line.Settle 262144) ∷
    Event (line.Tick 1) ∷
    Event (line.Deliver 14) ∷
    Event (line.Lose 21) ∷
    Event (line.Deliver 3) ∷
    Event (line.Deliver 22) ∷
    Event (line.Settle 18) ∷
    Event (line.Deliver 17) ∷
    Event (line.Deliver 8) ∷
    Event (line.Deliver 2) ∷
    Event (line.Deliver 1) ∷
    Event (line.Call 3 1 (call.Unlink (codes "/h/a"))) ∷
    Event (line.Call 3 2 (call.Open (codes "/usr/dd") (how.Resolve 2))) ∷
    Event (line.Call 1 1 (call.Create (codes "/usr/b") None)) ∷
    Event (line.Call 3 3 (call.Rename (codes "/c") (codes "dd"))) ∷
    Event (line.Lose 8) ∷
    Event (line.Deliver 23) ∷
    Event (line.Deliver 24) ∷
    Event (line.Deliver 25) ∷
    Event (line.Lose 19) ∷
    Event (line.Deliver 26) ∷
    Event (line.Lose 27) ∷
    Event (line.Deliver 28) ∷
    Event (line.Deliver 30) ∷
    Event (line.Tick 1) ∷
    Event (line.Deliver 29) ∷
    Event (line.Deliver 32) ∷
    Event (line.Deliver 31) ∷
    Event (line.ArmFail 2 1) ∷
    Event (line.Tick 1) ∷
    Event (line.Call 3 2 (call.Create (codes "/a") None)) ∷
    Event (line.Deliver 35) ∷
    Event (line.Deliver 33) ∷
    Event (line.Deliver 18) ∷
    Event (line.Deliver 38) ∷
    Event (line.Call 1 1 (call.Open (codes "/h/c") how.Read)) ∷
    Event (line.Deliver 40) ∷
    Event (line.Deliver 18) ∷
    Event (line.Deliver 34) ∷
    Event (line.Deliver 39) ∷
    Event (line.ArmFail 2 3) ∷
    Event (line.Lose 36) ∷
    Event (line.Deliver 37) ∷
    Event (line.Call 3 1 (call.List (codes "/"))) ∷
    Event (line.ArmStop 3 2 (leave.Byte 90)) ∷
    Event (line.Deliver 41) ∷
    Event (line.Tick 3) ∷
    Event (line.Call 1 2 (call.Open (codes "/d/b") (how.Resolve 2))) ∷
    Event (line.Stop 2) ∷
    Event (line.Deliver 47) ∷
    Event (line.Tick 2) ∷
    Event (line.Deliver 46) ∷
    Event (line.Call 3 4 (call.Unlink (codes "/d/s/b"))) ∷
    Event (line.Deliver 48) ∷
    Event (line.Deliver 50) ∷
    Event (line.Deliver 43) ∷
    Event (line.Deliver 44) ∷
    Event (line.Settle 12) ∷
    Event (line.ArmFail 1 0) ∷
    Event (line.ArmStop 1 6 (leave.Byte 0)) ∷
    Event (line.ArmStop 1 3 (leave.Byte 90)) ∷
    Event (line.Settle 4) ∷
    Event (line.Call 1 3 (call.Open (codes "/c") how.Read)) ∷
    Event (line.Call 1 4 (call.MakeDir (codes "/d"))) ∷
    Event (line.Deliver 71) ∷
    Event (line.Deliver 64) ∷
    Event (line.Call 3 2 (call.Stat (codes "/d"))) ∷
    Event (line.Deliver 77) ∷
    Event (line.Deliver 71) ∷
    Event (line.Lose 27) ∷
    Event (line.Deliver 68) ∷
    Event (line.Call 1 5 (call.Open (codes "/dd") (how.Resolve 1))) ∷
    Event (line.ArmStop 1 0 (leave.Byte 0)) ∷
    Event (line.Lose 89) ∷
    Event (line.Lose 65) ∷
    Event (line.Lose 80) ∷
    Event (line.Deliver 66) ∷
    Event (line.Deliver 67) ∷
    Event (line.Deliver 69) ∷
    Event (line.Deliver 70) ∷
    Event (line.Deliver 63) ∷
    Event (line.Tick 1) ∷
    Event (line.ArmFail 3 4) ∷
    Event (line.ArmFail 3 8) ∷
    Event (line.Lose 72) ∷
    Event (line.Deliver 97) ∷
    Event (line.Deliver 73) ∷
    Event (line.Lose 74) ∷
    Event (line.ArmStop 1 6 leave.New) ∷
    Event (line.ArmStop 3 1 leave.Old) ∷
    Event (line.Lose 75) ∷
    Event (line.Deliver 76) ∷
    Event (line.Deliver 5) ∷
    Event (line.Deliver 78) ∷
    Event (line.Call 3 1 (call.Create (codes "/usr/dd") None)) ∷
    Event (line.Deliver 98) ∷
    Event (line.Deliver 79) ∷
    Event (line.Deliver 81) ∷
    Event (line.Deliver 100) ∷
    Event (line.Settle 8) ∷
    Event (line.Stop 1) ∷
    Event (line.Deliver 108) ∷
    Event (line.Deliver 109) ∷
    Event (line.ArmStop 3 7 (leave.Byte 165)) ∷
    Event (line.Settle 9) ∷
    Event (line.ArmStop 3 0 (leave.Byte 0)) ∷
    Event (line.ArmStop 3 6 (leave.Byte 165)) ∷
    Event (line.Tick 3) ∷
    Event (line.Settle 9) ∷
    Event (line.Settle 4) ∷
    Event (line.Deliver 105) ∷
    Event (line.Deliver 52) ∷
    Event (line.Deliver 110) ∷
    Event (line.Deliver 91) ∷
    Event (line.Deliver 91) ∷
    Event (line.Deliver 108) ∷
    Event (line.Deliver 127) ∷
    Event (line.ArmStop 3 7 leave.Old) ∷
    Event (line.Deliver 116) ∷
    Event (line.Deliver 65) ∷
    Event (line.Deliver 96) ∷
    Event (line.Deliver 91) ∷
    Event (line.Deliver 109) ∷
    Event (line.Tick 3) ∷
    Event (line.Deliver 91) ∷
    Event (line.Deliver 91) ∷
    Event (line.Deliver 85) ∷
    Event (line.Deliver 105) ∷
    Event (line.Deliver 120) ∷
    Event (line.Lose 91) ∷
    Event (line.Deliver 111) ∷
    Event (line.Call 3 3 (call.Create (codes "/c") None)) ∷
    Event (line.Call 3 4 (call.Open (codes "/d/dd") how.Write)) ∷
    Event (line.Call 3 5 (call.Create (codes "/d/c") None)) ∷
    Event (line.Deliver 99) ∷
    Event (line.Deliver 83) ∷
    Event (line.Deliver 93) ∷
    Event (line.Call 3 6 (call.Rename (codes "/h/dd") (codes "dd"))) ∷
    Event (line.Settle 8) ∷
    Event (line.Stop 3) ∷
    Event (line.Deliver 123) ∷
    Event (line.Deliver 129) ∷
    Event (line.Deliver 93) ∷
    Event (line.Settle 11) ∷
    Event (line.Settle 12) ∷
    Event (line.ArmStop 1 8 (leave.Byte 165)) ∷
    Event (line.Deliver 93) ∷
    Event (line.Deliver 93) ∷
    Event (line.Tick 1) ∷
    Event (line.ArmStop 1 0 (leave.Byte 165)) ∷
    Event (line.Settle 9) ∷
    Event (line.Deliver 93) ∷
    Event (line.Deliver 93) ∷
    Event (line.Deliver 104) ∷
    Event (line.ArmStop 1 2 (leave.Byte 165)) ∷
    Event (line.Settle 17) ∷
    Event (line.Call 1 1 (call.Open (codes "/dd") how.Write)) ∷
    Event (line.Settle 1) ∷
    Event (line.Tick 3) ∷
    Event (line.Call 3 2 (call.Stat (codes "/dd"))) ∷
    Event (line.Deliver 139) ∷
    Event (line.Deliver 102) ∷
    Event (line.Deliver 93) ∷
    Event (line.Deliver 120) ∷
    Event (line.ArmFail 1 2) ∷
    Event (line.Settle 6) ∷
    Event (line.Call 3 1 (call.Open (codes "/dd") how.Read)) ∷
    Event (line.Tick 3) ∷
    Event (line.Stop 2) ∷
    Event (line.ArmFail 3 6) ∷
    Event (line.Call 1 8 (call.Open (codes "/usr/b") how.Read)) ∷
    Event (line.Settle 262144) ∷
    Event (line.Call 1 8 (call.Open (codes "/usr/b") how.Read)) ∷
    Event (line.Settle 262144) ∷
    Event (line.Call 1 8 (call.Open (codes "/usr/b") how.Read)) ∷
    Event (line.Settle 262144) ∷
    Event (line.Call 1 8 (call.Open (codes "/usr/b") how.Read)) ∷
    Event (line.Settle 131) ∷
    Event (line.Call 1 8 (call.Open (codes "/usr/b") how.Read)) ∷
    Event (line.Settle 4) ∷
    Event (line.Call 1 8 (call.Open (codes "/usr/b") how.Read)) ∷
    Event (line.Settle 262144) ∷
    Event (line.Call 1 8 (call.Open (codes "/usr/b") how.Read)) ∷
    Event (line.Settle 262144) ∷
    Event (line.Call 1 8 (call.Open (codes "/usr/b") how.Read)) ∷
    Event (line.Settle 262144) ∷
    Event (line.Call 1 8 (call.Open (codes "/usr/b") how.Read)) ∷
    Event (line.Settle 262144) ∷
    Event (line.Call 1 8 (call.Open (codes "/usr/b") how.Read)) ∷
    Event (line.Settle 262144) ∷
    Event (line.Call 1 8 (call.Open (codes "/usr/b") how.Read)) ∷
    Event (line.Settle 262144) ∷
    Event (line.Call 1 8 (call.Open (codes "/usr/b") how.Read)) ∷
    Event (line.Settle 262144) ∷
    Event (line.Call 1 8 (call.Open (codes "/usr/b") how.Read)) ∷
    Event (line.Settle 262144) ∷
    Event (line.Call 1 8 (call.Open (codes "/usr/b") how.Read)) ∷
    Event (line.Settle 262144) ∷
    Event (line.Call 1 8 (call.Open (codes "/usr/b") how.Read)) ∷
    Event (line.Settle 262144) ∷
    Event (line.Call 1 8 (call.Open (codes "/usr/b") how.Read)) ∷
    Event (line.Settle 262144) ∷
    Event (line.Call 1 8 (call.Open (codes "/usr/b") how.Read)) ∷
    Event (line.Settle 262144) ∷
    Event (line.Call 1 8 (call.Close 0)) ∷
    Event (line.Settle 262144) ∷
    Event (line.Call 1 8 (call.Close 1)) ∷
    Event (line.Settle 262144) ∷
    Event (line.Call 1 8 (call.Close 2)) ∷
    Event (line.Settle 262144) ∷
    Event (line.Call 1 8 (call.Close 3)) ∷
    Event (line.Settle 200) ∷
    Event (line.Call 1 8 (call.Close 4)) ∷
    Event (line.Settle 262144) ∷
    Event (line.Call 1 8 (call.Close 5)) ∷
    Event (line.Settle 262144) ∷
    Event (line.Call 1 8 (call.Close 6)) ∷
    Event (line.Settle 262144) ∷
    Event (line.Call 1 8 (call.Close 7)) ∷
    Event (line.Settle 262144) ∷
    Event (line.Call 1 8 (call.Close 8)) ∷
    Event (line.Settle 262144) ∷
    Event (line.Call 1 8 (call.Close 9)) ∷
    Event (line.Settle 262144) ∷
    Event (line.Call 1 8 (call.Close 10)) ∷
    Event (line.Settle 262144) ∷
    Event (line.Call 1 8 (call.Close 11)) ∷
    Event (line.Settle 262144) ∷
    Event (line.Call 1 8 (call.Close 12)) ∷
    Event (line.Settle 262144) ∷
    Event (line.Call 1 8 (call.Close 13)) ∷
    Event (line.Settle 262144) ∷
    Event (line.Call 1 8 (call.Close 14)) ∷
    Event (line.Settle 262144) ∷
    Event (line.Call 1 8 (call.Close 15)) ∷
    Event (line.Settle 262144) ∷
    Event (line.Call 2 1 (call.Open (codes "/usr/b") how.Read)) ∷
    Event (line.Boot 1) ∷
    Event (line.Boot 2) ∷
    Event (line.Boot 3) ∷
    Event (line.Merge 3) ∷
    Event (line.Settle 262144) ∷
    Event (line.Settle 262144) ∷
    Event (line.Settle 262144) ∷
    Event (line.Settle 262144) ∷
    Event (line.Settle 262144) ∷
    Event (line.Settle 262144) ∷
    []

abbrev written : List ℕ
written =
    codes "6 join 3 e1.3.1 1:1,2:1,3:1\n" ++
    codes "6 join 1 e1.3.1 1:1,2:1,3:1\n" ++
    codes "6 join 2 e1.3.1 1:1,2:1,3:1\n" ++
    codes "6 start e1.3.1 1 1=0.0\n" ++
    codes "6 start e1.3.1 0 1=0.0\n" ++
    codes "17 call 3 1 c3.1.1 unlink /h/a\n" ++
    codes "18 call 3 2 c3.1.2 open /usr/dd x 2\n" ++
    codes "19 call 1 1 c1.1.1 create /usr/b\n" ++
    codes "20 call 3 3 c3.1.3 rename /c dd\n" ++
    codes "24 look e1.3.1 c3.1.1 1 0.1 name h 0.0\n" ++
    codes "26 look e1.3.1 c3.1.2 1 1.1 name dd 0.0\n" ++
    codes "28 grant e1.3.1 c3.1.3 1 i3.1 w 0.1 0.0 3\n" ++
    codes "32 reply 3 2 c3.1.2 absent dd\n" ++
    codes "36 call 3 2 c3.1.4 create /a\n" ++
    codes "38 grant e1.3.1 c1.1.1 1 i1.1 w 1.1 0.0 1\n" ++
    codes "41 void\n" ++
    codes "42 act e1.3.1 i3.1 1 rename c dd absent c\n" ++
    codes "44 reply 3 1 c3.1.1 absent h\n" ++
    codes "48 refuse e1.3.1 c3.1.4 1 i3.2 w 0.1 busy 3 3\n" ++
    codes "49 call 3 1 c3.1.5 list /\n" ++
    codes "53 call 1 2 c1.1.2 open /d/b x 2\n" ++
    codes "54 stopped 2 asked\n" ++
    codes "56 void\n" ++
    codes "57 look e1.3.1 c3.1.5 1 0.1 list 0.0\n" ++
    codes "58 call 3 4 c3.1.6 unlink /d/s/b\n" ++
    codes "60 reply 3 2 c3.1.4 busy 3 3\n" ++
    codes "63 look e1.3.1 c1.1.2 1 0.1 name d 0.0\n" ++
    codes "63 look e1.3.1 c3.1.6 1 0.1 name d 0.0\n" ++
    codes "63 release e1.3.1 i3.1 0.1 -\n" ++
    codes "63 budget\n" ++
    codes "67 budget\n" ++
    codes "68 call 1 3 c1.1.3 open /c r\n" ++
    codes "69 call 1 4 c1.1.4 mkdir /d\n" ++
    codes "71 reply 3 1 c3.1.5 ok usr\n" ++
    codes "72 call 3 2 c3.1.7 stat /d\n" ++
    codes "75 void\n" ++
    codes "77 call 1 5 c1.1.5 open /dd x 1\n" ++
    codes "91 grant e1.3.1 c1.1.4 1 i1.2 w 0.1 0.0 1\n" ++
    codes "100 call 3 1 c3.1.8 create /usr/dd\n" ++
    codes "101 look e1.3.1 c1.1.5 1 0.1 name dd 0.0\n" ++
    codes "105 reply 1 2 c1.1.2 absent d\n" ++
    codes "105 look e1.3.1 c1.1.3 1 0.1 name c 0.0\n" ++
    codes "105 look e1.3.1 c3.1.7 1 0.1 name d 0.0\n" ++
    codes "105 reply 3 3 c3.1.3 absent c\n" ++
    codes "105 budget\n" ++
    codes "106 stopped 1 asked\n" ++
    codes "107 void\n" ++
    codes "108 void\n" ++
    codes "110 reply 3 4 c3.1.6 absent d\n" ++
    codes "116 void\n" ++
    codes "117 void\n" ++
    codes "118 void\n" ++
    codes "119 void\n" ++
    codes "120 void\n" ++
    codes "121 void\n" ++
    codes "122 void\n" ++
    codes "124 void\n" ++
    codes "125 void\n" ++
    codes "126 void\n" ++
    codes "127 void\n" ++
    codes "128 void\n" ++
    codes "130 void\n" ++
    codes "131 void\n" ++
    codes "132 void\n" ++
    codes "133 void\n" ++
    codes "134 void\n" ++
    codes "136 void\n" ++
    codes "137 call 3 3 c3.1.9 create /c\n" ++
    codes "138 call 3 4 c3.1.10 open /d/dd w\n" ++
    codes "139 call 3 5 c3.1.11 create /d/c\n" ++
    codes "140 void\n" ++
    codes "141 void\n" ++
    codes "142 void\n" ++
    codes "143 call 3 6 c3.1.12 rename /h/dd dd\n" ++
    codes "145 stopped 3 asked\n" ++
    codes "146 void\n" ++
    codes "147 void\n" ++
    codes "148 void\n" ++
    codes "152 void\n" ++
    codes "153 void\n" ++
    codes "154 void\n" ++
    codes "157 void\n" ++
    codes "158 void\n" ++
    codes "159 void\n" ++
    codes "162 void\n" ++
    codes "164 void\n" ++
    codes "165 void\n" ++
    codes "166 void\n" ++
    codes "167 void\n" ++
    codes "168 void\n" ++
    codes "169 void\n" ++
    codes "172 void\n" ++
    codes "173 void\n" ++
    codes "174 void\n" ++
    codes "176 void\n" ++
    codes "178 void\n" ++
    codes "180 void\n" ++
    codes "182 void\n" ++
    codes "184 void\n" ++
    codes "186 void\n" ++
    codes "188 void\n" ++
    codes "190 void\n" ++
    codes "192 void\n" ++
    codes "194 void\n" ++
    codes "196 void\n" ++
    codes "198 void\n" ++
    codes "200 void\n" ++
    codes "202 void\n" ++
    codes "204 void\n" ++
    codes "206 void\n" ++
    codes "208 void\n" ++
    codes "210 void\n" ++
    codes "212 void\n" ++
    codes "214 void\n" ++
    codes "216 void\n" ++
    codes "218 void\n" ++
    codes "220 void\n" ++
    codes "222 void\n" ++
    codes "224 void\n" ++
    codes "226 void\n" ++
    codes "228 void\n" ++
    codes "230 void\n" ++
    codes "232 void\n" ++
    codes "234 void\n" ++
    codes "236 void\n" ++
    codes "238 void\n" ++
    codes "240 void\n" ++
    codes "242 void\n" ++
    codes "243 stopped 1 fault\n" ++
    codes "244 up 2 2\n" ++
    codes "245 up 3 2\n" ++
    codes "247 join 3 e1.3.2 2:2,3:2\n" ++
    codes "247 join 2 e1.3.2 2:2,3:2\n" ++
    codes "247 start e1.3.2 0 1=0.0\n" ++
    []

pub runs : printed (run lines) ≡ written
unfolding digits encode_with
runs = refl
