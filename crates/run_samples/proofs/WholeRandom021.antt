-- The run of a recorded schedule of 229 lines, to the whole text of its trace, 174 records.
use Rattle.std.specs.Prelude.{◌≡◌, refl, ℕ, List, [], ◌∷◌, ◌++◌, Some, None, codes}
use Rattle.trace_book.specs.declared.call.Call.TheVariants as call
use Rattle.trace_book.specs.declared.call.OpenMode.TheVariants as how
use Rattle.schedule_lines.specs.declared.header.HeaderLine.TheVariants as header
use Rattle.schedule_lines.specs.declared.line.Line.TheVariants as line
use Rattle.schedule_lines.specs.declared.line.ScheduleLine.{ScheduleLine}
use Rattle.schedule_lines.specs.declared.line.ScheduleLine.TheVariants.{Header, Event}
use Rattle.std.specs.Fmt.{digits}
use Rattle.hex.specs.Hex.{encode_with}
use Rattle.the_run.specs.Runs.{run, printed}

abbrev lines : List ScheduleLine
lines =
    Header (header.Sites 3) ∷
    Header (header.Group 0 (record { 0 = 7 })) ∷
    Event (line.Merge 3) ∷
    Event (line.Settle 262144) ∷
    Event (line.Settle 17) ∷
    Event (line.Deliver 11) ∷
    Event (line.Deliver 19) ∷
    Event (line.Lose 19) ∷
    Event (line.Deliver 3) ∷
    Event (line.Call 3 2 (call.RemoveDir (codes "/"))) ∷
    Event (line.Call 1 2 (call.RemoveDir (codes "/"))) ∷
    Event (line.Tick 1) ∷
    Event (line.Merge 1) ∷
    Event (line.Settle 262144) ∷
    Event (line.Settle 262144) ∷
    Event (line.Deliver 35) ∷
    Event (line.Lose 39) ∷
    Event (line.Lose 16) ∷
    Event (line.Lose 20) ∷
    Event (line.Deliver 40) ∷
    Event (line.Deliver 23) ∷
    Event (line.Call 2 1 (call.Rename (codes "/a") (codes "b"))) ∷
    Event (line.Deliver 40) ∷
    Event (line.Tick 1) ∷
    Event (line.Settle 14) ∷
    Event (line.Deliver 18) ∷
    Event (line.Deliver 51) ∷
    Event (line.Deliver 54) ∷
    Event (line.Deliver 25) ∷
    Event (line.Deliver 32) ∷
    Event (line.Call 2 2 (call.Stat (codes "/d"))) ∷
    Event (line.Tick 3) ∷
    Event (line.Deliver 42) ∷
    Event (line.Call 2 1 (call.List (codes "/d"))) ∷
    Event (line.Call 1 2 (call.List (codes "/h"))) ∷
    Event (line.Lose 55) ∷
    Event (line.Tick 2) ∷
    Event (line.Call 2 3 (call.Create (codes "/a") None)) ∷
    Event (line.Lose 59) ∷
    Event (line.Deliver 58) ∷
    Event (line.Call 1 1 (call.Open (codes "/b") how.Write)) ∷
    Event (line.Call 1 3 (call.MakeDir (codes "/d"))) ∷
    Event (line.Deliver 62) ∷
    Event (line.Tick 3) ∷
    Event (line.Call 2 4 (call.Rename (codes "/d/b") (codes "a"))) ∷
    Event (line.Call 3 2 (call.Open (codes "/h/b") how.Write)) ∷
    Event (line.Lose 56) ∷
    Event (line.Call 1 4 (call.Stat (codes "/h/a"))) ∷
    Event (line.Call 2 5 (call.Create (codes "/d/b") None)) ∷
    Event (line.Call 3 1 (call.Open (codes "/a") how.Write)) ∷
    Event (line.Tick 2) ∷
    Event (line.Call 3 3 (call.Open (codes "/d/s/a") how.Write)) ∷
    Event (line.Deliver 57) ∷
    Event (line.Call 3 2 (call.MakeDir (codes "/d/s"))) ∷
    Event (line.Call 2 6 (call.Open (codes "/d/s/b") how.Read)) ∷
    Event (line.Call 2 7 (call.Open (codes "/a") how.Write)) ∷
    Event (line.Deliver 60) ∷
    Event (line.Deliver 61) ∷
    Event (line.Deliver 64) ∷
    Event (line.Lose 63) ∷
    Event (line.Settle 5) ∷
    Event (line.Deliver 70) ∷
    Event (line.Deliver 74) ∷
    Event (line.Deliver 77) ∷
    Event (line.Lose 103) ∷
    Event (line.Lose 101) ∷
    Event (line.Deliver 56) ∷
    Event (line.Deliver 87) ∷
    Event (line.Deliver 86) ∷
    Event (line.Deliver 93) ∷
    Event (line.Deliver 71) ∷
    Event (line.Settle 12) ∷
    Event (line.Lose 88) ∷
    Event (line.Call 1 1 (call.Open (codes "/h/a") how.Write)) ∷
    Event (line.Deliver 89) ∷
    Event (line.Deliver 114) ∷
    Event (line.Deliver 62) ∷
    Event (line.Lose 90) ∷
    Event (line.Deliver 91) ∷
    Event (line.Call 3 4 (call.MakeDir (codes "/h"))) ∷
    Event (line.Call 2 1 (call.Create (codes "/b") (Some (record { 0 = 3 })))) ∷
    Event (line.Deliver 123) ∷
    Event (line.Tick 3) ∷
    Event (line.Deliver 92) ∷
    Event (line.Deliver 99) ∷
    Event (line.Lose 112) ∷
    Event (line.Deliver 109) ∷
    Event (line.Settle 11) ∷
    Event (line.Deliver 108) ∷
    Event (line.Deliver 120) ∷
    Event (line.Deliver 93) ∷
    Event (line.Lose 110) ∷
    Event (line.Deliver 170) ∷
    Event (line.Deliver 159) ∷
    Event (line.Lose 111) ∷
    Event (line.Call 2 8 (call.Create (codes "/b") None)) ∷
    Event (line.Settle 10) ∷
    Event (line.Call 2 2 (call.MakeDir (codes "/usr/h"))) ∷
    Event (line.Call 3 5 (call.Open (codes "/d/a") (how.Resolve 2))) ∷
    Event (line.Deliver 126) ∷
    Event (line.Lose 165) ∷
    Event (line.Deliver 161) ∷
    Event (line.Deliver 127) ∷
    Event (line.Deliver 31) ∷
    Event (line.Deliver 128) ∷
    Event (line.Deliver 129) ∷
    Event (line.Deliver 202) ∷
    Event (line.Deliver 192) ∷
    Event (line.Lose 130) ∷
    Event (line.Deliver 181) ∷
    Event (line.Lose 212) ∷
    Event (line.Deliver 185) ∷
    Event (line.Deliver 131) ∷
    Event (line.Settle 5) ∷
    Event (line.Deliver 137) ∷
    Event (line.Deliver 228) ∷
    Event (line.Lose 210) ∷
    Event (line.Deliver 220) ∷
    Event (line.Deliver 144) ∷
    Event (line.Deliver 138) ∷
    Event (line.Deliver 203) ∷
    Event (line.Lose 200) ∷
    Event (line.Deliver 139) ∷
    Event (line.Tick 2) ∷
    Event (line.Call 1 2 (call.Open (codes "/a") how.Write)) ∷
    Event (line.Call 3 3 (call.Open (codes "/b") (how.Resolve 2))) ∷
    Event (line.Deliver 140) ∷
    Event (line.Deliver 141) ∷
    Event (line.Deliver 142) ∷
    Event (line.Deliver 231) ∷
    Event (line.Deliver 218) ∷
    Event (line.Call 1 5 (call.Stat (codes "/d/s/a"))) ∷
    Event (line.Deliver 143) ∷
    Event (line.Deliver 14) ∷
    Event (line.Deliver 145) ∷
    Event (line.Deliver 205) ∷
    Event (line.Call 2 4 (call.Open (codes "/a") how.Read)) ∷
    Event (line.Settle 262144) ∷
    Event (line.Deliver 119) ∷
    Event (line.Lose 434) ∷
    Event (line.Deliver 324) ∷
    Event (line.Deliver 435) ∷
    Event (line.Call 1 2 (call.Create (codes "/h/a") None)) ∷
    Event (line.Call 1 1 (call.List (codes "/"))) ∷
    Event (line.Deliver 31) ∷
    Event (line.Deliver 415) ∷
    Event (line.Deliver 318) ∷
    Event (line.Deliver 436) ∷
    Event (line.Deliver 197) ∷
    Event (line.Deliver 386) ∷
    Event (line.Deliver 437) ∷
    Event (line.Deliver 438) ∷
    Event (line.Deliver 439) ∷
    Event (line.Call 1 2 (call.Open (codes "/a") how.Read)) ∷
    Event (line.Settle 18) ∷
    Event (line.Deliver 2) ∷
    Event (line.Deliver 451) ∷
    Event (line.Deliver 61) ∷
    Event (line.Deliver 452) ∷
    Event (line.Deliver 441) ∷
    Event (line.Call 2 1 (call.List (codes "/usr"))) ∷
    Event (line.Call 1 2 (call.Stat (codes "/usr"))) ∷
    Event (line.Call 2 2 (call.Open (codes "/a") (how.Resolve 3))) ∷
    Event (line.Deliver 69) ∷
    Event (line.Deliver 454) ∷
    Event (line.Deliver 456) ∷
    Event (line.Deliver 457) ∷
    Event (line.Deliver 453) ∷
    Event (line.Deliver 460) ∷
    Event (line.Deliver 455) ∷
    Event (line.Deliver 230) ∷
    Event (line.Call 1 1 (call.Open (codes "/a") how.Read)) ∷
    Event (line.Deliver 458) ∷
    Event (line.Deliver 459) ∷
    Event (line.Deliver 463) ∷
    Event (line.Deliver 462) ∷
    Event (line.Deliver 461) ∷
    Event (line.Deliver 464) ∷
    Event (line.Deliver 466) ∷
    Event (line.Call 1 2 (call.Create (codes "/d/s/b") None)) ∷
    Event (line.Deliver 465) ∷
    Event (line.Deliver 467) ∷
    Event (line.Call 3 2 (call.Open (codes "/a") how.Write)) ∷
    Event (line.Call 1 2 (call.Create (codes "/b") None)) ∷
    Event (line.Call 2 1 (call.Open (codes "/a") how.Write)) ∷
    Event (line.Lose 468) ∷
    Event (line.Deliver 469) ∷
    Event (line.Deliver 470) ∷
    Event (line.Deliver 471) ∷
    Event (line.Deliver 308) ∷
    Event (line.Deliver 473) ∷
    Event (line.Deliver 474) ∷
    Event (line.Settle 17) ∷
    Event (line.Call 2 2 (call.Open (codes "/a") how.Write)) ∷
    Event (line.Call 2 3 (call.Stat (codes "/h"))) ∷
    Event (line.Call 3 1 (call.Open (codes "/a") how.Write)) ∷
    Event (line.Call 2 4 (call.Create (codes "/usr/a") None)) ∷
    Event (line.Deliver 491) ∷
    Event (line.Deliver 492) ∷
    Event (line.Deliver 497) ∷
    Event (line.Settle 14) ∷
    Event (line.Call 3 2 (call.Create (codes "/b") None)) ∷
    Event (line.Deliver 508) ∷
    Event (line.Deliver 516) ∷
    Event (line.Deliver 509) ∷
    Event (line.Deliver 510) ∷
    Event (line.Deliver 511) ∷
    Event (line.Lose 519) ∷
    Event (line.Deliver 512) ∷
    Event (line.Deliver 513) ∷
    Event (line.Deliver 514) ∷
    Event (line.Call 2 2 (call.Open (codes "/a") (how.Resolve 2))) ∷
    Event (line.Call 2 2 (call.Open (codes "/a") how.Write)) ∷
    Event (line.Deliver 244) ∷
    Event (line.Lose 280) ∷
    Event (line.Deliver 524) ∷
    Event (line.Call 2 1 (call.MakeDir (codes "/usr/h"))) ∷
    Event (line.Deliver 515) ∷
    Event (line.Lose 517) ∷
    Event (line.Settle 15) ∷
    Event (line.Merge 1) ∷
    Event (line.Settle 262144) ∷
    Event (line.Settle 262144) ∷
    Event (line.Settle 262144) ∷
    Event (line.Settle 262144) ∷
    Event (line.Settle 262144) ∷
    Event (line.Settle 262144) ∷
    Event (line.Settle 262144) ∷
    Event (line.Settle 262144) ∷
    []

abbrev written : List ℕ
written =
    codes "4 join 3 e1.3.1 1:1,2:1,3:1\n" ++
    codes "4 join 1 e1.3.1 1:1,2:1,3:1\n" ++
    codes "4 join 2 e1.3.1 1:1,2:1,3:1\n" ++
    codes "4 start e1.3.1 0 1=0.0\n" ++
    codes "10 call 3 2 c3.1.1 rmdir /\n" ++
    codes "10 reply 3 2 c3.1.1 badname\n" ++
    codes "11 call 1 2 c1.1.1 rmdir /\n" ++
    codes "11 reply 1 2 c1.1.1 badname\n" ++
    codes "13 leave 1 e1.3.1\n" ++
    codes "14 leave 2 e1.3.1\n" ++
    codes "14 leave 3 e1.3.1\n" ++
    codes "14 join 1 e2.1.1 1:1,2:1,3:1\n" ++
    codes "14 join 2 e2.1.1 1:1,2:1,3:1\n" ++
    codes "14 join 3 e2.1.1 1:1,2:1,3:1\n" ++
    codes "14 start e2.1.1 0 1=0.0\n" ++
    codes "20 void\n" ++
    codes "22 call 2 1 c2.1.1 rename /a b\n" ++
    codes "25 grant e2.1.1 c2.1.1 1 i2.1 w 0.1 0.0 2\n" ++
    codes "25 act e2.1.1 i2.1 1 rename a b absent a\n" ++
    codes "25 release e2.1.1 i2.1 0.1 -\n" ++
    codes "25 reply 2 1 c2.1.1 absent a\n" ++
    codes "31 call 2 2 c2.1.2 stat /d\n" ++
    codes "34 call 2 1 c2.1.3 list /d\n" ++
    codes "35 call 1 2 c1.1.2 list /h\n" ++
    codes "38 call 2 3 c2.1.4 create /a\n" ++
    codes "40 look e2.1.1 c2.1.3 1 0.1 name d 0.0\n" ++
    codes "41 call 1 1 c1.1.3 open /b w\n" ++
    codes "42 call 1 3 c1.1.4 mkdir /d\n" ++
    codes "43 look e2.1.1 c1.1.3 1 0.1 name b 0.0\n" ++
    codes "45 call 2 4 c2.1.5 rename /d/b a\n" ++
    codes "46 call 3 2 c3.1.2 open /h/b w\n" ++
    codes "48 call 1 4 c1.1.5 stat /h/a\n" ++
    codes "49 call 2 5 c2.1.6 create /d/b\n" ++
    codes "50 call 3 1 c3.1.3 open /a w\n" ++
    codes "52 call 3 3 c3.1.4 open /d/s/a w\n" ++
    codes "53 look e2.1.1 c1.1.2 1 0.1 name h 0.0\n" ++
    codes "54 void\n" ++
    codes "55 call 2 6 c2.1.7 open /d/s/b r\n" ++
    codes "56 call 2 7 c2.1.8 open /a w\n" ++
    codes "57 grant e2.1.1 c2.1.4 1 i2.2 w 0.1 0.0 2\n" ++
    codes "61 look e2.1.1 c2.1.5 1 0.1 name d 0.0\n" ++
    codes "61 look e2.1.1 c3.1.2 1 0.1 name h 0.0\n" ++
    codes "61 look e2.1.1 c1.1.5 1 0.1 name h 0.0\n" ++
    codes "61 look e2.1.1 c2.1.6 1 0.1 name d 0.0\n" ++
    codes "61 look e2.1.1 c3.1.3 1 0.1 name a 0.0\n" ++
    codes "61 budget\n" ++
    codes "64 look e2.1.1 c2.1.7 1 0.1 name d 0.0\n" ++
    codes "67 void\n" ++
    codes "68 look e2.1.1 c2.1.2 1 0.1 name d 0.0\n" ++
    codes "72 look e2.1.1 c3.1.4 1 0.1 name d 0.0\n" ++
    codes "72 look e2.1.1 c2.1.8 1 0.1 name a 0.0\n" ++
    codes "72 reply 2 1 c2.1.3 absent d\n" ++
    codes "72 reply 1 1 c1.1.3 absent b\n" ++
    codes "72 refuse e2.1.1 c1.1.4 1 i1.1 w 0.1 busy 2 3\n" ++
    codes "72 budget\n" ++
    codes "74 call 1 1 c1.1.6 open /h/a w\n" ++
    codes "80 call 3 4 c3.1.5 mkdir /h\n" ++
    codes "81 call 2 1 c2.1.9 create /b 1,2\n" ++
    codes "88 budget\n" ++
    codes "96 call 2 8 c2.1.10 create /b\n" ++
    codes "97 reply 1 2 c1.1.2 absent h\n" ++
    codes "97 budget\n" ++
    codes "98 void\n" ++
    codes "99 call 3 5 c3.1.6 open /d/a x 2\n" ++
    codes "102 refuse e2.1.1 c3.1.5 1 i3.1 w 0.1 busy 2 3\n" ++
    codes "107 reply 3 3 c3.1.4 absent d\n" ++
    codes "111 void\n" ++
    codes "114 look e2.1.1 c1.1.6 1 0.1 name h 0.0\n" ++
    codes "114 budget\n" ++
    codes "116 look e2.1.1 c3.1.6 1 0.1 name d 0.0\n" ++
    codes "120 refuse e2.1.1 c2.1.9 1 i2.3 w 0.1 busy 2 3\n" ++
    codes "123 reply 2 4 c2.1.5 absent d\n" ++
    codes "125 call 1 2 c1.1.7 open /a w\n" ++
    codes "126 call 3 3 c3.1.7 open /b x 2\n" ++
    codes "132 call 1 5 c1.1.8 stat /d/s/a\n" ++
    codes "135 reply 2 5 c2.1.6 absent d\n" ++
    codes "136 reply 3 4 c3.1.5 busy 2 3\n" ++
    codes "137 call 2 4 c2.1.11 open /a r\n" ++
    codes "138 reply 1 4 c1.1.5 absent h\n" ++
    codes "138 reply 3 1 c3.1.3 absent a\n" ++
    codes "138 reply 2 2 c2.1.2 absent d\n" ++
    codes "138 refuse e2.1.1 c2.1.10 1 i2.4 w 0.1 busy 2 3\n" ++
    codes "138 reply 2 7 c2.1.8 absent a\n" ++
    codes "138 reply 2 6 c2.1.7 absent d\n" ++
    codes "138 reply 2 1 c2.1.9 busy 2 3\n" ++
    codes "138 look e2.1.1 c1.1.7 1 0.1 name a 0.0\n" ++
    codes "138 look e2.1.1 c3.1.7 1 0.1 name b 0.0\n" ++
    codes "138 look e2.1.1 c1.1.8 1 0.1 name d 0.0\n" ++
    codes "138 look e2.1.1 c2.1.11 1 0.1 name a 0.0\n" ++
    codes "138 reply 1 3 c1.1.4 busy 2 3\n" ++
    codes "138 reply 3 2 c3.1.2 absent h\n" ++
    codes "138 reply 2 8 c2.1.10 busy 2 3\n" ++
    codes "138 act e2.1.1 i2.2 1 probe a ok\n" ++
    codes "138 reply 1 1 c1.1.6 absent h\n" ++
    codes "138 reply 3 5 c3.1.6 absent d\n" ++
    codes "138 reply 1 2 c1.1.7 absent a\n" ++
    codes "138 reply 3 3 c3.1.7 absent b\n" ++
    codes "138 reply 1 5 c1.1.8 absent d\n" ++
    codes "138 reply 2 4 c2.1.11 absent a\n" ++
    codes "138 grant e2.1.1 c2.1.4 3 i2.5 n 0.65 - 2\n" ++
    codes "138 commit 0.65 2 2.1 - -\n" ++
    codes "138 release e2.1.1 i2.5 0.65 2.1\n" ++
    codes "138 adopt 0.65 1 2.1\n" ++
    codes "138 adopt 0.65 3 2.1\n" ++
    codes "138 act e2.1.1 i2.2 2 insert a 65 f ok\n" ++
    codes "138 commit 0.1 2 2.1 0.0 016100410100000001\n" ++
    codes "138 release e2.1.1 i2.2 0.1 2.1\n" ++
    codes "138 reply 2 3 c2.1.4 ok 65\n" ++
    codes "138 adopt 0.1 1 2.1\n" ++
    codes "138 adopt 0.1 3 2.1\n" ++
    codes "143 call 1 2 c1.1.9 create /h/a\n" ++
    codes "144 call 1 1 c1.1.10 list /\n" ++
    codes "154 void\n" ++
    codes "155 look e2.1.1 c1.1.9 1 0.1 name h 2.1\n" ++
    codes "155 look e2.1.1 c1.1.10 1 0.1 list 2.1\n" ++
    codes "155 reply 1 2 c1.1.9 absent h\n" ++
    codes "155 reply 1 1 c1.1.10 ok a\n" ++
    codes "161 call 2 1 c2.1.12 list /usr\n" ++
    codes "162 call 1 2 c1.1.11 stat /usr\n" ++
    codes "163 call 2 2 c2.1.13 open /a x 3\n" ++
    codes "169 look e2.1.1 c2.1.12 1 0.1 name usr 2.1\n" ++
    codes "172 call 1 1 c1.1.12 open /a r\n" ++
    codes "176 look e2.1.1 c2.1.13 1 0.1 name a 2.1\n" ++
    codes "177 look e2.1.1 c1.1.11 1 0.1 name usr 2.1\n" ++
    codes "180 void\n" ++
    codes "181 look e2.1.1 c1.1.12 1 0.1 name a 2.1\n" ++
    codes "183 call 3 2 c3.1.8 open /a w\n" ++
    codes "184 void\n" ++
    codes "185 void\n" ++
    codes "188 reply 2 1 c2.1.12 absent usr\n" ++
    codes "191 reply 1 2 c1.1.11 absent usr\n" ++
    codes "193 look e2.1.1 c3.1.8 1 0.1 name a 2.1\n" ++
    codes "193 grant e2.1.1 c1.1.12 2 i1.2 r 0.65 2.1 1\n" ++
    codes "193 refuse e2.1.1 c3.1.8 2 i3.2 w 0.65 busy 1 1\n" ++
    codes "193 reply 1 1 c1.1.12 ok 0\n" ++
    codes "193 budget\n" ++
    codes "194 void\n" ++
    codes "195 call 2 3 c2.1.14 stat /h\n" ++
    codes "196 call 3 1 c3.1.9 open /a w\n" ++
    codes "197 call 2 4 c2.1.15 create /usr/a\n" ++
    codes "198 refuse e2.1.1 c2.1.13 2 i2.6 x 0.65 busy 1 1\n" ++
    codes "199 reply 3 2 c3.1.8 busy 1 1\n" ++
    codes "200 void\n" ++
    codes "201 look e2.1.1 c2.1.14 1 0.1 name h 2.1\n" ++
    codes "201 look e2.1.1 c3.1.9 1 0.1 name a 2.1\n" ++
    codes "201 look e2.1.1 c2.1.15 1 0.1 name usr 2.1\n" ++
    codes "201 reply 2 2 c2.1.13 busy 1 1\n" ++
    codes "201 budget\n" ++
    codes "202 call 3 2 c3.1.10 create /b\n" ++
    codes "203 reply 2 3 c2.1.14 absent h\n" ++
    codes "204 void\n" ++
    codes "206 reply 2 4 c2.1.15 absent usr\n" ++
    codes "208 void\n" ++
    codes "210 grant e2.1.1 c3.1.10 1 i3.3 w 0.1 2.1 3\n" ++
    codes "211 refuse e2.1.1 c3.1.9 2 i3.4 w 0.65 busy 1 1\n" ++
    codes "212 call 2 2 c2.1.16 open /a x 2\n" ++
    codes "213 void\n" ++
    codes "216 void\n" ++
    codes "217 call 2 1 c2.1.17 mkdir /usr/h\n" ++
    codes "220 reply 3 1 c3.1.9 busy 1 1\n" ++
    codes "220 look e2.1.1 c2.1.17 1 0.1 name usr 2.1\n" ++
    codes "220 look e2.1.1 c2.1.16 1 0.1 name a 2.1\n" ++
    codes "220 budget\n" ++
    codes "221 leave 1 e2.1.1\n" ++
    codes "222 reply 2 1 c2.1.17 absent usr\n" ++
    codes "222 act e2.1.1 i3.3 1 probe b ok\n" ++
    codes "222 leave 2 e2.1.1\n" ++
    codes "222 reply 2 2 c2.1.16 changed e2.1.1\n" ++
    codes "222 leave 3 e2.1.1\n" ++
    codes "222 reply 3 2 c3.1.10 changed e2.1.1\n" ++
    codes "222 join 1 e3.1.1 1:1,2:1,3:1\n" ++
    codes "222 join 2 e3.1.1 1:1,2:1,3:1\n" ++
    codes "222 join 3 e3.1.1 1:1,2:1,3:1\n" ++
    codes "222 start e3.1.1 0 1=2.1 65=2.1\n" ++
    []

pub runs : printed (run lines) ≡ written
unfolding digits encode_with
runs = refl
