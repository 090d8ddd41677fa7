-- The run of a recorded schedule of 51 lines, to the whole text of its trace, 165 records.
use Rattle.std.specs.Prelude.{◌≡◌, refl, ℕ, List, [], ◌∷◌, ◌++◌, Some, None, codes}
use Rattle.trace_book.specs.declared.call.Call.TheVariants as call
use Rattle.trace_book.specs.declared.call.OpenMode.TheVariants as how
use Rattle.schedule_lines.specs.declared.header.HeaderLine.TheVariants as header
use Rattle.schedule_lines.specs.declared.line.Line.TheVariants as line
use Rattle.schedule_lines.specs.declared.line.ScheduleLine.{ScheduleLine}
use Rattle.schedule_lines.specs.declared.line.ScheduleLine.TheVariants.{Header, Event}
use Rattle.std.specs.Fmt.{digits}
use Rattle.hex.specs.Hex.{encode_with}
use Rattle.the_run.specs.Runs.{run, printed}

abbrev lines : List ScheduleLine
lines =
    Header (header.Sites 3) ∷
    Header (header.Group 0 (record { 0 = 7 })) ∷
    Header (header.Group 1 (record { 0 = 6 })) ∷
    Header (header.Mount 1 (codes "usr")) ∷
    Event (line.Merge 1) ∷
    Event (line.Settle 1000) ∷
    Event (line.Call 1 1 (call.MakeDir (codes "/home"))) ∷
    Event (line.Settle 1000) ∷
    Event (line.Call 1 1 (call.Create (codes "/home/notes") None)) ∷
    Event (line.Settle 1000) ∷
    Event (line.Call 1 1 (call.Create (codes "/home/plan") (Some (record { 0 = 3 })))) ∷
    Event (line.Settle 1000) ∷
    Event (line.Call 2 1 (call.Create (codes "/usr/tool") None)) ∷
    Event (line.Settle 1000) ∷
    Event (line.Call 1 1 (call.Rename (codes "/home/plan") (codes "todo"))) ∷
    Event (line.Settle 1000) ∷
    Event (line.Call 3 1 (call.List (codes "/"))) ∷
    Event (line.Settle 1000) ∷
    Event (line.Call 3 1 (call.List (codes "/home"))) ∷
    Event (line.Settle 1000) ∷
    Event (line.Call 1 1 (call.List (codes "/usr"))) ∷
    Event (line.Settle 1000) ∷
    Event (line.Call 3 1 (call.Stat (codes "/home/todo"))) ∷
    Event (line.Settle 1000) ∷
    Event (line.Call 1 1 (call.RemoveDir (codes "/home"))) ∷
    Event (line.Settle 1000) ∷
    Event (line.Call 1 1 (call.Open (codes "/home") how.Read)) ∷
    Event (line.Settle 1000) ∷
    Event (line.Call 1 1 (call.List (codes "/home/notes/x"))) ∷
    Event (line.Settle 1000) ∷
    Event (line.Call 1 1 (call.Stat (codes "/tmp"))) ∷
    Event (line.Settle 1000) ∷
    Event (line.Call 1 1 (call.Create (codes "/usr") None)) ∷
    Event (line.Settle 1000) ∷
    Event (line.Down 1 3) ∷
    Event (line.Down 2 3) ∷
    Event (line.Part 1) ∷
    Event (line.Part 3) ∷
    Event (line.Settle 1000) ∷
    Event (line.Call 3 1 (call.Open (codes "/home/todo") how.Read)) ∷
    Event (line.Settle 1000) ∷
    Event (line.Call 3 1 (call.Create (codes "/home/draft") None)) ∷
    Event (line.Settle 1000) ∷
    Event (line.Call 1 1 (call.Unlink (codes "/home/todo"))) ∷
    Event (line.Settle 1000) ∷
    Event (line.Up 1 3) ∷
    Event (line.Up 2 3) ∷
    Event (line.Merge 1) ∷
    Event (line.Settle 1000) ∷
    Event (line.Call 2 1 (call.List (codes "/home"))) ∷
    Event (line.Settle 1000) ∷
    []

abbrev written : List ℕ
written =
    codes "6 join 1 e1.1.1 1:1,2:1,3:1\n" ++
    codes "6 join 2 e1.1.1 1:1,2:1,3:1\n" ++
    codes "6 join 3 e1.1.1 1:1,2:1,3:1\n" ++
    codes "6 start e1.1.1 0 1=0.0\n" ++
    codes "6 start e1.1.1 1 1=0.0\n" ++
    codes "7 call 1 1 c1.1.1 mkdir /home\n" ++
    codes "8 grant e1.1.1 c1.1.1 1 i1.1 w 0.1 0.0 1\n" ++
    codes "8 act e1.1.1 i1.1 1 probe home ok\n" ++
    codes "8 grant e1.1.1 c1.1.1 3 i1.2 n 0.2 - 1\n" ++
    codes "8 commit 0.2 1 1.1 - -\n" ++
    codes "8 release e1.1.1 i1.2 0.2 1.1\n" ++
    codes "8 adopt 0.2 2 1.1\n" ++
    codes "8 adopt 0.2 3 1.1\n" ++
    codes "8 act e1.1.1 i1.1 2 insert home 2 d ok\n" ++
    codes "8 commit 0.1 1 1.1 0.0 04686f6d6500020200000001\n" ++
    codes "8 release e1.1.1 i1.1 0.1 1.1\n" ++
    codes "8 reply 1 1 c1.1.1 ok 2\n" ++
    codes "8 adopt 0.1 2 1.1\n" ++
    codes "8 adopt 0.1 3 1.1\n" ++
    codes "9 call 1 1 c1.1.2 create /home/notes\n" ++
    codes "10 look e1.1.1 c1.1.2 1 0.1 name home 1.1\n" ++
    codes "10 grant e1.1.1 c1.1.2 2 i1.3 w 0.2 1.1 1\n" ++
    codes "10 act e1.1.1 i1.3 1 probe notes ok\n" ++
    codes "10 grant e1.1.1 c1.1.2 4 i1.4 n 0.3 - 1\n" ++
    codes "10 commit 0.3 1 1.1 - -\n" ++
    codes "10 release e1.1.1 i1.4 0.3 1.1\n" ++
    codes "10 adopt 0.3 2 1.1\n" ++
    codes "10 adopt 0.3 3 1.1\n" ++
    codes "10 act e1.1.1 i1.3 2 insert notes 3 f ok\n" ++
    codes "10 commit 0.2 1 1.2 1.1 056e6f74657300030100000001\n" ++
    codes "10 release e1.1.1 i1.3 0.2 1.2\n" ++
    codes "10 reply 1 1 c1.1.2 ok 3\n" ++
    codes "10 adopt 0.2 2 1.2\n" ++
    codes "10 adopt 0.2 3 1.2\n" ++
    codes "11 call 1 1 c1.1.3 create /home/plan 1,2\n" ++
    codes "12 look e1.1.1 c1.1.3 1 0.1 name home 1.1\n" ++
    codes "12 grant e1.1.1 c1.1.3 2 i1.5 w 0.2 1.2 1\n" ++
    codes "12 act e1.1.1 i1.5 1 probe plan ok\n" ++
    codes "12 grant e1.1.1 c1.1.3 4 i1.6 n 0.4 - 1\n" ++
    codes "12 commit 0.4 1 1.1 - -\n" ++
    codes "12 release e1.1.1 i1.6 0.4 1.1\n" ++
    codes "12 adopt 0.4 2 1.1\n" ++
    codes "12 act e1.1.1 i1.5 2 insert plan 4 f ok\n" ++
    codes "12 commit 0.2 1 1.3 1.2 056e6f7465730003010000000104706c616e00040100000001\n" ++
    codes "12 release e1.1.1 i1.5 0.2 1.3\n" ++
    codes "12 reply 1 1 c1.1.3 ok 4\n" ++
    codes "12 adopt 0.2 2 1.3\n" ++
    codes "12 adopt 0.2 3 1.3\n" ++
    codes "13 call 2 1 c2.1.1 create /usr/tool\n" ++
    codes "14 grant e1.1.1 c2.1.1 1 i2.1 w 1.1 0.0 2\n" ++
    codes "14 act e1.1.1 i2.1 1 probe tool ok\n" ++
    codes "14 grant e1.1.1 c2.1.1 3 i2.2 n 1.65 - 2\n" ++
    codes "14 commit 1.65 2 2.1 - -\n" ++
    codes "14 release e1.1.1 i2.2 1.65 2.1\n" ++
    codes "14 adopt 1.65 3 2.1\n" ++
    codes "14 act e1.1.1 i2.1 2 insert tool 65 f ok\n" ++
    codes "14 commit 1.1 2 2.1 0.0 04746f6f6c00410100000001\n" ++
    codes "14 release e1.1.1 i2.1 1.1 2.1\n" ++
    codes "14 reply 2 1 c2.1.1 ok 65\n" ++
    codes "14 adopt 1.1 3 2.1\n" ++
    codes "15 call 1 1 c1.1.4 rename /home/plan todo\n" ++
    codes "16 look e1.1.1 c1.1.4 1 0.1 name home 1.1\n" ++
    codes "16 grant e1.1.1 c1.1.4 2 i1.7 w 0.2 1.3 1\n" ++
    codes "16 act e1.1.1 i1.7 1 rename plan todo ok\n" ++
    codes "16 commit 0.2 1 1.4 1.3 056e6f7465730003010000000104706c616e000401000000020000000000000000000000000000000000000000000000000000000000000000000000000000000000000000000000000000000000000000000000000000000004746f646f00040100000001\n" ++
    codes "16 release e1.1.1 i1.7 0.2 1.4\n" ++
    codes "16 reply 1 1 c1.1.4 ok\n" ++
    codes "16 adopt 0.2 2 1.4\n" ++
    codes "16 adopt 0.2 3 1.4\n" ++
    codes "17 call 3 1 c3.1.1 list /\n" ++
    codes "18 look e1.1.1 c3.1.1 1 0.1 list 1.1\n" ++
    codes "18 reply 3 1 c3.1.1 ok home usr\n" ++
    codes "19 call 3 1 c3.1.2 list /home\n" ++
    codes "20 look e1.1.1 c3.1.2 1 0.1 name home 1.1\n" ++
    codes "20 look e1.1.1 c3.1.2 2 0.2 list 1.4\n" ++
    codes "20 reply 3 1 c3.1.2 ok notes todo\n" ++
    codes "21 call 1 1 c1.1.5 list /usr\n" ++
    codes "22 look e1.1.1 c1.1.5 1 1.1 list 2.1\n" ++
    codes "22 reply 1 1 c1.1.5 ok tool\n" ++
    codes "23 call 3 1 c3.1.3 stat /home/todo\n" ++
    codes "24 look e1.1.1 c3.1.3 1 0.1 name home 1.1\n" ++
    codes "24 look e1.1.1 c3.1.3 2 0.2 name todo 1.4\n" ++
    codes "24 look e1.1.1 c3.1.3 3 0.4 stat 1.1\n" ++
    codes "24 reply 3 1 c3.1.3 ok f 0.4 0 1.1\n" ++
    codes "25 call 1 1 c1.1.6 rmdir /home\n" ++
    codes "26 grant e1.1.1 c1.1.6 1 i1.8 w 0.1 1.1 1\n" ++
    codes "26 act e1.1.1 i1.8 1 find home ok 2 d\n" ++
    codes "26 grant e1.1.1 c1.1.6 3 i1.9 w 0.2 1.4 1\n" ++
    codes "26 act e1.1.1 i1.9 1 empty notempty notes\n" ++
    codes "26 release e1.1.1 i1.8 0.1 -\n" ++
    codes "26 release e1.1.1 i1.9 0.2 -\n" ++
    codes "26 reply 1 1 c1.1.6 notempty notes\n" ++
    codes "27 call 1 1 c1.1.7 open /home r\n" ++
    codes "28 look e1.1.1 c1.1.7 1 0.1 name home 1.1\n" ++
    codes "28 reply 1 1 c1.1.7 isdir\n" ++
    codes "29 call 1 1 c1.1.8 list /home/notes/x\n" ++
    codes "30 look e1.1.1 c1.1.8 1 0.1 name home 1.1\n" ++
    codes "30 look e1.1.1 c1.1.8 2 0.2 name notes 1.4\n" ++
    codes "30 reply 1 1 c1.1.8 notdir notes\n" ++
    codes "31 call 1 1 c1.1.9 stat /tmp\n" ++
    codes "32 look e1.1.1 c1.1.9 1 0.1 name tmp 1.1\n" ++
    codes "32 reply 1 1 c1.1.9 absent tmp\n" ++
    codes "33 call 1 1 c1.1.10 create /usr\n" ++
    codes "33 reply 1 1 c1.1.10 badname\n" ++
    codes "37 leave 1 e1.1.1\n" ++
    codes "38 leave 3 e1.1.1\n" ++
    codes "38 join 3 e2.3.1 3:1\n" ++
    codes "39 leave 2 e1.1.1\n" ++
    codes "39 start e2.3.1 0 1=1.1 2=1.4 3=1.1\n" ++
    codes "39 start e2.3.1 1 1=2.1 65=2.1\n" ++
    codes "39 join 1 e2.1.1 1:1,2:1\n" ++
    codes "39 join 2 e2.1.1 1:1,2:1\n" ++
    codes "39 start e2.1.1 0 1=1.1 2=1.4 3=1.1 4=1.1\n" ++
    codes "39 start e2.1.1 1 1=2.1 65=2.1\n" ++
    codes "40 call 3 1 c3.1.4 open /home/todo r\n" ++
    codes "41 look e2.3.1 c3.1.4 1 0.1 name home 1.1\n" ++
    codes "41 look e2.3.1 c3.1.4 2 0.2 name todo 1.4\n" ++
    codes "41 refuse e2.3.1 c3.1.4 3 i3.1 r 0.4 nostorage\n" ++
    codes "41 reply 3 1 c3.1.4 nostorage\n" ++
    codes "42 call 3 1 c3.1.5 create /home/draft\n" ++
    codes "43 look e2.3.1 c3.1.5 1 0.1 name home 1.1\n" ++
    codes "43 grant e2.3.1 c3.1.5 2 i3.2 w 0.2 1.4 3\n" ++
    codes "43 act e2.3.1 i3.2 1 probe draft ok\n" ++
    codes "43 grant e2.3.1 c3.1.5 4 i3.3 n 0.129 - 3\n" ++
    codes "43 commit 0.129 3 3.1 - -\n" ++
    codes "43 release e2.3.1 i3.3 0.129 3.1\n" ++
    codes "43 act e2.3.1 i3.2 2 insert draft 129 f ok\n" ++
    codes "43 commit 0.2 3 3.1 1.4 05647261667400810100000001056e6f7465730003010000000104706c616e000401000000020000000000000000000000000000000000000000000000000000000000000000000000000000000000000000000000000000000000000000000000000000000004746f646f00040100000001\n" ++
    codes "43 release e2.3.1 i3.2 0.2 3.1\n" ++
    codes "43 reply 3 1 c3.1.5 ok 129\n" ++
    codes "44 call 1 1 c1.1.11 unlink /home/todo\n" ++
    codes "45 look e2.1.1 c1.1.11 1 0.1 name home 1.1\n" ++
    codes "45 grant e2.1.1 c1.1.11 2 i1.10 w 0.2 1.4 1\n" ++
    codes "45 act e2.1.1 i1.10 1 find todo ok 4 f\n" ++
    codes "45 grant e2.1.1 c1.1.11 4 i1.11 w 0.4 1.1 1\n" ++
    codes "45 act e2.1.1 i1.10 2 remove todo 4 ok\n" ++
    codes "45 commit 0.2 1 1.5 1.4 056e6f7465730003010000000104706c616e000401000000020000000000000000000000000000000000000000000000000000000000000000000000000000000000000000000000000000000000000000000000000000000004746f646f0004010000000200000001000000000000000000000000000000000000000000000000000000000000000000000000000000000000000000000000000000000000000000000000\n" ++
    codes "45 release e2.1.1 i1.10 0.2 1.5\n" ++
    codes "45 release e2.1.1 i1.11 0.4 -\n" ++
    codes "45 adopt 0.2 2 1.5\n" ++
    codes "45 reply 1 1 c1.1.11 ok\n" ++
    codes "48 leave 1 e2.1.1\n" ++
    codes "49 leave 2 e2.1.1\n" ++
    codes "49 leave 3 e2.3.1\n" ++
    codes "49 join 1 e3.1.1 1:1,2:1,3:1\n" ++
    codes "49 join 2 e3.1.1 1:1,2:1,3:1\n" ++
    codes "49 join 3 e3.1.1 1:1,2:1,3:1\n" ++
    codes "49 start e3.1.1 0 1=1.1 2=1.5 2=3.1 3=1.1 4=1.1 129=3.1\n" ++
    codes "49 call 1 0 c1.1.12 mend 0.2\n" ++
    codes "49 start e3.1.1 1 1=2.1 65=2.1\n" ++
    codes "49 grant e3.1.1 c1.1.12 1 i1.12 m 0.2 1.5 1\n" ++
    codes "49 adopt 0.129 1 3.1\n" ++
    codes "49 adopt 0.129 2 3.1\n" ++
    codes "49 look e3.1.1 c1.1.12 2 0.2 whole 1.5\n" ++
    codes "49 look e3.1.1 c1.1.12 3 0.2 whole 3.1\n" ++
    codes "49 act e3.1.1 i1.12 1 mend ok\n" ++
    codes "49 commit 0.2 1 1.6 1.5,3.1 05647261667400810100000001056e6f7465730003010000000104706c616e000401000000020000000000000000000000000000000000000000000000000000000000000000000000000000000000000000000000000000000000000000000000000000000004746f646f0004010000000200000001000000000000000000000000000000000000000000000000000000000000000000000000000000000000000000000000000000000000000000000000\n" ++
    codes "49 release e3.1.1 i1.12 0.2 1.6\n" ++
    codes "49 reply 1 0 c1.1.12 ok 1.6\n" ++
    codes "49 adopt 0.2 2 1.6\n" ++
    codes "49 adopt 0.2 3 1.6\n" ++
    codes "50 call 2 1 c2.1.2 list /home\n" ++
    codes "51 look e3.1.1 c2.1.2 1 0.1 name home 1.1\n" ++
    codes "51 look e3.1.1 c2.1.2 2 0.2 list 1.6\n" ++
    codes "51 reply 2 1 c2.1.2 ok draft notes\n" ++
    []

pub runs : printed (run lines) ≡ written
unfolding digits encode_with
runs = refl
