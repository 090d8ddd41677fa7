-- The run of a recorded schedule of 22 lines, to the whole text of its trace, 71 records.
use Rattle.std.specs.Prelude.{◌≡◌, refl, ℕ, List, [], ◌∷◌, ◌++◌, None, codes}
use Rattle.trace_book.specs.declared.call.Call.TheVariants as call
use Rattle.schedule_lines.specs.declared.header.HeaderLine.TheVariants as header
use Rattle.schedule_lines.specs.declared.line.Line.TheVariants as line
use Rattle.schedule_lines.specs.declared.line.ScheduleLine.{ScheduleLine}
use Rattle.schedule_lines.specs.declared.line.ScheduleLine.TheVariants.{Header, Event}
use Rattle.std.specs.Fmt.{digits}
use Rattle.hex.specs.Hex.{encode_with}
use Rattle.the_run.specs.Runs.{run, printed}

abbrev lines : List ScheduleLine
lines =
    Header (header.Sites 1) ∷
    Header (header.Group 0 (record { 0 = 1 })) ∷
    Event (line.Merge 1) ∷
    Event (line.Settle 1000) ∷
    Event (line.Call 1 1 (call.MakeDir (codes "/d"))) ∷
    Event (line.Settle 1000) ∷
    Event (line.Call 1 1 (call.Create (codes "/d/a") None)) ∷
    Event (line.Settle 1000) ∷
    Event (line.Call 1 1 (call.Rename (codes "/d/a") (codes "b"))) ∷
    Event (line.Settle 1000) ∷
    Event (line.Call 1 1 (call.Rename (codes "/d/b") (codes "a"))) ∷
    Event (line.Settle 1000) ∷
    Event (line.Call 1 1 (call.Rename (codes "/d/a") (codes "a"))) ∷
    Event (line.Settle 1000) ∷
    Event (line.Call 1 1 (call.Unlink (codes "/d"))) ∷
    Event (line.Settle 1000) ∷
    Event (line.Call 1 1 (call.Unlink (codes "/d/a"))) ∷
    Event (line.Settle 1000) ∷
    Event (line.Call 1 1 (call.RemoveDir (codes "/d"))) ∷
    Event (line.Settle 1000) ∷
    Event (line.Call 1 1 (call.List (codes "/"))) ∷
    Event (line.Settle 1000) ∷
    []

abbrev written : List ℕ
written =
    codes "3 join 1 e1.1.1 1:1\n" ++
    codes "4 start e1.1.1 0 1=0.0\n" ++
    codes "5 call 1 1 c1.1.1 mkdir /d\n" ++
    codes "6 grant e1.1.1 c1.1.1 1 i1.1 w 0.1 0.0 1\n" ++
    codes "6 act e1.1.1 i1.1 1 probe d ok\n" ++
    codes "6 grant e1.1.1 c1.1.1 3 i1.2 n 0.2 - 1\n" ++
    codes "6 commit 0.2 1 1.1 - -\n" ++
    codes "6 release e1.1.1 i1.2 0.2 1.1\n" ++
    codes "6 act e1.1.1 i1.1 2 insert d 2 d ok\n" ++
    codes "6 commit 0.1 1 1.1 0.0 016400020200000001\n" ++
    codes "6 release e1.1.1 i1.1 0.1 1.1\n" ++
    codes "6 reply 1 1 c1.1.1 ok 2\n" ++
    codes "7 call 1 1 c1.1.2 create /d/a\n" ++
    codes "8 look e1.1.1 c1.1.2 1 0.1 name d 1.1\n" ++
    codes "8 grant e1.1.1 c1.1.2 2 i1.3 w 0.2 1.1 1\n" ++
    codes "8 act e1.1.1 i1.3 1 probe a ok\n" ++
    codes "8 grant e1.1.1 c1.1.2 4 i1.4 n 0.3 - 1\n" ++
    codes "8 commit 0.3 1 1.1 - -\n" ++
    codes "8 release e1.1.1 i1.4 0.3 1.1\n" ++
    codes "8 act e1.1.1 i1.3 2 insert a 3 f ok\n" ++
    codes "8 commit 0.2 1 1.2 1.1 016100030100000001\n" ++
    codes "8 release e1.1.1 i1.3 0.2 1.2\n" ++
    codes "8 reply 1 1 c1.1.2 ok 3\n" ++
    codes "9 call 1 1 c1.1.3 rename /d/a b\n" ++
    codes "10 look e1.1.1 c1.1.3 1 0.1 name d 1.1\n" ++
    codes "10 grant e1.1.1 c1.1.3 2 i1.5 w 0.2 1.2 1\n" ++
    codes "10 act e1.1.1 i1.5 1 rename a b ok\n" ++
    codes "10 commit 0.2 1 1.3 1.2 01610003010000000200000000000000000000000000000000000000000000000000000000000000000000000000000000000000000000000000000000000000000000000000000000016200030100000001\n" ++
    codes "10 release e1.1.1 i1.5 0.2 1.3\n" ++
    codes "10 reply 1 1 c1.1.3 ok\n" ++
    codes "11 call 1 1 c1.1.4 rename /d/b a\n" ++
    codes "12 look e1.1.1 c1.1.4 1 0.1 name d 1.1\n" ++
    codes "12 grant e1.1.1 c1.1.4 2 i1.6 w 0.2 1.3 1\n" ++
    codes "12 act e1.1.1 i1.6 1 rename b a ok\n" ++
    codes "12 commit 0.2 1 1.4 1.3 01610003010000000301620003010000000200000000000000000000000000000000000000000000000000000000000000000000000000000000000000000000000000000000000000000000000000000000\n" ++
    codes "12 release e1.1.1 i1.6 0.2 1.4\n" ++
    codes "12 reply 1 1 c1.1.4 ok\n" ++
    codes "13 call 1 1 c1.1.5 rename /d/a a\n" ++
    codes "14 look e1.1.1 c1.1.5 1 0.1 name d 1.1\n" ++
    codes "14 grant e1.1.1 c1.1.5 2 i1.7 w 0.2 1.4 1\n" ++
    codes "14 act e1.1.1 i1.7 1 rename a a exists 3\n" ++
    codes "14 release e1.1.1 i1.7 0.2 -\n" ++
    codes "14 reply 1 1 c1.1.5 exists 3\n" ++
    codes "15 call 1 1 c1.1.6 unlink /d\n" ++
    codes "16 grant e1.1.1 c1.1.6 1 i1.8 w 0.1 1.1 1\n" ++
    codes "16 act e1.1.1 i1.8 1 find d ok 2 d\n" ++
    codes "16 release e1.1.1 i1.8 0.1 -\n" ++
    codes "16 reply 1 1 c1.1.6 isdir\n" ++
    codes "17 call 1 1 c1.1.7 unlink /d/a\n" ++
    codes "18 look e1.1.1 c1.1.7 1 0.1 name d 1.1\n" ++
    codes "18 grant e1.1.1 c1.1.7 2 i1.9 w 0.2 1.4 1\n" ++
    codes "18 act e1.1.1 i1.9 1 find a ok 3 f\n" ++
    codes "18 grant e1.1.1 c1.1.7 4 i1.10 w 0.3 1.1 1\n" ++
    codes "18 act e1.1.1 i1.9 2 remove a 3 ok\n" ++
    codes "18 commit 0.2 1 1.5 1.4 0161000301000000040000000100000000000000000000000000000000000000000000000000000000000000000000000000000000000000000000000000000000000000000000000001620003010000000200000000000000000000000000000000000000000000000000000000000000000000000000000000000000000000000000000000000000000000000000000000\n" ++
    codes "18 release e1.1.1 i1.9 0.2 1.5\n" ++
    codes "18 release e1.1.1 i1.10 0.3 -\n" ++
    codes "18 reply 1 1 c1.1.7 ok\n" ++
    codes "19 call 1 1 c1.1.8 rmdir /d\n" ++
    codes "20 grant e1.1.1 c1.1.8 1 i1.11 w 0.1 1.1 1\n" ++
    codes "20 act e1.1.1 i1.11 1 find d ok 2 d\n" ++
    codes "20 grant e1.1.1 c1.1.8 3 i1.12 w 0.2 1.5 1\n" ++
    codes "20 act e1.1.1 i1.12 1 empty ok\n" ++
    codes "20 act e1.1.1 i1.11 2 remove d 2 ok\n" ++
    codes "20 commit 0.1 1 1.2 1.1 01640002020000000200000005000000000000000000000000000000000000000000000000000000000000000000000000000000000000000000000000000000000000000000000000\n" ++
    codes "20 release e1.1.1 i1.11 0.1 1.2\n" ++
    codes "20 release e1.1.1 i1.12 0.2 -\n" ++
    codes "20 reply 1 1 c1.1.8 ok\n" ++
    codes "21 call 1 1 c1.1.9 list /\n" ++
    codes "22 look e1.1.1 c1.1.9 1 0.1 list 1.2\n" ++
    codes "22 reply 1 1 c1.1.9 ok\n" ++
    []

pub runs : printed (run lines) ≡ written
unfolding digits encode_with
runs = refl
