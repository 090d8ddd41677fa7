-- The run of a recorded schedule of 10 lines, to the whole text of its trace, 24 records.
use Rattle.std.specs.Prelude.{◌≡◌, refl, ℕ, List, [], ◌∷◌, ◌++◌, None, codes}
use Rattle.trace_book.specs.declared.call.Call.TheVariants as call
use Rattle.schedule_lines.specs.declared.header.HeaderLine.TheVariants as header
use Rattle.schedule_lines.specs.declared.line.Line.TheVariants as line
use Rattle.schedule_lines.specs.declared.line.ScheduleLine.{ScheduleLine}
use Rattle.schedule_lines.specs.declared.line.ScheduleLine.TheVariants.{Header, Event}
use Rattle.std.specs.Fmt.{digits}
use Rattle.hex.specs.Hex.{encode_with}
use Rattle.the_run.specs.Runs.{run, printed}

abbrev lines : List ScheduleLine
lines =
    Header (header.Sites 1) ∷
    Header (header.Group 0 (record { 0 = 1 })) ∷
    Event (line.Merge 1) ∷
    Event (line.Settle 85392) ∷
    Event (line.Call 1 1 (call.Write 65535 61440 (110 ∷ 2 ∷ 29 ∷ []))) ∷
    Event (line.Settle 10347) ∷
    Event (line.Call 1 1 (call.Create (codes "/b") None)) ∷
    Event (line.Settle 6212) ∷
    Event (line.Call 1 1 (call.Create (codes "/a") None)) ∷
    Event (line.Settle 13641) ∷
    []

abbrev written : List ℕ
written =
    codes "3 join 1 e1.1.1 1:1\n" ++
    codes "4 start e1.1.1 0 1=0.0\n" ++
    codes "5 call 1 1 c1.1.1 write 65535 61440 6e021d\n" ++
    codes "5 reply 1 1 c1.1.1 baddescriptor\n" ++
    codes "7 call 1 1 c1.1.2 create /b\n" ++
    codes "8 grant e1.1.1 c1.1.2 1 i1.1 w 0.1 0.0 1\n" ++
    codes "8 act e1.1.1 i1.1 1 probe b ok\n" ++
    codes "8 grant e1.1.1 c1.1.2 3 i1.2 n 0.2 - 1\n" ++
    codes "8 commit 0.2 1 1.1 - -\n" ++
    codes "8 release e1.1.1 i1.2 0.2 1.1\n" ++
    codes "8 act e1.1.1 i1.1 2 insert b 2 f ok\n" ++
    codes "8 commit 0.1 1 1.1 0.0 016200020100000001\n" ++
    codes "8 release e1.1.1 i1.1 0.1 1.1\n" ++
    codes "8 reply 1 1 c1.1.2 ok 2\n" ++
    codes "9 call 1 1 c1.1.3 create /a\n" ++
    codes "10 grant e1.1.1 c1.1.3 1 i1.3 w 0.1 1.1 1\n" ++
    codes "10 act e1.1.1 i1.3 1 probe a ok\n" ++
    codes "10 grant e1.1.1 c1.1.3 3 i1.4 n 0.3 - 1\n" ++
    codes "10 commit 0.3 1 1.1 - -\n" ++
    codes "10 release e1.1.1 i1.4 0.3 1.1\n" ++
    codes "10 act e1.1.1 i1.3 2 insert a 3 f ok\n" ++
    codes "10 commit 0.1 1 1.2 1.1 016100030100000001016200020100000001\n" ++
    codes "10 release e1.1.1 i1.3 0.1 1.2\n" ++
    codes "10 reply 1 1 c1.1.3 ok 3\n" ++
    []

pub runs : printed (run lines) ≡ written
unfolding digits encode_with
runs = refl
