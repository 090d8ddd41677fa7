-- The run of a recorded schedule of 14 lines, to the whole text of its trace, 28 records.
use Rattle.std.specs.Prelude.{◌≡◌, refl, ℕ, List, [], ◌∷◌, ◌++◌, None, codes}
use Rattle.trace_book.specs.declared.call.Call.TheVariants as call
use Rattle.trace_book.specs.declared.call.OpenMode.TheVariants as how
use Rattle.schedule_lines.specs.declared.header.HeaderLine.TheVariants as header
use Rattle.schedule_lines.specs.declared.line.Line.TheVariants as line
use Rattle.schedule_lines.specs.declared.line.ScheduleLine.{ScheduleLine}
use Rattle.schedule_lines.specs.declared.line.ScheduleLine.TheVariants.{Header, Event}
use Rattle.std.specs.Fmt.{digits}
use Rattle.hex.specs.Hex.{encode_with}
use Rattle.the_run.specs.Runs.{run, printed}

abbrev lines : List ScheduleLine
lines =
    Header (header.Sites 2) ∷
    Header (header.Group 0 (record { 0 = 2 })) ∷
    Event (line.Merge 1) ∷
    Event (line.Settle 1000) ∷
    Event (line.Call 1 1 (call.Create (codes "/a") None)) ∷
    Event (line.Settle 1000) ∷
    Event (line.Call 1 1 (call.Open (codes "/a") how.Write)) ∷
    Event (line.Settle 1000) ∷
    Event (line.Call 1 1 (call.Write 0 0 (97 ∷ []))) ∷
    Event (line.Settle 1000) ∷
    Event (line.Call 1 1 (call.Commit 0)) ∷
    Event (line.Settle 1) ∷
    Event (line.GiveUp 1) ∷
    Event (line.Call 1 1 (call.Read 0 0 1)) ∷
    []

abbrev written : List ℕ
written =
    codes "4 join 1 e1.1.1 1:1,2:1\n" ++
    codes "4 join 2 e1.1.1 1:1,2:1\n" ++
    codes "4 start e1.1.1 0 1=0.0\n" ++
    codes "5 call 1 1 c1.1.1 create /a\n" ++
    codes "6 grant e1.1.1 c1.1.1 1 i1.1 w 0.1 0.0 2\n" ++
    codes "6 act e1.1.1 i1.1 1 probe a ok\n" ++
    codes "6 grant e1.1.1 c1.1.1 3 i1.2 n 0.65 - 2\n" ++
    codes "6 commit 0.65 2 2.1 - -\n" ++
    codes "6 release e1.1.1 i1.2 0.65 2.1\n" ++
    codes "6 act e1.1.1 i1.1 2 insert a 65 f ok\n" ++
    codes "6 commit 0.1 2 2.1 0.0 016100410100000001\n" ++
    codes "6 release e1.1.1 i1.1 0.1 2.1\n" ++
    codes "6 reply 1 1 c1.1.1 ok 65\n" ++
    codes "7 call 1 1 c1.1.2 open /a w\n" ++
    codes "8 look e1.1.1 c1.1.2 1 0.1 name a 2.1\n" ++
    codes "8 grant e1.1.1 c1.1.2 2 i1.3 w 0.65 2.1 2\n" ++
    codes "8 reply 1 1 c1.1.2 ok 0\n" ++
    codes "9 call 1 1 c1.1.3 write 0 0 61\n" ++
    codes "10 act e1.1.1 i1.3 1 write 0 61 ok\n" ++
    codes "10 reply 1 1 c1.1.3 ok\n" ++
    codes "11 call 1 1 c1.1.4 commit 0\n" ++
    codes "12 commit 0.65 2 2.2 2.1 61\n" ++
    codes "12 act e1.1.1 i1.3 2 commit ok 2.2\n" ++
    codes "12 budget\n" ++
    codes "13 leave 1 e1.1.1\n" ++
    codes "13 reply 1 1 c1.1.4 changed e1.1.1\n" ++
    codes "14 call 1 1 c1.1.5 read 0 0 1\n" ++
    codes "14 reply 1 1 c1.1.5 stale e1.1.1\n" ++
    []

pub runs : printed (run lines) ≡ written
unfolding digits encode_with
runs = refl
