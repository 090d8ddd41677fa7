-- The run of a recorded schedule of 12 lines, to the whole text of its trace, 18 records.
use Rattle.std.specs.Prelude.{◌≡◌, refl, ℕ, List, [], ◌∷◌, ◌++◌, None, codes}
use Rattle.trace_book.specs.declared.call.Call.TheVariants as call
use Rattle.schedule_lines.specs.declared.header.HeaderLine.TheVariants as header
use Rattle.schedule_lines.specs.declared.line.Line.TheVariants as line
use Rattle.schedule_lines.specs.declared.line.ScheduleLine.{ScheduleLine}
use Rattle.schedule_lines.specs.declared.line.ScheduleLine.TheVariants.{Header, Event}
use Rattle.std.specs.Fmt.{digits}
use Rattle.hex.specs.Hex.{encode_with}
use Rattle.the_run.specs.Runs.{run, printed}

abbrev lines : List ScheduleLine
lines =
    Header (header.Sites 3) ∷
    Header (header.Group 0 (record { 0 = 7 })) ∷
    Event (line.Merge 1) ∷
    Event (line.Settle 1000) ∷
    Event (line.Call 2 1 (call.Create (codes "/a") None)) ∷
    Event (line.Tick 2) ∷
    Event (line.Tick 2) ∷
    Event (line.Tick 2) ∷
    Event (line.Tick 2) ∷
    Event (line.Tick 2) ∷
    Event (line.Tick 2) ∷
    Event (line.Settle 1000) ∷
    []

abbrev written : List ℕ
written =
    codes "4 join 1 e1.1.1 1:1,2:1,3:1\n" ++
    codes "4 join 2 e1.1.1 1:1,2:1,3:1\n" ++
    codes "4 join 3 e1.1.1 1:1,2:1,3:1\n" ++
    codes "4 start e1.1.1 0 1=0.0\n" ++
    codes "5 call 2 1 c2.1.1 create /a\n" ++
    codes "12 grant e1.1.1 c2.1.1 1 i2.1 w 0.1 0.0 2\n" ++
    codes "12 act e1.1.1 i2.1 1 probe a ok\n" ++
    codes "12 grant e1.1.1 c2.1.1 3 i2.2 n 0.65 - 2\n" ++
    codes "12 commit 0.65 2 2.1 - -\n" ++
    codes "12 release e1.1.1 i2.2 0.65 2.1\n" ++
    codes "12 adopt 0.65 1 2.1\n" ++
    codes "12 adopt 0.65 3 2.1\n" ++
    codes "12 act e1.1.1 i2.1 2 insert a 65 f ok\n" ++
    codes "12 commit 0.1 2 2.1 0.0 016100410100000001\n" ++
    codes "12 release e1.1.1 i2.1 0.1 2.1\n" ++
    codes "12 reply 2 1 c2.1.1 ok 65\n" ++
    codes "12 adopt 0.1 1 2.1\n" ++
    codes "12 adopt 0.1 3 2.1\n" ++
    []

pub runs : printed (run lines) ≡ written
unfolding digits encode_with
runs = refl
