-- The run of a recorded schedule of 10 lines, to the whole text of its trace, 7 records.
use Rattle.std.specs.Prelude.{◌≡◌, refl, ℕ, List, [], ◌∷◌, ◌++◌, codes}
use Rattle.trace_book.specs.declared.call.Call.TheVariants as call
use Rattle.schedule_lines.specs.declared.header.HeaderLine.TheVariants as header
use Rattle.schedule_lines.specs.declared.line.Line.TheVariants as line
use Rattle.schedule_lines.specs.declared.line.ScheduleLine.{ScheduleLine}
use Rattle.schedule_lines.specs.declared.line.ScheduleLine.TheVariants.{Header, Event}
use Rattle.std.specs.Fmt.{digits}
use Rattle.hex.specs.Hex.{encode_with}
use Rattle.the_run.specs.Runs.{run, printed}

abbrev lines : List ScheduleLine
lines =
    Header (header.Sites 2) ∷
    Header (header.Group 0 (record { 0 = 3 })) ∷
    Event (line.Merge 1) ∷
    Event (line.Stop 2) ∷
    Event (line.Boot 2) ∷
    Event (line.Deliver 1) ∷
    Event (line.Deliver 2) ∷
    Event (line.Tick 1) ∷
    Event (line.Call 2 1 (call.List (codes "/"))) ∷
    Event (line.Deliver 999) ∷
    []

abbrev written : List ℕ
written =
    codes "4 stopped 2 asked\n" ++
    codes "5 up 2 2\n" ++
    codes "7 void\n" ++
    codes "8 join 1 e1.1.1 1:1\n" ++
    codes "9 call 2 1 c2.2.1 list /\n" ++
    codes "9 reply 2 1 c2.2.1 nopartition\n" ++
    codes "10 void\n" ++
    []

pub runs : printed (run lines) ≡ written
unfolding digits encode_with
runs = refl
