-- The run of a recorded schedule of 12 lines, to the whole text of its trace, 16 records.
use Rattle.std.specs.Prelude.{◌≡◌, refl, ℕ, List, [], ◌∷◌, ◌++◌, None, codes}
use Rattle.trace_book.specs.declared.call.Call.TheVariants as call
use Rattle.schedule_lines.specs.declared.header.HeaderLine.TheVariants as header
use Rattle.schedule_lines.specs.declared.line.Line.TheVariants as line
use Rattle.schedule_lines.specs.declared.line.ScheduleLine.{ScheduleLine}
use Rattle.schedule_lines.specs.declared.line.ScheduleLine.TheVariants.{Passed, Header, Event}
use Rattle.std.specs.Fmt.{digits}
use Rattle.hex.specs.Hex.{encode_with}
use Rattle.the_run.specs.Runs.{run, printed}

abbrev lines : List ScheduleLine
lines =
    Header (header.Sites 1) ∷
    Header (header.Group 0 (record { 0 = 1 })) ∷
    Event (line.Merge 1) ∷
    Event (line.Settle 417307) ∷
    Event (line.Call 1 1 (call.Create (codes "/a") None)) ∷
    Passed ∷
    Event (line.Settle 18996) ∷
    Event (line.Call 1 1 (call.Write 0 1 (148 ∷ []))) ∷
    Event (line.Settle 9085) ∷
    Event (line.Call 1 1 (call.Close 3)) ∷
    Event (line.Settle 2687) ∷
    Event (line.Settle 1000) ∷
    []

abbrev written : List ℕ
written =
    codes "3 join 1 e1.1.1 1:1\n" ++
    codes "4 start e1.1.1 0 1=0.0\n" ++
    codes "5 call 1 1 c1.1.1 create /a\n" ++
    codes "7 grant e1.1.1 c1.1.1 1 i1.1 w 0.1 0.0 1\n" ++
    codes "7 act e1.1.1 i1.1 1 probe a ok\n" ++
    codes "7 grant e1.1.1 c1.1.1 3 i1.2 n 0.2 - 1\n" ++
    codes "7 commit 0.2 1 1.1 - -\n" ++
    codes "7 release e1.1.1 i1.2 0.2 1.1\n" ++
    codes "7 act e1.1.1 i1.1 2 insert a 2 f ok\n" ++
    codes "7 commit 0.1 1 1.1 0.0 016100020100000001\n" ++
    codes "7 release e1.1.1 i1.1 0.1 1.1\n" ++
    codes "7 reply 1 1 c1.1.1 ok 2\n" ++
    codes "8 call 1 1 c1.1.2 write 0 1 94\n" ++
    codes "8 reply 1 1 c1.1.2 baddescriptor\n" ++
    codes "10 call 1 1 c1.1.3 close 3\n" ++
    codes "10 reply 1 1 c1.1.3 baddescriptor\n" ++
    []

pub runs : printed (run lines) ≡ written
unfolding digits encode_with
runs = refl
