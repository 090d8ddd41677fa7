-- The run of a recorded schedule of 16 lines, to the whole text of its trace, 21 records.
use Rattle.std.specs.Prelude.{◌≡◌, refl, ℕ, List, [], ◌∷◌, ◌++◌, None, codes}
use Rattle.trace_book.specs.declared.call.Call.TheVariants as call
use Rattle.trace_book.specs.declared.call.OpenMode.TheVariants as how
use Rattle.schedule_lines.specs.declared.header.HeaderLine.TheVariants as header
use Rattle.schedule_lines.specs.declared.line.Line.TheVariants as line
use Rattle.schedule_lines.specs.declared.line.ScheduleLine.{ScheduleLine}
use Rattle.schedule_lines.specs.declared.line.ScheduleLine.TheVariants.{Passed, Header, Event}
use Rattle.std.specs.Fmt.{digits}
use Rattle.hex.specs.Hex.{encode_with}
use Rattle.the_run.specs.Runs.{run, printed}

abbrev lines : List ScheduleLine
lines =
    Header (header.Sites 1) ∷
    Header (header.Group 0 (record { 0 = 1 })) ∷
    Passed ∷
    Event (line.Merge 1) ∷
    Event (line.Settle 389165) ∷
    Event (line.Call 1 1 (call.Open (codes "/a") how.Write)) ∷
    Event (line.Settle 8695) ∷
    Event (line.Call 1 1 (call.Close 15)) ∷
    Event (line.Settle 15541) ∷
    Event (line.Call 1 1 (call.Write 0 1023 (23 ∷ []))) ∷
    Event (line.Settle 6168) ∷
    Event (line.Call 1 1 (call.Create (codes "/a") None)) ∷
    Event (line.Settle 13469) ∷
    Event (line.Call 1 1 (call.Read 0 1 10)) ∷
    Event (line.Settle 4307) ∷
    Event (line.Settle 1000) ∷
    []

abbrev written : List ℕ
written =
    codes "4 join 1 e1.1.1 1:1\n" ++
    codes "5 start e1.1.1 0 1=0.0\n" ++
    codes "6 call 1 1 c1.1.1 open /a w\n" ++
    codes "7 look e1.1.1 c1.1.1 1 0.1 name a 0.0\n" ++
    codes "7 reply 1 1 c1.1.1 absent a\n" ++
    codes "8 call 1 1 c1.1.2 close 15\n" ++
    codes "8 reply 1 1 c1.1.2 baddescriptor\n" ++
    codes "10 call 1 1 c1.1.3 write 0 1023 17\n" ++
    codes "10 reply 1 1 c1.1.3 baddescriptor\n" ++
    codes "12 call 1 1 c1.1.4 create /a\n" ++
    codes "13 grant e1.1.1 c1.1.4 1 i1.1 w 0.1 0.0 1\n" ++
    codes "13 act e1.1.1 i1.1 1 probe a ok\n" ++
    codes "13 grant e1.1.1 c1.1.4 3 i1.2 n 0.2 - 1\n" ++
    codes "13 commit 0.2 1 1.1 - -\n" ++
    codes "13 release e1.1.1 i1.2 0.2 1.1\n" ++
    codes "13 act e1.1.1 i1.1 2 insert a 2 f ok\n" ++
    codes "13 commit 0.1 1 1.1 0.0 016100020100000001\n" ++
    codes "13 release e1.1.1 i1.1 0.1 1.1\n" ++
    codes "13 reply 1 1 c1.1.4 ok 2\n" ++
    codes "14 call 1 1 c1.1.5 read 0 1 10\n" ++
    codes "14 reply 1 1 c1.1.5 baddescriptor\n" ++
    []

pub runs : printed (run lines) ≡ written
unfolding digits encode_with
runs = refl
