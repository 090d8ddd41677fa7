-- The run of a recorded schedule of 18 lines, to the whole text of its trace, 19 records.
use Rattle.std.specs.Prelude.{◌≡◌, refl, ℕ, List, [], ◌∷◌, ◌++◌, codes}
use Rattle.trace_book.specs.declared.call.Call.TheVariants as call
use Rattle.trace_book.specs.declared.call.OpenMode.TheVariants as how
use Rattle.schedule_lines.specs.declared.header.HeaderLine.TheVariants as header
use Rattle.schedule_lines.specs.declared.line.Line.TheVariants as line
use Rattle.schedule_lines.specs.declared.line.ScheduleLine.{ScheduleLine}
use Rattle.schedule_lines.specs.declared.line.ScheduleLine.TheVariants.{Header, Event}
use Rattle.std.specs.Fmt.{digits}
use Rattle.hex.specs.Hex.{encode_with}
use Rattle.the_run.specs.Runs.{run, printed}

abbrev lines : List ScheduleLine
lines =
    Header (header.Sites 1) ∷
    Header (header.Group 0 (record { 0 = 1 })) ∷
    Event (line.Merge 1) ∷
    Event (line.Settle 291149) ∷
    Event (line.Call 1 1 (call.Close 0)) ∷
    Event (line.Settle 3105) ∷
    Event (line.Call 1 1 (call.Open (codes "/a") how.Write)) ∷
    Event (line.Settle 5443) ∷
    Event (line.Call 1 1 (call.Open (codes "/zz") how.Read)) ∷
    Event (line.Settle 9273) ∷
    Event (line.Call 1 1 (call.Open (codes "/b") how.Read)) ∷
    Event (line.Settle 18232) ∷
    Event (line.Call 1 1 (call.Read 16 65536 1)) ∷
    Event (line.Settle 3710) ∷
    Event (line.Call 1 1 (call.Read 1 0 4096)) ∷
    Event (line.Settle 1108) ∷
    Event (line.Call 1 1 (call.Read 0 1 1)) ∷
    Event (line.Settle 14674) ∷
    []

abbrev written : List ℕ
written =
    codes "3 join 1 e1.1.1 1:1\n" ++
    codes "4 start e1.1.1 0 1=0.0\n" ++
    codes "5 call 1 1 c1.1.1 close 0\n" ++
    codes "5 reply 1 1 c1.1.1 baddescriptor\n" ++
    codes "7 call 1 1 c1.1.2 open /a w\n" ++
    codes "8 look e1.1.1 c1.1.2 1 0.1 name a 0.0\n" ++
    codes "8 reply 1 1 c1.1.2 absent a\n" ++
    codes "9 call 1 1 c1.1.3 open /zz r\n" ++
    codes "10 look e1.1.1 c1.1.3 1 0.1 name zz 0.0\n" ++
    codes "10 reply 1 1 c1.1.3 absent zz\n" ++
    codes "11 call 1 1 c1.1.4 open /b r\n" ++
    codes "12 look e1.1.1 c1.1.4 1 0.1 name b 0.0\n" ++
    codes "12 reply 1 1 c1.1.4 absent b\n" ++
    codes "13 call 1 1 c1.1.5 read 16 65536 1\n" ++
    codes "13 reply 1 1 c1.1.5 baddescriptor\n" ++
    codes "15 call 1 1 c1.1.6 read 1 0 4096\n" ++
    codes "15 reply 1 1 c1.1.6 baddescriptor\n" ++
    codes "17 call 1 1 c1.1.7 read 0 1 1\n" ++
    codes "17 reply 1 1 c1.1.7 baddescriptor\n" ++
    []

pub runs : printed (run lines) ≡ written
unfolding digits encode_with
runs = refl
