-- Lines that may stand, and lines that may not, computed: so that the definitions admit what they should and no more.
use Rattle.std.proofs.Common.{◌≡◌, ℕ, true, false, List, [], ◌∷◌, ◌++◌, codes, refl}
use Rattle.trace_book.specs.declared.call.Call.TheVariants as call
use Rattle.trace_book.specs.declared.call.OpenMode.TheVariants as how
use Rattle.schedule_lines.specs.Schedule.{AreInOrder, MayEnd, may_stand}
use Rattle.schedule_lines.specs.Spelling.{Spells}
use Rattle.schedule_lines.specs.declared.header.HeaderLine.TheVariants as header
use Rattle.schedule_lines.specs.declared.line.Leave.TheVariants as leave
use Rattle.schedule_lines.specs.declared.line.Line.TheVariants as event
use Rattle.schedule_lines.specs.declared.line.ScheduleLine.{ScheduleLine}
use Rattle.schedule_lines.specs.declared.line.ScheduleLine.TheVariants.{Passed, Header, Event}

abbrev group : ℕ → ℕ → ScheduleLine
group number bits = Header (header.Group number (record { 0 = bits }))

abbrev mount : ℕ → List ℕ → ScheduleLine
mount number name = Header (header.Mount number name)

-- three sites, group 1 before group 0, a mount between them, and then some events
abbrev header_lines : List ScheduleLine
header_lines = Header (header.Sites 3) ∷ group 1 6 ∷ Passed ∷ mount 1 (codes "usr") ∷ group 0 7 ∷ []

abbrev event_lines : List ScheduleLine
event_lines =
    Event (event.Merge 1) ∷ Event (event.Settle 1000) ∷ Event (event.Call 2 8 (call.Open (codes "/usr/a") (how.Resolve 3))) ∷ Event (event.ArmStop 3 0 leave.Old) ∷ Event event.Pending ∷ []

in_order : AreInOrder (header_lines ++ event_lines)
in_order = (refl, (refl, (refl, (refl, (refl, (refl, (refl, (refl, (refl, (refl, tt))))))))))

may_end : MayEnd header_lines
may_end = refl

-- a mount before its group, a group twice, a name twice, an event before the header is whole, a header line after one
mount_first : may_stand (Header (header.Sites 3) ∷ []) (mount 1 (codes "usr")) ≡ false
mount_first = refl

group_twice : may_stand header_lines (group 1 6) ≡ false
group_twice = refl

name_twice : may_stand (header_lines ++ group 2 1 ∷ []) (mount 2 (codes "usr")) ≡ false
name_twice = refl

other_name : may_stand (header_lines ++ group 2 1 ∷ []) (mount 2 (codes "bin")) ≡ true
other_name = refl

too_early : may_stand (header_lines ++ group 2 1 ∷ []) (Event event.Pending) ≡ false
too_early = refl

too_late : may_stand (header_lines ++ event_lines) (group 2 1) ≡ false
too_late = refl

-- a site above the last, a site cut from itself, a round of no deliveries
no_such_site : may_stand header_lines (Event (event.Tick 4)) ≡ false
no_such_site = refl

same_site : may_stand header_lines (Event (event.Down 2 2)) ≡ false
same_site = refl

no_round : may_stand header_lines (Event (event.Settle 0)) ≡ false
no_round = refl

-- spellings
comment : Spells (codes "# sites 3") Passed
comment = refl

pending_text : Spells (codes "pending") (Event event.Pending)
pending_text = refl
