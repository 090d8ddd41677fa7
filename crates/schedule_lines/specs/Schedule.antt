-- Which line of a schedule may stand where, and which line is the first bad one.
use Rattle.std.specs.Prelude.{ℕ, ◌≡◌, ◌+◌, Bool, true, false, not, ◌&&◌, List, [], ◌∷◌, ◌++◌}
use Rattle.std.specs.List.{list_any}
use Rattle.schedule_lines.specs.Cluster.{config_of, is_whole, may_join}
use Rattle.schedule_lines.specs.Ranges.{fits_event}
use Rattle.schedule_lines.specs.Spelling.{Spells}
use Rattle.schedule_lines.specs.declared.line.ScheduleLine.{ScheduleLine}
use Rattle.schedule_lines.specs.declared.line.ScheduleLine.TheVariants.{Passed, Header, Event}

abbrev pub is_event : ScheduleLine → Bool
is_event Passed = false
is_event (Header h) = false
is_event (Event e) = true

-- an event line stands among these lines
abbrev pub has_begun : List ScheduleLine → Bool
has_begun lines = list_any is_event lines

-- The line may stand after these lines. Empty lines and comments may stand anywhere. A header line stands before all
-- event lines and keeps the order of the header; an event line stands after a whole header and names sites of its cluster.
abbrev pub may_stand : List ScheduleLine → ScheduleLine → Bool
may_stand earlier Passed = true
may_stand earlier (Header h) = not (has_begun earlier) && may_join (config_of earlier) h
may_stand earlier (Event e) = is_whole (config_of earlier) && fits_event (config_of earlier).sites e

abbrev pub MayStand : List ScheduleLine → ScheduleLine → Type 0
MayStand earlier l = may_stand earlier l ≡ true

-- each of the later lines may stand after these lines and the later ones before it
abbrev pub MayFollow : List ScheduleLine → List ScheduleLine → Type 0
MayFollow earlier [] = Unit {0}
MayFollow earlier (l ∷ later) = MayStand earlier l × MayFollow (earlier ++ l ∷ []) later

-- the lines stand as the lines of a schedule may
abbrev pub AreInOrder : List ScheduleLine → Type 0
AreInOrder lines = MayFollow [] lines

-- the schedule may end after these lines: its header is whole
abbrev pub MayEnd : List ScheduleLine → Type 0
MayEnd lines = is_whole (config_of lines) ≡ true

-- the bytes are this line, which may stand after these lines
abbrev pub Reads : List ScheduleLine → List ℕ → ScheduleLine → Type 0
Reads earlier bytes l = Spells bytes l × MayStand earlier l

-- the bytes of each line are the line, which may stand where it does
abbrev pub ReadsAfter : List ScheduleLine → List (List ℕ) → List ScheduleLine → Type 0
ReadsAfter earlier [] [] = Unit {0}
ReadsAfter earlier (bytes ∷ rest) (l ∷ ls) = Reads earlier bytes l × ReadsAfter (earlier ++ l ∷ []) rest ls
ReadsAfter earlier [] (l ∷ ls) = ⊥
ReadsAfter earlier (bytes ∷ rest) [] = ⊥

-- these lines of bytes are lines that stand as those of a schedule may; where the header is whole too, they are a schedule
abbrev pub IsSchedule : List (List ℕ) → List ScheduleLine → Type 0
IsSchedule bytes lines = ReadsAfter [] bytes lines
