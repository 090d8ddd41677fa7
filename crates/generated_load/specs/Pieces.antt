-- The pieces of the load: its opening, the lines of each event, and its end.
use Rattle.std.specs.Prelude.{ℕ, ◌+◌, ◌-◌, List, [], ◌∷◌, map, codes}
use Rattle.rand_pcg.specs.Lcg.{Lcg}
use Rattle.schedule_lines.specs.declared.header.HeaderLine.TheVariants as header
use Rattle.schedule_lines.specs.declared.line.Line.{Line}
use Rattle.schedule_lines.specs.declared.line.ScheduleLine.{ScheduleLine}
use Rattle.schedule_lines.specs.declared.line.ScheduleLine.TheVariants.{Event, Header}
use Rattle.the_run.specs.Commands.{Drawn, load_case, load_events, three_sites, two_sites}
use Rattle.generated_load.specs.Draws.{draw, draws_from, seeded}

-- event lines as lines of a schedule
abbrev pub events_of : List Line → List ScheduleLine
events_of = map (λ e. Event e)

-- the header lines of the opening
abbrev pub header_lines : List ScheduleLine
header_lines = Header (header.Sites 3) ∷ Header (header.Group 0 three_sites) ∷ Header (header.Group 1 two_sites) ∷ Header (header.Mount 1 (codes "usr")) ∷ []

-- where a load stands: the number of the next event, how many are left, and the generator
pub record LoadLeft : Type 0 where
  pub event : ℕ
  pub left : ℕ
  pub generator : Lcg

abbrev pub first_left : ℕ → ℕ → LoadLeft
first_left number events = record { event = 1; left = events; generator = seeded number }

-- the lines of all events that are left
abbrev pub lines_left : LoadLeft → List ScheduleLine
lines_left l = load_events l.event (draws_from l.left l.generator)

abbrev pub lines_of : ℕ → Drawn → List ScheduleLine
lines_of event d = load_case event d d.what

-- the lines of the next event
abbrev pub next_lines : LoadLeft → List ScheduleLine
next_lines l = lines_of l.event (draw l.generator).0

-- after the next event
abbrev pub moved : LoadLeft → LoadLeft
moved l = record { event = l.event + 1; left = l.left - 1; generator = (draw l.generator).1 }
