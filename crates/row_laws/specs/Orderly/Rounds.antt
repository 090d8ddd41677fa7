-- A round that isn't cut short: no limit is passed by its end, it doesn't end by its budget, and no site stops in it.
use Rattle.std.specs.Prelude.{ℕ, ◌≡◌, ◌≢◌, ◌+◌, ◌++◌, Some, None}
use Rattle.trace_book.specs.declared.record.Record.{Record}
use Rattle.trace_book.specs.declared.record.Record.TheVariants as says
use Rattle.role_steps.specs.Own.{Every}
use Rattle.role_steps.specs.Views.{SiteView, Told, Shown, Outcome}
use Rattle.the_run.specs.Worlds.{World, Running, Line, place_at, newest_onto, numbered_from, told_onto}

-- the record ends a round before its time, or tells of a stop
abbrev pub IsBreak : Record → Type 0
IsBreak says.Budget = Unit {0}
IsBreak (says.Stopped site cause) = Unit {0}
IsBreak _ = ⊥

abbrev pub BreaksTold : Told → Type 0
BreaksTold (Shown r) = IsBreak r
BreaksTold _ = ⊥

-- the line of this number doesn't tell so
abbrev pub Whole : ℕ → Line → Type 0
Whole n x = x.number ≡ n → BreaksTold x.told → ⊥

pub record Unbroken (n : ℕ) (w : World) : Type 0 where
  pub within : w.over ≡ None
  pub whole : Every (Whole n) w.trace

-- the event of the site happened, all of it
pub record Ran (n s : ℕ) (o : Outcome SiteView) (w u : World) : Type 0 where
  pub here : place_at u s ≡ Some (Running o.view)
  pub others : (t : ℕ) → s ≢ t → place_at u t ≡ place_at w t
  pub circuits : u.circuits ≡ w.circuits
  pub sent : u.sent ≡ newest_onto (numbered_from (w.packets + 1) o.sent) w.sent
  pub underway : u.underway ≡ w.underway ++ numbered_from (w.packets + 1) o.sent
  pub trace : u.trace ≡ told_onto n o.told w.trace
  pub before : Unbroken n w
