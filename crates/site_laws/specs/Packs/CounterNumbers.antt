-- How many commits and calls a trace tells of, and how great the numbers of versions are.
use Rattle.std.specs.Prelude.{ℕ, ◌+◌, ◌≤◌, List, [], ◌∷◌}
use Rattle.trace_book.specs.declared.record.Record.{Record}
use Rattle.trace_book.specs.declared.record.Record.TheVariants as says
use Rattle.role_steps.specs.Own.{Every}
use Rattle.role_steps.specs.Views.{Told, Shown}

abbrev pub commits_recorded : Record → ℕ
commits_recorded (says.Commit file site stamp parents content) = 1
commits_recorded _ = 0

abbrev pub commits_told : Told → ℕ
commits_told (Shown r) = commits_recorded r
commits_told _ = 0

-- how many commits were told
abbrev pub commits_in : List Told → ℕ
commits_in [] = 0
commits_in (x ∷ older) = commits_told x + commits_in older

abbrev pub calls_recorded : Record → ℕ
calls_recorded (says.Accept site process call words) = 1
calls_recorded _ = 0

abbrev pub calls_told : Told → ℕ
calls_told (Shown r) = calls_recorded r
calls_told _ = 0

-- how many calls were accepted, mends among them
abbrev pub calls_in : List Told → ℕ
calls_in [] = 0
calls_in (x ∷ older) = calls_told x + calls_in older

abbrev pub IsLowRecord : Record → Type 0
IsLowRecord (says.Commit file site stamp parents content) = stamp.n ≤ 134217728
IsLowRecord _ = Unit {0}

abbrev pub IsLowTold : Told → Type 0
IsLowTold (Shown r) = IsLowRecord r
IsLowTold _ = Unit {0}

-- each commit has a number of at most so much
abbrev pub NumbersAreLow : List Told → Type 0
NumbersAreLow past = Every IsLowTold past
