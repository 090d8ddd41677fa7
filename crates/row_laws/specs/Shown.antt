-- The printed trace of a run as the lawful trace has it, the latest record first, and what holds of each of its records.
use Rattle.std.specs.Prelude.{ℕ, List, [], ◌∷◌}
use Rattle.trace_book.specs.declared.entry.Entry.{Entry}
use Rattle.lawful_trace.specs.of_tree_model.Folds.{Trace}
use Rattle.role_steps.specs.Views.{Told, Shown}
use Rattle.site_laws.specs.of_the_run.Worlds.{World, Line}

-- a printed record comes to the trace; what only the laws see falls away
abbrev pub with_told : ℕ → Told → Trace → Trace
with_told n (Shown r) before = record { line = n; what = r } ∷ before
with_told n _ before = before

-- the printed records of these lines
abbrev pub shown : List Line → Trace
shown [] = []
shown (x ∷ older) = with_told x.number x.told (shown older)

-- the printed trace of a world
abbrev pub trace_of : World → Trace
trace_of w = shown w.trace

-- each record has the property, which speaks of the records before it too
abbrev pub EachRecord : (Trace → Entry → Type 0) → Trace → Type 0
EachRecord P [] = Unit {0}
EachRecord P (r ∷ before) = P before r × EachRecord P before
