-- Call lines: which of them are void, and what the others tell.
use Rattle.std.specs.Prelude.{ℕ, ◌≡◌, ◌≤◌, true, List}
use Rattle.trace_book.specs.declared.entry.Entry.{Entry}
use Rattle.trace_book.specs.declared.record.Record.{Record}
use Rattle.trace_book.specs.declared.record.Record.TheVariants as says
use Rattle.schedule_lines.specs.declared.line.ScheduleLine.{ScheduleLine}
use Rattle.tree_model.specs.Folds.{Trace}
use Rattle.lawful_trace.specs.Places.{line_at}
use Rattle.lawful_trace.specs.LineRows.{IsVoidAsked, is_told}
use Rattle.row_laws.specs.Voids.{is_call}

abbrev pub VoidCall : List ScheduleLine → ℕ → Trace → Record → Type 0
VoidCall lines n before says.Void = is_call (line_at lines n) ≡ true → IsVoidAsked lines n before
VoidCall lines n before _ = Unit {0}

-- a call line that tells that it is void is so
abbrev pub IsVoidCall : List ScheduleLine → Trace → Entry → Type 0
IsVoidCall lines before r = VoidCall lines r.line before r.what

-- each call line up to this number is told: that it is void, or that its call is accepted, once
abbrev pub CallsTold : List ScheduleLine → ℕ → Trace → Type 0
CallsTold lines n now = (m : ℕ) → 1 ≤ m → m ≤ n → is_call (line_at lines m) ≡ true → is_told lines now m ≡ true
