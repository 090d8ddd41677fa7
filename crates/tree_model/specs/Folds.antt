-- A trace is a list of entries, the latest first. What the records so far tell is a fold over it.
use Rattle.std.specs.Prelude.{ℕ, List, [], ◌∷◌, ◌++◌, nat_lt, cond}
use Rattle.dir_reconcile.specs.of_trace_book.declared.entry.Entry.{Entry}
use Rattle.dir_reconcile.specs.of_trace_book.Text.{entry_text}

abbrev pub Trace : Type 0
Trace = List Entry

-- what the trace makes of a start value, if each entry with those before it makes a new value of the old one
abbrev pub over : {A : Type 0} → A → (Entry → Trace → A → A) → Trace → A
over start after [] = start
over start after (r ∷ before) = after r before (over start after before)

-- the text of a trace
abbrev pub told : Trace → List ℕ
told trace = over [] (λ r before old. old ++ entry_text r.line r.what) trace

-- the records before the line with this number
abbrev pub before_line : Trace → ℕ → Trace
before_line [] line = []
before_line (r ∷ before) line = cond (nat_lt r.line line) (r ∷ before) (before_line before line)

abbrev pub last_line : Trace → ℕ
last_line [] = 0
last_line (r ∷ before) = r.line
