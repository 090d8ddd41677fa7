-- What a book writes of the records of a run, and what it counts.
use Rattle.std.specs.Prelude.{ℕ, List, [], ◌∷◌, ◌++◌}
use Rattle.std.specs.List.{flat_map}
use Rattle.trace_book.specs.Text.{entry_text}
use Rattle.trace_book.specs.declared.entry.Entry.{Entry}
use Rattle.trace_book.specs.declared.record.Record.{Record}
use Rattle.the_run.specs.Commands.{Counts, counted_in, reply_line}
use Rattle.run_book.specs.declared.counts.RunCounts.{RunCounts}
use Rattle.run_book.specs.declared.writing.Writing.{Writing}
use Rattle.run_book.specs.declared.writing.Writing.TheVariants.{Nothing, Replies, Trace}

abbrev pub written : Writing → Entry → List ℕ
written Trace e = entry_text e.line e.what
written Replies e = reply_line e.what
written Nothing e = []

-- what is written of entries, the earliest first
abbrev pub written_of : Writing → List Entry → List ℕ
written_of writing entries = flat_map (written writing) entries

-- the entries that the records of one line are
abbrev pub entries_at : ℕ → List Record → List Entry
entries_at n [] = []
entries_at n (r ∷ rs) = record { line = n; what = r } ∷ entries_at n rs

abbrev pub lines_written : Writing → ℕ → List Record → List ℕ
lines_written writing n rs = written_of writing (entries_at n rs)

abbrev pub counts_in : RunCounts → Counts
counts_in c = record { calls = c.calls; replies = c.replies; ok = c.ok; commits = c.commits; adopts = c.adopts; joins = c.joins; voids = c.voids }

-- the counts with these records
abbrev pub counts_after : Counts → List Record → Counts
counts_after n [] = n
counts_after n (r ∷ rs) = counts_after (counted_in n r) rs

-- the replies among the records
abbrev pub replies_of : List Record → List ℕ
replies_of [] = []
replies_of (r ∷ rs) = reply_line r ++ replies_of rs
