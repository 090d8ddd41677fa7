-- What the reader of records promises.
use Rattle.std.specs.Prelude.{ℕ, ◌≡◌, ◌==◌, Bool, not, true, List, ◌++◌}
use Rattle.std.specs.List.{list_all}
use Rattle.trace_book.specs.Text.{gap, number, record_text}
use Rattle.trace_book.specs.declared.record.Record.{Record}
use Rattle.record_reading.specs.AsRead.{as_read}
use Rattle.record_reading.specs.Ranges.{is_counted, is_record}

-- no byte of the text is a line feed
abbrev pub is_one_line : List ℕ → Bool
is_one_line text = list_all (λ c. not (c == 10)) text

-- the bytes are this line of a trace, without its line feed, and the record is well-formed
pub record IsLine (bytes : List ℕ) (line : ℕ) (r : Record) : Type 0 where
  pub text : bytes ≡ number line ++ gap ++ record_text r
  pub counted : is_counted line ≡ true
  pub formed : is_record r ≡ true

-- the bytes are this line, and whatever else they are it stands for
pub record IsLineRead (bytes : List ℕ) (line : ℕ) (r : Record) : Type 0 where
  pub is : IsLine bytes line r
  pub stands : (other : ℕ) (s : Record) → IsLine bytes other s → (other ≡ line) × (as_read s ≡ r)
