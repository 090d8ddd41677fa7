-- What a book keeps of the run's world: its packets, what is written of its records, and their counts, with the limits.
use Rattle.std.specs.Prelude.{◌≡◌, ℕ, ◌+◌, List, [], ◌∷◌, ◌++◌, length, Option, None, Some}
use Rattle.trace_book.specs.Text.{entry_text}
use Rattle.trace_book.specs.declared.record.Record.{Record}
use Rattle.wire_messages.specs.declared.packet.Packet.{Packet}
use Rattle.role_steps.specs.Tables.{total}
use Rattle.the_run.specs.Worlds.{World, Limit, Packets, Bytes, Trace, packet_size, limit_passed}
use Rattle.the_run.specs.Runs.{entries_of_run}
use Rattle.the_run.specs.Commands.{Counts, counts_onto, no_counts}
use Rattle.packet_mail.specs.Posts.{Post, no_post, posts, post_of_world}
use Rattle.run_book.specs.declared.fault.Passed.{Passed}
use Rattle.run_book.specs.declared.fault.Passed.TheVariants as passed
use Rattle.run_book.specs.declared.writing.Writing.{Writing}
use Rattle.run_book.specs.Writings.{counts_after, lines_written, written_of}

pub record Ledger : Type 0 where
  pub post : Post
  pub writing : Writing
  pub fresh : List ℕ  -- what is written of records and nobody has taken yet
  pub counts : Counts
  pub text : ℕ  -- bytes of the text of all records, written or not
  pub over : Option Limit  -- the limit that the next event passed; then nothing happens any more

abbrev pub no_ledger : Writing → Ledger
no_ledger writing = record { post = no_post; writing = writing; fresh = []; counts = no_counts; text = 0; over = None }

abbrev pub limit_named : Passed → Limit
limit_named passed.Packets = Packets
limit_named passed.Bytes = Bytes
limit_named passed.Trace = Trace

abbrev pub limit_in : Option Passed → Option Limit
limit_in None = None
limit_in (Some p) = Some (limit_named p)

-- ---- one event ----

abbrev pub record_size : ℕ → Record → ℕ
record_size n r = length (entry_text n r)

-- the text of the records of one line
abbrev pub lines_text : ℕ → List Record → List ℕ
lines_text n [] = []
lines_text n (r ∷ rs) = entry_text n r ++ lines_text n rs

-- the limit that an event of such sizes passes
abbrev pub limit_of_sizes : ℕ → ℕ → ℕ → Ledger → Option Limit
limit_of_sizes packets bytes text b = limit_passed (b.post.packets + packets) (b.post.bytes + bytes) (b.text + text)

-- the packets are sent, and the records of the line are written and counted
abbrev pub with_event : ℕ → List Packet → List Record → Ledger → Ledger
with_event n ps rs b = record b {
  post = posts ps b.post;
  fresh = b.fresh ++ lines_written b.writing n rs;
  counts = counts_after b.counts rs;
  text = b.text + length (lines_text n rs);
}

-- the event, or, where it passes a limit, the limit alone
abbrev pub with_event_unless : Option Limit → ℕ → List Packet → List Record → Ledger → Ledger
with_event_unless (Some l) n ps rs b = record b { over = Some l }
with_event_unless None n ps rs b = with_event n ps rs b

abbrev pub books_of : Option Limit → ℕ → List Packet → List Record → Ledger → Ledger
books_of (Some l) n ps rs b = b
books_of None n ps rs b = with_event_unless (limit_of_sizes (length ps) (total packet_size ps) (total (record_size n) rs) b) n ps rs b

-- An event of a line with these packets and records. One that passes a limit leaves all as it was, and nothing happens after it.
abbrev pub books : ℕ → List Packet → List Record → Ledger → Ledger
books n ps rs b = books_of b.over n ps rs b

-- ---- the book of a world ----

-- what a world has of packets and text
pub record IsBookOf (w : World) (b : Ledger) : Type 0 where
  pub post : b.post ≡ post_of_world w
  pub text : b.text ≡ w.text

-- The book keeps the packets, the records and their counts of the world, where these bytes of what it writes were taken before.
-- Once a limit was passed only what is written and counted and the limit count.
pub record Keeps (taken : List ℕ) (w : World) (b : Ledger) : Type 0 where
  pub written : written_of b.writing (entries_of_run w) ≡ taken ++ b.fresh
  pub counts : counts_onto no_counts (entries_of_run w) ≡ b.counts
  pub over : b.over ≡ w.over
  pub whole : w.over ≡ None → IsBookOf w b

-- a change of the world leaves its packets and its limit as they were
pub record Elsewhere (old new : World) : Type 0 where
  pub post : post_of_world new ≡ post_of_world old
  pub over : new.over ≡ old.over
