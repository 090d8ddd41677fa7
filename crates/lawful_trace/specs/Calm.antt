-- Calm rounds: the moments of a line, what makes a round calm, and what it leaves.
use Rattle.std.specs.Prelude.{ℕ, ◌≡◌, ◌==◌, Bool, true, false, ◌&&◌, List, ◌++◌, Some}
use Rattle.std.specs.List.{AllByRecursion, list_any}
use Rattle.locus_ids.specs.declared.config.Config.{Config}
use Rattle.locus_ids.specs.declared.ids.EpochId.{EpochId}
use Rattle.locus_ids.specs.declared.sites.Members.{Members}
use Rattle.trace_book.specs.declared.entry.Entry.{Entry}
use Rattle.trace_book.specs.declared.record.Record.{Record}
use Rattle.trace_book.specs.declared.record.Record.TheVariants.{Budget}
use Rattle.disk_calls.specs.of_schedule_lines.declared.line.ScheduleLine.{ScheduleLine}
use Rattle.disk_calls.specs.of_schedule_lines.declared.line.ScheduleLine.TheVariants.{Event}
use Rattle.disk_calls.specs.of_schedule_lines.declared.line.Line.TheVariants as line
use Rattle.disk_calls.specs.of_schedule_lines.Cluster.{config_of}
use Rattle.tree_model.specs.Folds.{Trace, before_line}
use Rattle.tree_model.specs.Epochs.{is_up, boot_of, epoch_of, members_of}
use Rattle.tree_model.specs.Packs.{boot_in, is_member}
use Rattle.tree_model.specs.Calls.{waiting}
use Rattle.lawful_trace.specs.Places.{line_at, lines_before, through_line, reaches}

-- a moment of the line: the records before it, and the first of those that it tells
pub record IsMoment (trace : Trace) (n : ℕ) (now : Trace) : Type 0 where
  pub so_far : Trace
  pub later : Trace
  pub begun : now ≡ so_far ++ before_line trace n
  pub ends : through_line trace n ≡ later ++ now

abbrev pub is_budget : Record → Bool
is_budget Budget = true
is_budget _ = false

-- the line tells that its round ended by its budget
abbrev pub tells_budget : ℕ → Entry → Bool
tells_budget n r = is_budget r.what && (r.line == n)

-- each member is up with its boot number, is in the epoch, and reaches each other
pub record AreTogether (c : Config) (lines : List ScheduleLine) (now : Trace) (e : EpochId) (members : Members) : Type 0 where
  pub up : (s : ℕ) → is_member members s ≡ true → is_up c now s ≡ true
  pub boots : (s : ℕ) → is_member members s ≡ true → boot_of now s ≡ boot_in members s
  pub inside : (s : ℕ) → is_member members s ≡ true → epoch_of now s ≡ Some e
  pub reach : (s t : ℕ) → is_member members s ≡ true → is_member members t ≡ true → reaches c lines now s t ≡ true

-- A calm round of an epoch: a `settle` line that doesn't end by its budget, at each moment of which the members of the
-- epoch are together.
pub record IsCalmRound (lines : List ScheduleLine) (trace : Trace) (n : ℕ) (e : EpochId) (members : Members) : Type 0 where
  pub most : ℕ
  pub settles : line_at lines n ≡ Event (line.Settle most)
  pub ended : list_any (tells_budget n) trace ≡ false
  pub listed : members_of (before_line trace n) e ≡ Some members
  pub together : (now : Trace) → IsMoment trace n now → AreTogether (config_of lines) (lines_before lines n) now e members

-- After a calm round no call of a member waits, mends included.
abbrev pub CalmRoundsAnswer : List ScheduleLine → Trace → Type 0
CalmRoundsAnswer lines trace = (n : ℕ) (e : EpochId) (members : Members) → IsCalmRound lines trace n e members
    → AllByRecursion (λ w. is_member members w.site ≡ false) (waiting (through_line trace n))
