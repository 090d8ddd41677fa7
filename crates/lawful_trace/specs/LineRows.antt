-- The rows of the lawful trace that speak of lines: which of them are void, and which tell what came of them.
use Rattle.std.specs.Prelude.{ℕ, ◌≡◌, ◌==◌, Bool, true, false, not, ◌&&◌, ◌||◌, List, length, filter, Option, None, Some, nat_le}
use Rattle.std.specs.Option.{is_none, is_some}
use Rattle.std.specs.List.{list_all}
use Rattle.locus_ids.specs.declared.config.Config.{Config}
use Rattle.call_rules.specs.of_commit_graph.Vectors.{numbers_from}
use Rattle.trace_book.specs.declared.entry.Entry.{Entry}
use Rattle.trace_book.specs.declared.record.Record.{Record}
use Rattle.trace_book.specs.declared.record.Record.TheVariants.{Up, Stopped, Leave, Accept, Void}
use Rattle.trace_book.specs.declared.call.Call.{Call}
use Rattle.trace_book.specs.declared.call.Call.TheVariants as call
use Rattle.disk_calls.specs.of_schedule_lines.declared.line.Line.{Line}
use Rattle.disk_calls.specs.of_schedule_lines.declared.line.Line.TheVariants as line
use Rattle.disk_calls.specs.of_schedule_lines.declared.line.ScheduleLine.{ScheduleLine}
use Rattle.disk_calls.specs.of_schedule_lines.declared.line.ScheduleLine.TheVariants.{Passed, Header, Event}
use Rattle.disk_calls.specs.of_schedule_lines.Cluster.{config_of}
use Rattle.tree_model.specs.Folds.{Trace, before_line}
use Rattle.tree_model.specs.Epochs.{is_up, epoch_of}
use Rattle.tree_model.specs.Calls.{waiting, waiting_of}
use Rattle.lawful_trace.specs.Places.{line_at, lines_before, is_cut}

-- Void lines.

-- a site that is stopped, or in no epoch
abbrev pub is_apart : Config → Trace → ℕ → Bool
is_apart c before site = not (is_up c before site) || is_none (epoch_of before site)

-- whether a line has no effect after these lines and records: its site or its circuit is as the line would have it, or the
-- site can't do it. Of a line that delivers or loses a packet only the packets sent can tell.
abbrev pub has_no_effect : Config → List ScheduleLine → Trace → Line → Option Bool
has_no_effect c earlier before (line.Call site process words) = Some (not (is_up c before site) || is_some (waiting_of site process (waiting before)))
has_no_effect c earlier before (line.Deliver packet) = None
has_no_effect c earlier before (line.Lose packet) = None
has_no_effect c earlier before (line.Tick site) = Some (not (is_up c before site))
has_no_effect c earlier before (line.Down one other) = Some (is_cut earlier one other)
has_no_effect c earlier before (line.Up one other) = Some (not (is_cut earlier one other))
has_no_effect c earlier before (line.Part site) = Some (is_apart c before site)
has_no_effect c earlier before (line.Merge site) = Some (not (is_up c before site))
has_no_effect c earlier before (line.GiveUp site) = Some (is_apart c before site)
has_no_effect c earlier before (line.Stop site) = Some (not (is_up c before site))
has_no_effect c earlier before (line.ArmStop site calls leave) = Some false
has_no_effect c earlier before (line.ArmFail site calls) = Some false
has_no_effect c earlier before (line.Boot site) = Some (is_up c before site)
has_no_effect c earlier before (line.Settle most) = Some false
has_no_effect c earlier before line.Pending = Some false

-- a header line and a line that is passed over are no events, and so never void
abbrev pub is_void_after : Config → List ScheduleLine → Trace → ScheduleLine → Option Bool
is_void_after c earlier before Passed = Some false
is_void_after c earlier before (Header h) = Some false
is_void_after c earlier before (Event l) = has_no_effect c earlier before l

-- whether the line with this number is void
abbrev pub is_void_line : List ScheduleLine → Trace → ℕ → Option Bool
is_void_line lines trace n = is_void_after (config_of lines) (lines_before lines n) (before_line trace n) (line_at lines n)

-- it is, or only the packets can tell
abbrev pub may_be_void : Option Bool → Bool
may_be_void None = true
may_be_void (Some void) = void

-- Only a void line tells that it is.
pub record IsVoidAsked (lines : List ScheduleLine) (n : ℕ) (before : Trace) : Type 0 where
  pub silent : may_be_void (is_void_line lines before n) ≡ true

-- Rounds and listed packets.

abbrev pub settles : ScheduleLine → Bool
settles (Event (line.Settle most)) = true
settles _ = false

-- Only a round ends by its budget.
pub record IsRoundAsked (lines : List ScheduleLine) (n : ℕ) : Type 0 where
  pub round : settles (line_at lines n) ≡ true

abbrev pub lists_packets : ScheduleLine → Bool
lists_packets (Event line.Pending) = true
lists_packets _ = false

-- Only its line lists packets.
pub record IsListAsked (lines : List ScheduleLine) (n : ℕ) : Type 0 where
  pub listed : lists_packets (line_at lines n) ≡ true

-- What lines must tell.

abbrev pub is_void : Record → Bool
is_void Void = true
is_void _ = false

abbrev pub is_mend : Call → Bool
is_mend (call.Mend file) = true
is_mend _ = false

-- by which of its records a line tells what came of it, if it must: its call, its site's stop, its boot or the stop in it,
-- or its leave
abbrev pub tale : Line → Record → Bool
tale (line.Call site process words) (Accept s p call w) = (s == site) && ((p == process) && not (is_mend w))
tale (line.Stop site) (Stopped s cause) = s == site
tale (line.Boot site) (Up s boot) = s == site
tale (line.Boot site) (Stopped s cause) = s == site
tale (line.GiveUp site) (Leave s epoch) = s == site
tale l r = false

abbrev pub must_tell : Line → Bool
must_tell (line.Call site process words) = true
must_tell (line.Stop site) = true
must_tell (line.Boot site) = true
must_tell (line.GiveUp site) = true
must_tell _ = false

-- how many records of the line with this number pass
abbrev pub how_many : (Record → Bool) → ℕ → Trace → ℕ
how_many p n trace = length (filter (λ (r : Entry). (r.line == n) && p r.what) trace)

abbrev pub tells_own : ScheduleLine → ℕ → Trace → Bool
tells_own (Event l) n trace = not (must_tell l) || (how_many (tale l) n trace == 1)
tells_own _ n trace = true

-- a void line tells so once; another tells what it must, once
abbrev pub is_told_by : Option Bool → ScheduleLine → ℕ → Trace → Bool
is_told_by None l n trace = nat_le (how_many is_void n trace) 1
is_told_by (Some true) l n trace = how_many is_void n trace == 1
is_told_by (Some false) l n trace = tells_own l n trace

abbrev pub is_told : List ScheduleLine → Trace → ℕ → Bool
is_told lines trace n = is_told_by (is_void_line lines trace n) (line_at lines n) n trace

-- each line is told
abbrev pub are_told : List ScheduleLine → Trace → Bool
are_told lines trace = list_all (is_told lines trace) (numbers_from 1 (length lines))
