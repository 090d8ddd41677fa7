-- What the lines of the schedule ask of the records, and what each line must tell.
use Rattle.std.specs.Prelude.{ℕ, ◌≡◌, ◌-◌, ◌==◌, Bool, true, false, not, ◌&&◌, ◌||◌, nat_lt, nat_le, List, [], ◌∷◌, ◌++◌, length, filter, take, Option, None, Some}
use Rattle.std.specs.List.{list_any, list_all}
use Rattle.std.specs.Option.{is_none}
use Rattle.locus_ids.specs.declared.config.Config.{Config}
use Rattle.locus_ids.specs.declared.ids.EpochId.{EpochId}
use Rattle.commit_graph.specs.Vectors.{numbers_from}
use Rattle.trace_book.specs.declared.entry.Entry.{Entry}
use Rattle.trace_book.specs.declared.record.Record.{Record}
use Rattle.trace_book.specs.declared.record.Record.TheVariants as rec
use Rattle.trace_book.specs.declared.record.StopCause.TheVariants as cause
use Rattle.trace_book.specs.declared.call.Call.TheVariants as call
use Rattle.schedule_lines.specs.declared.line.Line.TheVariants as line
use Rattle.schedule_lines.specs.declared.line.ScheduleLine.{ScheduleLine}
use Rattle.schedule_lines.specs.declared.line.ScheduleLine.TheVariants.{Event}
use Rattle.lawful_trace.specs.of_tree_model.Packs.{all_sites}
use Rattle.lawful_trace.specs.Places.{line_at, is_cut}
use Rattle.lawful_trace.specs.SiteRows.{makes_leave}
use Rattle.lawful_trace.specs.LineRows.{is_void, tale, must_tell}
use Rattle.promises.specs.Past.{Past, site_at}
use Rattle.promises.specs.Rows.{waits_at}
use Rattle.promises.specs.Traces.{past_of}
use Rattle.promises.specs.Stops.{IsCut, heeds_stops}

-- what the records of the lines before this one tell
abbrev pub past_at : Config → List Entry → ℕ → Past
past_at c trace n = past_of c (filter (λ (r : Entry). nat_lt r.line n) trace)

-- Protocols.

-- the site starts to part or to merge by this line: a stopped one doesn't, and one in no epoch doesn't part (a stopped one is in none)
abbrev pub starts_by : ScheduleLine → Past → ℕ → Bool
starts_by (Event (line.Part s)) p site = (s == site) && not (is_none (site_at p site).epoch)
starts_by (Event (line.Merge s)) p site = (s == site) && (site_at p site).up
starts_by _ p site = false

abbrev pub starts_at : Config → List ScheduleLine → List Entry → ℕ → ℕ → Bool
starts_at c lines trace n site = starts_by (line_at lines n) (past_at c trace n) site

-- another site started by a line before this one, so that it may have polled this site
abbrev pub was_polled : Config → List ScheduleLine → List Entry → ℕ → ℕ → Bool
was_polled c lines trace n site = list_any (λ m. list_any (λ s. not (s == site) && starts_at c lines trace m s) all_sites) (numbers_from 1 (n - 1))

-- the site of the epoch started by a line up to this one, in the boot that the epoch names
abbrev pub is_founded : Config → List ScheduleLine → List Entry → ℕ → EpochId → Bool
is_founded c lines trace n e = list_any (λ m. starts_at c lines trace m e.site && ((site_at (past_at c trace m) e.site).boot == e.boot)) (numbers_from 1 n)

-- Void lines.

-- the line has no effect: its site or its circuit is as the line would have it, or the site can't do it. Of a line that
-- delivers or loses a packet only the packets sent can tell.
abbrev pub has_no_effect : List ScheduleLine → Past → ScheduleLine → Option Bool
has_no_effect earlier p (Event (line.Call site process words)) = Some (not (site_at p site).up || list_any (waits_at site process) p.calls)
has_no_effect earlier p (Event (line.Deliver packet)) = None
has_no_effect earlier p (Event (line.Lose packet)) = None
has_no_effect earlier p (Event (line.Tick site)) = Some (not (site_at p site).up)
has_no_effect earlier p (Event (line.Down one other)) = Some (is_cut earlier one other)
has_no_effect earlier p (Event (line.Up one other)) = Some (not (is_cut earlier one other))
has_no_effect earlier p (Event (line.Part site)) = Some (is_none (site_at p site).epoch)
has_no_effect earlier p (Event (line.Merge site)) = Some (not (site_at p site).up)
has_no_effect earlier p (Event (line.GiveUp site)) = Some (is_none (site_at p site).epoch)
has_no_effect earlier p (Event (line.Stop site)) = Some (not (site_at p site).up)
has_no_effect earlier p (Event (line.Boot site)) = Some (site_at p site).up
has_no_effect earlier p _ = Some false

-- Records and their lines.

-- The line with this number asks for the record. Only boots, stops, leaves, joins, the calls of users, listed packets and the end of a
-- round by its budget hang on lines so; the steps of calls, mends, starts, versions and replies may stand at any event
-- line that isn't void.
abbrev pub IsAsked : (ℕ → List ℕ) → Config → List ScheduleLine → List Entry → ℕ → Record → Type 0
IsAsked wrote c lines before n (rec.Up site boot) = line_at lines n ≡ Event (line.Boot site)
IsAsked wrote c lines before n (rec.Stopped site cause.Asked) = line_at lines n ≡ Event (line.Stop site)
IsAsked wrote c lines before n (rec.Stopped site cause.Fuse) = IsCut wrote c lines before n site false
IsAsked wrote c lines before n (rec.Stopped site cause.Fault) = IsCut wrote c lines before n site true
IsAsked wrote c lines before n (rec.Leave site e) = makes_leave (line_at lines n) site || was_polled c lines before n site ≡ true
IsAsked wrote c lines before n (rec.Join site e members) = is_founded c lines before n e ≡ true
IsAsked wrote c lines before n (rec.Accept site process id (call.Mend f)) = Unit {0}
IsAsked wrote c lines before n (rec.Accept site process id words) = line_at lines n ≡ Event (line.Call site process words)
IsAsked wrote c lines before n (rec.Packet number from to kind) = line_at lines n ≡ Event line.Pending
IsAsked wrote c lines before n rec.Budget = (most : ℕ) × (line_at lines n ≡ Event (line.Settle most))
IsAsked wrote c lines before n _ = Unit {0}

-- how many records of the line pass
abbrev pub how_many : (Record → Bool) → List Entry → ℕ → ℕ
how_many p trace n = length (filter (λ (r : Entry). (r.line == n) && p r.what) trace)

-- A void line tells so once, and nothing else. Another never does: of an event it tells once what it must, its call, its stop, its
-- boot or its leave; a header, a comment or an empty line tells nothing. A line of which only packets can tell may do the one or the
-- other.
abbrev pub tells : Option Bool → ScheduleLine → List Entry → ℕ → Bool
tells (Some true) l trace n = (how_many is_void trace n == 1) && (how_many (λ r. true) trace n == 1)
tells (Some false) (Event l) trace n = (how_many is_void trace n == 0) && (not (must_tell l) || (how_many (tale l) trace n == 1))
tells (Some false) l trace n = how_many (λ r. true) trace n == 0
tells None l trace n = (how_many is_void trace n == 0) || (how_many (λ r. true) trace n == 1)

-- the lines of the records ascend from this one on, up to the last line
abbrev pub ascends : ℕ → ℕ → List Entry → Bool
ascends least most [] = true
ascends least most (r ∷ rest) = nat_le least r.line && (nat_le r.line most && ascends r.line most rest)

-- each of these records, which follow those before, is asked for
abbrev pub EachAsked : (ℕ → List ℕ) → Config → List ScheduleLine → List Entry → List Entry → Type 0
EachAsked wrote c lines before [] = Unit {0}
EachAsked wrote c lines before (r ∷ rest) = IsAsked wrote c lines before r.line r.what × EachAsked wrote c lines (before ++ r ∷ []) rest

-- The lines of the schedule ask for the trace, if adoptions wrote these pages: its records stand in the order of their lines, those that
-- hang on lines each at one that asks for it; each line tells what it must; and a disk that was used for more calls than pass stops its
-- site at once.
pub record IsAskedBy (wrote : ℕ → List ℕ) (c : Config) (lines : List ScheduleLine) (trace : List Entry) : Type 0 where
  pub ascending : ascends 1 (length lines) trace ≡ true
  pub each : EachAsked wrote c lines [] trace
  pub told : list_all (λ n. tells (has_no_effect (take (n - 1) lines) (past_at c trace n) (line_at lines n)) (line_at lines n) trace n) (numbers_from 1 (length lines)) ≡ true
  pub heeded : heeds_stops wrote c lines [] trace ≡ true

-- They do, for some pages that adoptions wrote: the records don't tell them.
pub record IsAskedFor (c : Config) (lines : List ScheduleLine) (trace : List Entry) : Type 0 where
  -- what each adoption wrote, by how many records stand before its own, or before that of the stop that cut it off
  pub wrote : ℕ → List ℕ
  pub asked : IsAskedBy wrote c lines trace
