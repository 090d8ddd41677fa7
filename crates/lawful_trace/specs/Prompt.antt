-- What the program keeps beyond the lawful trace: its records come as early as they can, and where an event is.
use Rattle.std.specs.Prelude.{ℕ, ◌≡◌, ◌==◌, Bool, true, false, not, ◌&&◌, ◌||◌, List, [], ◌∷◌, Option, None, Some, cond, nat_lt}
use Rattle.std.specs.Option.{is_some}
use Rattle.locus_ids.specs.declared.config.Config.{Config}
use Rattle.locus_ids.specs.declared.ids.CallId.{CallId}
use Rattle.trace_book.specs.Same.{same_call}
use Rattle.trace_book.specs.declared.entry.Entry.{Entry}
use Rattle.trace_book.specs.declared.record.Record.{Record}
use Rattle.trace_book.specs.declared.record.Record.TheVariants.{Up, Stopped, Join, Start, Accept, Look, Grant, Refuse, Act, Commit, Release, Adopt, Answer, Void}
use Rattle.trace_book.specs.declared.call.Call.{Call}
use Rattle.trace_book.specs.declared.call.Call.TheVariants.{Mend}
use Rattle.call_rules.specs.Scripts.{gives_reply}
use Rattle.disk_calls.specs.of_schedule_lines.declared.line.ScheduleLine.{ScheduleLine}
use Rattle.disk_calls.specs.of_schedule_lines.declared.line.ScheduleLine.TheVariants.{Event}
use Rattle.disk_calls.specs.of_schedule_lines.declared.line.Line.TheVariants as line
use Rattle.disk_calls.specs.of_schedule_lines.Cluster.{config_of}
use Rattle.tree_model.specs.declared.accepted.Waiting.{Waiting}
use Rattle.tree_model.specs.Folds.{Trace, last_line}
use Rattle.tree_model.specs.Calls.{waiting}
use Rattle.lawful_trace.specs.Places.{line_at}
use Rattle.lawful_trace.specs.Progress.{Answers, answers, wants_next, left_epoch}
use Rattle.lawful_trace.specs.LineRows.{is_mend, is_void}
use Rattle.lawful_trace.specs.Disks.{Armed, armed_at, has_left, writer_of}

-- Replies that are due.

abbrev pub is_unanswered : Answers → Bool
is_unanswered [] = true
is_unanswered (a ∷ rest) = false

-- the call has its reply before any request of its script
abbrev pub needs_no_request : Config → Trace → CallId → Bool
needs_no_request c before call = is_unanswered (answers c before call) && gives_reply (wants_next c before call)

-- a reply is due to a call whose site has left the epoch, and to one that needs no request
abbrev pub is_due : Config → Trace → Waiting → Bool
is_due c before w = is_some (left_epoch before w) || needs_no_request c before w.call

-- the group of a mend; mends are calls of process 0, one for a group
abbrev pub mended_group : Call → ℕ
mended_group (Mend file) = file.group
mended_group _ = 0

-- the first call is of the lesser process, or of the same one and mends the lesser group
abbrev pub comes_first : Waiting → Waiting → Bool
comes_first v w = nat_lt v.process w.process || ((v.process == w.process) && nat_lt (mended_group v.words) (mended_group w.words))

abbrev pub lesser : Waiting → Option Waiting → Waiting
lesser w None = w
lesser w (Some v) = cond (comes_first v w) v w

-- the call among these that is answered next, where a reply is due: that of the least process, of mends that of the least
-- group
abbrev pub due_among : Config → Trace → List Waiting → Option Waiting
due_among c before [] = None
due_among c before (w ∷ ws) = cond (is_due c before w) (Some (lesser w (due_among c before ws))) (due_among c before ws)

abbrev pub due : Config → Trace → Option Waiting
due c before = due_among c before (waiting before)

abbrev pub answers_call : CallId → Record → Bool
answers_call call (Answer site process d r) = same_call d call
answers_call call _ = false

-- a reply that is due comes next, at the same line
abbrev pub is_reply_due : Option Waiting → ℕ → Entry → Bool
is_reply_due None line r = true
is_reply_due (Some w) line r = (r.line == line) && answers_call w.call r.what

-- Where events are.

abbrev pub delivers : ScheduleLine → Bool
delivers (Event (line.Deliver packet)) = true
delivers (Event (line.Settle most)) = true
delivers _ = false

abbrev pub ticks : ScheduleLine → Bool
ticks (Event (line.Tick site)) = true
ticks l = delivers l

-- a line by which a round of partition or merging may be decided at once: each at which some site has an event
abbrev pub decides : ScheduleLine → Bool
decides (Event (line.Call site process words)) = true
decides (Event (line.Part site)) = true
decides (Event (line.Merge site)) = true
decides l = ticks l

-- The steps of calls, and commits, stand where packets are delivered; adoptions, mends and what follows from a decision
-- stand there too, or where a site ticks; decisions also where a site parts, merges or has a call.
abbrev pub stands_at : ScheduleLine → Record → Bool
stands_at l (Look e call request f w result) = delivers l
stands_at l (Grant e call request i m f stamp ss) = delivers l
stands_at l (Refuse e call request i m f why) = delivers l
stands_at l (Act e i n o result) = delivers l
stands_at l (Commit f site stamp parents content) = delivers l
stands_at l (Release e i f stamp) = delivers l
stands_at l (Start e group copies) = delivers l
stands_at l (Adopt f site stamp) = ticks l
stands_at l (Join site e members) = decides l
stands_at l (Accept site process call words) = not (is_mend words) || ticks l
stands_at l _ = true

-- Which records come first or alone.

-- an accepted call of a user, and that a line is void, come first at their line
abbrev pub comes_first_at : Record → Bool
comes_first_at (Accept site process call words) = not (is_mend words)
comes_first_at (Up site boot) = true
comes_first_at Void = true
comes_first_at _ = false

abbrev pub is_first_at : ℕ → Trace → Bool
is_first_at n before = nat_lt (last_line before) n

-- after a record that tells that its line is void, comes none of that line
abbrev pub is_over : Trace → ℕ → Bool
is_over [] n = false
is_over (r ∷ before) n = is_void r.what && (r.line == n)

-- Stops.

-- the record tells that the site stopped
abbrev pub is_stop_of : ℕ → Record → Bool
is_stop_of site (Stopped s cause) = s == site
is_stop_of site _ = false

-- a disk that made more calls than pass has stopped its site: after the version that is on the disk its stop comes next
abbrev pub is_cut_heeded_by : Config → List ScheduleLine → Trace → Entry → Option ℕ → Bool
is_cut_heeded_by c lines before r None = true
is_cut_heeded_by c lines before r (Some site) = has_no_more (armed_at c lines before (last_line before) site)
  where
    has_no_more : Option Armed → Bool
    has_no_more None = true
    has_no_more (Some a) = has_left (Some a) || is_stop_of site r.what

abbrev pub last_writer : Trace → Option ℕ
last_writer [] = None
last_writer (r ∷ before) = writer_of r.what

-- A record of the program comes as early as it can.
pub record ComesPromptly (c : Config) (lines : List ScheduleLine) (before : Trace) (r : Entry) : Type 0 where
  pub reply : is_reply_due (due c before) (last_line before) r ≡ true
  pub place : stands_at (line_at lines r.line) r.what ≡ true
  pub first : not (comes_first_at r.what) || is_first_at r.line before ≡ true
  pub alone : is_over before r.line ≡ false
  pub stop : is_cut_heeded_by c lines before r (last_writer before) ≡ true

abbrev pub EachPromptly : Config → List ScheduleLine → Trace → Type 0
EachPromptly c lines [] = Unit {0}
EachPromptly c lines (r ∷ before) = ComesPromptly c lines before r × EachPromptly c lines before

-- All records come so, and no reply is due at the end.
pub record IsPrompt (lines : List ScheduleLine) (trace : Trace) : Type 0 where
  pub each : EachPromptly (config_of lines) lines trace
  pub ended : due (config_of lines) trace ≡ None
