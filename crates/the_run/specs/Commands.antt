-- The other two commands as runs: the tree that is asked call by call, and the generated load with its counts.
use Rattle.std.specs.Prelude.{ℕ, ◌+◌, ◌%◌, ◌==◌, nat_lt, Bool, true, false, cond, List, [], ◌∷◌, ◌++◌, length, None, codes}
use Rattle.std.specs.List.{flat_map}
use Rattle.std.specs.Fmt.{decimal}
use Rattle.std.specs.Int.{to_be_bytes, w32}
use Rattle.locus_ids.specs.declared.sites.Sites.{Sites}
use Rattle.role_steps.specs.of_trace_book.Text.{record_text}
use Rattle.role_steps.specs.of_trace_book.declared.call.Call.{Call}
use Rattle.role_steps.specs.of_trace_book.declared.call.Call.TheVariants as call
use Rattle.role_steps.specs.of_trace_book.declared.call.OpenMode.TheVariants as how
use Rattle.role_steps.specs.of_trace_book.declared.record.Record.{Record}
use Rattle.role_steps.specs.of_trace_book.declared.record.Record.TheVariants as says
use Rattle.role_steps.specs.of_trace_book.declared.reply.Reply.{Reply}
use Rattle.role_steps.specs.of_trace_book.declared.reply.Reply.TheVariants as reply
use Rattle.role_steps.specs.of_trace_book.declared.entry.Entry.{Entry}
use Rattle.disk_calls.specs.of_schedule_lines.declared.header.HeaderLine.TheVariants as header
use Rattle.disk_calls.specs.of_schedule_lines.declared.line.Line.TheVariants as line
use Rattle.disk_calls.specs.of_schedule_lines.declared.line.ScheduleLine.{ScheduleLine}
use Rattle.disk_calls.specs.of_schedule_lines.declared.line.ScheduleLine.TheVariants.{Header, Event}
use Rattle.the_run.specs.Runs.{run, entries_of_run}

-- ---- the cluster of both ----

abbrev pub three_sites : Sites
three_sites = record { 0 = 7 }

abbrev pub two_sites : Sites
two_sites = record { 0 = 6 }

-- sites 3, group 0 1 2 3, group 1 2 3, mount 1 usr, merge 1, and a settle
abbrev pub opening_lines : ℕ → List ScheduleLine
opening_lines budget =
    Header (header.Sites 3)
    ∷ Header (header.Group 0 three_sites)
    ∷ Header (header.Group 1 two_sites)
    ∷ Header (header.Mount 1 (codes "usr"))
    ∷ Event (line.Merge 1)
    ∷ Event (line.Settle budget)
    ∷ []

-- ---- tree ----

-- a call of a process at a site
pub record Asked : Type 0 where
  pub site : ℕ
  pub process : ℕ
  pub words : Call

abbrev pub asked_lines : ℕ → Asked → List ScheduleLine
asked_lines budget a = Event (line.Call a.site a.process a.words) ∷ Event (line.Settle budget) ∷ []

-- each call stands for itself and a settle
abbrev pub tree_lines : List Asked → List ScheduleLine
tree_lines calls = opening_lines 100000 ++ flat_map (asked_lines 100000) calls

abbrev pub reply_line : Record → List ℕ
reply_line (says.Answer site process c r) = record_text (says.Answer site process c r) ++ codes "\n"
reply_line _ = []

-- the reply records of the run, without line numbers
abbrev pub tree_text : List Asked → List ℕ
tree_text calls = flat_map (λ (e : Entry). reply_line e.what) (entries_of_run (run (tree_lines calls)))

-- ---- the generated load ----

-- what an event of the load is drawn from
pub record Drawn : Type 0 where
  pub what : ℕ
  pub site : ℕ
  pub name : ℕ

-- three words a draw: a kind of 16, a site of 3, a name of 8
abbrev pub drawn : ℕ → ℕ → ℕ → Drawn
drawn a s n = record { what = a % 16; site = s % 3 + 1; name = n % 8 }

abbrev pub load_call : ℕ → ℕ → Call → List ScheduleLine
load_call site process words = asked_lines 20000 (record { site = site; process = process; words = words })

abbrev pub load_path : ℕ → List ℕ
load_path name = codes "/f" ++ decimal name

abbrev pub next_site : ℕ → ℕ
next_site site = site % 3 + 1

abbrev pub settle_line : ScheduleLine
settle_line = Event (line.Settle 20000)

abbrev pub writes_number : ℕ → Drawn → List ScheduleLine
writes_number e d =
    load_call d.site 1 (call.Open (load_path d.name) how.Write)
    ++ (load_call d.site 1 (call.Write 0 0 (to_be_bytes w32 e)) ++ load_call d.site 1 (call.Close 0))

abbrev pub reads_it : Drawn → List ScheduleLine
reads_it d = load_call d.site 1 (call.Open (load_path d.name) how.Read) ++ (load_call d.site 1 (call.Read 0 0 8) ++ load_call d.site 1 (call.Close 0))

abbrev pub parts_from : ℕ → ℕ → List ScheduleLine
parts_from s t = Event (line.Down s t) ∷ Event (line.Part s) ∷ settle_line ∷ Event (line.Part t) ∷ settle_line ∷ []

abbrev pub rejoins : ℕ → ℕ → List ScheduleLine
rejoins s t = Event (line.Up s t) ∷ Event (line.Merge s) ∷ settle_line ∷ []

abbrev pub restarts : ℕ → List ScheduleLine
restarts s = Event (line.Stop s) ∷ Event (line.Boot s) ∷ Event (line.Merge s) ∷ settle_line ∷ []

abbrev pub resolves : Drawn → List ScheduleLine
resolves d = load_call d.site 1 (call.Open (load_path d.name) (how.Resolve d.site)) ++ load_call d.site 1 (call.Close 0)

abbrev pub load_case : ℕ → Drawn → ℕ → List ScheduleLine
load_case e d what =
    cond (nat_lt what 4) (load_call d.site 1 (call.Create (load_path d.name) None))
    (cond (nat_lt what 8) (writes_number e d)
    (cond (nat_lt what 10) (reads_it d)
    (cond (what == 10) (load_call d.site 1 (call.Unlink (load_path d.name)))
    (cond (what == 11) (parts_from d.site (next_site d.site))
    (cond (what == 12) (rejoins d.site (next_site d.site))
    (cond (what == 13) (restarts d.site)
    (cond (what == 14) (resolves d) (load_call d.site 1 (call.List (codes "/"))))))))))

-- the lines of the events from number e on
abbrev pub load_events : ℕ → List Drawn → List ScheduleLine
load_events e [] = []
load_events e (d ∷ ds) = load_case e d d.what ++ load_events (e + 1) ds

abbrev pub closing_lines : List ScheduleLine
closing_lines =
    Event (line.Up 1 2) ∷ Event (line.Up 1 3) ∷ Event (line.Up 2 3) ∷ Event (line.Merge 1) ∷ settle_line ∷ settle_line ∷ settle_line
    ∷ (load_call 1 2 (call.List (codes "/")) ++ (load_call 2 2 (call.List (codes "/")) ++ load_call 3 2 (call.List (codes "/"))))

-- the whole load of these draws
abbrev pub load_lines : List Drawn → List ScheduleLine
load_lines draws = opening_lines 20000 ++ (load_events 1 draws ++ closing_lines)

-- ---- its counts ----

pub record Counts : Type 0 where
  pub calls : ℕ
  pub replies : ℕ
  pub ok : ℕ
  pub commits : ℕ
  pub adopts : ℕ
  pub joins : ℕ
  pub voids : ℕ

abbrev pub is_ok : Reply → Bool
is_ok (reply.No why) = false
is_ok _ = true

abbrev pub counted_in : Counts → Record → Counts
counted_in n (says.Accept site process c words) = record n { calls = n.calls + 1 }
counted_in n (says.Answer site process c r) = record n { replies = n.replies + 1; ok = n.ok + cond (is_ok r) 1 0 }
counted_in n (says.Commit file site stamp parents content) = record n { commits = n.commits + 1 }
counted_in n (says.Adopt file site stamp) = record n { adopts = n.adopts + 1 }
counted_in n (says.Join site epoch members) = record n { joins = n.joins + 1 }
counted_in n says.Void = record n { voids = n.voids + 1 }
counted_in n _ = n

abbrev pub counts_onto : Counts → List Entry → Counts
counts_onto n [] = n
counts_onto n (e ∷ es) = counts_onto (counted_in n e.what) es

abbrev pub no_counts : Counts
no_counts = record { calls = 0; replies = 0; ok = 0; commits = 0; adopts = 0; joins = 0; voids = 0 }

abbrev pub count_line : List ℕ → ℕ → List ℕ
count_line name n = name ++ (codes " " ++ (decimal n ++ codes "\n"))

abbrev pub counts_text : ℕ → Counts → List ℕ
counts_text lines n =
    count_line (codes "lines") lines ++ (count_line (codes "calls") n.calls ++ (count_line (codes "replies") n.replies ++ (count_line (codes "ok") n.ok
    ++ (count_line (codes "commits") n.commits ++ (count_line (codes "adopts") n.adopts ++ (count_line (codes "joins") n.joins ++ count_line (codes "voids") n.voids))))))

-- the eight lines that are written after the load was run
abbrev pub load_text : List Drawn → List ℕ
load_text draws = counts_text (length (load_lines draws)) (counts_onto no_counts (entries_of_run (run (load_lines draws))))
