-- What each line does, the whole run of a schedule, and the text of its trace.
use Rattle.std.specs.Prelude.{ℕ, zero, suc, ◌+◌, ◌==◌, Bool, true, false, not, ◌||◌, List, [], ◌∷◌, map, filter, Option, Some, None}
use Rattle.std.specs.List.{list_any}
use Rattle.std.specs.Option.{is_some}
use Rattle.locus_ids.specs.declared.config.Config.{Config}
use Rattle.disk_calls.specs.of_schedule_lines.Cluster.{config_of}
use Rattle.disk_calls.specs.of_schedule_lines.declared.line.Line.{Line as LineWords}
use Rattle.disk_calls.specs.of_schedule_lines.declared.line.Line.TheVariants as line
use Rattle.disk_calls.specs.of_schedule_lines.declared.line.ScheduleLine.{ScheduleLine}
use Rattle.disk_calls.specs.of_schedule_lines.declared.line.ScheduleLine.TheVariants.{Passed, Header, Event}
use Rattle.role_steps.specs.of_trace_book.Text.{text}
use Rattle.role_steps.specs.of_trace_book.declared.record.Record.TheVariants as says
use Rattle.role_steps.specs.of_trace_book.declared.record.StopCause.TheVariants as cause
use Rattle.role_steps.specs.of_trace_book.declared.entry.Entry.{Entry}
use Rattle.role_steps.specs.of_wire_messages.Bodies.{kind_of}
use Rattle.role_steps.specs.of_wire_messages.declared.packet.Packet.{Packet}
use Rattle.role_steps.specs.Tables.{row, first_that}
use Rattle.role_steps.specs.Views.{SiteView, all_sites, Told, Shown, Calls, Receives, Ticks, Parts, Merges, GivesUp}
use Rattle.role_steps.specs.declared.users.WaitingCall.{WaitingCall}
use Rattle.the_run.specs.Disks.{Armed, Stops, Fails, Booted, Whole, CutOff, boots}
use Rattle.the_run.specs.Steps.{is_dropped}
use Rattle.the_run.specs.Worlds.{World, Limit, Place, Running, Stopped, Numbered, Line, CutCircuit, place_at, is_cut, is_between, is_up, happened, says_only, voids, puts, arms, script_of, number_of, passed, loses, disk_of, stops_with, cause_of, happens, fresh, first_world}

-- ---- deliveries ----

abbrev pub packet_at : World → ℕ → Option Numbered
packet_at w k = row number_of k w.sent

abbrev pub can_come : World → Numbered → Bool
can_come w x = is_up w x.packet.from x.packet.to

abbrev pub arrives_at : Config → ℕ → Packet → Option Place → World → World
arrives_at c n p None w = w
arrives_at c n p (Some (Stopped d)) w = w
arrives_at c n p (Some (Running v)) w = elim (is_dropped p v) [
  | true ↦ w
  | false ↦ happens c n p.to (Receives p) w
]

-- the packet is handed to the site that it names; one that is dropped is no event
abbrev pub arrives : Config → ℕ → Numbered → World → World
arrives c n x w = arrives_at c n x.packet (place_at w x.packet.to) (passed x.number w)

-- the lowest-numbered packet that can be delivered; none where a limit was passed
abbrev pub next_packet_of : World → Option Limit → Option Numbered
next_packet_of w (Some l) = None
next_packet_of w None = first_that (can_come w) w.underway

abbrev pub next_packet : World → Option Numbered
next_packet w = next_packet_of w w.over

-- ---- a round ----

abbrev pub goes_round : Config → ℕ → (World → World) → World → Option Numbered → World
goes_round c n rest w None = w
goes_round c n rest w (Some x) = rest (arrives c n x w)

abbrev pub budget_ends : ℕ → World → World
budget_ends n w = says_only n says.Budget w

abbrev pub ends_round : ℕ → World → Option Numbered → World
ends_round n w None = w
ends_round n w (Some x) = budget_ends n w

-- packets are delivered, the lowest-numbered first, until there is none; where so many were and one more is there, the
-- round ends by its budget
abbrev pub delivers : Config → ℕ → ℕ → World → World
delivers c n zero w = ends_round n w (next_packet w)
delivers c n (suc budget) w = goes_round c n (delivers c n budget) w (next_packet w)

-- each running site ticks, in ascending order
abbrev pub ticks_to : Config → ℕ → List ℕ → World → World
ticks_to c n [] w = w
ticks_to c n (s ∷ ss) w = ticks_to c n ss (happens c n s Ticks w)

abbrev pub settles : Config → ℕ → ℕ → World → World
settles c n budget w = delivers c n budget (ticks_to c n all_sites w)

-- ---- when a line is void ----

abbrev pub is_stopped : Option Place → Bool
is_stopped None = true
is_stopped (Some (Stopped d)) = true
is_stopped (Some (Running v)) = false

abbrev pub is_in_no_epoch : Option Place → Bool
is_in_no_epoch None = true
is_in_no_epoch (Some (Stopped d)) = true
is_in_no_epoch (Some (Running v)) = not (is_some v.epoch)

abbrev pub is_busy : ℕ → Option Place → Bool
is_busy process None = true
is_busy process (Some (Stopped d)) = true
is_busy process (Some (Running v)) = list_any (λ (x : WaitingCall). x.process == process) v.users.waiting

abbrev pub is_lost : World → ℕ → Bool
is_lost w k = list_any (λ j. j == k) w.lost

abbrev pub unless_void : ℕ → Bool → (World → World) → World → World
unless_void n true f w = voids n w
unless_void n false f w = f w

-- ---- lines ----

-- a packet that was delivered before may be delivered again
abbrev pub delivers_line : Config → ℕ → Option Numbered → World → World
delivers_line c n None w = voids n w
delivers_line c n (Some x) w = unless_void n (is_lost w x.number || not (can_come w x)) (arrives c n x) w

abbrev pub loses_line : ℕ → Option Numbered → World → World
loses_line n None w = voids n w
loses_line n (Some x) w = unless_void n (is_lost w x.number) (loses x.number) w

abbrev pub cuts_circuit : ℕ → ℕ → World → World
cuts_circuit a b w = record w { circuits = record { one = a; other = b } ∷ w.circuits }

abbrev pub mends_circuit : ℕ → ℕ → World → World
mends_circuit a b w = record w { circuits = filter (λ (x : CutCircuit). not (is_between a b x)) w.circuits }

abbrev pub asked_stop : ℕ → ℕ → SiteView → World → World
asked_stop n s v w = happened n [] (Shown (says.Stopped s cause.Asked) ∷ []) (stops_with s (disk_of v)) w

abbrev pub stops_line : ℕ → ℕ → Option Place → World → World
stops_line n s None w = voids n w
stops_line n s (Some (Stopped d)) w = voids n w
stops_line n s (Some (Running v)) w = asked_stop n s v w

abbrev pub rearms : ℕ → Option Armed → World → World
rearms s None w = w
rearms s (Some a) w = arms a w

-- a boot raises the boot number on the disk, mounts the packs, and prints it; one that is cut off leaves the site stopped
abbrev pub boots_as : ℕ → ℕ → Booted → World → World
boots_as n s (Whole d a) w =
    happened n [] (Shown (says.Up s d.label.boot) ∷ []) (λ now. rearms s a (puts s (Running (fresh d.label.boot d.copies)) now)) w
boots_as n s (CutOff d how) w = happened n [] (Shown (says.Stopped s (cause_of how)) ∷ []) (stops_with s d) w

abbrev pub boots_line : ℕ → ℕ → Option Place → World → World
boots_line n s None w = voids n w
boots_line n s (Some (Running v)) w = voids n w
boots_line n s (Some (Stopped d)) w = boots_as n s (boots (script_of w s) d) w

abbrev pub packet_record : Numbered → Told
packet_record x = Shown (says.Packet x.number x.packet.from x.packet.to (kind_of x.packet.body))

-- the packets neither delivered nor lost; all their records are one event
abbrev pub lists_pending : ℕ → World → World
lists_pending n w = happened n [] (map packet_record w.underway) (λ now. now) w

abbrev pub act : Config → ℕ → LineWords → World → World
act c n (line.Call s process words) w = unless_void n (is_busy process (place_at w s)) (happens c n s (Calls process words)) w
act c n (line.Deliver k) w = delivers_line c n (packet_at w k) w
act c n (line.Lose k) w = loses_line n (packet_at w k) w
act c n (line.Tick s) w = unless_void n (is_stopped (place_at w s)) (happens c n s Ticks) w
act c n (line.Down a b) w = unless_void n (is_cut w a b) (cuts_circuit a b) w
act c n (line.Up a b) w = unless_void n (not (is_cut w a b)) (mends_circuit a b) w
act c n (line.Part s) w = unless_void n (is_in_no_epoch (place_at w s)) (happens c n s Parts) w
act c n (line.Merge s) w = unless_void n (is_stopped (place_at w s)) (happens c n s Merges) w
act c n (line.GiveUp s) w = unless_void n (is_in_no_epoch (place_at w s)) (happens c n s GivesUp) w
act c n (line.Stop s) w = stops_line n s (place_at w s) w
act c n (line.ArmStop s calls l) w = arms (record { site = s; left = calls; how = Stops l }) w
act c n (line.ArmFail s calls) w = arms (record { site = s; left = calls; how = Fails }) w
act c n (line.Boot s) w = boots_line n s (place_at w s) w
act c n (line.Settle budget) w = settles c n budget w
act c n line.Pending w = lists_pending n w

-- ---- the run ----

abbrev pub acts_line : Config → ℕ → ScheduleLine → World → World
acts_line c n Passed w = w
acts_line c n (Header h) w = w
acts_line c n (Event e) w = act c n e w

-- the lines from number n on
abbrev pub run_from : Config → ℕ → List ScheduleLine → World → World
run_from c n [] w = w
run_from c n (x ∷ xs) w = run_from c (n + 1) xs (acts_line c n x w)

abbrev pub run_in : Config → List ScheduleLine → World
run_in c lines = run_from c 1 lines (first_world c)

-- The world after the lines of a schedule, or, where an event passed a limit, one with the sites, the trace and the counts of
-- before that event, and with the limit.
abbrev pub run : List ScheduleLine → World
run lines = run_in (config_of lines) lines

-- ---- what is printed ----

-- the earliest record first; what only the laws see falls away
abbrev pub shown_onto : List Line → List Entry → List Entry
shown_onto [] entries = entries
shown_onto (x ∷ xs) entries = shown_onto xs (with_told x.told)
  where
    with_told : Told → List Entry
    with_told (Shown r) = record { line = x.number; what = r } ∷ entries
    with_told _ = entries

abbrev pub entries_of_run : World → List Entry
entries_of_run w = shown_onto w.trace []

-- the text of the trace
abbrev pub printed : World → List ℕ
printed w = text (entries_of_run w)
