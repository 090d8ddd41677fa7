-- The world: sites that run or stand stopped, armed scripts, circuits, every packet sent, and the trace.
use Rattle.std.specs.Prelude.{ℕ, ◌+◌, ◌-◌, ◌==◌, nat_lt, Bool, true, false, cond, not, ◌||◌, ◌&&◌, List, [], ◌∷◌, ◌++◌, length, map, filter, Option, Some, None}
use Rattle.std.specs.List.{list_any}
use Rattle.locus_ids.specs.Sites.{has}
use Rattle.locus_ids.specs.declared.ids.EpochId.{EpochId}
use Rattle.locus_ids.specs.declared.ids.Kind.TheVariants as kind
use Rattle.locus_ids.specs.declared.sites.Links.{Links}
use Rattle.locus_ids.specs.declared.config.Config.{Config}
use Rattle.role_steps.specs.of_dir_format.Entries.{nothing_seen}
use Rattle.role_steps.specs.of_trace_book.Text.{entry_text}
use Rattle.role_steps.specs.of_trace_book.declared.record.Record.{Record}
use Rattle.role_steps.specs.of_trace_book.declared.record.Record.TheVariants as says
use Rattle.role_steps.specs.of_trace_book.declared.record.StopCause.{StopCause}
use Rattle.role_steps.specs.of_trace_book.declared.record.StopCause.TheVariants as cause
use Rattle.role_steps.specs.of_wire_messages.Bodies.{body_bytes}
use Rattle.role_steps.specs.of_wire_messages.declared.packet.Packet.{Packet}
use Rattle.role_steps.specs.Tables.{row, with_row, without_row, total}
use Rattle.role_steps.specs.Views.{Store, SiteView, Told, Shown, DiskWrite, Outcome, Event, pack_sites, all_sites, all_groups}
use Rattle.role_steps.specs.declared.copies.FileCopy.{FileCopy}
use Rattle.the_run.specs.Disks.{Disk, Armed, Cut, Stops, Fails, one_label, write_calls, cut_disk, is_on_disk}
use Rattle.the_run.specs.Steps.{step}

pub data Place : Type 0 where
  Running : SiteView → Place
  Stopped : Disk → Place

-- a site, from 1, and how it stands
pub record PlaceRow : Type 0 where
  pub site : ℕ
  pub place : Place

-- a circuit that is cut
pub record CutCircuit : Type 0 where
  pub one : ℕ
  pub other : ℕ

-- a packet with its number, from 1 in the order of sending
pub record Numbered : Type 0 where
  pub number : ℕ
  pub packet : Packet

-- what is told, with the number of its line
pub record Line : Type 0 where
  pub number : ℕ
  pub told : Told

-- a limit that an event passes
pub data Limit : Type 0 where
  Packets : Limit
  Bytes : Limit
  Trace : Limit

pub record World : Type 0 where
  pub places : List PlaceRow
  pub armed : List Armed
  pub circuits : List CutCircuit  -- those that are cut
  pub sent : List Numbered  -- the newest first
  pub underway : List Numbered  -- neither delivered nor lost, ascending
  pub lost : List ℕ
  pub trace : List Line  -- the newest first
  pub packets : ℕ  -- packets sent
  pub bytes : ℕ  -- bytes of packets sent
  pub text : ℕ  -- bytes of the records' text
  pub over : Option Limit  -- the limit that the next event passed; then no event happens any more

-- ---- sites and circuits ----

abbrev pub place_site : PlaceRow → ℕ
place_site p = p.site

abbrev pub place_in : Option PlaceRow → Option Place
place_in None = None
place_in (Some p) = Some p.place

abbrev pub place_at : World → ℕ → Option Place
place_at w s = place_in (row place_site s w.places)

abbrev pub boot_of : Option Place → ℕ
boot_of None = 0
boot_of (Some (Running v)) = v.boot
boot_of (Some (Stopped d)) = 0

abbrev pub is_between : ℕ → ℕ → CutCircuit → Bool
is_between a b x = ((x.one == a) && (x.other == b)) || ((x.one == b) && (x.other == a))

abbrev pub is_cut : World → ℕ → ℕ → Bool
is_cut w a b = list_any (is_between a b) w.circuits

-- the boot number of a site that the first one reaches, else 0
abbrev pub link_of : World → ℕ → ℕ → ℕ
link_of w s t = cond (is_cut w s t) 0 (boot_of (place_at w t))

abbrev pub links_of : World → ℕ → Links
links_of w s = record { boot = map (link_of w s) all_sites }

abbrev pub is_running : World → ℕ → Bool
is_running w s = not (boot_of (place_at w s) == 0)

-- the circuit between two sites is up where both run and it isn't cut
abbrev pub is_up : World → ℕ → ℕ → Bool
is_up w a b = is_running w a && (is_running w b && not (is_cut w a b))

-- ---- one event, within the limits ----

abbrev pub packet_size : Packet → ℕ
packet_size p = 25 + length (body_bytes p.body)

-- only a printed record has a text
abbrev pub told_size : ℕ → Told → ℕ
told_size n (Shown r) = length (entry_text n r)
told_size n _ = 0

abbrev pub told_onto : ℕ → List Told → List Line → List Line
told_onto n [] trace = trace
told_onto n (x ∷ xs) trace = told_onto n xs (record { number = n; told = x } ∷ trace)

-- packets with the numbers from this one on
abbrev pub numbered_from : ℕ → List Packet → List Numbered
numbered_from k [] = []
numbered_from k (p ∷ ps) = record { number = k; packet = p } ∷ numbered_from (k + 1) ps

abbrev pub newest_onto : List Numbered → List Numbered → List Numbered
newest_onto [] sent = sent
newest_onto (x ∷ xs) sent = newest_onto xs (x ∷ sent)

abbrev pub limit_passed : ℕ → ℕ → ℕ → Option Limit
limit_passed packets bytes text =
    cond (nat_lt 262144 packets) (Some Packets) (cond (nat_lt 134217728 bytes) (Some Bytes) (cond (nat_lt 134217728 text) (Some Trace) None))

abbrev pub with_numbered : List Numbered → List Line → ℕ → ℕ → ℕ → World → World
with_numbered xs trace packets bytes text w = record w {
  sent = newest_onto xs w.sent;
  underway = w.underway ++ xs;
  trace = trace;
  packets = packets;
  bytes = bytes;
  text = text;
}

abbrev pub unless_over : Option Limit → ℕ → List Packet → List Told → (World → World) → ℕ → ℕ → ℕ → World → World
unless_over (Some l) n ps told change packets bytes text w = record w { over = Some l }
unless_over None n ps told change packets bytes text w =
    with_numbered (numbered_from (w.packets + 1) ps) (told_onto n told w.trace) packets bytes text (change w)

abbrev pub counts_event : ℕ → List Packet → List Told → (World → World) → ℕ → ℕ → ℕ → World → World
counts_event n ps told change packets bytes text w = unless_over (limit_passed packets bytes text) n ps told change packets bytes text w

-- An event of a line: the world changes, and then has these packets and what is told. An event that passes a limit leaves
-- the sites as they were before it, and no event happens after it: nothing is told or sent any more, though a line may still
-- cut or mend a circuit, arm a script or take a packet from those under way.
abbrev pub happened_of : Option Limit → ℕ → List Packet → List Told → (World → World) → World → World
happened_of (Some l) n ps told change w = w
happened_of None n ps told change w =
    counts_event n ps told change (w.packets + length ps) (w.bytes + total packet_size ps) (w.text + total (told_size n) told) w

abbrev pub happened : ℕ → List Packet → List Told → (World → World) → World → World
happened n ps told change w = happened_of w.over n ps told change w

abbrev pub says_only : ℕ → Record → World → World
says_only n r w = happened n [] (Shown r ∷ []) (λ now. now) w

abbrev pub voids : ℕ → World → World
voids n w = says_only n says.Void w

-- ---- what changes ----

abbrev pub puts : ℕ → Place → World → World
puts s p w = record w { places = with_row place_site (record { site = s; place = p }) w.places }

abbrev pub armed_site : Armed → ℕ
armed_site a = a.site

abbrev pub arms : Armed → World → World
arms a w = record w { armed = with_row armed_site a w.armed }

-- after a stop the rest of the armed script is gone
abbrev pub disarms : ℕ → World → World
disarms s w = record w { armed = without_row armed_site s w.armed }

abbrev pub script_of : World → ℕ → Option Armed
script_of w s = row armed_site s w.armed

abbrev pub number_of : Numbered → ℕ
number_of x = x.number

-- the packet isn't underway any more
abbrev pub passed : ℕ → World → World
passed k w = record w { underway = without_row number_of k w.underway }

abbrev pub loses : ℕ → World → World
loses k w = record w { underway = without_row number_of k w.underway; lost = k ∷ w.lost }

-- ---- a stop ----

abbrev pub disk_of : SiteView → Disk
disk_of v = record { copies = v.store.copies; both_open = []; label = one_label v.boot }

abbrev pub stops_with : ℕ → Disk → World → World
stops_with s d w = disarms s (puts s (Stopped d) w)

abbrev pub cause_of : Cut → StopCause
cause_of (Stops l) = cause.Fuse
cause_of Fails = cause.Fault

-- an event that is cut off in its commit or adoption: a version that is on the disk has its record, before the stop's
abbrev pub cut_told : ℕ → Store → DiskWrite → Cut → ℕ → List Told
cut_told s before d how left = cond (is_on_disk before d how left) (Shown d.says ∷ Shown (says.Stopped s (cause_of how)) ∷ []) (Shown (says.Stopped s (cause_of how)) ∷ [])

abbrev pub cut_event : ℕ → ℕ → SiteView → DiskWrite → Armed → World → World
cut_event n s v d a w = happened n [] (cut_told s v.store d a.how a.left) (stops_with s (cut_disk v.boot v.store d a.how a.left)) w

-- ---- an event of a site ----

abbrev pub runs_on : ℕ → ℕ → Outcome SiteView → (World → World) → World → World
runs_on n s o change w = happened n o.sent o.told (λ now. puts s (Running o.view) (change now)) w

abbrev pub spends : Armed → ℕ → World → World
spends a left w = arms (record a { left = left }) w

abbrev pub writes_armed : ℕ → ℕ → SiteView → Outcome SiteView → DiskWrite → Armed → ℕ → World → World
writes_armed n s v o d a calls w = elim (nat_lt a.left calls) [
  | true ↦ cut_event n s v d a w
  | false ↦ runs_on n s o (spends a (a.left - calls)) w
]

abbrev pub writes_of : ℕ → ℕ → SiteView → Outcome SiteView → DiskWrite → Option Armed → World → World
writes_of n s v o d None w = runs_on n s o (λ now. now) w
writes_of n s v o d (Some a) w = writes_armed n s v o d a (write_calls v.store d) w

-- an outcome of a site; where an armed script passes fewer disk calls than it makes, the site stops in it
abbrev pub acts_of : ℕ → ℕ → SiteView → Outcome SiteView → Option DiskWrite → World → World
acts_of n s v o None w = runs_on n s o (λ now. now) w
acts_of n s v o (Some d) w = writes_of n s v o d (script_of w s) w

abbrev pub acts : ℕ → ℕ → SiteView → Outcome SiteView → World → World
acts n s v o w = acts_of n s v o o.written w

abbrev pub happens_at : Config → ℕ → ℕ → Event → Option Place → World → World
happens_at c n s e None w = w
happens_at c n s e (Some (Stopped d)) w = w
happens_at c n s e (Some (Running v)) w = acts n s v (step c s (links_of w s) v e) w

abbrev pub happens : Config → ℕ → ℕ → Event → World → World
happens c n s e w = happens_at c n s e (place_at w s) w

-- ---- the first world ----

abbrev pub no_epoch : EpochId
no_epoch = record { number = 0; site = 0; boot = 0 }

-- a booted site has its disk, and is in no epoch
abbrev pub fresh : ℕ → List FileCopy → SiteView
fresh boot copies = record {
  boot = boot;
  promised = no_epoch;
  installed = true;
  round = None;
  epoch = None;
  installs = [];
  reports = [];
  tables = [];
  store = record { copies = copies; instances = []; steps = [] };
  users = record { calls = 0; serials = 0; waiting = []; instances = []; descriptors = []; hopeless = []; cache = [] };
  pulls = [];
}

-- a freshly formatted pack has the empty root directory
abbrev pub root_copy : Config → ℕ → FileCopy
root_copy c group = record {
  file = record { group = group; ino = 1 };
  kind = kind.Dir;
  set = pack_sites c group;
  stamp = record { site = 0; n = 0 };
  vector = nothing_seen;
  content = [];
}

abbrev pub formatted : Config → ℕ → List FileCopy
formatted c s = map (root_copy c) (filter (λ g. has (pack_sites c g) s) all_groups)

abbrev pub first_place : Config → ℕ → PlaceRow
first_place c s = record { site = s; place = Running (fresh 1 (formatted c s)) }

-- all sites run with boot number 1, in no epoch, all circuits up
abbrev pub first_world : Config → World
first_world c = record {
  places = map (first_place c) (filter (λ s. nat_lt s (c.sites + 1)) all_sites);
  armed = [];
  circuits = [];
  sent = [];
  underway = [];
  lost = [];
  trace = [];
  packets = 0;
  bytes = 0;
  text = 0;
  over = None;
}
