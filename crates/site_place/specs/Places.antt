-- A site as it stands in the world, and what an event does to it, to what it sends and to what it tells.
use Rattle.std.specs.Prelude.{◌≡◌, ℕ, ◌-◌, nat_lt, Bool, true, false, List, [], ◌∷◌, Option, Some, None}
use Rattle.locus_ids.specs.declared.sites.Links.{Links}
use Rattle.locus_ids.specs.declared.config.Config.{Config}
use Rattle.trace_book.specs.declared.record.Record.TheVariants as says
use Rattle.trace_book.specs.declared.record.StopCause.TheVariants as cause
use Rattle.wire_messages.specs.declared.packet.Packet.{Packet}
use Rattle.wire_messages.specs.Outboxes.{Outgoing}
use Rattle.role_steps.specs.Views.{SiteView, Told, Shown, DiskWrite, Outcome, Event, Calls, Receives, Ticks, Parts, Merges, GivesUp}
use Rattle.site_node.specs.of_site_frame.Printed.{printed}
use Rattle.the_run.specs.Disks.{Armed, Cut, Stops, Fails, Booted, Whole, CutOff, write_calls, cut_disk, boots}
use Rattle.the_run.specs.Steps.{step, is_dropped}
use Rattle.the_run.specs.Worlds.{Place, Running, Stopped, disk_of, cause_of, cut_told, fresh}
use Rattle.site_place.specs.declared.event.SiteEvent.{SiteEvent}
use Rattle.site_place.specs.declared.event.SiteEvent.TheVariants as event
use Rattle.site_place.specs.declared.script.CallCut.{CallCut}
use Rattle.site_place.specs.declared.script.CallCut.TheVariants as script
use Rattle.site_place.specs.declared.script.DiskScript.{DiskScript}

-- the cluster, the site's number in it, how it stands, and the script that is armed for its disk
pub record PlaceState : Type 0 where
  pub config : Config
  pub site : ℕ
  pub place : Place
  pub armed : Option Armed

-- how a site stands after an event, and what the event sends and tells
pub record Happening : Type 0 where
  pub place : Place
  pub armed : Option Armed
  pub sent : List Packet
  pub told : List Told

abbrev pub cut_by : CallCut → Cut
cut_by (script.Stops leave) = Stops leave
cut_by script.Fails = Fails

abbrev pub armed_by : DiskScript → Armed
armed_by x = record { site = x.site; left = x.left; how = cut_by x.how }

abbrev pub event_of : SiteEvent → Event
event_of (event.Call process call) = Calls process call
event_of (event.Receive packet) = Receives packet
event_of event.Tick = Ticks
event_of event.Part = Parts
event_of event.Merge = Merges
event_of event.GiveUp = GivesUp

abbrev pub nothing_at : Option Armed → Place → Happening
nothing_at armed place = record { place = place; armed = armed; sent = []; told = [] }

-- ---- an event of a site that runs ----

-- the outcome, whole
abbrev pub runs_in : Outcome SiteView → Option Armed → Happening
runs_in o armed = record { place = Running o.view; armed = armed; sent = o.sent; told = o.told }

-- the site stops in its write
abbrev pub cut_in : ℕ → SiteView → DiskWrite → Armed → Happening
cut_in s v d a = record { place = Stopped (cut_disk v.boot v.store d a.how a.left); armed = None; sent = []; told = cut_told s v.store d a.how a.left }

abbrev pub writes_armed_in : ℕ → SiteView → Outcome SiteView → DiskWrite → Armed → ℕ → Happening
writes_armed_in s v o d a calls = elim (nat_lt a.left calls) [
  | true ↦ cut_in s v d a
  | false ↦ runs_in o (Some (record a { left = a.left - calls }))
]

abbrev pub writes_in : ℕ → SiteView → Outcome SiteView → DiskWrite → Option Armed → Happening
writes_in s v o d None = runs_in o None
writes_in s v o d (Some a) = writes_armed_in s v o d a (write_calls v.store d)

abbrev pub acts_in : ℕ → SiteView → Outcome SiteView → Option DiskWrite → Option Armed → Happening
acts_in s v o None armed = runs_in o armed
acts_in s v o (Some d) armed = writes_in s v o d armed

abbrev pub happens_at : Config → ℕ → Links → Event → Option Armed → Place → Happening
happens_at c s links e armed (Stopped d) = nothing_at armed (Stopped d)
happens_at c s links e armed (Running v) = acts_in s v (step c s links v e) (step c s links v e).written armed

-- what an event does where the site runs; else nothing
abbrev pub happens_in : Links → Event → PlaceState → Happening
happens_in links e p = happens_at p.config p.site links e p.armed p.place

-- ---- a packet ----

abbrev pub drops : Packet → Place → Bool
drops p (Stopped d) = true
drops p (Running v) = is_dropped p v

-- ---- a stop and a boot ----

abbrev pub stops_at : ℕ → Option Armed → Place → Happening
stops_at s armed (Stopped d) = nothing_at armed (Stopped d)
stops_at s armed (Running v) = record { place = Stopped (disk_of v); armed = None; sent = []; told = Shown (says.Stopped s cause.Asked) ∷ [] }

-- what a stop does where the site runs; else nothing
abbrev pub stops_in : PlaceState → Happening
stops_in p = stops_at p.site p.armed p.place

abbrev pub boots_to : ℕ → Booted → Happening
boots_to s (Whole d a) = record { place = Running (fresh d.label.boot d.copies); armed = a; sent = []; told = Shown (says.Up s d.label.boot) ∷ [] }
boots_to s (CutOff d how) = record { place = Stopped d; armed = None; sent = []; told = Shown (says.Stopped s (cause_of how)) ∷ [] }

abbrev pub boots_at : ℕ → Option Armed → Place → Happening
boots_at s armed (Running v) = nothing_at armed (Running v)
boots_at s armed (Stopped d) = boots_to s (boots armed d)

-- what a boot does where the site is stopped; else nothing
abbrev pub boots_in : PlaceState → Happening
boots_in p = boots_at p.site p.armed p.place

-- the boot number on the disk of a site
abbrev pub disk_boot : Place → ℕ
disk_boot (Running v) = v.boot
disk_boot (Stopped d) = d.label.boot

-- ---- in code ----

-- the site after the event: it stands so, and is the same site of the same cluster
abbrev pub led_to : Happening → PlaceState → PlaceState
led_to h p = record p { place = h.place; armed = h.armed }

-- the event was that: the site stands as after it, and what it sends and prints is given
pub record Gives (h : Happening) (before after : PlaceState) (out : Outgoing) : Type 0 where
  pub state : after ≡ led_to h before
  pub packets : out.packets ≡ h.sent
  pub records : out.records ≡ printed h.told
