-- Which sites, boots and lists of boots packets may name, and how far packets are of the format.
use Rattle.std.specs.Prelude.{ℕ, ◌≡◌, ◌≤◌, List, length, Some}
use Rattle.locus_ids.specs.declared.config.Config.{Config}
use Rattle.locus_ids.specs.Sizes.{sites_max}
use Rattle.wire_fields.specs.Parts.{sites, numbers, epochs}
use Rattle.wire_messages.specs.declared.packet.Packet.{Packet}
use Rattle.wire_messages.specs.declared.body.Body.{Body}
use Rattle.wire_messages.specs.declared.body.Body.TheVariants as body
use Rattle.wire_messages.specs.Packets.{FitsPacket}
use Rattle.role_steps.specs.Own.{Every}
use Rattle.role_steps.specs.Views.{SiteView, Event, boot_in}
use Rattle.the_run.specs.Steps.{step}
use Rattle.the_run.specs.Worlds.{World, Running, Numbered, place_at, links_of}
use Rattle.run_laws.specs.Naming.{MayCome}

abbrev pub IsSite : ℕ → Type 0
IsSite s = (1 ≤ s) × (s ≤ sites_max)

-- a boot number that a run comes to
abbrev pub IsBoot : ℕ → Type 0
IsBoot b = (1 ≤ b) × (b ≤ 134217730)

-- a boot number for each of sixteen sites, or 0
abbrev pub AreBoots : List ℕ → Type 0
AreBoots bs = (length bs ≡ sites_max) × ((t : ℕ) → boot_in bs t ≤ 134217730)

-- who sends the packet and in which boot, and the epoch that it names, are of the format
pub record StartFits (p : Packet) : Type 0 where
  pub from : sites.Fits p.from
  pub from_boot : numbers.Fits p.from_boot
  pub epoch : epochs.Fits p.epoch

-- and to whom it goes, in which boot
pub record EndFits (p : Packet) : Type 0 where
  pub to : sites.Fits p.to
  pub to_boot : numbers.Fits p.to_boot

-- the packet goes to the synchronization site of a group, or back to whom another one came from
abbrev pub GoesBack : Body → Type 0
GoesBack (body.Report group copies) = Unit {0}
GoesBack (body.ReportOk group) = Unit {0}
GoesBack (body.Open serial call process request file how) = Unit {0}
GoesBack (body.Opened inst answer) = Unit {0}
GoesBack (body.Closed inst made) = Unit {0}
GoesBack (body.ClosedOk inst) = Unit {0}
GoesBack (body.Look call process request take file what) = Unit {0}
GoesBack (body.Page file stamp page bytes) = Unit {0}
GoesBack (body.Delta file wanted pages) = Unit {0}
GoesBack (body.Have file stamp) = Unit {0}
GoesBack _ = ⊥

-- by the packet sites agree on an epoch, or it answers a report
abbrev pub Agrees : Body → Type 0
Agrees body.Poll = Unit {0}
Agrees (body.Promise reach) = Unit {0}
Agrees (body.Refuse theirs) = Unit {0}
Agrees (body.Install members) = Unit {0}
Agrees body.Joined = Unit {0}
Agrees (body.ReportOk group) = Unit {0}
Agrees _ = ⊥

-- what is known of each packet
abbrev pub FitsInPart : Packet → Type 0
FitsInPart p = StartFits p × (GoesBack p.body → EndFits p) × (Agrees p.body → FitsPacket p)

-- each packet that was sent
abbrev pub PacketsFitInPart : World → Type 0
PacketsFitInPart w = Every (λ (x : Numbered). FitsInPart x.packet) w.sent

-- each packet of the next event of a running site
abbrev pub NextPacketsFit : Config → World → Type 0
NextPacketsFit c w = (s : ℕ) (v : SiteView) (e : Event) → place_at w s ≡ Some (Running v) → MayCome w e → Every FitsInPart (step c s (links_of w s) v e).sent
