-- What stands in each world in the course of a run: after whole lines, and in the midst of one.
use Rattle.std.specs.Prelude.{ℕ, ◌≡◌, ◌≤◌, true, false, Some}
use Rattle.locus_ids.specs.declared.config.Config.{Config}
use Rattle.schedule_lines.specs.Ranges.{fits_event}
use Rattle.schedule_lines.specs.declared.line.Line.TheVariants as line
use Rattle.role_steps.specs.Views.{SiteView, Event, Calls, Receives}
use Rattle.the_run.specs.Kept.{WasSent}
use Rattle.the_run.specs.Runs.{is_busy}
use Rattle.the_run.specs.Worlds.{World, Numbered, Running, place_at}
use Rattle.packet_laws.specs.of_site_laws.Vectors.Written.{InstancesAgree, past_of}
use Rattle.packet_laws.specs.of_site_laws.Packs.Packed.{WorldPacked}
use Rattle.packet_laws.specs.of_store_laws.OneTree.Places.{WorldFact}
use Rattle.packet_laws.specs.of_store_laws.OneTree.Rest.{Past}
use Rattle.packet_laws.specs.Fitting.Epochs.{NumberedIsUpTo}
use Rattle.calm_laws.specs.of_rest_laws.Fits.Room.{RoomFits}

-- All that was told came as it may, each site and each packet is so by the trace, an instance is of the file on which it was granted, files
-- lie in packs, the packs of running sites have room, and no epoch has a great number.
pub record IsMoment (c : Config) (w : World) : Type 0 where
  pub past : Past c w.trace
  pub fact : WorldFact c w
  pub agree : InstancesAgree (past_of w.trace)
  pub packed : WorldPacked c w
  pub room : (s : ℕ) (v : SiteView) → place_at w s ≡ Some (Running v) → RoomFits v.store
  pub named : (x : Numbered) → WasSent w x → NumberedIsUpTo 134479872 x
  pub promised : (s : ℕ) (v : SiteView) → place_at w s ≡ Some (Running v) → v.promised.number ≤ 134479872

-- What may come to a site: a call that a line may ask, of a process for which no call waits; a packet that was sent to it; or what needs
-- neither.
abbrev pub MayCome : Config → World → ℕ → Event → Type 0
MayCome c w s (Calls process words) = (fits_event c.sites (line.Call s process words) ≡ true) × (is_busy process (place_at w s) ≡ false)
MayCome c w s (Receives p) = (x : Numbered) × WasSent w x × (x.packet ≡ p) × (p.to ≡ s)
MayCome c w s _ = Unit {0}

-- the event comes at a moment of the run, and may come then
abbrev pub ComesInTime : Config → ℕ → Event → World → Type 0
ComesInTime c s e w = IsMoment c w × MayCome c w s e
