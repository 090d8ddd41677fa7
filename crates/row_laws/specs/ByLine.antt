-- What a property of worlds has to keep, line by line, so that it holds in the run of these lines: one field for each thing that
-- happens, and what the line says of it. The number is that of the last line that has begun.
use Rattle.std.specs.Prelude.{ℕ, ◌≡◌, ◌<◌, ◌+◌, Bool, true, false, not, List, length, Option, Some, None}
use Rattle.locus_ids.specs.declared.config.Config.{Config}
use Rattle.schedule_lines.specs.declared.line.Line.{Line as LineWords}
use Rattle.schedule_lines.specs.declared.line.Line.TheVariants as line
use Rattle.schedule_lines.specs.declared.line.ScheduleLine.{ScheduleLine}
use Rattle.schedule_lines.specs.declared.line.ScheduleLine.TheVariants.{Passed, Header, Event as EventLine}
use Rattle.role_steps.specs.Views.{SiteView, Event, Calls, Receives, Ticks, Parts, Merges, GivesUp}
use Rattle.site_laws.specs.of_the_run.Disks.{Disk, Armed, Stops, Fails, boots}
use Rattle.site_laws.specs.of_the_run.Steps.{step}
use Rattle.site_laws.specs.of_the_run.Worlds.{World, Place, Running, Stopped, Numbered, place_at, is_cut, links_of, script_of, acts, passed, loses, arms, voids}
use Rattle.site_laws.specs.of_the_run.Runs.{is_stopped, is_in_no_epoch, is_busy, cuts_circuit, mends_circuit, asked_stop, boots_as, budget_ends, lists_pending}
use Rattle.site_laws.specs.of_the_run.Kept.{WasSent}
use Rattle.lawful_trace.specs.Places.{line_at}

-- the line with this number is this event line
abbrev pub IsLine : List ScheduleLine → ℕ → LineWords → Type 0
IsLine lines n l = line_at lines n ≡ EventLine l

-- nothing at all happens as the line begins: what it does comes after, step by step, or never
abbrev pub begins_quietly : ScheduleLine → Bool
begins_quietly Passed = true
begins_quietly (Header h) = true
begins_quietly (EventLine (line.Deliver packet)) = true
begins_quietly (EventLine (line.Lose packet)) = true
begins_quietly (EventLine (line.Settle most)) = true
begins_quietly _ = false

abbrev pub cannot_boot : Option Place → Bool
cannot_boot None = true
cannot_boot (Some (Running v)) = true
cannot_boot (Some (Stopped d)) = false

-- in this world the line is void
abbrev pub IsVoidIn : World → LineWords → Type 0
IsVoidIn w (line.Call site process words) = is_busy process (place_at w site) ≡ true
IsVoidIn w (line.Deliver packet) = Unit {0}
IsVoidIn w (line.Lose packet) = Unit {0}
IsVoidIn w (line.Tick site) = is_stopped (place_at w site) ≡ true
IsVoidIn w (line.Down one other) = is_cut w one other ≡ true
IsVoidIn w (line.Up one other) = not (is_cut w one other) ≡ true
IsVoidIn w (line.Part site) = is_in_no_epoch (place_at w site) ≡ true
IsVoidIn w (line.Merge site) = is_stopped (place_at w site) ≡ true
IsVoidIn w (line.GiveUp site) = is_in_no_epoch (place_at w site) ≡ true
IsVoidIn w (line.Stop site) = is_stopped (place_at w site) ≡ true
IsVoidIn w (line.Boot site) = cannot_boot (place_at w site) ≡ true
IsVoidIn w _ = ⊥

-- in this world the line has the site do just this, and isn't void
abbrev pub Gives : World → LineWords → ℕ → Event → Type 0
Gives w (line.Call site process words) s (Calls p x) = (site ≡ s) × (process ≡ p) × (words ≡ x) × (is_busy process (place_at w site) ≡ false)
Gives w (line.Tick site) s Ticks = site ≡ s
Gives w (line.Part site) s Parts = (site ≡ s) × (is_in_no_epoch (place_at w site) ≡ false)
Gives w (line.Merge site) s Merges = site ≡ s
Gives w (line.GiveUp site) s GivesUp = (site ≡ s) × (is_in_no_epoch (place_at w site) ≡ false)
Gives w _ s e = ⊥

-- the line delivers packets
abbrev pub Delivers : LineWords → Type 0
Delivers (line.Deliver packet) = Unit {0}
Delivers (line.Settle most) = Unit {0}
Delivers _ = ⊥

-- the line arms the disk so
abbrev pub ArmsAs : LineWords → Armed → Type 0
ArmsAs (line.ArmStop site calls left) a = a ≡ record { site = site; left = calls; how = Stops left }
ArmsAs (line.ArmFail site calls) a = a ≡ record { site = site; left = calls; how = Fails }
ArmsAs _ a = ⊥

pub record KeptIn (c : Config) (lines : List ScheduleLine) (P : ℕ → World → Type 0) : Type 0 where
  -- a line begins quietly
  pub begins : (n : ℕ) (w : World) → n < length lines → begins_quietly (line_at lines (n + 1)) ≡ true → P n w → P (n + 1) w
  -- in its course a site ticks
  pub ticks : (n most s : ℕ) (v : SiteView) (w : World) → IsLine lines n (line.Settle most) → place_at w s ≡ Some (Running v) → P n w → P n (acts n s v (step c s (links_of w s) v Ticks) w)
  -- a site receives a packet that was sent
  pub receives : (n : ℕ) (l : LineWords) (x : Numbered) (v : SiteView) (w : World) → IsLine lines n l → Delivers l → place_at w x.packet.to ≡ Some (Running v) → WasSent w x → P n w →
      P n (acts n x.packet.to v (step c x.packet.to (links_of (passed x.number w) x.packet.to) v (Receives x.packet)) (passed x.number w))
  pub passes : (n k : ℕ) (w : World) → P n w → P n (passed k w)
  pub drops : (n k : ℕ) (w : World) → P n w → P n (loses k w)
  pub budgets : (n most : ℕ) (w : World) → IsLine lines n (line.Settle most) → P n w → P n (budget_ends n w)
  -- a line is void
  pub voiding : (n : ℕ) (l : LineWords) (w : World) → n < length lines → IsLine lines (n + 1) l → IsVoidIn w l → P n w → P (n + 1) (voids (n + 1) w)
  -- it has a running site do something
  pub steps : (n s : ℕ) (l : LineWords) (e : Event) (v : SiteView) (w : World) → n < length lines → IsLine lines (n + 1) l → Gives w l s e → place_at w s ≡ Some (Running v) → P n w → P (n + 1) (acts (n + 1) s v (step c s (links_of w s) v e) w)
  -- it cuts or mends a circuit, arms a disk, lists packets, or stops or boots a site
  pub cutting : (n one other : ℕ) (w : World) → n < length lines → IsLine lines (n + 1) (line.Down one other) → is_cut w one other ≡ false → P n w → P (n + 1) (cuts_circuit one other w)
  pub mending : (n one other : ℕ) (w : World) → n < length lines → IsLine lines (n + 1) (line.Up one other) → not (is_cut w one other) ≡ false → P n w → P (n + 1) (mends_circuit one other w)
  pub arming : (n : ℕ) (l : LineWords) (a : Armed) (w : World) → n < length lines → IsLine lines (n + 1) l → ArmsAs l a → P n w → P (n + 1) (arms a w)
  pub pending : (n : ℕ) (w : World) → n < length lines → IsLine lines (n + 1) line.Pending → P n w → P (n + 1) (lists_pending (n + 1) w)
  pub stopping : (n s : ℕ) (v : SiteView) (w : World) → n < length lines → IsLine lines (n + 1) (line.Stop s) → place_at w s ≡ Some (Running v) → P n w → P (n + 1) (asked_stop (n + 1) s v w)
  pub booting : (n s : ℕ) (d : Disk) (w : World) → n < length lines → IsLine lines (n + 1) (line.Boot s) → place_at w s ≡ Some (Stopped d) → P n w → P (n + 1) (boots_as (n + 1) s (boots (script_of w s) d) w)
