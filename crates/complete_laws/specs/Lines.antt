-- What a line needs so that nothing in its course is refused as unfit.
use Rattle.std.specs.Prelude.{ℕ, ◌≡◌, ◌≢◌, Some}
use Rattle.locus_ids.specs.declared.config.Config.{Config}
use Rattle.schedule_lines.specs.declared.line.Line.{Line as LineWords}
use Rattle.schedule_lines.specs.declared.line.Line.TheVariants as line
use Rattle.role_steps.specs.Views.{SiteView, Event}
use Rattle.the_run.specs.Disks.{Disk}
use Rattle.the_run.specs.Worlds.{World, Running, Stopped, links_of, place_at}
use Rattle.site_node.specs.of_site_packs.Packs.{groups_at}
use Rattle.site_node.specs.Fitting.{CanAct}
use Rattle.complete_laws.specs.MomentEvents.{EachEvent}

-- the event finds what it needs where the site runs
abbrev pub CanHappen : Config → ℕ → Event → World → Type 0
CanHappen c s e w = (v : SiteView) → place_at w s ≡ Some (Running v) → CanAct c s (groups_at c s) s (links_of w s) v e

-- a boot has a number
abbrev pub CanBoot : LineWords → World → Type 0
CanBoot (line.Boot s) w = (d : Disk) → place_at w s ≡ Some (Stopped d) → d.label.boot ≢ 4294967295
CanBoot _ w = Unit {0}

-- each event in the course of the line finds what it needs, and a boot has a number
pub record CanDo (c : Config) (n : ℕ) (l : LineWords) (w : World) : Type 0 where
  pub events : EachEvent (CanHappen c) c n l w
  pub boots : CanBoot l w
