-- What is true of a site's place at any time.
use Rattle.std.specs.Prelude.{◌≡◌, ℕ, ◌≤◌, List, length, Option, None, Some}
use Rattle.locus_ids.specs.declared.config.Config.{Config}
use Rattle.disk_model.specs.Disk.{Moment, IsSettled}
use Rattle.disk_model.specs.ScriptDisk.{seen, moment}
use Rattle.site_label.specs.Image.{label_number}
use Rattle.site_label.specs.Label.{HasBoot}
use Rattle.site_packs.specs.Mounting.{AreSound}
use Rattle.site_packs.specs.Packs.{Stand, groups_of, groups_at}
use Rattle.site_disk.specs.Image.{disk_length, label_on, one_half}
use Rattle.site_node.specs.declared.node.SiteNode.{SiteNode}
use Rattle.site_place.specs.declared.place.SitePlace.TheInside.{Inside}
use Rattle.site_place.specs.Counts.{armed_by_script, waiting}

-- the image of a site's disk: it has a boot number, and packs that mount
pub record IsWhole (config : Config) (me : ℕ) (image : List ℕ) : Type 0 where
  pub long : disk_length config me ≤ length image
  pub label : HasBoot me (label_number image) image
  pub sound : AreSound me (groups_at config me) image

-- the site runs over its disk: its packs stand there, and the label has its boot number
pub record IsRunning (config : Config) (me : ℕ) (n : SiteNode) (now : Moment) : Type 0 where
  pub stands : Stand n.packs now
  pub groups : groups_of n.packs ≡ groups_at config me
  pub home : n.packs.site ≡ me
  pub cluster : n.frame.config ≡ config
  pub own : n.frame.me ≡ me
  pub label : label_on now.seen ≡ one_half n.epochs.boot

abbrev pub MayRun : Config → ℕ → Option SiteNode → Moment → Type 0
MayRun config me None now = Unit {0}
MayRun config me (Some n) now = IsRunning config me n now

-- the disk is settled and whole, its script is the one that is armed and hasn't fired, and the site runs over it or is stopped
pub record IsPlace (p : Inside) : Type 0 where
  pub settled : IsSettled (moment p.disk.disk)
  pub whole : IsWhole p.config p.me (seen p.disk.disk)
  pub script : p.disk.disk.script ≡ waiting (armed_by_script p.armed) p.disk.disk.script.faults
  pub node : MayRun p.config p.me p.node (moment p.disk.disk)
