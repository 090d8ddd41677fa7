-- A running site as the run sees it, and what an event makes of it.
use Rattle.std.specs.Prelude.{◌≡◌, ℕ, List}
use Rattle.locus_ids.specs.declared.sites.Links.{Links}
use Rattle.disk_model.specs.Disk.{Moment}
use Rattle.wire_messages.specs.Outboxes.{Outgoing}
use Rattle.role_steps.specs.Views.{SiteView, Outcome, Event}
use Rattle.site_packs.specs.Packs.{AreShown, Stand, SamePlaces}
use Rattle.site_parts.specs.of_storage_site.of_store_instances.Stores.{store_of}
use Rattle.site_parts.specs.of_using_site.Steps.{Gives}
use Rattle.the_run.specs.Steps.{step}
use Rattle.site_node.specs.declared.node.SiteNode.{SiteNode}

-- the site, with the copies that its packs hold in this image of its disk
abbrev pub view_of : SiteNode → List ℕ → SiteView
view_of n image = record {
  boot = n.epochs.boot;
  promised = n.epochs.promised;
  installed = n.epochs.installed;
  round = n.epochs.round;
  epoch = n.epochs.epoch;
  installs = n.epochs.installs;
  reports = n.epochs.reports;
  tables = n.tables;
  store = store_of n.store n.packs image;
  users = n.users;
  pulls = n.pulls;
}

-- Something makes this of the site, between two moments of its disk: its view after it, what is sent and what is told are those
-- of the outcome, its packs stand, and it is the same site of the same cluster.
pub record Moves (f : SiteView → Outcome SiteView) (old : SiteNode) (before : Moment) (new : SiteNode) (after : Moment) (given given_now : Outgoing) : Type 0 where
  pub gives : Gives (f (view_of old before.seen)) (view_of new after.seen) given given_now
  pub stands : Stand new.packs after
  pub places : SamePlaces old.packs new.packs
  pub config : new.frame.config ≡ old.frame.config
  pub me : new.frame.me ≡ old.frame.me

-- the same of what doesn't come to the disk, whatever image that has in which the packs stand
pub record Works (f : SiteView → Outcome SiteView) (old new : SiteNode) (given given_now : Outgoing) : Type 0 where
  pub gives : (image : List ℕ) → AreShown old.packs.packs image → Gives (f (view_of old image)) (view_of new image) given given_now
  pub packs : new.packs ≡ old.packs
  pub config : new.frame.config ≡ old.frame.config
  pub me : new.frame.me ≡ old.frame.me

-- the step of the site at an event
abbrev pub steps_at : SiteNode → Links → Event → SiteView → Outcome SiteView
steps_at n links e v = step n.frame.config n.frame.me links v e
