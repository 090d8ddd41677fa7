-- What an event of a site in the world needs so that it isn't refused as unfit.
use Rattle.std.specs.Prelude.{ℕ, List}
use Rattle.locus_ids.specs.declared.config.Config.{Config}
use Rattle.locus_ids.specs.declared.sites.Links.{Links}
use Rattle.role_steps.specs.Views.{Event}
use Rattle.the_run.specs.Worlds.{Place, Running, Stopped}
use Rattle.site_packs.specs.Packs.{groups_at, groups_of}
use Rattle.site_node.specs.Fitting.{CanAct}
use Rattle.site_node.specs.declared.node.SiteNode.{SiteNode}
use Rattle.site_node.specs.Views.{view_of}
use Rattle.site_node.specs.of_site_parts.declared.fault.NodeFault.{NodeFault}
use Rattle.site_node.specs.of_site_parts.declared.fault.NodeFault.TheVariants.{NoMemory, Disk, Cut, NoNumber, Unfit}
use Rattle.site_place.specs.Places.{PlaceState}

-- nothing was unfit: there was no memory, or the disk failed
abbrev pub IsOfDisk : NodeFault → Type 0
IsOfDisk NoMemory = Unit {0}
IsOfDisk Disk = Unit {0}
IsOfDisk (Cut size) = Unit {0}
IsOfDisk NoNumber = ⊥
IsOfDisk Unfit = ⊥

-- the node finds what the event needs
abbrev pub CanActAt : SiteNode → List ℕ → Links → Event → Type 0
CanActAt n image links e = CanAct n.frame.config n.frame.me (groups_of n.packs) n.packs.site links (view_of n image) e

-- a site that runs does
abbrev pub CanHappenAt : Config → ℕ → Links → Event → Place → Type 0
CanHappenAt c s links e (Stopped d) = Unit {0}
CanHappenAt c s links e (Running v) = CanAct c s (groups_at c s) s links v e

abbrev pub CanHappenIn : Links → Event → PlaceState → Type 0
CanHappenIn links e p = CanHappenAt p.config p.site links e p.place
