-- How a site stands, from what its place in code keeps.
use Rattle.std.specs.Prelude.{ℕ, List, Option, None, Some}
use Rattle.disk_model.specs.ScriptDisk.{seen}
use Rattle.site_packs.specs.Packs.{groups_at}
use Rattle.site_disk.specs.Run.{disk_on}
use Rattle.site_node.specs.Views.{view_of}
use Rattle.site_node.specs.declared.node.SiteNode.{SiteNode}
use Rattle.the_run.specs.Worlds.{Place, Running, Stopped}
use Rattle.the_run.specs.Disks.{Armed}
use Rattle.site_place.specs.declared.script.DiskScript.{DiskScript}
use Rattle.site_place.specs.declared.place.SitePlace.TheInside.{Inside}
use Rattle.site_place.specs.Places.{PlaceState, armed_by}

abbrev pub armed_in : Option DiskScript → Option Armed
armed_in None = None
armed_in (Some x) = Some (armed_by x)

-- the site with this image of its disk, which has packs of these groups
abbrev pub place_in : List ℕ → Option SiteNode → List ℕ → Place
place_in groups None image = Stopped (disk_on groups image)
place_in groups (Some n) image = Running (view_of n image)

abbrev pub place_shown : Inside → PlaceState
place_shown p = record { config = p.config; site = p.me; place = place_in (groups_at p.config p.me) p.node (seen p.disk.disk); armed = armed_in p.armed }
