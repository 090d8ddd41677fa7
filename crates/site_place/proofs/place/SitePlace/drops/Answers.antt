use Rattle.std.proofs.Common.{sym, ◌∙◌, ap}
use Rattle.std.specs.Prelude.{Option}
use Rattle.disk_model.specs.ScriptDisk.{seen}
use Rattle.site_packs.specs.Packs.{groups_at}
use Rattle.site_node.specs.declared.node.SiteNode.{SiteNode}
use Rattle.site_place.specs.Places.{PlaceState, drops}
use Rattle.site_place.specs.Views.{place_in}
use Rattle.site_place.proofs.place.SitePlace.drops.Goals as goal

pub returns-in-Some : goal.returns-in-Some
returns-in-Some c =
    let p = c.self.inside in
    let image = seen p.disk.disk in
    c.is_dropped.ensures image
    ∙ ap (λ (n : Option SiteNode). drops c.args.packet.now (place_in (groups_at p.config p.me) n image)) (sym c.in-Some.is)
    ∙ ap (λ (s : PlaceState). drops c.args.packet.now s.place) c.self.view_is
