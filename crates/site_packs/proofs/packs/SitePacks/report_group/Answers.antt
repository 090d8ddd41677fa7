use Rattle.std.proofs.Common.{◌∙◌, sym, ap, subst}
use Rattle.std.specs.Option.{option_copied}
use Rattle.site_packs.specs.Packs.{PacksState, ArePacks}
use Rattle.site_packs.proofs.Behind.{pack_place, pack_here}
use Rattle.site_packs.proofs.packs.SitePacks.report_group.Goals as goal

pub report_pack-requires : goal.report_pack-requires
report_pack-requires c =
    let are = subst (λ (p : PacksState). ArePacks 0 0 p.site p.packs) c.self.view_is c.self.invariant in
    let place = pack_place c.args.group c.args.self.now.packs c.in-Some.pack.now (sym c.pack_of.ensures ∙ ap (λ o. option_copied o) c.in-Some.is) in
    (pack_here 0 0 c.args.self.now.site place.0 c.args.self.now.packs c.in-Some.pack.now are place.1).copies.count
