use Rattle.std.proofs.Common.{subst}
use Rattle.site_packs.specs.Packs.{PacksState, ArePacks}
use Rattle.site_packs.proofs.NewPacks.{none_shown}
use Rattle.site_packs.proofs.packs.SitePacks.gates_are_shut.Goals as goal

pub returns : goal.returns
returns c image shown =
    let are = subst (λ (p : PacksState). ArePacks 0 0 p.site p.packs) c.self.view_is c.self.invariant in
    none_shown c.args.self.now.site c.args.self.now.packs image are shown
