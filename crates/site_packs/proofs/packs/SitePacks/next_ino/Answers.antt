use Rattle.std.proofs.Common.{◌≡◌, ◌∙◌, ◌+◌, ◌-◌, ◌*◌, ap, subst, arith}
use Rattle.locus_ids.specs.Sizes.{site_inodes}
use Rattle.site_packs.specs.Packs.{PacksState, ArePacks}
use Rattle.site_packs.proofs.FreeNumbers.{free_is}
use Rattle.site_packs.proofs.packs.SitePacks.next_ino.Goals as goal

pub returns : goal.returns
returns c s image shown same makes =
    let are = subst (λ (p : PacksState). ArePacks 0 0 p.site p.packs) c.self.view_is c.self.invariant in
    let site : c.get-site.result ≡ c.args.self.now.site = c.get-site.ensures.value ∙ ap (λ (p : PacksState). p.site) c.self.view_is in
    c.least_free.ensures ∙ free_is c.args.self.now c.args.group c.args.making.now image s are shown same makes (site_inodes * (c.args.self.now.site - 1) + 1) site_inodes (let high = c.get-site.ensures.high in omega arith)
