use Rattle.std.proofs.Common.{◌∙◌, sym, ap, subst, arith}
use Rattle.std.specs.Prelude.{Option}
use Rattle.std.specs.Option.{option_copied}
use Rattle.inode_pack.specs.Pack.{PackState}
use Rattle.site_packs.specs.Packs.{PacksState, ArePacks}
use Rattle.site_packs.proofs.Reports.{pages_total, pages_named}
use Rattle.site_packs.proofs.packs.SitePacks.free_pages.Goals as goal

pub returns-in-Some : goal.returns-in-Some
returns-in-Some c image shown =
    let are = subst (λ (p : PacksState). ArePacks 0 0 p.site p.packs) c.self.view_is c.self.invariant in
    let all = pages_total 0 0 c.args.self.now.site c.args.group c.args.self.now.packs image are shown in
    let here = ap (λ (o : Option PackState). pages_named o) (sym c.pack_of.ensures ∙ ap (λ o. option_copied o) c.in-Some.is) in
    let free = c.free_pages.ensures in
    omega arith

pub returns-in-None : goal.returns-in-None
returns-in-None c image shown =
    let are = subst (λ (p : PacksState). ArePacks 0 0 p.site p.packs) c.self.view_is c.self.invariant in
    let all = pages_total 0 0 c.args.self.now.site c.args.group c.args.self.now.packs image are shown in
    let here = ap (λ (o : Option PackState). pages_named o) (sym c.pack_of.ensures ∙ ap (λ o. option_copied o) c.in-None.is) in
    omega arith
