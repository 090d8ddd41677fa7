use Rattle.std.proofs.Common.{rules, length, ◌≡◌}
use Rattle.shadow_pages.proofs.Steps.{placed_start, placed_step}
use Rattle.shadow_pages.proofs.place.place.Goals as goal

pub loop-page-init : goal.loop-page-init
loop-page-init c = placed_start c.args.pages.now.items c.args.made.items c.args.first

pub loop-page-preserved : goal.loop-page-preserved
loop-page-preserved c =
    let e : c.len.result ≡ length c.pop.new.self.items = search rules in
    rw e (placed_step c.args.pages.now.items c.args.made.items c.args.first c.loop-page.pages.items c.loop-page.made.items c.pop.new.self.items c.in-Some.page c.requires c.loop-page.invariant c.in-Some.ensures.items)

pub loop-page-preserved-in-Some : goal.loop-page-preserved-in-Some
loop-page-preserved-in-Some c =
    let e : c.len.result ≡ length c.pop.new.self.items = search rules in
    rw e (placed_step c.args.pages.now.items c.args.made.items c.args.first c.loop-page.pages.items c.loop-page.made.items c.pop.new.self.items c.in-Some.page c.requires c.loop-page.invariant c.in-Some.ensures.items)
