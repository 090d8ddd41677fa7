use Rattle.disk_model.proofs.Moments.{on_ok}
use Rattle.the_run.specs.Steps.{adopts_in}
use Rattle.site_node.specs.Adopting.{adopted_now}
use Rattle.site_node.specs.Views.{Moves, view_of}
use Rattle.site_node.proofs.Adoptions.{adopted_none, adopted_some, adopted_written, adopts_outside, chosen_complete, none_written, outside_written}
use Rattle.site_parts.proofs.Cuts.{untouched}
use Rattle.site_node.proofs.Starts.{entered_frame}
use Rattle.site_node.proofs.Ticked.{chosen_keeps}
use Rattle.site_node.proofs.node.SiteNode.adopt.Goals as goal

pub returns-in_default-clause-step : goal.returns-in_default-clause-step
returns-in_default-clause-step g c = adopts_outside c.args.self.now.frame.config c.args.self.now.frame.me c.args.self.now (g.D.Disk.moment c.args.disk.now) c.args.out.now c.requires c.in_default.ensures

pub returns-in_default-clause-disk : goal.returns-in_default-clause-disk
returns-in_default-clause-disk g c = untouched _ c.args.self.now.packs (g.D.Disk.moment c.args.disk.now) c.args.out.now c.args.out.now tt (outside_written c.args.self.now.frame.config c.args.self.now.frame.me (view_of c.args.self.now (g.D.Disk.moment c.args.disk.now).seen) c.in_default.ensures) c.requires.settled (g.met.D.Disk.only_now c.args.disk.now)

pub returns-in_default-choose-clause-step : goal.returns-in_default-choose-clause-step
returns-in_default-choose-clause-step g c = adopted_none c.in-Some.epoch c.args.self.now c.enter.new.frame c.choose.new.self (g.D.Disk.moment c.args.disk.now) c.args.out.now c.requires c.in-Some.ensures (entered_frame c.args.self.now c.enter.new.frame c.boot.result c.in-Some.epoch c.enter.ensures c.boot.ensures) c.in_default-choose.ensures.chosen c.choose.ensures.left

pub returns-in_default-choose-clause-disk : goal.returns-in_default-choose-clause-disk
returns-in_default-choose-clause-disk g c = untouched _ c.args.self.now.packs (g.D.Disk.moment c.args.disk.now) c.args.out.now c.args.out.now tt (none_written c.args.self.now.frame.config c.args.self.now.frame.me c.in-Some.epoch (view_of c.args.self.now (g.D.Disk.moment c.args.disk.now).seen) c.in-Some.ensures (c.in_default-choose.ensures.chosen (g.D.Disk.moment c.args.disk.now).seen c.requires.shown)) c.requires.settled (g.met.D.Disk.only_now c.args.disk.now)

pub returns-clause-step : goal.returns-clause-step
returns-clause-step g c = on_ok c.adopt_pull.result (Moves (adopted_now c.choose.new.self.frame c.in-Some-choose.pull) c.choose.new.self (g.D.Disk.moment c.args.disk.now) c.adopt_pull.new.self (g.D.Disk.moment c.adopt_pull.new.disk) c.args.out.now c.adopt_pull.new.out) (Moves (adopts_in c.args.self.now.frame.config c.args.self.now.frame.me) c.args.self.now (g.D.Disk.moment c.args.disk.now) c.adopt_pull.new.self (g.D.Disk.moment c.adopt_pull.new.disk) c.args.out.now c.adopt_pull.new.out)
    (λ w. adopted_some c.in-Some.epoch c.in-Some-choose.pull c.args.self.now c.enter.new.frame c.choose.new.self c.adopt_pull.new.self (g.D.Disk.moment c.args.disk.now) (g.D.Disk.moment c.adopt_pull.new.disk) c.args.out.now c.adopt_pull.new.out c.requires c.in-Some.ensures (entered_frame c.args.self.now c.enter.new.frame c.boot.result c.in-Some.epoch c.enter.ensures c.boot.ensures) c.in-Some-choose.ensures.chosen c.choose.ensures.left w)
    c.adopt_pull.ensures.step

pub returns-clause-disk : goal.returns-clause-disk
returns-clause-disk g c = adopted_written {T = Unit {0}} c.in-Some.epoch c.in-Some-choose.pull c.args.self.now c.enter.new.frame c.choose.new.self (g.D.Disk.moment c.args.disk.now) (g.D.Disk.moment c.adopt_pull.new.disk) c.args.out.now c.adopt_pull.new.out c.adopt_pull.result c.requires c.in-Some.ensures (entered_frame c.args.self.now c.enter.new.frame c.boot.result c.in-Some.epoch c.enter.ensures c.boot.ensures) c.in-Some-choose.ensures.chosen c.choose.ensures.left c.adopt_pull.ensures.disk

pub returns-clause-unfit : goal.returns-clause-unfit
returns-clause-unfit g c so can = c.adopt_pull.ensures.unfit so c.in-Some-choose.ensures.sized (chosen_complete (view_of c.args.self.now (g.D.Disk.moment c.args.disk.now).seen) c.in-Some-choose.pull (c.in-Some-choose.ensures.chosen (g.D.Disk.moment c.args.disk.now).seen c.requires.shown))
    (chosen_keeps c.in-Some-choose.pull c.args.self.now c.enter.new.frame c.choose.new.self (g.D.Disk.moment c.args.disk.now).seen (c.in-Some-choose.ensures.chosen (g.D.Disk.moment c.args.disk.now).seen c.requires.shown) (c.choose.ensures.left (g.D.Disk.moment c.args.disk.now).seen c.requires.shown) can)
