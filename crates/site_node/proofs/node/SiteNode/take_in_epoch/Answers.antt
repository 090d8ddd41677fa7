use Rattle.disk_model.proofs.Moments.{on_ok}
use Rattle.the_run.specs.Steps.{takes_inside}
use Rattle.site_node.specs.Taking.{in_epoch_takes}
use Rattle.site_node.specs.Views.{Moves, view_of}
use Rattle.site_parts.proofs.Cuts.{untouched, written_as}
use Rattle.site_node.proofs.Starts.{entered_frame}
use Rattle.site_node.proofs.Takes.{entered_written, outside_written, takes_entered, takes_outside}
use Rattle.site_node.proofs.Ticked.{entered_taken}
use Rattle.site_node.proofs.node.SiteNode.take_in_epoch.Goals as goal

pub returns-in_default-clause-step : goal.returns-in_default-clause-step
returns-in_default-clause-step g c = takes_outside c.args.self.now.frame.config c.args.self.now.frame.me c.args.from c.args.body c.args.self.now (g.D.Disk.moment c.args.disk.now) c.args.out.now c.requires c.in_default.ensures

pub returns-in_default-clause-disk : goal.returns-in_default-clause-disk
returns-in_default-clause-disk g c = untouched _ c.args.self.now.packs (g.D.Disk.moment c.args.disk.now) c.args.out.now c.args.out.now tt (outside_written c.args.self.now.frame.config c.args.self.now.frame.me c.args.from c.args.body (view_of c.args.self.now (g.D.Disk.moment c.args.disk.now).seen) c.in_default.ensures) c.requires.settled (g.met.D.Disk.only_now c.args.disk.now)

pub returns-clause-step : goal.returns-clause-step
returns-clause-step g c = on_ok c.take_inside.result (Moves (takes_inside c.enter.new.frame c.args.from c.args.body) (record c.args.self.now { frame = c.enter.new.frame }) (g.D.Disk.moment c.args.disk.now) c.take_inside.new.self (g.D.Disk.moment c.take_inside.new.disk) c.args.out.now c.take_inside.new.out) (Moves (in_epoch_takes c.args.self.now.frame.config c.args.self.now.frame.me c.args.from c.args.body) c.args.self.now (g.D.Disk.moment c.args.disk.now) c.take_inside.new.self (g.D.Disk.moment c.take_inside.new.disk) c.args.out.now c.take_inside.new.out)
    (λ w. takes_entered c.in-Some.epoch c.args.from c.args.body c.args.self.now c.enter.new.frame c.take_inside.new.self (g.D.Disk.moment c.args.disk.now) (g.D.Disk.moment c.take_inside.new.disk) c.args.out.now c.take_inside.new.out c.in-Some.ensures (entered_frame c.args.self.now c.enter.new.frame c.boot.result c.in-Some.epoch c.enter.ensures c.boot.ensures) w)
    c.take_inside.ensures.step

pub returns-clause-disk : goal.returns-clause-disk
returns-clause-disk g c = written_as _ _ _ _ _ _ _ _ (entered_written c.args.self.now.frame.config c.args.self.now.frame.me c.args.from c.args.body c.in-Some.epoch c.enter.new.frame (view_of c.args.self.now (g.D.Disk.moment c.args.disk.now).seen) c.in-Some.ensures (entered_frame c.args.self.now c.enter.new.frame c.boot.result c.in-Some.epoch c.enter.ensures c.boot.ensures)) c.take_inside.ensures.disk

pub returns-clause-unfit : goal.returns-clause-unfit
returns-clause-unfit g c = λ so can. c.take_inside.ensures.unfit so (entered_taken c.args.self.now c.enter.new.frame c.in-Some.epoch (g.D.Disk.moment c.args.disk.now).seen c.args.from c.args.body c.in-Some.ensures (entered_frame c.args.self.now c.enter.new.frame c.boot.result c.in-Some.epoch c.enter.ensures c.boot.ensures) can)
