use Rattle.std.proofs.Common.{◌∙◌, ap, sym}
use Rattle.disk_model.proofs.Moments.{on_ok}
use Rattle.role_steps.specs.Views.{Outcome, SiteView}
use Rattle.the_run.specs.Steps.{adopts_in, tries_at}
use Rattle.site_node.specs.Views.{Moves, view_of}
use Rattle.site_parts.proofs.Cuts.{untouched, written_as}
use Rattle.site_node.proofs.Receives.{tried, tries_none, tries_now}
use Rattle.site_node.proofs.Unwritten.{untried_none}
use Rattle.site_node.proofs.node.SiteNode.try_adoption.Goals as goal

pub returns-then-not-tries-clause-step : goal.returns-then-not-tries-clause-step
returns-then-not-tries-clause-step g c = λ body e. tries_none c.args.self.now.frame.config c.args.self.now.frame.me body c.args.tries c.args.self.now (g.D.Disk.moment c.args.disk.now) c.args.out.now c.requires e c.if-not-tries.true

pub returns-then-not-tries-clause-disk : goal.returns-then-not-tries-clause-disk
returns-then-not-tries-clause-disk g c = λ body e. untouched _ c.args.self.now.packs (g.D.Disk.moment c.args.disk.now) c.args.out.now c.args.out.now tt (untried_none c.args.self.now.frame.config c.args.self.now.frame.me body (view_of c.args.self.now (g.D.Disk.moment c.args.disk.now).seen) (sym e ∙ c.if-not-tries.true)) c.requires.settled (g.met.D.Disk.only_now c.args.disk.now)

pub returns-clause-step : goal.returns-clause-step
returns-clause-step g c = λ body e. on_ok c.adopt.result (Moves (adopts_in c.args.self.now.frame.config c.args.self.now.frame.me) c.args.self.now (g.D.Disk.moment c.args.disk.now) c.adopt.new.self (g.D.Disk.moment c.adopt.new.disk) c.args.out.now c.adopt.new.out) (Moves (tries_at c.args.self.now.frame.config c.args.self.now.frame.me body) c.args.self.now (g.D.Disk.moment c.args.disk.now) c.adopt.new.self (g.D.Disk.moment c.adopt.new.disk) c.args.out.now c.adopt.new.out)
    (λ w. tries_now c.args.self.now.frame.config c.args.self.now.frame.me body c.args.tries c.args.self.now c.adopt.new.self (g.D.Disk.moment c.args.disk.now) (g.D.Disk.moment c.adopt.new.disk) c.args.out.now c.adopt.new.out e c.if-not-tries.false w)
    c.adopt.ensures.step

pub returns-clause-disk : goal.returns-clause-disk
returns-clause-disk g c = λ body e. written_as _ _ _ _ _ _ _ _ (ap (λ (o : Outcome SiteView). o.written) (tried c.args.self.now.frame.config c.args.self.now.frame.me body (view_of c.args.self.now (g.D.Disk.moment c.args.disk.now).seen) (sym c.if-not-tries.false ∙ e))) c.adopt.ensures.disk

pub returns-clause-unfit : goal.returns-clause-unfit
returns-clause-unfit g c so can = c.adopt.ensures.unfit so (can c.if-not-tries.false)
