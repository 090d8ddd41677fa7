use Rattle.std.proofs.Common.{◌≡◌, List, refl, subst, sym}
use Rattle.role_steps.specs.Epochs.{with_users}
use Rattle.role_steps.specs.Mends.{starts_mends_in}
use Rattle.role_steps.specs.Views.{SiteView}
use Rattle.role_steps.specs.declared.synchronizing.SyncTable.{SyncTable}
use Rattle.site_parts.specs.of_site_mends.Mending.{IsSeen}
use Rattle.site_parts.specs.of_using_site.Steps.{Gives}
use Rattle.site_parts.proofs.Cuts.{mends_ill, mends_well, untouched}
use Rattle.site_node.proofs.Starts.{entered_frame, mends_inside, mends_outside}
use Rattle.site_parts.specs.Faults.{fault_of_mend}
use Rattle.site_parts.specs.declared.fault.NodeFault.TheVariants.{NoNumber}
use Rattle.site_parts.proofs.Numbers.{if_err, mend_numbered}
use Rattle.site_node.proofs.Fitted.{fault_at, mend_unfit}
use Rattle.site_node.specs.Fitting.{HasInodes}
use Rattle.site_node.proofs.node.SiteNode.start_mends.Goals as goal

pub returns-in_default-clause-step : goal.returns-in_default-clause-step
returns-in_default-clause-step g c = mends_outside c.args.self.now.frame.config c.args.self.now.frame.me c.args.self.now (g.D.Disk.moment c.args.disk.now) c.args.out.now c.requires c.in_default.ensures

pub returns-in_default-clause-disk : goal.returns-in_default-clause-disk
returns-in_default-clause-disk g c = untouched _ c.args.self.now.packs (g.D.Disk.moment c.args.disk.now) c.args.out.now c.args.out.now tt refl c.requires.settled (g.met.D.Disk.only_now c.args.disk.now)

pub returns-clause-step : goal.returns-clause-step
returns-clause-step g c = mends_inside c.in-Some.epoch c.args.self.now c.enter.new.frame c.start_mends.new.users (g.D.Disk.moment c.args.disk.now) (g.D.Disk.moment c.start_mends.new.disk) c.args.out.now c.start_mends.new.out c.in-Some.ensures (entered_frame c.args.self.now c.enter.new.frame c.boot.result c.in-Some.epoch c.enter.ensures c.boot.ensures)
    c.in_ok-start_mends.ensures.disk.seen c.in_ok-start_mends.ensures.disk.stands
    (subst (λ (ts : List SyncTable). (v : SiteView) → IsSeen v c.args.self.now.packs (g.D.Disk.moment c.args.disk.now).seen c.args.self.now.users → Gives (starts_mends_in c.enter.new.frame ts v) (with_users v c.start_mends.new.users) c.args.out.now c.start_mends.new.out) c.as_slice.ensures.rows c.in_ok-start_mends.ensures.gives)

pub returns-clause-disk : goal.returns-clause-disk
returns-clause-disk g c = mends_well g.D.Disk.moment {T = Unit {0}} {S = Unit {0}} c.args.self.now.packs c.args.disk.now c.start_mends.new.disk c.args.out.now c.start_mends.new.out tt tt c.requires.settled (g.met.D.Disk.only_now c.args.disk.now) c.in_ok-start_mends.ensures.disk

pub returns-in_err-start_mends-clause-disk : goal.returns-in_err-start_mends-clause-disk
returns-in_err-start_mends-clause-disk g c = mends_ill g.D.Disk.moment {T = Unit {0}} {S = Unit {0}} c.args.self.now.packs c.args.disk.now c.start_mends.new.disk c.args.out.now c.start_mends.new.out c.from_residual.result c.in_err-start_mends.field-0.0 c.from_residual.ensures.1 c.requires.settled (g.met.D.Disk.only_now c.args.disk.now) c.in_err-start_mends.ensures.disk

pub returns-in_err-start_mends-clause-numbered : goal.returns-in_err-start_mends-clause-numbered
returns-in_err-start_mends-clause-numbered g c = if_err c.from_residual.result (fault_of_mend c.in_err-start_mends.field-0.0) (λ f. f ≡ NoNumber → ⊥) c.from_residual.ensures.1 (mend_numbered c.in_err-start_mends.field-0.0)

pub returns-in_err-start_mends-clause-unfit : goal.returns-in_err-start_mends-clause-unfit
returns-in_err-start_mends-clause-unfit g c = fault_at (HasInodes c.args.self.now.tables) c.from_residual.result (fault_of_mend c.in_err-start_mends.field-0.0) c.from_residual.ensures.1
    (mend_unfit {S = Unit {0}} (HasInodes c.args.self.now.tables) c.in_err-start_mends.field-0.0 (λ so can. c.in_err-start_mends.ensures.unfit so (subst HasInodes (sym c.as_slice.ensures.rows) can)))
