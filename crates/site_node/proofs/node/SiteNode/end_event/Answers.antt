use Rattle.disk_model.proofs.Moments.{on_ok}
use Rattle.role_steps.specs.Epochs.{passes_over}
use Rattle.the_run.specs.Steps.{ends_event}
use Rattle.site_node.specs.Mending.{mends_at}
use Rattle.site_node.specs.Views.{Moves}
use Rattle.site_parts.specs.declared.fault.NodeFault.TheVariants.{NoMemory, NoNumber}
use Rattle.site_parts.proofs.Cuts.{failed_still, none_at}
use Rattle.site_node.proofs.Moving.{moves_from, moves_then, moves_work}
use Rattle.std.proofs.Common.{◌≡◌}
use Rattle.site_parts.proofs.Numbers.{if_err, memory_numbered}
use Rattle.site_parts.proofs.Fits.{memory_fit}
use Rattle.site_node.proofs.Fitted.{tables_of}
use Rattle.site_node.proofs.node.SiteNode.end_event.Goals as goal

pub start_mends-requires : goal.start_mends-requires
start_mends-requires g c = (moves_work (passes_over c.args.self.now.frame.config c.args.self.now.frame.me c.args.links.now) c.args.self.now c.pass_over.new.self (g.D.Disk.moment c.args.disk.now) c.args.out.now c.pass_over.new.out c.requires c.in_ok-pass_over.ensures).stands

pub returns-clause-step : goal.returns-clause-step
returns-clause-step g c = on_ok c.start_mends.result (Moves (mends_at c.pass_over.new.self.frame.config c.pass_over.new.self.frame.me) c.pass_over.new.self (g.D.Disk.moment c.args.disk.now) c.start_mends.new.self (g.D.Disk.moment c.start_mends.new.disk) c.pass_over.new.out c.start_mends.new.out) (Moves (ends_event c.args.self.now.frame.config c.args.self.now.frame.me c.args.links.now) c.args.self.now (g.D.Disk.moment c.args.disk.now) c.start_mends.new.self (g.D.Disk.moment c.start_mends.new.disk) c.args.out.now c.start_mends.new.out)
    (λ w. moves_then (passes_over c.args.self.now.frame.config c.args.self.now.frame.me c.args.links.now) (mends_at c.args.self.now.frame.config c.args.self.now.frame.me) c.args.self.now c.pass_over.new.self c.start_mends.new.self (g.D.Disk.moment c.args.disk.now) (g.D.Disk.moment c.args.disk.now) (g.D.Disk.moment c.start_mends.new.disk) c.args.out.now c.pass_over.new.out c.start_mends.new.out
    (moves_work (passes_over c.args.self.now.frame.config c.args.self.now.frame.me c.args.links.now) c.args.self.now c.pass_over.new.self (g.D.Disk.moment c.args.disk.now) c.args.out.now c.pass_over.new.out c.requires c.in_ok-pass_over.ensures)
    (moves_from mends_at c.args.self.now c.pass_over.new.self c.start_mends.new.self (g.D.Disk.moment c.args.disk.now) (g.D.Disk.moment c.start_mends.new.disk) c.pass_over.new.out c.start_mends.new.out c.in_ok-pass_over.ensures.config c.in_ok-pass_over.ensures.me w))
    c.start_mends.ensures.step

pub returns-clause-disk : goal.returns-clause-disk
returns-clause-disk g c = none_at c.args.self.now.packs c.pass_over.new.self.packs (g.D.Disk.moment c.args.disk.now) (g.D.Disk.moment c.start_mends.new.disk) c.args.out.now c.start_mends.new.out c.pass_over.new.out c.start_mends.new.out c.start_mends.result c.start_mends.ensures.disk

pub returns-in_err-pass_over-clause-disk : goal.returns-in_err-pass_over-clause-disk
returns-in_err-pass_over-clause-disk g c = failed_still _ c.args.self.now.packs (g.D.Disk.moment c.args.disk.now) c.args.out.now c.pass_over.new.out c.from_residual.result NoMemory c.from_residual.ensures.1 tt c.requires.settled (g.met.D.Disk.only_now c.args.disk.now)

pub returns-in_err-pass_over-clause-numbered : goal.returns-in_err-pass_over-clause-numbered
returns-in_err-pass_over-clause-numbered g c = if_err c.from_residual.result NoMemory (λ f. f ≡ NoNumber → ⊥) c.from_residual.ensures.1 memory_numbered

pub returns-clause-unfit : goal.returns-clause-unfit
returns-clause-unfit g c so can = c.start_mends.ensures.unfit so
    (tables_of (passes_over c.args.self.now.frame.config c.args.self.now.frame.me c.args.links.now) c.args.self.now c.pass_over.new.self (g.D.Disk.moment c.args.disk.now) (g.D.Disk.moment c.args.disk.now) c.args.out.now c.pass_over.new.out
    (moves_work (passes_over c.args.self.now.frame.config c.args.self.now.frame.me c.args.links.now) c.args.self.now c.pass_over.new.self (g.D.Disk.moment c.args.disk.now) c.args.out.now c.pass_over.new.out c.requires c.in_ok-pass_over.ensures) can)

pub returns-in_err-pass_over-clause-unfit : goal.returns-in_err-pass_over-clause-unfit
returns-in_err-pass_over-clause-unfit g c so can = memory_fit c.from_residual.result c.from_residual.ensures.1 so
