use Rattle.std.proofs.Common.{◌∙◌, ap, sym, ◌≢◌}
use Rattle.disk_model.proofs.Moments.{on_ok}
use Rattle.role_steps.specs.Views.{Outcome, SiteView}
use Rattle.the_run.specs.Steps.{takes_inside}
use Rattle.site_node.specs.Roles.{role_takes}
use Rattle.site_parts.specs.declared.roles.Role.TheVariants as role
use Rattle.site_node.specs.Views.{Moves, view_of}
use Rattle.site_parts.specs.declared.fault.NodeFault.TheVariants.{NoMemory, NoNumber}
use Rattle.site_parts.proofs.Cuts.{failed_still, untouched, written_as}
use Rattle.site_node.proofs.Unwritten.{unwritten_by}
use Rattle.site_node.proofs.ByRole.{reports_work, takes_by_role}
use Rattle.site_node.proofs.Moving.{moves_as, moves_none, moves_work}
use Rattle.site_parts.proofs.Numbers.{if_err, memory_numbered, own_numbered, own_off}
use Rattle.site_parts.proofs.Fits.{memory_fit}
use Rattle.site_parts.proofs.Fits.{unfit_at}
use Rattle.site_packs.specs.Packs.{groups_of}
use Rattle.site_node.specs.Fitting.{CanTakeInside}
use Rattle.site_node.proofs.node.SiteNode.take_inside.Goals as goal

pub returns-in_ok-take_at_tables-in-Tables-clause-step : goal.returns-in_ok-take_at_tables-in-Tables-clause-step
returns-in_ok-take_at_tables-in-Tables-clause-step g c = moves_as (role_takes role.Tables c.args.self.now.frame c.args.from c.args.body) (takes_inside c.args.self.now.frame c.args.from c.args.body) c.args.self.now c.take_at_tables.new.self (g.D.Disk.moment c.args.disk.now) (g.D.Disk.moment c.args.disk.now) c.args.out.now c.take_at_tables.new.out
    (λ v. takes_by_role c.args.self.now.frame c.args.from c.args.body v ∙ ap (λ r. role_takes r c.args.self.now.frame c.args.from c.args.body v) (sym c.role_of.ensures ∙ c.in-Tables.is))
    (moves_work (role_takes role.Tables c.args.self.now.frame c.args.from c.args.body) c.args.self.now c.take_at_tables.new.self (g.D.Disk.moment c.args.disk.now) c.args.out.now c.take_at_tables.new.out c.requires c.in_ok-take_at_tables-in-Tables.ensures)

pub returns-in-Store-clause-step : goal.returns-in-Store-clause-step
returns-in-Store-clause-step g c = on_ok c.take_at_store.result (Moves (role_takes role.Store c.args.self.now.frame c.args.from c.args.body) c.args.self.now (g.D.Disk.moment c.args.disk.now) c.take_at_store.new.self (g.D.Disk.moment c.take_at_store.new.disk) c.args.out.now c.take_at_store.new.out) (Moves (takes_inside c.args.self.now.frame c.args.from c.args.body) c.args.self.now (g.D.Disk.moment c.args.disk.now) c.take_at_store.new.self (g.D.Disk.moment c.take_at_store.new.disk) c.args.out.now c.take_at_store.new.out)
    (λ w. moves_as (role_takes role.Store c.args.self.now.frame c.args.from c.args.body) (takes_inside c.args.self.now.frame c.args.from c.args.body) c.args.self.now c.take_at_store.new.self (g.D.Disk.moment c.args.disk.now) (g.D.Disk.moment c.take_at_store.new.disk) c.args.out.now c.take_at_store.new.out
    (λ v. takes_by_role c.args.self.now.frame c.args.from c.args.body v ∙ ap (λ r. role_takes r c.args.self.now.frame c.args.from c.args.body v) (sym c.role_of.ensures ∙ c.in-Store.is)) w)
    c.take_at_store.ensures.step

pub returns-in-Store-clause-disk : goal.returns-in-Store-clause-disk
returns-in-Store-clause-disk g c =
    let v : SiteView = view_of c.args.self.now (g.D.Disk.moment c.args.disk.now).seen in
    written_as _ _ _ _ _ _ _ _ (ap (λ (o : Outcome SiteView). o.written) (takes_by_role c.args.self.now.frame c.args.from c.args.body v ∙ ap (λ r. role_takes r c.args.self.now.frame c.args.from c.args.body v) (sym c.role_of.ensures ∙ c.in-Store.is))) c.take_at_store.ensures.disk

pub returns-in_ok-take_at_users-in-Users-clause-step : goal.returns-in_ok-take_at_users-in-Users-clause-step
returns-in_ok-take_at_users-in-Users-clause-step g c = moves_as (role_takes role.Users c.args.self.now.frame c.args.from c.args.body) (takes_inside c.args.self.now.frame c.args.from c.args.body) c.args.self.now c.take_at_users.new.self (g.D.Disk.moment c.args.disk.now) (g.D.Disk.moment c.args.disk.now) c.args.out.now c.take_at_users.new.out
    (λ v. takes_by_role c.args.self.now.frame c.args.from c.args.body v ∙ ap (λ r. role_takes r c.args.self.now.frame c.args.from c.args.body v) (sym c.role_of.ensures ∙ c.in-Users.is))
    (moves_work (role_takes role.Users c.args.self.now.frame c.args.from c.args.body) c.args.self.now c.take_at_users.new.self (g.D.Disk.moment c.args.disk.now) c.args.out.now c.take_at_users.new.out c.requires c.in_ok-take_at_users-in-Users.ensures)

pub returns-in_ok-take_at_pulls-in-Pulls-clause-step : goal.returns-in_ok-take_at_pulls-in-Pulls-clause-step
returns-in_ok-take_at_pulls-in-Pulls-clause-step g c = moves_as (role_takes role.Pulls c.args.self.now.frame c.args.from c.args.body) (takes_inside c.args.self.now.frame c.args.from c.args.body) c.args.self.now c.take_at_pulls.new.self (g.D.Disk.moment c.args.disk.now) (g.D.Disk.moment c.args.disk.now) c.args.out.now c.take_at_pulls.new.out
    (λ v. takes_by_role c.args.self.now.frame c.args.from c.args.body v ∙ ap (λ r. role_takes r c.args.self.now.frame c.args.from c.args.body v) (sym c.role_of.ensures ∙ c.in-Pulls.is))
    (moves_work (role_takes role.Pulls c.args.self.now.frame c.args.from c.args.body) c.args.self.now c.take_at_pulls.new.self (g.D.Disk.moment c.args.disk.now) c.args.out.now c.take_at_pulls.new.out c.requires c.in_ok-take_at_pulls-in-Pulls.ensures.works)

pub returns-in-Nobody-clause-step : goal.returns-in-Nobody-clause-step
returns-in-Nobody-clause-step g c = moves_as (role_takes role.Nobody c.args.self.now.frame c.args.from c.args.body) (takes_inside c.args.self.now.frame c.args.from c.args.body) c.args.self.now c.args.self.now (g.D.Disk.moment c.args.disk.now) (g.D.Disk.moment c.args.disk.now) c.args.out.now c.args.out.now
    (λ v. takes_by_role c.args.self.now.frame c.args.from c.args.body v ∙ ap (λ r. role_takes r c.args.self.now.frame c.args.from c.args.body v) (sym c.role_of.ensures ∙ c.in-Nobody.is))
    (moves_none c.args.self.now (g.D.Disk.moment c.args.disk.now) c.args.out.now c.requires)

pub returns-in-Epochs-clause-step : goal.returns-in-Epochs-clause-step
returns-in-Epochs-clause-step g c = moves_as (role_takes role.Epochs c.args.self.now.frame c.args.from c.args.body) (takes_inside c.args.self.now.frame c.args.from c.args.body) c.args.self.now c.take_report_ok.new.self (g.D.Disk.moment c.args.disk.now) (g.D.Disk.moment c.args.disk.now) c.args.out.now c.args.out.now
    (λ v. takes_by_role c.args.self.now.frame c.args.from c.args.body v ∙ ap (λ r. role_takes r c.args.self.now.frame c.args.from c.args.body v) (sym c.role_of.ensures ∙ c.in-Epochs.is))
    (moves_work (role_takes role.Epochs c.args.self.now.frame c.args.from c.args.body) c.args.self.now c.take_report_ok.new.self (g.D.Disk.moment c.args.disk.now) c.args.out.now c.args.out.now c.requires (reports_work c.args.self.now.frame c.args.from c.args.body c.args.self.now c.take_report_ok.new.self c.args.out.now c.take_report_ok.ensures))

pub returns-in_ok-take_at_tables-in-Tables-clause-disk : goal.returns-in_ok-take_at_tables-in-Tables-clause-disk
returns-in_ok-take_at_tables-in-Tables-clause-disk g c = untouched _ c.args.self.now.packs (g.D.Disk.moment c.args.disk.now) c.args.out.now c.take_at_tables.new.out tt (unwritten_by c.args.self.now.frame c.args.from c.args.body (view_of c.args.self.now (g.D.Disk.moment c.args.disk.now).seen) role.Tables (sym c.in-Tables.is ∙ c.role_of.ensures) tt) c.requires.settled (g.met.D.Disk.only_now c.args.disk.now)

pub returns-in_err-take_at_tables-in-Tables-clause-disk : goal.returns-in_err-take_at_tables-in-Tables-clause-disk
returns-in_err-take_at_tables-in-Tables-clause-disk g c = failed_still _ c.args.self.now.packs (g.D.Disk.moment c.args.disk.now) c.args.out.now c.take_at_tables.new.out c.from_residual.result NoMemory c.from_residual.ensures.1 tt c.requires.settled (g.met.D.Disk.only_now c.args.disk.now)

pub returns-in_ok-take_at_users-in-Users-clause-disk : goal.returns-in_ok-take_at_users-in-Users-clause-disk
returns-in_ok-take_at_users-in-Users-clause-disk g c = untouched _ c.args.self.now.packs (g.D.Disk.moment c.args.disk.now) c.args.out.now c.take_at_users.new.out tt (unwritten_by c.args.self.now.frame c.args.from c.args.body (view_of c.args.self.now (g.D.Disk.moment c.args.disk.now).seen) role.Users (sym c.in-Users.is ∙ c.role_of.ensures) tt) c.requires.settled (g.met.D.Disk.only_now c.args.disk.now)

pub returns-in_err-take_at_users-in-Users-clause-disk : goal.returns-in_err-take_at_users-in-Users-clause-disk
returns-in_err-take_at_users-in-Users-clause-disk g c = failed_still _ c.args.self.now.packs (g.D.Disk.moment c.args.disk.now) c.args.out.now c.take_at_users.new.out c.from_residual-in_err-take_at_users-in-Users.result NoMemory c.from_residual-in_err-take_at_users-in-Users.ensures.1 tt c.requires.settled (g.met.D.Disk.only_now c.args.disk.now)

pub returns-in_ok-take_at_pulls-in-Pulls-clause-disk : goal.returns-in_ok-take_at_pulls-in-Pulls-clause-disk
returns-in_ok-take_at_pulls-in-Pulls-clause-disk g c = untouched _ c.args.self.now.packs (g.D.Disk.moment c.args.disk.now) c.args.out.now c.take_at_pulls.new.out tt (unwritten_by c.args.self.now.frame c.args.from c.args.body (view_of c.args.self.now (g.D.Disk.moment c.args.disk.now).seen) role.Pulls (sym c.in-Pulls.is ∙ c.role_of.ensures) tt) c.requires.settled (g.met.D.Disk.only_now c.args.disk.now)

pub returns-in_err-take_at_pulls-in-Pulls-clause-disk : goal.returns-in_err-take_at_pulls-in-Pulls-clause-disk
returns-in_err-take_at_pulls-in-Pulls-clause-disk g c = failed_still _ c.args.self.now.packs (g.D.Disk.moment c.args.disk.now) c.args.out.now c.take_at_pulls.new.out c.from_residual-in_err-take_at_pulls-in-Pulls.result c.in_err-take_at_pulls-in-Pulls.field-0.0 c.from_residual-in_err-take_at_pulls-in-Pulls.ensures.1 (own_off c.in_err-take_at_pulls-in-Pulls.field-0.0 c.in_err-take_at_pulls-in-Pulls.ensures.own) c.requires.settled (g.met.D.Disk.only_now c.args.disk.now)

pub returns-in-Epochs-clause-disk : goal.returns-in-Epochs-clause-disk
returns-in-Epochs-clause-disk g c = untouched _ c.args.self.now.packs (g.D.Disk.moment c.args.disk.now) c.args.out.now c.args.out.now tt (unwritten_by c.args.self.now.frame c.args.from c.args.body (view_of c.args.self.now (g.D.Disk.moment c.args.disk.now).seen) role.Epochs (sym c.in-Epochs.is ∙ c.role_of.ensures) tt) c.requires.settled (g.met.D.Disk.only_now c.args.disk.now)

pub returns-in-Nobody-clause-disk : goal.returns-in-Nobody-clause-disk
returns-in-Nobody-clause-disk g c = untouched _ c.args.self.now.packs (g.D.Disk.moment c.args.disk.now) c.args.out.now c.args.out.now tt (unwritten_by c.args.self.now.frame c.args.from c.args.body (view_of c.args.self.now (g.D.Disk.moment c.args.disk.now).seen) role.Nobody (sym c.in-Nobody.is ∙ c.role_of.ensures) tt) c.requires.settled (g.met.D.Disk.only_now c.args.disk.now)

pub returns-in_err-take_at_tables-in-Tables-clause-numbered : goal.returns-in_err-take_at_tables-in-Tables-clause-numbered
returns-in_err-take_at_tables-in-Tables-clause-numbered g c = if_err c.from_residual.result NoMemory (λ f. f ≢ NoNumber) c.from_residual.ensures.1 memory_numbered

pub returns-in_err-take_at_users-in-Users-clause-numbered : goal.returns-in_err-take_at_users-in-Users-clause-numbered
returns-in_err-take_at_users-in-Users-clause-numbered g c = if_err c.from_residual-in_err-take_at_users-in-Users.result NoMemory (λ f. f ≢ NoNumber) c.from_residual-in_err-take_at_users-in-Users.ensures.1 memory_numbered

pub returns-in_err-take_at_pulls-in-Pulls-clause-numbered : goal.returns-in_err-take_at_pulls-in-Pulls-clause-numbered
returns-in_err-take_at_pulls-in-Pulls-clause-numbered g c = if_err c.from_residual-in_err-take_at_pulls-in-Pulls.result c.in_err-take_at_pulls-in-Pulls.field-0.0 (λ f. f ≢ NoNumber) c.from_residual-in_err-take_at_pulls-in-Pulls.ensures.1 (own_numbered c.in_err-take_at_pulls-in-Pulls.field-0.0 c.in_err-take_at_pulls-in-Pulls.ensures.own)

pub returns-in-Store-clause-unfit : goal.returns-in-Store-clause-unfit
returns-in-Store-clause-unfit g c so can = c.take_at_store.ensures.unfit so can.stores

pub returns-in_err-take_at_tables-in-Tables-clause-unfit : goal.returns-in_err-take_at_tables-in-Tables-clause-unfit
returns-in_err-take_at_tables-in-Tables-clause-unfit g c so can = memory_fit c.from_residual.result c.from_residual.ensures.1 so

pub returns-in_err-take_at_users-in-Users-clause-unfit : goal.returns-in_err-take_at_users-in-Users-clause-unfit
returns-in_err-take_at_users-in-Users-clause-unfit g c so can = memory_fit c.from_residual-in_err-take_at_users-in-Users.result c.from_residual-in_err-take_at_users-in-Users.ensures.1 so

pub returns-in_err-take_at_pulls-in-Pulls-clause-unfit : goal.returns-in_err-take_at_pulls-in-Pulls-clause-unfit
returns-in_err-take_at_pulls-in-Pulls-clause-unfit g c = unfit_at {S = Unit {0}} (CanTakeInside c.args.self.now.frame (groups_of c.args.self.now.packs) c.args.self.now.packs.site c.args.from c.args.body (view_of c.args.self.now (g.D.Disk.moment c.args.disk.now).seen)) c.from_residual-in_err-take_at_pulls-in-Pulls.result c.in_err-take_at_pulls-in-Pulls.field-0.0 c.from_residual-in_err-take_at_pulls-in-Pulls.ensures.1 (λ so can. c.in_err-take_at_pulls-in-Pulls.ensures.unfit so can.pulls)
