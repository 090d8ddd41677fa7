use Rattle.std.proofs.Common.{◌≡◌, subst, sym}
use Rattle.std.specs.Prelude.{Err, OnOk}
use Rattle.disk_model.proofs.Moments.{on_ok}
use Rattle.site_parts.specs.Faults.{fault_of_epoch}
use Rattle.site_node.specs.Taking.{IsSpent, in_epoch_takes, taken}
use Rattle.site_node.specs.Views.{Moves, view_of}
use Rattle.site_node.specs.Writing.{EventWrites}
use Rattle.site_parts.specs.declared.fault.NodeFault.TheVariants.{NoMemory, NoNumber, Unfit}
use Rattle.site_parts.proofs.Cuts.{epoch_off, failed_still, untouched, written_as}
use Rattle.site_node.proofs.Moving.{moves_work}
use Rattle.site_node.proofs.Takes.{inside_written, taken_as, taken_inside}
use Rattle.site_node.proofs.Unwritten.{forms_none}
use Rattle.role_steps.specs.Epochs.{on_install, on_joined, on_poll, on_promise, on_refuse}
use Rattle.wire_messages.specs.declared.body.Body.TheVariants as body
use Rattle.site_node.proofs.Takes.{never_spent}
use Rattle.site_parts.proofs.Numbers.{if_err, memory_numbered, spent_at}
use Rattle.site_parts.proofs.Fits.{memory_fit}
use Rattle.site_node.proofs.Fitted.{epoch_fit, fault_at}
use Rattle.site_packs.specs.Packs.{groups_of}
use Rattle.site_node.specs.Fitting.{CanTakeIn}
use Rattle.site_node.proofs.node.SiteNode.take.Goals as goal

pub returns-in_ok-take_poll-in-Poll-clause-step : goal.returns-in_ok-take_poll-in-Poll-clause-step
returns-in_ok-take_poll-in-Poll-clause-step g c = taken_as c.args.self.now.frame.config c.args.self.now.frame.me c.args.links.now c.args.packet body.Poll c.args.self.now c.take_poll.new.self (g.D.Disk.moment c.args.disk.now) (g.D.Disk.moment c.args.disk.now) c.args.out.now c.take_poll.new.out c.in-Poll.is
    (moves_work (on_poll c.args.self.now.frame.me c.args.links.now c.args.packet.from c.args.packet.from_boot c.args.packet.epoch) c.args.self.now c.take_poll.new.self (g.D.Disk.moment c.args.disk.now) c.args.out.now c.take_poll.new.out c.requires c.in_ok-take_poll-in-Poll.ensures)

pub returns-in-Promise-clause-step : goal.returns-in-Promise-clause-step
returns-in-Promise-clause-step g c = taken_as c.args.self.now.frame.config c.args.self.now.frame.me c.args.links.now c.args.packet (body.Promise c.in-Promise.reach) c.args.self.now c.take_promise.new.self (g.D.Disk.moment c.args.disk.now) (g.D.Disk.moment c.args.disk.now) c.args.out.now c.args.out.now c.in-Promise.is
    (moves_work (on_promise c.args.packet.from c.args.packet.from_boot c.args.packet.epoch c.in-Promise.reach) c.args.self.now c.take_promise.new.self (g.D.Disk.moment c.args.disk.now) c.args.out.now c.args.out.now c.requires (c.take_promise.ensures c.args.out.now))

pub returns-in_ok-take_refuse-in-Refuse-clause-step : goal.returns-in_ok-take_refuse-in-Refuse-clause-step
returns-in_ok-take_refuse-in-Refuse-clause-step g c = taken_as c.args.self.now.frame.config c.args.self.now.frame.me c.args.links.now c.args.packet (body.Refuse c.in-Refuse.promised) c.args.self.now c.take_refuse.new.self (g.D.Disk.moment c.args.disk.now) (g.D.Disk.moment c.args.disk.now) c.args.out.now c.take_refuse.new.out c.in-Refuse.is
    (moves_work (on_refuse c.args.self.now.frame.me c.args.links.now c.args.packet.epoch c.in-Refuse.promised) c.args.self.now c.take_refuse.new.self (g.D.Disk.moment c.args.disk.now) c.args.out.now c.take_refuse.new.out c.requires c.in_ok-take_refuse-in-Refuse.ensures.works)

pub returns-in_ok-take_install-in-Install-clause-step : goal.returns-in_ok-take_install-in-Install-clause-step
returns-in_ok-take_install-in-Install-clause-step g c = taken_as c.args.self.now.frame.config c.args.self.now.frame.me c.args.links.now c.args.packet (body.Install c.in-Install.members) c.args.self.now c.take_install.new.self (g.D.Disk.moment c.args.disk.now) (g.D.Disk.moment c.args.disk.now) c.args.out.now c.take_install.new.out c.in-Install.is
    (moves_work (on_install c.args.self.now.frame.config c.args.self.now.frame.me c.args.packet.from c.args.packet.from_boot c.args.packet.epoch c.in-Install.members) c.args.self.now c.take_install.new.self (g.D.Disk.moment c.args.disk.now) c.args.out.now c.take_install.new.out c.requires c.in_ok-take_install-in-Install.ensures)

pub returns-in-Joined-clause-step : goal.returns-in-Joined-clause-step
returns-in-Joined-clause-step g c = taken_as c.args.self.now.frame.config c.args.self.now.frame.me c.args.links.now c.args.packet body.Joined c.args.self.now c.take_joined.new.self (g.D.Disk.moment c.args.disk.now) (g.D.Disk.moment c.args.disk.now) c.args.out.now c.args.out.now c.in-Joined.is
    (moves_work (on_joined c.args.packet.from c.args.packet.epoch) c.args.self.now c.take_joined.new.self (g.D.Disk.moment c.args.disk.now) c.args.out.now c.args.out.now c.requires (c.take_joined.ensures c.args.out.now))

pub returns-in_default-clause-step : goal.returns-in_default-clause-step
returns-in_default-clause-step g c = on_ok c.take_in_epoch.result (Moves (in_epoch_takes c.args.self.now.frame.config c.args.self.now.frame.me c.args.packet.from c.args.packet.body) c.args.self.now (g.D.Disk.moment c.args.disk.now) c.take_in_epoch.new.self (g.D.Disk.moment c.take_in_epoch.new.disk) c.args.out.now c.take_in_epoch.new.out) (Moves (taken c.args.self.now.frame.config c.args.self.now.frame.me c.args.links.now c.args.packet) c.args.self.now (g.D.Disk.moment c.args.disk.now) c.take_in_epoch.new.self (g.D.Disk.moment c.take_in_epoch.new.disk) c.args.out.now c.take_in_epoch.new.out)
    (λ w. taken_inside c.args.self.now.frame.config c.args.self.now.frame.me c.args.links.now c.args.packet c.args.self.now c.take_in_epoch.new.self (g.D.Disk.moment c.args.disk.now) (g.D.Disk.moment c.take_in_epoch.new.disk) c.args.out.now c.take_in_epoch.new.out c.in_default.not-Poll c.in_default.not-Promise c.in_default.not-Refuse c.in_default.not-Install c.in_default.not-Joined w)
    (subst (λ b. OnOk c.take_in_epoch.result (Moves (in_epoch_takes c.args.self.now.frame.config c.args.self.now.frame.me c.args.packet.from b) c.args.self.now (g.D.Disk.moment c.args.disk.now) c.take_in_epoch.new.self (g.D.Disk.moment c.take_in_epoch.new.disk) c.args.out.now c.take_in_epoch.new.out)) c.into_body.ensures c.take_in_epoch.ensures.step)

pub returns-in_default-clause-disk : goal.returns-in_default-clause-disk
returns-in_default-clause-disk g c = written_as _ _ _ _ _ _ _ _ (inside_written c.args.self.now.frame.config c.args.self.now.frame.me c.args.links.now c.args.packet (view_of c.args.self.now (g.D.Disk.moment c.args.disk.now).seen) c.in_default.not-Poll c.in_default.not-Promise c.in_default.not-Refuse c.in_default.not-Install c.in_default.not-Joined)
    (subst (λ b. EventWrites (in_epoch_takes c.args.self.now.frame.config c.args.self.now.frame.me c.args.packet.from b (view_of c.args.self.now (g.D.Disk.moment c.args.disk.now).seen)).written c.args.self.now.packs (g.D.Disk.moment c.args.disk.now) (g.D.Disk.moment c.take_in_epoch.new.disk) c.args.out.now c.take_in_epoch.new.out c.take_in_epoch.result) c.into_body.ensures c.take_in_epoch.ensures.disk)

pub returns-in_ok-take_poll-in-Poll-clause-disk : goal.returns-in_ok-take_poll-in-Poll-clause-disk
returns-in_ok-take_poll-in-Poll-clause-disk g c = untouched _ c.args.self.now.packs (g.D.Disk.moment c.args.disk.now) c.args.out.now c.take_poll.new.out tt (forms_none c.args.self.now.frame.config c.args.self.now.frame.me c.args.links.now c.args.packet body.Poll (view_of c.args.self.now (g.D.Disk.moment c.args.disk.now).seen) c.in-Poll.is tt) c.requires.settled (g.met.D.Disk.only_now c.args.disk.now)

pub returns-in_err-take_poll-in-Poll-clause-disk : goal.returns-in_err-take_poll-in-Poll-clause-disk
returns-in_err-take_poll-in-Poll-clause-disk g c = failed_still _ c.args.self.now.packs (g.D.Disk.moment c.args.disk.now) c.args.out.now c.take_poll.new.out c.from_residual.result NoMemory c.from_residual.ensures.1 tt c.requires.settled (g.met.D.Disk.only_now c.args.disk.now)

pub returns-in-Promise-clause-disk : goal.returns-in-Promise-clause-disk
returns-in-Promise-clause-disk g c = untouched _ c.args.self.now.packs (g.D.Disk.moment c.args.disk.now) c.args.out.now c.args.out.now tt (forms_none c.args.self.now.frame.config c.args.self.now.frame.me c.args.links.now c.args.packet (body.Promise c.in-Promise.reach) (view_of c.args.self.now (g.D.Disk.moment c.args.disk.now).seen) c.in-Promise.is tt) c.requires.settled (g.met.D.Disk.only_now c.args.disk.now)

pub returns-in_ok-take_refuse-in-Refuse-clause-disk : goal.returns-in_ok-take_refuse-in-Refuse-clause-disk
returns-in_ok-take_refuse-in-Refuse-clause-disk g c = untouched _ c.args.self.now.packs (g.D.Disk.moment c.args.disk.now) c.args.out.now c.take_refuse.new.out tt (forms_none c.args.self.now.frame.config c.args.self.now.frame.me c.args.links.now c.args.packet (body.Refuse c.in-Refuse.promised) (view_of c.args.self.now (g.D.Disk.moment c.args.disk.now).seen) c.in-Refuse.is tt) c.requires.settled (g.met.D.Disk.only_now c.args.disk.now)

pub returns-in_err-take_refuse-in-Refuse-clause-disk : goal.returns-in_err-take_refuse-in-Refuse-clause-disk
returns-in_err-take_refuse-in-Refuse-clause-disk g c = failed_still _ c.args.self.now.packs (g.D.Disk.moment c.args.disk.now) c.args.out.now c.take_refuse.new.out c.from_residual-in_err-take_refuse-in-Refuse.result (fault_of_epoch c.in_err-take_refuse-in-Refuse.field-0.0) c.from_residual-in_err-take_refuse-in-Refuse.ensures.1 (epoch_off c.in_err-take_refuse-in-Refuse.field-0.0) c.requires.settled (g.met.D.Disk.only_now c.args.disk.now)

pub returns-in_ok-take_install-in-Install-clause-disk : goal.returns-in_ok-take_install-in-Install-clause-disk
returns-in_ok-take_install-in-Install-clause-disk g c = untouched _ c.args.self.now.packs (g.D.Disk.moment c.args.disk.now) c.args.out.now c.take_install.new.out tt (forms_none c.args.self.now.frame.config c.args.self.now.frame.me c.args.links.now c.args.packet (body.Install c.in-Install.members) (view_of c.args.self.now (g.D.Disk.moment c.args.disk.now).seen) c.in-Install.is tt) c.requires.settled (g.met.D.Disk.only_now c.args.disk.now)

pub returns-in_err-take_install-in-Install-clause-disk : goal.returns-in_err-take_install-in-Install-clause-disk
returns-in_err-take_install-in-Install-clause-disk g c = failed_still _ c.args.self.now.packs (g.D.Disk.moment c.args.disk.now) c.args.out.now c.take_install.new.out c.from_residual-in_err-take_install-in-Install.result NoMemory c.from_residual-in_err-take_install-in-Install.ensures.1 tt c.requires.settled (g.met.D.Disk.only_now c.args.disk.now)

pub returns-in-Joined-clause-disk : goal.returns-in-Joined-clause-disk
returns-in-Joined-clause-disk g c = untouched _ c.args.self.now.packs (g.D.Disk.moment c.args.disk.now) c.args.out.now c.args.out.now tt (forms_none c.args.self.now.frame.config c.args.self.now.frame.me c.args.links.now c.args.packet body.Joined (view_of c.args.self.now (g.D.Disk.moment c.args.disk.now).seen) c.in-Joined.is tt) c.requires.settled (g.met.D.Disk.only_now c.args.disk.now)

pub returns-in_default-clause-spent : goal.returns-in_default-clause-spent
returns-in_default-clause-spent g c = never_spent (IsSpent c.args.packet.body) c.take_in_epoch.result c.take_in_epoch.ensures.numbered

pub returns-in_err-take_poll-in-Poll-clause-spent : goal.returns-in_err-take_poll-in-Poll-clause-spent
returns-in_err-take_poll-in-Poll-clause-spent g c = if_err c.from_residual.result NoMemory (λ f. f ≡ NoNumber → IsSpent c.args.packet.body) c.from_residual.ensures.1 (λ h. absurd (memory_numbered h))

pub returns-in_err-take_refuse-in-Refuse-clause-spent : goal.returns-in_err-take_refuse-in-Refuse-clause-spent
returns-in_err-take_refuse-in-Refuse-clause-spent g c = if_err c.from_residual-in_err-take_refuse-in-Refuse.result (fault_of_epoch c.in_err-take_refuse-in-Refuse.field-0.0) (λ f. f ≡ NoNumber → IsSpent c.args.packet.body) c.from_residual-in_err-take_refuse-in-Refuse.ensures.1 (λ h. subst IsSpent (sym c.in-Refuse.is) (spent_at c.in_err-take_refuse-in-Refuse.field-0.0 (IsSpent (body.Refuse c.in-Refuse.promised)) c.in_err-take_refuse-in-Refuse.ensures.spent h))

pub returns-in_err-take_install-in-Install-clause-spent : goal.returns-in_err-take_install-in-Install-clause-spent
returns-in_err-take_install-in-Install-clause-spent g c = if_err c.from_residual-in_err-take_install-in-Install.result NoMemory (λ f. f ≡ NoNumber → IsSpent c.args.packet.body) c.from_residual-in_err-take_install-in-Install.ensures.1 (λ h. absurd (memory_numbered h))

pub returns-in_default-clause-unfit : goal.returns-in_default-clause-unfit
returns-in_default-clause-unfit g c = subst (λ b. c.take_in_epoch.result ≡ Err Unfit → CanTakeIn c.args.self.now.frame.config c.args.self.now.frame.me (groups_of c.args.self.now.packs) c.args.self.now.packs.site c.args.packet.from b (view_of c.args.self.now (g.D.Disk.moment c.args.disk.now).seen) c.args.self.now.epochs.epoch → ⊥) c.into_body.ensures c.take_in_epoch.ensures.unfit

pub returns-in_err-take_poll-in-Poll-clause-unfit : goal.returns-in_err-take_poll-in-Poll-clause-unfit
returns-in_err-take_poll-in-Poll-clause-unfit g c so can = memory_fit c.from_residual.result c.from_residual.ensures.1 so

pub returns-in_err-take_refuse-in-Refuse-clause-unfit : goal.returns-in_err-take_refuse-in-Refuse-clause-unfit
returns-in_err-take_refuse-in-Refuse-clause-unfit g c = fault_at (CanTakeIn c.args.self.now.frame.config c.args.self.now.frame.me (groups_of c.args.self.now.packs) c.args.self.now.packs.site c.args.packet.from c.args.packet.body (view_of c.args.self.now (g.D.Disk.moment c.args.disk.now).seen) c.args.self.now.epochs.epoch) c.from_residual-in_err-take_refuse-in-Refuse.result (fault_of_epoch c.in_err-take_refuse-in-Refuse.field-0.0) c.from_residual-in_err-take_refuse-in-Refuse.ensures.1 (λ so can. epoch_fit c.in_err-take_refuse-in-Refuse.field-0.0 so)

pub returns-in_err-take_install-in-Install-clause-unfit : goal.returns-in_err-take_install-in-Install-clause-unfit
returns-in_err-take_install-in-Install-clause-unfit g c so can = memory_fit c.from_residual-in_err-take_install-in-Install.result c.from_residual-in_err-take_install-in-Install.ensures.1 so
