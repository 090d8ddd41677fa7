use Rattle.std.proofs.Common.{List, ℕ}
use Rattle.std.proofs.Common.{◌≡◌, sym, ap, subst, ◌∙◌}
use Rattle.locus_ids.specs.declared.ids.Stamp.{Stamp}
use Rattle.role_steps.specs.Storage.{copy_made, next_stamp}
use Rattle.role_steps.specs.Views.{Frame}
use Rattle.store_instances.specs.Fitting.{CanStore}
use Rattle.store_instances.proofs.Fits.{memory_fit, unfit_at}
use Rattle.site_packs.specs.Packs.{groups_of}
use Rattle.site_packs.specs.Copies.{copies_on}
use Rattle.role_steps.specs.declared.copies.FileCopy.{FileCopy}
use Rattle.store_instances.proofs.instance.StoreInstance.commit.Goals as goal

pub returns-clause-step : goal.returns-clause-step
returns-clause-step g c =
    let image : List ℕ = (g.D.Disk.moment c.args.disk.now).seen in
    let named : c.next_stamp-stamp.result ≡ next_stamp c.args.frame.now c.args.vector.now = c.next_stamp-stamp.ensures ∙ ap (λ (f : Frame). next_stamp f c.args.vector.now) c.frame.view_is in
    c.in_ok-step.ensures image (copy_made c.args.self.now c.args.vector.now (next_stamp c.args.frame.now c.args.vector.now)) c.requires.shown (sym named)

pub returns-in_err-parents-clause-unfit : goal.returns-in_err-parents-clause-unfit
returns-in_err-parents-clause-unfit g c so can = memory_fit c.from_residual.result c.from_residual.ensures.1 so

pub returns-in_err-step-clause-unfit : goal.returns-in_err-step-clause-unfit
returns-in_err-step-clause-unfit g c so can = memory_fit c.from_residual-in_err-step.result c.from_residual-in_err-step.ensures.1 so

pub returns-in_err-tell_commit-clause-unfit : goal.returns-in_err-tell_commit-clause-unfit
returns-in_err-tell_commit-clause-unfit g c so can = memory_fit c.from_residual-in_err-tell_commit.result c.from_residual-in_err-tell_commit.ensures.1 so

pub returns-in_err-write-clause-unfit : goal.returns-in_err-write-clause-unfit
returns-in_err-write-clause-unfit g c =
    let groups : List ℕ = groups_of c.args.packs.now in
    let copies : List FileCopy = copies_on groups (g.D.Disk.moment c.args.disk.now).seen in
    let named : c.next_stamp-stamp.result ≡ next_stamp c.args.frame.now c.args.vector.now = c.next_stamp-stamp.ensures ∙ ap (λ (f : Frame). next_stamp f c.args.vector.now) c.frame.view_is in
    unfit_at {S = Unit {0}} (CanStore groups copies c.args.self.now c.args.vector.now (next_stamp c.args.frame.now c.args.vector.now)) c.from_residual-in_err-write.result c.in_err-write.field-0.0 c.from_residual-in_err-write.ensures.1
    (λ so can. c.in_err-write.ensures.unfit so (subst (λ (s : Stamp). CanStore groups copies c.args.self.now c.args.vector.now s) (sym named) can))
