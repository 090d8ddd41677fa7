use Rattle.std.proofs.Common.{◌∙◌, ap, sym}
use Rattle.site_frame.specs.of_role_steps.Mends.{has_mend_in}
use Rattle.site_mends.proofs.Mends.{mend_starts}
use Rattle.std.proofs.Common.{Option}
use Rattle.locus_ids.specs.declared.ids.FileId.{FileId}
use Rattle.site_tables.specs.Inodes.{AreInodes}
use Rattle.site_mends.proofs.Fits.{memory_fit, unfit_at}
use Rattle.site_mends.proofs.starting.start_mend.Goals as goal

pub returns-in_ok-start_mend-in-Some-clause-gives :
    goal.returns-in_ok-start_mend-in-Some-clause-gives
returns-in_ok-start_mend-in-Some-clause-gives g c = λ v h. mend_starts c.args.frame.now c.args.table.now v c.args.users.now c.start_mend.new.self c.in-Some.file c.args.out.now c.start_mend.new.out h.users (sym c.if-not-started.ensures) (ap (λ x. has_mend_in c.args.users.now x) (sym c.group.ensures) ∙ sym c.if-has_mend_in.ensures) (sym c.in-Some.is ∙ c.in_ok-first_wanting.ensures.found v h) c.in_ok-start_mend-in-Some.ensures

pub returns-in_err-first_wanting-clause-unfit : goal.returns-in_err-first_wanting-clause-unfit
returns-in_err-first_wanting-clause-unfit g c = unfit_at {S = Option FileId} (AreInodes c.args.table.now) c.from_residual.result c.in_err-first_wanting.field-0.0 c.from_residual.ensures.1 c.in_err-first_wanting.ensures.unfit

pub returns-in_err-start_mend-in-Some-clause-unfit : goal.returns-in_err-start_mend-in-Some-clause-unfit
returns-in_err-start_mend-in-Some-clause-unfit g c so can = memory_fit c.from_residual-in_err-start_mend-in-Some.result c.from_residual-in_err-start_mend-in-Some.ensures.1 so
