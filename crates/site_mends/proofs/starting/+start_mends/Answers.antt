use Rattle.site_frame.specs.of_role_steps.Epochs.{with_users}
use Rattle.std.specs.Prelude.{Ok}
use Rattle.site_mends.proofs.Mends.{mends_of, read_then, seen_with}
use Rattle.std.specs.List.{AllByRecursion}
use Rattle.site_tables.specs.Inodes.{AreInodes}
use Rattle.site_mends.proofs.Fits.{first_are, rest_are, unfit_at}
use Rattle.site_mends.proofs.starting.+start_mends.Goals as goal

pub returns-clause-gives : goal.returns-clause-gives
returns-clause-gives g t c = λ v h. mends_of c.args.frame.now c.args.tables.now c.table-item.result v c.start_mend.new.users c.start_mends.new.users c.args.out.now c.start_mend.new.out c.start_mends.new.out c.in-len1-up.len_at_least c.table-item.is (c.in_ok-start_mend.ensures.gives v h) (c.in_ok-start_mends.ensures.gives (with_users v c.start_mend.new.users) (seen_with v c.args.packs.now _ _ c.args.users.now c.start_mend.new.users c.in_ok-start_mend.ensures.disk.seen h))

pub returns-clause-disk : goal.returns-clause-disk
returns-clause-disk g t c = read_then g.D.Disk.moment {S = Unit {0}} {T = Unit {0}} c.args.packs.now c.args.disk.now c.start_mend.new.disk c.start_mends.new.disk tt (Ok tt) c.in_ok-start_mend.ensures.disk c.in_ok-start_mends.ensures.disk

pub returns-in_err-start_mend-clause-unfit : goal.returns-in_err-start_mend-clause-unfit
returns-in_err-start_mend-clause-unfit g t c = unfit_at {S = Unit {0}} (AllByRecursion AreInodes c.args.tables.now) c.from_residual.result c.in_err-start_mend.field-0.0 c.from_residual.ensures.1
    (λ so can. c.in_err-start_mend.ensures.unfit so (first_are c.args.tables.now c.table-item.result c.in-len1-up.len_at_least c.table-item.is can))

pub returns-in_err-start_mends-clause-unfit : goal.returns-in_err-start_mends-clause-unfit
returns-in_err-start_mends-clause-unfit g t c = unfit_at {S = Unit {0}} (AllByRecursion AreInodes c.args.tables.now) c.from_residual-in_err-start_mends.result c.in_err-start_mends.field-0.0 c.from_residual-in_err-start_mends.ensures.1
    (λ so can. c.in_err-start_mends.ensures.unfit so (rest_are c.args.tables.now c.in-len1-up.len_at_least can))
