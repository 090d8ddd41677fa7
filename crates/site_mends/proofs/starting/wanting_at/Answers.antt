use Rattle.std.proofs.Common.{Bool}
use Rattle.site_tables.specs.Inodes.{AreInodes}
use Rattle.site_mends.proofs.Fits.{unfit_at}
use Rattle.site_mends.proofs.starting.wanting_at.Goals as goal

pub returns-in_err-wants_mend-clause-unfit : goal.returns-in_err-wants_mend-clause-unfit
returns-in_err-wants_mend-clause-unfit g c = unfit_at {S = Bool} (AreInodes c.args.table.now) c.from_residual.result c.in_err-wants_mend.field-0.0 c.from_residual.ensures.1 c.in_err-wants_mend.ensures.unfit
