use Rattle.store_instances.proofs.Fits.{memory_fit, refused_read}
use Rattle.store_instances.proofs.instance.StoreInstance.abort_op.Goals as goal

pub returns-in_err-read-clause-fit : goal.returns-in_err-read-clause-fit
returns-in_err-read-clause-fit g c = refused_read c.in_err-read.field-0.0 c.from_residual.result c.from_residual.ensures.1

pub returns-in_err-abort-clause-fit : goal.returns-in_err-abort-clause-fit
returns-in_err-abort-clause-fit g c = memory_fit c.from_residual-in_err-abort.result c.from_residual-in_err-abort.ensures.1

pub returns-in_err-act-clause-fit : goal.returns-in_err-act-clause-fit
returns-in_err-act-clause-fit g c = memory_fit c.from_residual-in_err-act.result c.from_residual-in_err-act.ensures.1
