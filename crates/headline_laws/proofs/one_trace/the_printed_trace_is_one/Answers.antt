use Rattle.headline_laws.proofs.Promises.OneTrace.{trace_is_one}
use Rattle.headline_laws.proofs.one_trace.the_printed_trace_is_one.Goals as goal

pub returns : goal.returns
returns c = λ w. trace_is_one w
