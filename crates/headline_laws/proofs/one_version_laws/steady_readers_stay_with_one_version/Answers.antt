use Rattle.headline_laws.proofs.OneVersion.Law.{run_reads, trace_reads}
use Rattle.headline_laws.proofs.one_version_laws.steady_readers_stay_with_one_version.Goals as goal

pub returns : goal.returns
returns c = record { told = λ config trace past given. trace_reads config trace past given; runs = λ lines order. run_reads lines order }
