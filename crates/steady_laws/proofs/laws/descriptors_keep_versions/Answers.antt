use Rattle.steady_laws.proofs.Keeping.{kept_is}
use Rattle.steady_laws.proofs.laws.descriptors_keep_versions.Goals as goal

pub returns : goal.returns
returns c = record { kept = λ trace site process fd. kept_is trace site process fd }
