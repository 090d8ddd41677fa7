use Rattle.site_laws.proofs.Vectors.FactsRun.{run_vectors}
use Rattle.site_laws.proofs.Packs.InstanceAgree.{run_agrees}
use Rattle.site_laws.proofs.version.vectors_are_written.Goals as goal

pub returns : goal.returns
returns c = λ config lines. run_vectors config lines (run_agrees config lines)
