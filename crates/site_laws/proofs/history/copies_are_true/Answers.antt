use Rattle.site_laws.proofs.Vectors.HistorySited.{run_true_copies}
use Rattle.site_laws.proofs.history.copies_are_true.Goals as goal

pub returns : goal.returns
returns c = λ config lines agree once. run_true_copies config lines agree once
