use Rattle.text_laws.proofs.FewKept.Few.{run_keeps_few}
use Rattle.text_laws.proofs.few_kept_laws.epochs_keep_few.Goals as goal

pub returns : goal.returns
returns c = λ config lines. run_keeps_few config lines
