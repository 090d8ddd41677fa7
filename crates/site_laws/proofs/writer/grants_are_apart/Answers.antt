use Rattle.site_laws.proofs.Packs.WriterGranting.{run_apart}
use Rattle.site_laws.proofs.writer.grants_are_apart.Goals as goal

pub returns : goal.returns
returns c = λ config lines. run_apart config lines
