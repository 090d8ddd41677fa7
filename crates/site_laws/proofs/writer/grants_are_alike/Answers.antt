use Rattle.site_laws.proofs.Packs.WriterGranting.{run_alike}
use Rattle.site_laws.proofs.writer.grants_are_alike.Goals as goal

pub returns : goal.returns
returns c = λ config lines. run_alike config lines
