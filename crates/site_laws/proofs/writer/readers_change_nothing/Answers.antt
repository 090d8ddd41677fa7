use Rattle.site_laws.proofs.Packs.WriterAsksRun.{run_readers}
use Rattle.site_laws.proofs.writer.readers_change_nothing.Goals as goal

pub returns : goal.returns
returns c = λ config lines. run_readers config lines
