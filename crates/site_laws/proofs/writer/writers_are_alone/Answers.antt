use Rattle.site_laws.proofs.Packs.WriterWriters.{run_alone}
use Rattle.site_laws.proofs.writer.writers_are_alone.Goals as goal

pub returns : goal.returns
returns c = λ config lines. run_alone config lines
