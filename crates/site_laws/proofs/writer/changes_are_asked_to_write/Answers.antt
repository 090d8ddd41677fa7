use Rattle.site_laws.proofs.Packs.WriterAsksRun.{run_changes}
use Rattle.site_laws.proofs.writer.changes_are_asked_to_write.Goals as goal

pub returns : goal.returns
returns c = λ config lines. run_changes config lines
