use Rattle.site_laws.proofs.Packs.WriterWriters.{run_commits}
use Rattle.site_laws.proofs.writer.commits_are_granted_here.Goals as goal

pub returns : goal.returns
returns c = λ config lines. run_commits config lines
