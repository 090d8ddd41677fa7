use Rattle.site_laws.proofs.Packs.WriterPlacesRun.{run_sites}
use Rattle.site_laws.proofs.writer.grants_name_their_site.Goals as goal

pub returns : goal.returns
returns c = λ config lines. run_sites config lines
