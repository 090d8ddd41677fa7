use Rattle.site_laws.proofs.Packs.Making.{run_made}
use Rattle.site_laws.proofs.pack_laws.files_are_made_at_home.Goals as goal

pub returns : goal.returns
returns c = λ config lines. run_made config lines
