use Rattle.rest_laws.proofs.Fits.EntryOpen.{inserter_made}
use Rattle.rest_laws.proofs.entry.who_inserts_has_made.Goals as goal

pub returns : goal.returns
returns c = inserter_made
