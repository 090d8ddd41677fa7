use Rattle.rest_laws.proofs.Fits.Tables.{run_tables}
use Rattle.rest_laws.proofs.fit_laws.tables_are_of_inodes.Goals as goal

pub returns : goal.returns
returns c = λ config lines fit packs few s v here. run_tables config lines fit packs few s v here
