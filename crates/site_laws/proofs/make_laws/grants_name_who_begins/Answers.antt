use Rattle.site_laws.proofs.Makes.NamesRun.{run_names}
use Rattle.site_laws.proofs.make_laws.grants_name_who_begins.Goals as goal

pub returns : goal.returns
returns c = run_names
