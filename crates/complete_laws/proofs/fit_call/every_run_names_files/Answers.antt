use Rattle.the_run.specs.Runs.{run_in}
use Rattle.calm_laws.proofs.of_rest_laws.Fits.Tables.{past_of_run}
use Rattle.calm_laws.proofs.of_rest_laws.Fits.EntryOpen.{instances_name, versions_name}
use Rattle.complete_laws.proofs.fit_call.every_run_names_files.Goals as goal

pub returns : goal.returns
returns c = record {
  versions = λ config lines fit packs few f stamp dir. versions_name config (run_in config lines).trace packs (past_of_run config lines fit packs few).followed f stamp dir;
  instances = λ config lines fit packs few e i x found dir. instances_name config (run_in config lines).trace packs (past_of_run config lines fit packs few).followed e i x found dir;
}
