use Rattle.rest_laws.proofs.Fits.Slots.{version_slot}
use Rattle.rest_laws.proofs.Fits.Tables.{past_of_run}
use Rattle.the_run.specs.Runs.{run_in}
use Rattle.tree_laws.specs.Printed.{entries}
use Rattle.text_laws.proofs.VersionTexts.Commits.{commits_fit}
use Rattle.text_laws.proofs.version_text_laws.commits_have_texts.Goals as goal

pub returns : goal.returns
returns g c lines fit packs few = commits_fit c (entries (run_in c lines).trace) (λ f stamp stands. (version_slot c (run_in c lines).trace (past_of_run c lines fit packs few) f stamp stands))
