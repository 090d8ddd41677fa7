use Rattle.rest_laws.proofs.Fits.Slots.{version_slot}
use Rattle.rest_laws.proofs.Fits.Tables.{past_of_run}
use Rattle.site_laws.proofs.Kept.NamesRun.{run_named}
use Rattle.the_run.specs.Runs.{run_in}
use Rattle.tree_laws.specs.Printed.{entries}
use Rattle.text_laws.proofs.VersionTexts.Commits.{commits_fit}
use Rattle.text_laws.proofs.VersionTexts.Names.{names_fit}
use Rattle.text_laws.proofs.version_text_laws.named_versions_have_texts.Goals as goal

pub returns : goal.returns
returns g c lines fit packs few = names_fit (run_in c lines).trace (commits_fit c (entries (run_in c lines).trace) (λ f stamp stands. (version_slot c (run_in c lines).trace (past_of_run c lines fit packs few) f stamp stands))) (run_named c lines)
