-- How the sites stand in a world of the run, by its trace: who is up, in which boot and epoch, and whom a site reaches.
use Rattle.std.proofs.Common.{◌≡◌, ℕ, true, List, Some, ◌∙◌, ap}
use Rattle.locus_ids.specs.declared.config.Config.{Config}
use Rattle.schedule_lines.specs.declared.line.ScheduleLine.{ScheduleLine}
use Rattle.role_steps.specs.Views.{SiteView}
use Rattle.tree_model.specs.Epochs.{is_up, epoch_of}
use Rattle.tree_model.specs.Epochs as told
use Rattle.the_run.specs.Steps.{epoch_id}
use Rattle.the_run.specs.Worlds.{Running, place_at}
use Rattle.the_run.specs.Runs.{run_in}
use Rattle.run_laws.proofs.Run.{run_good}
use Rattle.row_laws.specs.Shown.{trace_of}
use Rattle.row_laws.proofs.AskedRun.{run_courses}
use Rattle.row_laws.proofs.Causes.{epoch_standing}

-- ---- one site ----

pub running_up : (c : Config) (lines : List ScheduleLine) (s : ℕ) (v : SiteView) → place_at (run_in c lines) s ≡ Some (Running v) → is_up c (trace_of (run_in c lines)) s ≡ true
running_up c lines s v here = ((run_courses c lines).course.places s (Running v) here).0

pub running_boot : (c : Config) (lines : List ScheduleLine) (s : ℕ) (v : SiteView) → place_at (run_in c lines) s ≡ Some (Running v) → told.boot_of (trace_of (run_in c lines)) s ≡ v.boot
running_boot c lines s v here = ((run_courses c lines).course.places s (Running v) here).1

pub running_epoch : (c : Config) (lines : List ScheduleLine) (s : ℕ) (v : SiteView) → place_at (run_in c lines) s ≡ Some (Running v) → epoch_of (trace_of (run_in c lines)) s ≡ epoch_id v.epoch
running_epoch c lines s v here = epoch_standing c s (run_in c lines).trace (running_up c lines s v here) ∙ ap (λ (x : _). x.epoch) ((run_good c lines).stands s v here)
