-- The boot numbers that records say.
use Rattle.std.proofs.Common.{◌≤◌, ℕ, ◌≡◌, List, [], ◌∷◌, Some, arith}
use Rattle.locus_ids.specs.declared.config.Config.{Config}
use Rattle.schedule_lines.specs.declared.line.ScheduleLine.{ScheduleLine}
use Rattle.tree_model.specs.Epochs.{boot_of}
use Rattle.tree_model.specs.Folds.{Trace}
use Rattle.row_laws.specs.Rows.{IsSiteRow}
use Rattle.row_laws.specs.Shown.{EachRecord, trace_of}
use Rattle.row_laws.proofs.Boots.{boot_step, run_boots_told}
use Rattle.row_laws.proofs.SitesGoOn.{run_sites}
use Rattle.the_run.specs.Runs.{run_in}
use Rattle.the_run.specs.Worlds.{Place, place_at}
use Rattle.text_laws.specs.Records.Texts.{BootsAreLow}

rises : (c : Config) (site : ℕ) (trace : Trace) → EachRecord (IsSiteRow c) trace → boot_of trace site ≤ 134217729 → EachRecord (BootsAreLow site) trace
rises c site [] rows low = tt
rises c site (r ∷ before) rows low =
    let step : boot_of before site ≤ boot_of (r ∷ before) site = boot_step c before r.what site rows.0 in
    let earlier : boot_of before site ≤ 134217729 = omega arith in
    (record { before_it = earlier; after_it = low }, rises c site before rows.1 earlier)

pub run_boots : (c : Config) (lines : List ScheduleLine) (site : ℕ) (p : Place) → place_at (run_in c lines) site ≡ Some p → EachRecord (BootsAreLow site) (trace_of (run_in c lines))
run_boots c lines site p here = rises c site (trace_of (run_in c lines)) (run_sites c lines) (run_boots_told c lines site p here)
