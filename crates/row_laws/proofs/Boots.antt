-- The boot numbers of sites by the records of a run.
use Rattle.std.proofs.Common.{◌≡◌, ◌≤◌, ◌<◌, ℕ, ◌==◌, Bool, true, false, cond, List, Some, refl, ap, arith}
use Rattle.role_steps.proofs.of_plain_facts.Numbers.{equal, less}
use Rattle.locus_ids.specs.declared.config.Config.{Config}
use Rattle.schedule_lines.specs.declared.line.ScheduleLine.{ScheduleLine}
use Rattle.trace_book.specs.declared.record.Record.{Record}
use Rattle.trace_book.specs.declared.record.Record.TheVariants as says
use Rattle.lawful_trace.specs.of_tree_model.Epochs.{boot_after, boot_of}
use Rattle.lawful_trace.specs.of_tree_model.Folds.{Trace}
use Rattle.site_laws.specs.of_the_run.Laws.{boot_on, boot_number}
use Rattle.site_laws.specs.of_the_run.Runs.{run_in}
use Rattle.site_laws.specs.of_the_run.Worlds.{World, Place, Running, Stopped, place_at}
use Rattle.site_laws.proofs.of_run_laws.Boots.{run_boots_low}
use Rattle.row_laws.specs.Course.{StandsAs}
use Rattle.row_laws.specs.Rows.{SiteRecordRow}
use Rattle.row_laws.specs.Shown.{trace_of}
use Rattle.row_laws.proofs.AskedRun.{run_courses}

-- a record leaves a site's boot number, or gives it a greater one
pub boot_step : (c : Config) (before : Trace) (r : Record) (site : ℕ) → SiteRecordRow c before r → boot_of before site ≤ boot_after r site (boot_of before site)
boot_step c before (says.Up s boot) site row = at (s == site) refl
  where
    above : boot_of before s < boot
    above = less (boot_of before s) boot row.above

    at : (b : Bool) → (s == site) ≡ b → boot_of before site ≤ cond b boot (boot_of before site)
    at true e = let same : boot_of before s ≡ boot_of before site = ap (boot_of before) (equal s site e) in omega (arith, same, above)
    at false e = omega arith
boot_step c before _ site row = omega arith

-- a site that has a place stands by the records as it is
low_there : (c : Config) (w : World) (site : ℕ) (p : Place) → boot_number w site ≤ 134217729 → place_at w site ≡ Some p → StandsAs c (trace_of w) site p → boot_of (trace_of w) site ≤ 134217729
low_there c w site (Running v) low here stands =
    let own : boot_number w site ≡ v.boot = ap boot_on here in
    let is : boot_of (trace_of w) site ≡ v.boot = stands.1 in omega arith
low_there c w site (Stopped d) low here stands =
    let own : boot_number w site ≡ d.label.boot = ap boot_on here in
    let is : boot_of (trace_of w) site ≤ d.label.boot = stands.1 in omega arith

pub run_boots_told : (c : Config) (lines : List ScheduleLine) (site : ℕ) (p : Place) → place_at (run_in c lines) site ≡ Some p → boot_of (trace_of (run_in c lines)) site ≤ 134217729
run_boots_told c lines site p here = low_there c (run_in c lines) site p (run_boots_low c lines site) here ((run_courses c lines).course.places site p here)
