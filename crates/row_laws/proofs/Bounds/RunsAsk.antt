-- In every run the requests of calls keep within their bounds.
use Rattle.std.proofs.Common.{List}
use Rattle.locus_ids.specs.declared.config.Config.{Config}
use Rattle.schedule_lines.specs.declared.line.ScheduleLine.{ScheduleLine}
use Rattle.the_run.specs.Kept.{Kept}
use Rattle.the_run.specs.Worlds.{first_world}
use Rattle.the_run.specs.Runs.{run_in}
use Rattle.the_run.proofs.Runs.{every_run}
use Rattle.row_laws.specs.Bounds.Asking.{RequestsBounded}
use Rattle.row_laws.proofs.Bounds.EachView.{KeepsViews, views_kept, views_first}
use Rattle.row_laws.proofs.Bounds.SitesAsk.{ViewBounded, step_bounded}

bounded_views : (c : Config) → KeepsViews c ViewBounded
bounded_views c = record { steps = step_bounded c; booted = λ boot copies. tt }

pub requests_kept : (c : Config) → Kept c RequestsBounded
requests_kept c = views_kept c ViewBounded (bounded_views c)

pub requests_first : (c : Config) → RequestsBounded (first_world c)
requests_first c = views_first c ViewBounded (bounded_views c)

pub requests_bounded : (c : Config) (lines : List ScheduleLine) → RequestsBounded (run_in c lines)
requests_bounded c lines = every_run c RequestsBounded (requests_kept c) (requests_first c) lines
