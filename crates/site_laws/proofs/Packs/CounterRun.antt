-- The numbers of versions, and how many calls were accepted, in every run.
use Rattle.std.proofs.Common.{◌≤◌, List}
use Rattle.locus_ids.specs.declared.config.Config.{Config}
use Rattle.schedule_lines.specs.declared.line.ScheduleLine.{ScheduleLine}
use Rattle.the_run.specs.Runs.{run_in}
use Rattle.site_laws.specs.Vectors.Written.{past_of}
use Rattle.site_laws.proofs.Vectors.FactsRun.{run_numbered}
use Rattle.site_laws.proofs.Packs.InstanceAgree.{run_agrees}
use Rattle.site_laws.specs.Packs.CounterNumbers.{NumbersAreLow, calls_in}
use Rattle.site_laws.proofs.Packs.CounterCounting.{all_low}
use Rattle.site_laws.proofs.Packs.CounterText.{run_calls_few, run_few}

pub run_numbers_low : (c : Config) (lines : List ScheduleLine) → NumbersAreLow (past_of (run_in c lines).trace)
run_numbers_low c lines = all_low (past_of (run_in c lines).trace) (run_numbered c lines (run_agrees c lines)) (run_few c lines)

pub run_calls_low : (c : Config) (lines : List ScheduleLine) → calls_in (past_of (run_in c lines).trace) ≤ 134217728
run_calls_low c lines = run_calls_few c lines
