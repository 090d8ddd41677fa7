-- A file is flagged exactly when two versions kept there are concurrent.
use Rattle.std.proofs.Common.{◌≡◌, true, List, [], ◌∷◌, reverse}
use Rattle.locus_ids.specs.declared.config.Config.{Config}
use Rattle.schedule_lines.specs.declared.line.ScheduleLine.{ScheduleLine}
use Rattle.schedule_lines.specs.Cluster.{config_of}
use Rattle.tree_model.specs.Folds.{Trace}
use Rattle.schedule_lines.specs.Schedule.{AreInOrder}
use Rattle.the_run.specs.Runs.{run}
use Rattle.row_laws.specs.Shown.{trace_of}
use Rattle.promises.specs.Past.{nothing_yet}
use Rattle.promises.specs.Headline.{flags_rightly}
use Rattle.promises.specs.Traces.{each}
use Rattle.past_laws.specs.Agreement.{past}
use Rattle.past_laws.specs.Along.{EachComesSo, IsNamed}
use Rattle.past_laws.proofs.Agreeing.{all_agrees, may_follow_all}
use Rattle.past_laws.proofs.Flags.{flags_so}
use Rattle.headline_laws.proofs.HeadlinePromises.Comes.{run_comes_so, run_is_named}
use Rattle.headline_laws.proofs.HeadlinePromises.Moments.{OfEach, each_of}

flagged : (c : Config) → IsNamed c → (trace : Trace) → EachComesSo c trace → OfEach (λ r before. flags_rightly (past c before) r.what ≡ true) trace
flagged c named [] k = tt
flagged c named (r ∷ before) k = (flags_so c before (past c before) r.what (all_agrees c named before k.1) (may_follow_all c named r before k), flagged c named before k.1)

pub run_flags_rightly : (lines : List ScheduleLine) → AreInOrder lines → each flags_rightly (config_of lines) (nothing_yet (config_of lines)) (reverse (trace_of (run lines))) ≡ true
run_flags_rightly lines order = each_of flags_rightly (config_of lines) (trace_of (run lines)) (flagged (config_of lines) (run_is_named lines order) (trace_of (run lines)) (run_comes_so lines order))
