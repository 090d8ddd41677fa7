-- The trace of every run: an audit that reads its records of their texts knows all that they tell.
use Rattle.std.proofs.Common.{◌≡◌, List, [], ◌∷◌}
use Rattle.std.specs.Prelude.{map, reverse}
use Rattle.locus_ids.specs.declared.config.Config.{Config}
use Rattle.schedule_lines.specs.Cluster.{config_of}
use Rattle.schedule_lines.specs.Schedule.{AreInOrder}
use Rattle.schedule_lines.specs.declared.line.ScheduleLine.{ScheduleLine}
use Rattle.tree_model.specs.Folds.{Trace, last_line}
use Rattle.the_run.specs.Runs.{run}
use Rattle.row_laws.specs.Rows.{IsPlaced}
use Rattle.row_laws.specs.Shown.{EachRecord, trace_of}
use Rattle.row_laws.proofs.AskedRun.{run_placed}
use Rattle.past_laws.specs.Agreement.{past}
use Rattle.past_laws.specs.Along.{EachComesSo, IsNamed}
use Rattle.headline_laws.specs.Prompting.Due.{IsDueRow, RepliesComeNext}
use Rattle.headline_laws.proofs.Prompting.RunDue.{replies_next}
use Rattle.headline_laws.proofs.HeadlinePromises.Comes.{run_comes_so, run_is_named}
use Rattle.audit_rules.specs.Consistent.{Sound}
use Rattle.audit_laws.specs.Reading.{EachInTurn, LinesRise, audited_all, entry_as_read}
use Rattle.audit_laws.proofs.Known.{all_known}
use Rattle.audit_laws.proofs.Turns.Turns.{in_turn}

lines_rise : (lines : List ScheduleLine) (trace : Trace) → EachRecord (IsPlaced lines) trace → LinesRise trace
lines_rise lines [] h = tt
lines_rise lines (r ∷ before) h = (h.0.ascending, lines_rise lines before h.1)

turns_come : (c : Config) → IsNamed c → (trace : Trace) → EachComesSo c trace → EachRecord (IsDueRow c) trace → EachInTurn c trace
turns_come c named [] comes due = tt
turns_come c named (r ∷ before) comes due = (in_turn c named r before comes due.0, turns_come c named before comes.1 due.1)

run_in_turn : (lines : List ScheduleLine) → AreInOrder lines → EachInTurn (config_of lines) (trace_of (run lines))
run_in_turn lines order =
    let next : RepliesComeNext (config_of lines) (trace_of (run lines)) = replies_next lines order in
    turns_come (config_of lines) (run_is_named lines order) (trace_of (run lines)) (run_comes_so lines order) next.each

pub run_known : (lines : List ScheduleLine) → AreInOrder lines
    → audited_all (config_of lines) (map entry_as_read (reverse (trace_of (run lines)))) ≡ Sound (last_line (trace_of (run lines))) (past (config_of lines) (trace_of (run lines)))
run_known lines order = all_known (config_of lines) (run_is_named lines order) (trace_of (run lines)) (run_comes_so lines order) (lines_rise lines (trace_of (run lines)) (run_placed (config_of lines) lines)) (run_in_turn lines order)
