use Rattle.std.proofs.Common.{ap, arith}
use Rattle.std.specs.Prelude.{reverse}
use Rattle.schedule_lines.specs.Cluster.{config_of}
use Rattle.the_run.specs.Runs.{run}
use Rattle.row_laws.specs.Shown.{trace_of}
use Rattle.row_laws.proofs.Fitting.{schedule_fits}
use Rattle.text_laws.proofs.of_rest_laws.Packs.{schedule_packs}
use Rattle.text_laws.proofs.of_rest_laws.StoreStepFirst.{four_groups}
use Rattle.audit_answers.specs.Answers.{is_broken}
use Rattle.audited_runs.proofs.EveryRun.{run_known}
use Rattle.audited_runs.proofs.Texts.{run_texts}
use Rattle.audited_runs.proofs.runs.runs_are_audited_well.Goals as goal

pub returns-clause-sound : goal.returns-clause-sound
returns-clause-sound c = λ lines order. run_known lines order

pub returns-clause-yes : goal.returns-clause-yes
returns-clause-yes c = λ lines order whole few.
    c.sound_traces_are_answered_yes.ensures lines (reverse (trace_of (run lines))) order whole
    (run_texts lines order (c.commits_have_texts.ensures (config_of lines) lines (schedule_fits lines order) (schedule_packs lines order) (omega (arith, four_groups lines))) few) (ap is_broken (run_known lines order))
