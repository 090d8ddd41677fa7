-- In every run each record speaks of what is.
use Rattle.std.proofs.Common.{◌≤◌, ℕ, List, [], ◌∷◌, length, sym, subst, arith}
use Rattle.locus_ids.specs.declared.config.Config.{Config}
use Rattle.schedule_lines.specs.Cluster.{config_of}
use Rattle.schedule_lines.specs.Schedule.{AreInOrder}
use Rattle.schedule_lines.specs.declared.line.ScheduleLine.{ScheduleLine}
use Rattle.role_steps.specs.Views.{Shown, Told}
use Rattle.the_run.specs.Runs.{run}
use Rattle.the_run.specs.Worlds.{Line}
use Rattle.tree_model.specs.Folds.{Trace}
use Rattle.tree_laws.specs.Following.{RowsAreLawful}
use Rattle.tree_laws.specs.Printed.{entries}
use Rattle.row_laws.specs.Rows.{IsAskedFor}
use Rattle.row_laws.specs.Shown.{EachRecord, trace_of}
use Rattle.row_laws.proofs.AskedRun.{run_asked}
use Rattle.row_laws.proofs.Fitting.{schedule_fits}
use Rattle.calm_laws.specs.of_store_laws.OneTree.Rest.{more}
use Rattle.rest_laws.proofs.Packs.{schedule_packs}
use Rattle.rest_laws.proofs.Run.{schedule_rows}
use Rattle.rest_laws.proofs.Shown.{shown_entries}
use Rattle.rest_laws.proofs.StoreStepFirst.{four_groups}
use Rattle.trace_book.specs.declared.entry.Entry.{Entry}
use Rattle.headline_laws.specs.Prompting.Speaks.{SpeaksOfWhatIs}
use Rattle.headline_laws.proofs.Prompting.BaseRun.{BaseRecord, BaseTold, run_base}
use Rattle.headline_laws.proofs.Prompting.Run.{EachLine}
use Rattle.headline_laws.proofs.Prompting.RowsSpeak.{Rows, rows_speak}

abbrev IsBase : Config → Trace → Entry → Type 0
IsBase c before r = BaseRecord c before r.what

base_told : (c : Config) (n : ℕ) (t : List Line) (x : Told) → BaseTold c n t x → EachRecord (IsBase c) (entries t) → EachRecord (IsBase c) (entries (more n x t))
base_told c n t (Shown r) fact k = (fact, k)
base_told c n t _ fact k = k

each_base : (c : Config) (t : List Line) → EachLine (BaseTold c) t → EachRecord (IsBase c) (entries t)
each_base c [] k = tt
each_base c (x ∷ older) k = base_told c x.number older x.told k.0 (each_base c older k.1)

all_rows : (c : Config) (lines : List ScheduleLine) (t : Trace) → RowsAreLawful c t → EachRecord (IsBase c) t → EachRecord (IsAskedFor lines) t → Rows c lines t
all_rows c lines [] a b d = tt
all_rows c lines (r ∷ before) a b d = (record { may = a.0; base = b.0; asked = d.0 }, all_rows c lines before a.1 b.1 d.1)

pub records_speak : (lines : List ScheduleLine) → AreInOrder lines → EachRecord (SpeaksOfWhatIs (config_of lines)) (trace_of (run lines))
records_speak lines order =
    let c : Config = config_of lines in
    let few : length c.packs ≤ 4 = omega (arith, four_groups lines) in
    let asked : EachRecord (IsAskedFor lines) (entries (run lines).trace) = subst (EachRecord (IsAskedFor lines)) (shown_entries (run lines).trace) (run_asked c lines) in
    subst (EachRecord (SpeaksOfWhatIs c)) (sym (shown_entries (run lines).trace))
    (rows_speak c lines (entries (run lines).trace) (schedule_fits lines order) (all_rows c lines (entries (run lines).trace) (schedule_rows lines order) (each_base c (run lines).trace (run_base c lines (schedule_fits lines order) (schedule_packs lines order) few)) asked)).0
