-- In every run an epoch keeps few versions of a file.
use Rattle.std.proofs.Common.{◌≤◌, List, [], ◌∷◌, length, subst, sym}
use Rattle.locus_ids.specs.declared.config.Config.{Config}
use Rattle.locus_ids.specs.declared.ids.EpochId.{EpochId}
use Rattle.locus_ids.specs.declared.ids.FileId.{FileId}
use Rattle.schedule_lines.specs.declared.line.ScheduleLine.{ScheduleLine}
use Rattle.tree_model.specs.Folds.{Trace}
use Rattle.tree_model.specs.Histories.{history}
use Rattle.tree_model.specs.Tree.{candidates, kept_in}
use Rattle.role_steps.specs.Views.{Told, Shown}
use Rattle.the_run.specs.Runs.{run_in}
use Rattle.the_run.specs.Worlds.{Line}
use Rattle.rest_laws.specs.of_row_laws.Shown.{trace_of}
use Rattle.rest_laws.specs.of_tree_laws.Printed.{entries, onto_entries}
use Rattle.rest_laws.proofs.Shown.{shown_entries}
use Rattle.rest_laws.proofs.of_store_laws.Holdings.Below.{once_before}
use Rattle.rest_laws.proofs.of_store_laws.OneTree.ToldVectorTelling.{printed_entries}
use Rattle.rest_laws.proofs.of_site_laws.Kept.NamesRun.{run_named}
use Rattle.rest_laws.proofs.of_site_laws.Kept.StampLawsRun.{run_stamps}
use Rattle.rest_laws.proofs.of_site_laws.Packs.InstanceAgree.{run_agrees}
use Rattle.rest_laws.proofs.of_site_laws.Vectors.FactsRun.{run_numbered}
use Rattle.rest_laws.proofs.of_site_laws.Vectors.HistorySited.{run_sited}
use Rattle.rest_laws.specs.of_site_laws.Kept.Printed.{printed}
use Rattle.text_laws.specs.NewTexts.Keeping.{KeepsFew}
use Rattle.text_laws.proofs.NewTexts.Kept.{kept_few}
use Rattle.text_laws.proofs.FewKept.Ascending.{known_ascend}
use Rattle.text_laws.proofs.FewKept.Chained.{Versions, candidates_chained, candidates_high}

versions_before : (x : Line) (older : List Line) → Versions (x ∷ older) → Versions older
versions_before x older k = record { numbered = k.numbered.1; sited = k.sited.1; once = once_before x older k.once; names = k.names.1 }

few_now : (c : Config) (t : List Line) → Versions t → (e : EpochId) (f : FileId) → length (kept_in c (entries t) e f) ≤ 17
few_now c t k e f =
    subst (λ (u : Trace). length (kept_in c u e f) ≤ 17) (printed_entries t)
    (kept_few (history c (printed t)) f (candidates c (printed t) e f) (known_ascend c e f.group f.ino (printed t)) (candidates_chained c t e f k) (candidates_high c t e f k))

keeps_few : (c : Config) (t : List Line) → Versions t → KeepsFew 17 c (entries t)
keeps_few c [] k = tt
keeps_few c (x ∷ older) k = over x.told (keeps_few c older (versions_before x older k))
  where
    over : (y : Told) → KeepsFew 17 c (entries older) → KeepsFew 17 c (onto_entries x.number y (entries older))
    over (Shown r) rest = (few_now c older (versions_before x older k), rest)
    over _ rest = rest

pub run_keeps_few : (c : Config) (lines : List ScheduleLine) → KeepsFew 17 c (trace_of (run_in c lines))
run_keeps_few c lines =
    let t : List Line = (run_in c lines).trace in
    subst (KeepsFew 17 c) (sym (shown_entries t)) (keeps_few c t (record { numbered = run_numbered c lines (run_agrees c lines); sited = (run_sited c lines).commits; once = run_stamps c lines; names = run_named c lines }))
