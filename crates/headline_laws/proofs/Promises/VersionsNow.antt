-- What holds of versions after each record.
use Rattle.std.proofs.Common.{◌≡◌, true, not, List, [], ◌∷◌, sym, subst}
use Rattle.locus_ids.specs.declared.config.Config.{Config}
use Rattle.locus_ids.specs.declared.ids.EpochId.{EpochId}
use Rattle.locus_ids.specs.declared.ids.FileId.{FileId}
use Rattle.locus_ids.specs.declared.ids.Stamp.{Stamp}
use Rattle.commit_graph.specs.Versions.{is_ancestor, is_covered, is_in}
use Rattle.schedule_lines.specs.Cluster.{config_of}
use Rattle.schedule_lines.specs.Schedule.{AreInOrder}
use Rattle.schedule_lines.specs.declared.line.ScheduleLine.{ScheduleLine}
use Rattle.role_steps.specs.Views.{Told, Shown}
use Rattle.the_run.specs.Runs.{run}
use Rattle.the_run.specs.Worlds.{Line}
use Rattle.tree_model.specs.Histories.{history}
use Rattle.tree_model.specs.State.{has_stamp}
use Rattle.tree_model.specs.Tree.{candidates, kept_in}
use Rattle.row_laws.specs.Shown.{trace_of}
use Rattle.tree_laws.specs.Following.{IsFollowed, RowsAreLawful}
use Rattle.tree_laws.specs.Printed.{entries, onto_entries}
use Rattle.tree_laws.proofs.Rows.{followed_rows}
use Rattle.calm_laws.specs.of_store_laws.Holdings.Below.{LawsBelow}
use Rattle.calm_laws.specs.of_store_laws.Holdings.Held.{IsBelowKept}
use Rattle.calm_laws.specs.of_store_laws.Holdings.Order.{AncestorsAreAnOrder}
use Rattle.calm_laws.proofs.of_store_laws.Holdings.Ancestors.{ancestors_ordered}
use Rattle.calm_laws.proofs.of_store_laws.Holdings.Below.{commits_new, laws_before}
use Rattle.calm_laws.proofs.of_store_laws.Holdings.Holding.{below_kept}
use Rattle.calm_laws.proofs.of_store_laws.Holdings.Made.{rows_made}
use Rattle.calm_laws.proofs.of_store_laws.Holdings.Rising.{known_stands}
use Rattle.calm_laws.proofs.of_store_laws.OneTree.Staying.{rest_below}
use Rattle.rest_laws.proofs.MendStepLists.{has_filtered}
use Rattle.rest_laws.proofs.Shown.{shown_entries}
use Rattle.headline_laws.specs.Promises.Moments.{IsUnderKept, VersionsHold, VersionsHoldThroughout}
use Rattle.headline_laws.proofs.Promises.HoldingOn.{commits_held}
use Rattle.headline_laws.proofs.Promises.RunsHold.{schedule_followed, schedule_rests}
use Rattle.headline_laws.proofs.Promises.VectorsNow.{ToldSo, run_told, told_before, vectors_now}

now_hold : (c : Config) (trace : List Line) → IsFollowed c trace → LawsBelow c trace → ToldSo trace → VersionsHold c (entries trace)
now_hold c trace h laws told = record {
  ordered = record { through = order.through; apart = order.one };
  vectors = vectors_now c trace told laws.once;
  kept = λ e f known stamp brought above. under e f known stamp above (below_kept c (entries trace) rows (commits_new c trace h laws.once) e f known brought);
  held = commits_held c trace h laws;
}
  where
    rows : RowsAreLawful c (entries trace)
    rows = followed_rows c trace h

    order : AncestorsAreAnOrder (history c (entries trace))
    order = ancestors_ordered (history c (entries trace)) (rows_made c (entries trace) rows (commits_new c trace h laws.once))

    stands : (e : EpochId) (f : FileId) (top : Stamp) → has_stamp (kept_in c (entries trace) e f) top ≡ true → is_in (history c (entries trace)) f top ≡ true
    stands e f top k = known_stands c (entries trace) rows e f top (has_filtered (λ a. not (is_covered (history c (entries trace)) f (candidates c (entries trace) e f) a)) (candidates c (entries trace) e f) top k)

    under : (e : EpochId) (f : FileId) (known stamp : Stamp) → is_ancestor (history c (entries trace)) f stamp known ≡ true → IsBelowKept c (entries trace) e f known → IsUnderKept c (entries trace) e f stamp
    under e f known stamp above k = record { top = k.top; is_kept = k.is_kept; above = order.through f stamp known k.top (stands e f k.top k.is_kept) above k.above }

all_hold : (c : Config) (trace : List Line) → IsFollowed c trace → LawsBelow c trace → ToldSo trace → VersionsHoldThroughout c (entries trace)
all_hold c [] h laws told = now_hold c [] h laws told
all_hold c (x ∷ older) h laws told = by_told x.told (now_hold c (x ∷ older) h laws told) (all_hold c older h.1 (laws_before c x older laws) (told_before x older told))
  where
    by_told : (y : Told) → VersionsHold c (onto_entries x.number y (entries older)) → VersionsHoldThroughout c (entries older) → VersionsHoldThroughout c (onto_entries x.number y (entries older))
    by_told (Shown r) now old = (now, old)
    by_told _ now old = old

pub versions_throughout : (lines : List ScheduleLine) → AreInOrder lines → VersionsHoldThroughout (config_of lines) (trace_of (run lines))
versions_throughout lines order = subst (VersionsHoldThroughout (config_of lines)) (sym (shown_entries (run lines).trace))
    (all_hold (config_of lines) (run lines).trace (schedule_followed lines order) (rest_below (config_of lines) (run lines).trace (schedule_rests lines order)) (run_told lines))
