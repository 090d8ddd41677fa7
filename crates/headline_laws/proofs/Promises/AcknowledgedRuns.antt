-- What holds of acknowledged versions and of refusals in the run of a schedule.
use Rattle.std.proofs.Common.{arith, length, suc, ◌<◌, ◌≤◌, ◌≡◌, ℕ, ◌+◌, ◌==◌, Bool, true, false, cond, List, [], ◌∷◌, ◌++◌, Some, sym, ◌∙◌, subst}
use Rattle.std.specs.List.{find}
use Rattle.locus_ids.specs.declared.config.Config.{Config}
use Rattle.locus_ids.specs.declared.ids.CallId.{CallId}
use Rattle.locus_ids.specs.declared.ids.Stamp.{Stamp}
use Rattle.tree_model.specs.Folds.{Trace}
use Rattle.lawful_trace.specs.CallRows.{is_this}
use Rattle.tree_model.specs.Calls.{waiting}
use Rattle.tree_model.specs.declared.accepted.Waiting.{Waiting}
use Rattle.locus_ids.specs.declared.sites.Sites.{Sites}
use Rattle.trace_book.specs.declared.record.Record.{Record}
use Rattle.trace_book.specs.declared.record.Record.TheVariants as says
use Rattle.role_steps.specs.Views.{Told, Shown}
use Rattle.the_run.specs.Worlds.{Line}
use Rattle.tree_model.specs.Histories.{format_version, format_versions, history, history_after}
use Rattle.tree_laws.specs.Printed.{entries, onto_entries}
use Rattle.schedule_lines.specs.Cluster.{config_of}
use Rattle.schedule_lines.specs.Schedule.{AreInOrder}
use Rattle.schedule_lines.specs.declared.line.ScheduleLine.{ScheduleLine}
use Rattle.the_run.specs.Runs.{run}
use Rattle.row_laws.specs.Shown.{trace_of}
use Rattle.site_laws.specs.Packs.CounterNumbers.{commits_in, commits_recorded, commits_told}
use Rattle.site_laws.proofs.Packs.CounterText.{run_few}
use Rattle.site_laws.specs.Vectors.Written.{past_of}
use Rattle.rest_laws.proofs.Shown.{shown_entries}
use Rattle.headline_laws.specs.Promises.Acknowledged.{NewOnceAcknowledged, OnlyChangedRefuses, TellsStamp}
use Rattle.headline_laws.specs.Promises.Acknowledging.{acknowledges}
use Rattle.headline_laws.specs.Promises.Holding.{CommitsStayHeld}
use Rattle.headline_laws.proofs.Promises.Answered.{IsShort}
use Rattle.headline_laws.proofs.Promises.RunsHold.{commits_stay, few_groups, schedule_followed}
use Rattle.headline_laws.proofs.Promises.Acknowledged.{IsTold, new_once, only_left, told_after}

-- a history is the commits told, after the format's versions
history_length : (c : Config) (t : List Line) → length (history c (entries t)) ≡ commits_in (past_of t) + length (format_versions 0 c.packs)
history_length c [] = plain (length (format_versions 0 c.packs))
  where
    plain : (b : ℕ) → b ≡ 0 + b
    plain b = omega arith
history_length c (x ∷ older) = by_told x.told (history_length c older)
  where
    still : (a b : ℕ) → a + b ≡ 0 + a + b
    still a b = omega arith

    by_record : (r : Record) → length (history c (entries older)) ≡ commits_in (past_of older) + length (format_versions 0 c.packs) → length (history_after r (history c (entries older))) ≡ commits_recorded r + commits_in (past_of older) + length (format_versions 0 c.packs)
    by_record (says.Commit f s stamp parents content) k = more (length (history c (entries older))) (commits_in (past_of older)) (length (format_versions 0 c.packs)) k
      where
        more : (n a b : ℕ) → n ≡ a + b → suc n ≡ 1 + a + b
        more n a b e = omega (arith, e)
    by_record _ k = k ∙ still (commits_in (past_of older)) (length (format_versions 0 c.packs))

    by_told : (y : Told) → length (history c (entries older)) ≡ commits_in (past_of older) + length (format_versions 0 c.packs) → length (history c (onto_entries x.number y (entries older))) ≡ commits_told y + commits_in (past_of older) + length (format_versions 0 c.packs)
    by_told (Shown r) k = by_record r k
    by_told _ k = k ∙ still (commits_in (past_of older)) (length (format_versions 0 c.packs))

formats_few : (k : ℕ) (packs : List Sites) → length (format_versions k packs) ≤ length packs
formats_few k [] = omega arith
formats_few k (p ∷ ps) = by_test (p.0 == 0) (formats_few (k + 1) ps)
  where
    by_test : (b : Bool) → length (format_versions (k + 1) ps) ≤ length ps → length (cond b (format_versions (k + 1) ps) (format_version k ∷ format_versions (k + 1) ps)) ≤ suc (length ps)
    by_test true l = omega (arith, l)
    by_test false l = omega (arith, l)

pub schedule_short : (lines : List ScheduleLine) → IsShort (config_of lines) (entries (run lines).trace)
schedule_short lines = under (length (history (config_of lines) (entries (run lines).trace))) (commits_in (past_of (run lines).trace)) (length (format_versions 0 (config_of lines).packs)) (length (config_of lines).packs) (history_length (config_of lines) (run lines).trace) (run_few (config_of lines) lines) (formats_few 0 (config_of lines).packs) (few_groups lines)
  where
    under : (n a b k : ℕ) → n ≡ a + b → a ≤ 134217728 → b ≤ k → k ≤ 4 → n < 4294967295
    under n a b k e l m o = omega (arith, e, l, m, o)

pub acknowledged_new : (lines : List ScheduleLine) → AreInOrder lines → NewOnceAcknowledged (config_of lines) (trace_of (run lines))
acknowledged_new lines order = subst (NewOnceAcknowledged (config_of lines)) (sym (shown_entries (run lines).trace))
    (new_once (config_of lines) (run lines).trace (schedule_followed lines order) (schedule_short lines) (subst (CommitsStayHeld (config_of lines)) (shown_entries (run lines).trace) (commits_stay lines order)))

pub changed_alone : (lines : List ScheduleLine) → AreInOrder lines → OnlyChangedRefuses (config_of lines) (trace_of (run lines))
changed_alone lines order = subst (OnlyChangedRefuses (config_of lines)) (sym (shown_entries (run lines).trace)) (only_left (config_of lines) (run lines).trace (schedule_followed lines order) (schedule_short lines))

pub told_version : (lines : List ScheduleLine) → AreInOrder lines → (front before : Trace) (site process : ℕ) (d : CallId) (caller : Waiting) (stamp : Stamp) → trace_of (run lines) ≡ front ++ before → find (is_this site process d) (waiting before) ≡ Some caller → acknowledges caller.words ≡ true
    → TellsStamp (config_of lines) before caller stamp → IsTold (config_of lines) before caller stamp
told_version lines order front before site process d caller stamp split = told_after (config_of lines) (run lines).trace (schedule_followed lines order) (schedule_short lines) front before site process d caller stamp (sym (shown_entries (run lines).trace) ∙ split)
