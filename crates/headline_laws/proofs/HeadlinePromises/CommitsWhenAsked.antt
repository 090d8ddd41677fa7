-- In every run a version is committed only where a call asks for the commit or the close of its instance, by the past.
use Rattle.std.proofs.Common.{◌≡◌, ℕ, ◌==◌, Bool, true, false, not, ◌&&◌, ◌||◌, List, [], ◌∷◌, filter, reverse, Some, refl, sym, ◌∙◌, ap, subst, inl, inr, ◌⊎◌}
use Rattle.std.specs.List.{find, list_any}
use Rattle.locus_ids.specs.declared.config.Config.{Config}
use Rattle.locus_ids.specs.declared.ids.CallId.{CallId}
use Rattle.locus_ids.specs.declared.ids.EpochId.{EpochId}
use Rattle.locus_ids.specs.declared.ids.FileId.{FileId}
use Rattle.commit_graph.specs.Grants.{is_read}
use Rattle.commit_graph.specs.Versions.{same_file}
use Rattle.schedule_lines.specs.Cluster.{config_of}
use Rattle.schedule_lines.specs.Schedule.{AreInOrder}
use Rattle.schedule_lines.specs.declared.line.ScheduleLine.{ScheduleLine}
use Rattle.trace_book.specs.Same.{same_serial}
use Rattle.trace_book.specs.declared.operation.Op.TheVariants as op
use Rattle.trace_book.specs.declared.entry.Entry.{Entry}
use Rattle.trace_book.specs.declared.record.Record.{Record}
use Rattle.trace_book.specs.declared.record.Record.TheVariants as says
use Rattle.call_rules.specs.declared.want.Want.{Want}
use Rattle.call_rules.specs.declared.want.Want.TheVariants as want
use Rattle.tree_model.specs.declared.instance.Instance.{Instance as TreeInstance}
use Rattle.tree_model.specs.Epochs.{is_in}
use Rattle.tree_model.specs.Folds.{Trace}
use Rattle.tree_model.specs.Histories.{history}
use Rattle.tree_model.specs.Tree.{tree_of}
use Rattle.lawful_trace.specs.Progress.{wants_after, wants_next}
use Rattle.lawful_trace.specs.TreeRows.{IsCallIn, is_writing as writes}
use Rattle.the_run.specs.Runs.{run}
use Rattle.row_laws.specs.Shown.{EachRecord, trace_of}
use Rattle.promises.specs.Past.{CallSoFar, Instance, Past, asks, epoch_at, is_writer, nothing_yet}
use Rattle.promises.specs.After.{is_home_of, is_id}
use Rattle.promises.specs.Beside.{commits_when_asked, is_commit_asked}
use Rattle.promises.specs.Rows.{is_asked, is_writing}
use Rattle.promises.specs.Same.{same_request}
use Rattle.promises.specs.Traces.{each}
use Rattle.headline_laws.specs.Promises.Committing.{CommitsAsAsked, IsAskedFor, IsCommitAsked}
use Rattle.headline_laws.proofs.Promises.CommitsAsked.{commits_asked}
use Rattle.past_laws.specs.Agreement.{Agrees, instance_of, past}
use Rattle.past_laws.specs.Along.{EachComesSo, IsNamed}
use Rattle.past_laws.proofs.Agreeing.{all_agrees}
use Rattle.past_laws.proofs.CallsAsks.{is_request, request_as}
use Rattle.past_laws.proofs.Changing.{any_filtered, found_any, found_passes}
use Rattle.past_laws.proofs.MadeKnown.{filter_finds}
use Rattle.past_laws.proofs.Names.{both, both_parts, number_own, serial_own}
use Rattle.past_laws.proofs.RowsCalls.{StepCall, step_call}
use Rattle.past_laws.proofs.RowsCommit.{IsOne, one_image}
use Rattle.past_laws.proofs.TreesFolds.{group_is}
use Rattle.past_laws.proofs.TreesPages.{tree_is}
use Rattle.past_laws.proofs.TreesWorking.{opened_filter}
use Rattle.headline_laws.proofs.StopPromises.Versions.{home_only}
use Rattle.headline_laws.proofs.HeadlinePromises.Comes.{run_comes_so, run_is_named}
use Rattle.headline_laws.proofs.HeadlinePromises.Moments.{OfEach, each_of}

-- what the call asks by the folds is asked by the past
asked_now : (c : Config) (before : Trace) (p : Past) → Agrees c before p → (e : EpochId) (id : CallId) → IsCallIn before e id → (w : Want) → wants_next c before id ≡ w → is_request w ≡ true → same_request w w ≡ true → is_asked c p (epoch_at p e) (λ k. true) w ≡ true
asked_now c before p a e id step w h r same = over (step_call c before p a e id step)
  where
    over : StepCall p e id → is_asked c p (epoch_at p e) (λ k. true) w ≡ true
    over it = found_any (is_id id) (λ (k : CallSoFar). true && (is_in k.epoch (epoch_at p e).id && same_request (asks c p k) w)) p.calls it.one it.found
        (both (is_in it.one.epoch (epoch_at p e).id) _ it.made_in
        (ap (λ (v : Want). same_request v w) (request_as c before p a it.one it.own it.one.answers w (ap (wants_after c before it.one.id) (a.calls.answers it.one it.own) ∙ (ap (wants_next c before) it.id_is ∙ h)) r) ∙ same))

-- ---- one commit ----

module _ (c : Config) (before : Trace) (p : Past) (f : FileId) (site : ℕ) (a : Agrees c before p) (k : CommitsAsAsked c before f site) where
  asked : (x : Instance) → instance_of x ≡ k.instance → is_commit_asked c p (epoch_at p k.epoch) x ≡ true
  asked x is = over (subst (IsCommitAsked c before k.epoch) (ap (λ (y : TreeInstance). y.grant.inst) (sym is)) k.asked)
    where
      first : (u v : Bool) → u ≡ true → (u || v) ≡ true
      first true v h = refl
      first false v h = absurd (cc)

      second : (u v : Bool) → v ≡ true → (u || v) ≡ true
      second true v h = refl
      second false v h = h

      over : IsCommitAsked c before k.epoch x.grant.inst → is_commit_asked c p (epoch_at p k.epoch) x ≡ true
      over it = by_want it.asked
        where
          step : IsCallIn before k.epoch it.call
          step = record { accepted = it.accepted; named = it.named; made_in = it.made_in }

          by_want : (wants_next c before it.call ≡ want.Do x.grant.inst op.Commit) ⊎ (wants_next c before it.call ≡ want.Close x.grant.inst) → is_commit_asked c p (epoch_at p k.epoch) x ≡ true
          by_want (inl e) = second _ _ (asked_now c before p a k.epoch it.call step (want.Do x.grant.inst op.Commit) e refl (both (same_serial x.grant.inst x.grant.inst) true (serial_own x.grant.inst) refl))
          by_want (inr e) = first _ _ (asked_now c before p a k.epoch it.call step (want.Close x.grant.inst) e refl (serial_own x.grant.inst))

  -- the one open instance that may commit the file is the past's
  only : IsOne instance_of (filter (is_writing f) (epoch_at p k.epoch).opened) k.instance
  only = one_image instance_of (filter (is_writing f) (epoch_at p k.epoch).opened) k.instance (sym (opened_filter (history c before) (tree_of c k.epoch f.group before) p (epoch_at p k.epoch) (tree_is c before p a k.epoch f.group) (writes f) here) ∙ k.one)
    where
      here : (x : Instance) → writes f (instance_of x) ≡ true → (x.grant.file.group == (tree_of c k.epoch f.group before).group) ≡ true
      here x h =
          let own = both_parts (same_file x.grant.file f) (not (is_read x.grant.mode)) h in
          ap (λ n. x.grant.file.group == n) (group_is c k.epoch f.group before) ∙ (both_parts (x.grant.file.group == f.group) (x.grant.file.ino == f.ino) own.0).0

  when_asked : list_any (λ u. list_any (is_commit_asked c p u) (filter (is_writer f site) u.opened)) (filter (is_home_of p site) p.epochs) ≡ true
  when_asked = ap (list_any (λ u. list_any (is_commit_asked c p u) (filter (is_writer f site) u.opened))) (home_only c before p a site k.epoch k.inside) ∙ ap (λ (b : Bool). b || false) (over only)
    where
      over : IsOne instance_of (filter (is_writing f) (epoch_at p k.epoch).opened) k.instance → list_any (is_commit_asked c p (epoch_at p k.epoch)) (filter (is_writer f site) (epoch_at p k.epoch).opened) ≡ true
      over it = any_filtered (is_commit_asked c p (epoch_at p k.epoch)) (is_writer f site) (epoch_at p k.epoch).opened
          ∙ found_any (is_writing f) (λ x. is_writer f site x && is_commit_asked c p (epoch_at p k.epoch) x) (epoch_at p k.epoch).opened it.one found (both (is_writer f site it.one) _ writer (asked it.one it.is))
        where
          found : find (is_writing f) (epoch_at p k.epoch).opened ≡ Some it.one
          found = filter_finds (is_writing f) (epoch_at p k.epoch).opened it.one [] it.only

          own : (same_file it.one.grant.file f ≡ true) × (not (is_read it.one.grant.mode) ≡ true)
          own = both_parts (same_file it.one.grant.file f) (not (is_read it.one.grant.mode)) (found_passes (is_writing f) (epoch_at p k.epoch).opened it.one found)

          writer : is_writer f site it.one ≡ true
          writer = both (same_file it.one.grant.file f) _ own.0 (both (it.one.grant.ss == site) _ (ap (λ n. n == site) (ap (λ (y : TreeInstance). y.grant.ss) it.is ∙ k.at) ∙ number_own site) own.1)

record_asked : (c : Config) (before : Trace) (p : Past) (r : Record) → Agrees c before p → IsAskedFor c before r → commits_when_asked c p r ≡ true
record_asked c before p (says.Commit f site stamp parents content) a k = when_asked c before p f site a k
record_asked c before p _ a k = refl

-- ---- every run ----

all_asked : (c : Config) → IsNamed c → (trace : Trace) → EachComesSo c trace → EachRecord (λ before (r : Entry). IsAskedFor c before r.what) trace → OfEach (λ r before. commits_when_asked c (past c before) r.what ≡ true) trace
all_asked c named [] so rows = tt
all_asked c named (r ∷ before) so rows = (record_asked c before (past c before) r.what (all_agrees c named before so.1) rows.0, all_asked c named before so.1 rows.1)

pub run_commits_when_asked : (lines : List ScheduleLine) → AreInOrder lines → each (commits_when_asked (config_of lines)) (config_of lines) (nothing_yet (config_of lines)) (reverse (trace_of (run lines))) ≡ true
run_commits_when_asked lines order = each_of (commits_when_asked (config_of lines)) (config_of lines) (trace_of (run lines)) (all_asked (config_of lines) (run_is_named lines order) (trace_of (run lines)) (run_comes_so lines order) (commits_asked lines order))
