-- In every run what a commit or a close is answered with is new from its reply on.
use Rattle.std.proofs.Common.{◌≡◌, ℕ, true, List, [], ◌∷◌, ◌++◌, map, reverse, Some, None, refl, sym, ◌∙◌, ap, subst, inl, inr, append_assoc}
use Rattle.std.specs.Prelude.{fold}
use Rattle.std.specs.List.{find, list_all, AllByRecursion}
use Rattle.locus_ids.specs.declared.config.Config.{Config}
use Rattle.locus_ids.specs.declared.ids.CallId.{CallId}
use Rattle.locus_ids.specs.declared.ids.EpochId.{EpochId}
use Rattle.locus_ids.specs.declared.ids.FileId.{FileId}
use Rattle.locus_ids.specs.declared.ids.Stamp.{Stamp}
use Rattle.commit_graph.specs.Versions.{same_file, is_in}
use Rattle.schedule_lines.specs.Cluster.{config_of}
use Rattle.schedule_lines.specs.Schedule.{AreInOrder}
use Rattle.schedule_lines.specs.declared.line.ScheduleLine.{ScheduleLine}
use Rattle.trace_book.specs.declared.call.Call.{Call}
use Rattle.trace_book.specs.declared.call.Call.TheVariants as call
use Rattle.trace_book.specs.declared.descriptor.Beginning.{Beginning}
use Rattle.trace_book.specs.declared.descriptor.Beginning.TheVariants as begins
use Rattle.trace_book.specs.declared.entry.Entry.{Entry}
use Rattle.trace_book.specs.declared.record.Record.{Record}
use Rattle.trace_book.specs.declared.record.Record.TheVariants as says
use Rattle.trace_book.specs.declared.reply.Reply.{Reply}
use Rattle.trace_book.specs.declared.reply.Reply.TheVariants as reply
use Rattle.call_rules.specs.declared.want.Want.TheVariants as want
use Rattle.tree_model.specs.Folds.{Trace}
use Rattle.tree_model.specs.Histories.{history}
use Rattle.lawful_trace.specs.Lawful.{MayCome}
use Rattle.lawful_trace.specs.Progress.{now_wants}
use Rattle.the_run.specs.Runs.{run}
use Rattle.row_laws.specs.Shown.{trace_of}
use Rattle.promises.specs.Past.{CallSoFar, Copy, nothing_yet, is_on}
use Rattle.promises.specs.After.{is_id}
use Rattle.promises.specs.Headline.{stamps_in, files_of, acknowledged_by, keeps_acknowledged}
use Rattle.headline_laws.specs.Promises.Acknowledged.{TellsStamp}
use Rattle.headline_laws.specs.Promises.Acknowledging.{acknowledges}
use Rattle.headline_laws.specs.Promises.Holding.{AtEachMoment, CommitsAreHeld}
use Rattle.headline_laws.proofs.Promises.Acknowledged.{IsTold}
use Rattle.headline_laws.proofs.Promises.AcknowledgedRuns.{told_version}
use Rattle.headline_laws.proofs.Promises.RunsHold.{commits_stay}
use Rattle.past_laws.specs.Agreement.{Agrees, SaysGiven, past, waiting_as}
use Rattle.past_laws.specs.Along.{EachComesSo}
use Rattle.past_laws.specs.Standing.{CallStands}
use Rattle.past_laws.proofs.Names.{some_same, both, file_eq, epoch_own, serial_own}
use Rattle.past_laws.proofs.Agreeing.{all_agrees}
use Rattle.past_laws.proofs.Alls.{all_joined, all_weaker}
use Rattle.past_laws.proofs.CallsLists.{each_more, each_of, each_found}
use Rattle.past_laws.proofs.CallsFields.{IsAnswered, answered_one}
use Rattle.past_laws.proofs.CallsAsks.{begun_as}
use Rattle.headline_laws.proofs.HeadlinePromises.Comes.{run_comes_so, run_is_named}
use Rattle.headline_laws.proofs.HeadlinePromises.GrantedOn.{granted_on, grant_told}
use Rattle.headline_laws.proofs.HeadlinePromises.Acknowledged.{acks, all_folded, each_so, EachNew, keeps_reversed, is_there, there_more, there_new, files_are}

-- ---- parts of a trace ----

later_so : (c : Config) (front t : Trace) → EachComesSo c (front ++ t) → EachComesSo c t
later_so c [] t k = k
later_so c (r ∷ front) t k = later_so c front t k.1

later_moment : (P : Trace → Type 0) (front t : Trace) → AtEachMoment P (front ++ t) → P t
later_moment P [] [] k = k
later_moment P [] (r ∷ t) k = k.0
later_moment P (r ∷ front) t k = later_moment P front t k.1

-- a trace of a run up to one of its moments
record IsMoment (lines : List ScheduleLine) (t : Trace) : Type 0 where
  order : AreInOrder lines
  front : Trace
  split : trace_of (run lines) ≡ front ++ t

moment_so : (lines : List ScheduleLine) (t : Trace) → IsMoment lines t → EachComesSo (config_of lines) t
moment_so lines t m = later_so (config_of lines) m.front t (subst (EachComesSo (config_of lines)) m.split (run_comes_so lines m.order))

moment_agrees : (lines : List ScheduleLine) (t : Trace) → IsMoment lines t → Agrees (config_of lines) t (past (config_of lines) t)
moment_agrees lines t m = all_agrees (config_of lines) (run_is_named lines m.order) t (moment_so lines t m)

moment_held : (lines : List ScheduleLine) (t : Trace) → IsMoment lines t → CommitsAreHeld (config_of lines) t
moment_held lines t m = later_moment (CommitsAreHeld (config_of lines)) m.front t (subst (AtEachMoment (CommitsAreHeld (config_of lines))) m.split (commits_stay lines m.order))

moment_before : (lines : List ScheduleLine) (r : Entry) (before : Trace) → IsMoment lines (r ∷ before) → IsMoment lines before
moment_before lines r before m = record { order = m.order; front = m.front ++ r ∷ []; split = m.split ∙ sym (append_assoc m.front (r ∷ []) before) }

-- ---- one stamp ----

stamp_there : (lines : List ScheduleLine) (before : Trace) (site process : ℕ) (id : CallId) (s : Stamp) → IsMoment lines before → (it : IsAnswered before (past (config_of lines) before) site process id) → acknowledges it.one.words ≡ true → TellsStamp (config_of lines) before (waiting_as it.one) s
    → AllByRecursion (λ (f : FileId). list_all (is_there (config_of lines) before) (map (λ (x : Stamp). record { file = f; stamp = x }) (s ∷ [])) ≡ true) (files_of (past (config_of lines) before) it.one)
stamp_there lines before site process id s m it kind tells = at (told_version lines m.order m.front before site process id (waiting_as it.one) s m.split it.caller kind tells)
  where
    at : IsTold (config_of lines) before (waiting_as it.one) s → AllByRecursion (λ (f : FileId). list_all (is_there (config_of lines) before) (map (λ (x : Stamp). record { file = f; stamp = x }) (s ∷ [])) ≡ true) (files_of (past (config_of lines) before) it.one)
    at told = each_more (λ (f : FileId). same_file f told.file ≡ true) (λ (f : FileId). list_all (is_there (config_of lines) before) (map (λ (x : Stamp). record { file = f; stamp = x }) (s ∷ [])) ≡ true) one (files_of (past (config_of lines) before) it.one)
        (each_so (λ (f : FileId). same_file f told.file) (files_of (past (config_of lines) before) it.one) (files_are (config_of lines) before (past (config_of lines) before) so agrees it.one told.on.named_in told.on.instance told.file begins_are on))
      where
        so : EachComesSo (config_of lines) before
        so = moment_so lines before m

        agrees : Agrees (config_of lines) before (past (config_of lines) before)
        agrees = moment_agrees lines before m

        own : find (is_id it.one.id) (past (config_of lines) before).calls ≡ Some it.one
        own = ap (λ (d : CallId). find (is_id d) (past (config_of lines) before).calls) it.id_is ∙ it.found

        begins_are : it.one.begins ≡ begins.Uses told.on.named_in told.on.instance
        begins_are = some_same it.one.begins (begins.Uses told.on.named_in told.on.instance) (sym (begun_as (config_of lines) before (past (config_of lines) before) agrees it.one own) ∙ told.on.begins)

        stands : CallStands before it.one
        stands = (each_found (CallStands before) (is_id it.one.id) (past (config_of lines) before).calls it.one own agrees.calls.stand).0

        made_in : told.on.epoch ≡ told.on.named_in
        made_in = some_same told.on.epoch told.on.named_in (sym told.on.made_in ∙ stands.within told.on.named_in told.on.instance (ap (λ (b : Beginning). is_on b told.on.named_in told.on.instance) begins_are ∙ both _ _ (epoch_own told.on.named_in) (serial_own told.on.instance)))

        on : granted_on before told.on.named_in told.on.instance ≡ Some told.file
        on = ap (λ (e : EpochId). granted_on before e told.on.instance) (sym made_in) ∙ grant_told (config_of lines) before so told.on.granted.line told.on.epoch told.on.granted.call told.on.granted.request told.on.instance told.on.granted.mode told.file told.on.granted.stamp told.on.granted.ss told.on.granted.there

        one : (f : FileId) → same_file f told.file ≡ true → list_all (is_there (config_of lines) before) (map (λ (x : Stamp). record { file = f; stamp = x }) (s ∷ [])) ≡ true
        one f h = both _ true (ap (λ (g : FileId). is_in (history (config_of lines) before) g s) (file_eq f told.file h) ∙ told.stands) refl

-- ---- a reply ----

stamps_there : (lines : List ScheduleLine) (before : Trace) (site process : ℕ) (id : CallId) → IsMoment lines before → (it : IsAnswered before (past (config_of lines) before) site process id) → (words : Call) (r : Reply) → it.one.words ≡ words → now_wants (config_of lines) before (waiting_as it.one) ≡ want.Give r
    → AllByRecursion (λ (f : FileId). list_all (is_there (config_of lines) before) (map (λ (x : Stamp). record { file = f; stamp = x }) (stamps_in words r)) ≡ true) (files_of (past (config_of lines) before) it.one)
stamps_there lines before site process id m it (call.Commit fd) (reply.Committed s) e w = stamp_there lines before site process id s m it (ap acknowledges e) (inl w)
stamps_there lines before site process id m it (call.Close fd) (reply.Closed (Some s)) e w = stamp_there lines before site process id s m it (ap acknowledges e) (inr w)
stamps_there lines before site process id m it (call.Close fd) (reply.Closed None) e w = each_of _ (λ f. refl) (files_of (past (config_of lines) before) it.one)
stamps_there lines before site process id m it _ _ e w = each_of _ (λ f. refl) (files_of (past (config_of lines) before) it.one)

reply_there : (lines : List ScheduleLine) (before : Trace) (site process : ℕ) (id : CallId) (r : Reply) → IsMoment lines before → MayCome (config_of lines) before (says.Answer site process id r) → SaysGiven (config_of lines) before (says.Answer site process id r)
    → list_all (is_there (config_of lines) before) (acknowledged_by (past (config_of lines) before) (says.Answer site process id r)) ≡ true
reply_there lines before site process id r m may given = at (answered_one (config_of lines) before (past (config_of lines) before) site process id r may (moment_agrees lines before m))
  where
    at : IsAnswered before (past (config_of lines) before) site process id → list_all (is_there (config_of lines) before) (acknowledged_by (past (config_of lines) before) (says.Answer site process id r)) ≡ true
    at it = ap (λ (ks : List CallSoFar). list_all (is_there (config_of lines) before) (fold (λ (old : List Copy) (k : CallSoFar). fold (λ (more : List Copy) (f : FileId). map (λ (s : Stamp). record { file = f; stamp = s }) (stamps_in k.words r) ++ more) old (files_of (past (config_of lines) before) k)) [] ks)) it.only
        ∙ all_folded (is_there (config_of lines) before) (λ (f : FileId). map (λ (s : Stamp). record { file = f; stamp = s }) (stamps_in it.one.words r)) (files_of (past (config_of lines) before) it.one) [] refl
        (stamps_there lines before site process id m it it.one.words r refl (given (waiting_as it.one) it.caller))

record_there : (lines : List ScheduleLine) (w : Record) (before : Trace) → IsMoment lines before → MayCome (config_of lines) before w → SaysGiven (config_of lines) before w → list_all (is_there (config_of lines) before) (acknowledged_by (past (config_of lines) before) w) ≡ true
record_there lines (says.Answer site process id r) before m may given = reply_there lines before site process id r m may given
record_there lines _ before m may given = refl

-- ---- at each moment ----

all_there : (lines : List ScheduleLine) (t : Trace) → IsMoment lines t → EachComesSo (config_of lines) t → list_all (is_there (config_of lines) t) (acks (config_of lines) t) ≡ true
all_there lines [] m k = refl
all_there lines (r ∷ before) m k = all_weaker (is_there (config_of lines) before) (is_there (config_of lines) (r ∷ before)) (there_more (config_of lines) r.line r.what before) (acks (config_of lines) (r ∷ before))
    (all_joined (is_there (config_of lines) before) (acknowledged_by (past (config_of lines) before) r.what) (acks (config_of lines) before) (record_there lines r.what before (moment_before lines r before m) k.0.row k.0.given) (all_there lines before (moment_before lines r before m) k.1))

each_new : (lines : List ScheduleLine) (t : Trace) → IsMoment lines t → EachNew (config_of lines) t
each_new lines [] m = tt
each_new lines (r ∷ before) m = (
  all_weaker (is_there (config_of lines) (r ∷ before)) _ (there_new (config_of lines) (r ∷ before) (past (config_of lines) (r ∷ before)) (moment_so lines (r ∷ before) m) (moment_agrees lines (r ∷ before) m) (moment_held lines (r ∷ before) m)) (acks (config_of lines) (r ∷ before)) (all_there lines (r ∷ before) m (moment_so lines (r ∷ before) m)),
  each_new lines before (moment_before lines r before m),
)

pub run_acknowledged : (lines : List ScheduleLine) → AreInOrder lines → keeps_acknowledged (config_of lines) (nothing_yet (config_of lines)) [] (reverse (trace_of (run lines))) ≡ true
run_acknowledged lines order = keeps_reversed (config_of lines) (trace_of (run lines)) (each_new lines (trace_of (run lines)) (record { order = order; front = []; split = refl }))
