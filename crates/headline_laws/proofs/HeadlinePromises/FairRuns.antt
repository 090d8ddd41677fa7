-- A call that is refused, for another cause than that its epoch has changed, changes no named file.
use Rattle.std.proofs.Common.{ℕ, ◌≤◌, arith, ◌≡◌, Bool, true, false, ◌&&◌, ◌||◌, cond, List, [], ◌∷◌, filter, length, reverse, Option, Some, None, refl, sym, ap, ◌∙◌}
use Rattle.std.specs.List.{find, list_all, list_any}
use Rattle.std.specs.Option.{option_map}
use Rattle.locus_ids.specs.declared.config.Config.{Config}
use Rattle.locus_ids.specs.declared.config.Mount.{Mount}
use Rattle.locus_ids.specs.declared.ids.CallId.{CallId}
use Rattle.locus_ids.specs.declared.ids.EpochId.{EpochId}
use Rattle.locus_ids.specs.declared.ids.Serial.{Serial}
use Rattle.locus_ids.specs.declared.ids.Stamp.{Stamp}
use Rattle.locus_ids.specs.declared.refusal.Refusal.TheVariants.{Spent}
use Rattle.trace_book.specs.Same.{same_call}
use Rattle.trace_book.specs.declared.call.Call.{Call}
use Rattle.trace_book.specs.declared.call.Call.TheVariants as call
use Rattle.trace_book.specs.declared.descriptor.Beginning.{Beginning}
use Rattle.trace_book.specs.declared.descriptor.Beginning.TheVariants as begins
use Rattle.trace_book.specs.declared.descriptor.Descriptor.{Descriptor}
use Rattle.trace_book.specs.declared.reply.Reply.{Reply}
use Rattle.trace_book.specs.declared.reply.Reply.TheVariants as reply
use Rattle.locus_ids.specs.declared.refusal.Refusal.{Refusal}
use Rattle.locus_ids.specs.declared.refusal.Refusal.TheVariants as refusal
use Rattle.trace_book.specs.declared.record.Record.{Record}
use Rattle.trace_book.specs.declared.record.Record.TheVariants as says
use Rattle.call_rules.specs.declared.answer.Answer.{Answer}
use Rattle.call_rules.specs.declared.answer.Answer.TheVariants as answer
use Rattle.call_rules.specs.declared.want.Want.{Want}
use Rattle.call_rules.specs.declared.want.Want.TheVariants as want
use Rattle.call_rules.specs.Descriptors.{beginning, begins_open, begins_walk, lowest_free}
use Rattle.call_rules.specs.Words.{is_badly_named}
use Rattle.tree_model.specs.Calls.{accepted_as, call_after, call_named}
use Rattle.tree_model.specs.Epochs.{epoch_of}
use Rattle.tree_model.specs.declared.accepted.Waiting.{Waiting}
use Rattle.tree_model.specs.Folds.{Trace}
use Rattle.tree_model.specs.declared.instance.Instance.{Instance as TreeInstance}
use Rattle.lawful_trace.specs.Lawful.{MayCome}
use Rattle.lawful_trace.specs.Progress.{closed, close_answer as close_by}
use Rattle.lawful_trace.specs.Tables.{begins_now, begun, begun_after, descriptor}
use Rattle.promises.specs.Past.{CallSoFar, Past, asks, asks_after}
use Rattle.promises.specs.After.{is_id}
use Rattle.promises.specs.Beside.{changes_nothing_named, refusals_change_nothing}
use Rattle.promises.specs.Rows.{gives, is_due, is_home, is_scripted, may_follow, waits_at}
use Rattle.headline_laws.specs.Promises.Granting.{CommitsAreNotRefused, IsNotRefused}
use Rattle.past_laws.specs.Agreement.{Agrees, past, waiting_as}
use Rattle.past_laws.specs.Along.{EachComesSo, IsNamed}
use Rattle.past_laws.proofs.Agreeing.{all_agrees, may_follow_all}
use Rattle.past_laws.proofs.BackSame.{reply_back}
use Rattle.past_laws.proofs.CallsAsks.{asks_by, named_as}
use Rattle.past_laws.proofs.Changing.{any_filtered, found_passes}
use Rattle.past_laws.proofs.Finding.{all_of_one}
use Rattle.past_laws.proofs.Names.{both_parts, call_eq, false_true, none_some, some_same}
use Rattle.headline_laws.specs.HeadlinePromises.Fair.{is_fair, none_won}
use Rattle.headline_laws.proofs.HeadlinePromises.FairAnswers.{AllFair, script_of}
use Rattle.headline_laws.proofs.HeadlinePromises.Moments.{OfEach, each_of}
use Rattle.headline_laws.proofs.HeadlinePromises.Refusals.{UsesPlainly, refused_bounds, stalls}
use Rattle.headline_laws.proofs.HeadlinePromises.FairSteps.{ReleaseFits, fair_step}
use Rattle.headline_laws.proofs.HeadlinePromises.FairInstances.{AllHold, all_hold, release_fits}
use Rattle.headline_laws.proofs.HeadlinePromises.Comes.{run_comes_so, run_is_named}
use Rattle.headline_laws.proofs.Promises.CommitsGranted.{never_refused}
use Rattle.promises.specs.Past.{nothing_yet}
use Rattle.promises.specs.Traces.{each}
use Rattle.schedule_lines.specs.Cluster.{config_of}
use Rattle.schedule_lines.specs.Schedule.{AreInOrder}
use Rattle.schedule_lines.specs.declared.line.ScheduleLine.{ScheduleLine}
use Rattle.the_run.specs.Runs.{run}
use Rattle.row_laws.specs.Shown.{trace_of}

walks_use : (id : CallId) (now : Option EpochId) (e : EpochId) (i : Serial) → begins_walk now id ≡ begins.Uses e i → ⊥
walks_use id None e i k = cc
walks_use id (Some at) e i k = cc

opens_use : (id : CallId) (now : Option EpochId) (free : Option ℕ) (e : EpochId) (i : Serial) → begins_open now id free ≡ begins.Uses e i → ⊥
opens_use id now None e i k = cc
opens_use id now (Some fd) e i k = walks_use id now e i k

found_alone : {X : Type 0} (q : X → Bool) (xs : List X) (x : X) → filter q xs ≡ x ∷ [] → find q xs ≡ Some x
found_alone {X} q [] x h = absurd (cc)
found_alone {X} q (y ∷ ys) x h = over (q y) (λ k. found_alone q ys x k) h
  where
    over : (b : Bool) → (filter q ys ≡ x ∷ [] → find q ys ≡ Some x) → cond b (y ∷ filter q ys) (filter q ys) ≡ x ∷ [] → cond b (Some y) (find q ys) ≡ Some x
    over true later k = ap (λ (zs : List X). find (λ z. true) zs) k
    over false later k = later k

-- a close that ends owes nothing
owes_none : (stamp made : Option Stamp) (y : TreeInstance) → closed stamp y ≡ answer.Ended made → y.work.owes ≡ false
owes_none stamp made y h = over y.work.owes refl h
  where
    over : (b : Bool) → y.work.owes ≡ b → cond b (answer.Refused Spent) (answer.Ended (cond y.work.fresh stamp None)) ≡ answer.Ended made → b ≡ false
    over true e k = absurd (cc)
    over false e k = refl

fits_so : (c : Config) (before : Trace) (p : Past) (w : Record) → MayCome c before w → Agrees c before p → AllHold c before p.calls p.epochs → IsNotRefused c before w → ReleaseFits c before p w
fits_so c before p (says.Release e i f stamp) may a all ended = release_fits c before p e i f stamp may a all (λ y found. owes_none stamp ended.0 y (sym (ap (close_by stamp) found) ∙ ended.1))
fits_so c before p _ may a all ended = tt

-- ---- calls that use descriptors ----

use_plain : (mounts : List Mount) (table : ℕ → Option Descriptor) (now : Option EpochId) (id : CallId) (words : Call) (e : EpochId) (i : Serial) → beginning table now id words ≡ begins.Uses e i → is_badly_named mounts words ≡ false
use_plain mounts table now id (call.Create path sites) e i h = absurd (walks_use id now e i h)
use_plain mounts table now id (call.MakeDir path) e i h = absurd (walks_use id now e i h)
use_plain mounts table now id (call.Unlink path) e i h = absurd (walks_use id now e i h)
use_plain mounts table now id (call.RemoveDir path) e i h = absurd (walks_use id now e i h)
use_plain mounts table now id (call.Rename path name) e i h = absurd (walks_use id now e i h)
use_plain mounts table now id (call.List path) e i h = absurd (walks_use id now e i h)
use_plain mounts table now id (call.Stat path) e i h = absurd (walks_use id now e i h)
use_plain mounts table now id (call.Mail path bytes) e i h = absurd (walks_use id now e i h)
use_plain mounts table now id (call.Mails path) e i h = absurd (walks_use id now e i h)
use_plain mounts table now id (call.Mend file) e i h = absurd (walks_use id now e i h)
use_plain mounts table now id (call.Open path m) e i h = absurd (opens_use id now (lowest_free table) e i h)
use_plain mounts table now id _ e i h = refl

-- as calls begin
uses_plain : (mounts : List Mount) (id : CallId) (w : Waiting) (e : EpochId) (i : Serial) (trace : Trace) → call_named trace id ≡ Some w → begun trace id ≡ Some (begins.Uses e i) → is_badly_named mounts w.words ≡ false
uses_plain mounts id w e i [] h k = none_some w h
uses_plain mounts id w e i (r ∷ before) h k = at r.what (uses_plain mounts id w e i before) h k
  where
    at : (y : Record) → (call_named before id ≡ Some w → begun before id ≡ Some (begins.Uses e i) → is_badly_named mounts w.words ≡ false) → call_after y before id (call_named before id) ≡ Some w → begun_after y before id (begun before id) ≡ Some (begins.Uses e i) → is_badly_named mounts w.words ≡ false
    at (says.Accept s process new words) earlier = over (same_call new id)
      where
        over : (b : Bool) → cond b (Some (accepted_as before s process new words)) (call_named before id) ≡ Some w → cond b (Some (begins_now before s process new words)) (begun before id) ≡ Some (begins.Uses e i) → is_badly_named mounts w.words ≡ false
        over true h k = ap (λ (x : Waiting). is_badly_named mounts x.words) (sym (some_same (accepted_as before s process new words) w h)) ∙ use_plain mounts (descriptor before s process) (epoch_of before s) _ words e i (some_same (begins_now before s process new words) (begins.Uses e i) k)
        over false h k = earlier h k
    at _ earlier = earlier

plainly : (c : Config) (before : Trace) (p : Past) → Agrees c before p → (k : CallSoFar) → find (is_id k.id) p.calls ≡ Some k → UsesPlainly c k
plainly c before p a k found e i h = uses_plain c.mounts k.id (waiting_as k) e i before (named_as c before p a k found) (sym (a.calls.begun k.id) ∙ (ap (option_map (λ (x : CallSoFar). x.begins)) found ∙ ap some h))
  where
    some : Beginning → Option Beginning
    some b = Some b

-- ---- refused calls ----

refused_one : (c : Config) (before : Trace) (p : Past) → Agrees c before p → AllFair c before p → (k : CallSoFar) → find (is_id k.id) p.calls ≡ Some k → stalls (asks c p k) ≡ true → changes_nothing_named k ≡ true
refused_one c before p a fair k found = refused_bounds c p k (λ walks. ap (λ (s : List Answer → Want). is_fair none_won s k.answers) scripts ∙ fair k found walks) (plainly c before p a k found)
  where
    scripts : asks_after c p k ≡ script_of c before k
    scripts = λ j xs. (asks_by c before p a k xs) j

-- the only one of a list
alone : {X : Type 0} (q : X → Bool) (xs : List X) → length xs ≤ 1 → list_any q xs ≡ true → (x : X) × ((xs ≡ x ∷ []) × (q x ≡ true))
alone q [] few h = false_true h
alone q (x ∷ []) few h = (x, (refl, first_of (q x) h))
  where
    first_of : (b : Bool) → (b || false) ≡ true → b ≡ true
    first_of true h = refl
    first_of false h = h
alone q (x ∷ y ∷ xs) few h = absurd (omega (arith, few))

given_stalls : (w : Want) (why : Refusal) → gives w (reply.No why) ≡ true → stalls w ≡ true
given_stalls (want.Give r) why h = ap (λ (x : Reply). stalls (want.Give x)) (reply_back r (reply.No why) h)
given_stalls (want.Look f w) why h = false_true h
given_stalls (want.Open f m) why h = false_true h
given_stalls (want.OpenToMend f) why h = false_true h
given_stalls (want.Make group k sites) why h = false_true h
given_stalls (want.Do i o) why h = false_true h
given_stalls (want.Close i) why h = false_true h
given_stalls want.Never why h = false_true h

-- those of the name change nothing, where the script of the call that is answered refuses
named_change : (c : Config) (before : Trace) (p : Past) → Agrees c before p → AllFair c before p → (site process : ℕ) (id : CallId) (why : Refusal) → list_any (λ (k : CallSoFar). is_id id k && (waits_at site process k && (is_scripted c p k (reply.No why) || false))) p.calls ≡ true → list_all changes_nothing_named (filter (is_id id) p.calls) ≡ true
named_change c before p a fair site process id why h = at (alone (λ (k : CallSoFar). waits_at site process k && (is_scripted c p k (reply.No why) || false)) (filter (is_id id) p.calls) (a.calls.once id) (any_filtered (λ (k : CallSoFar). waits_at site process k && (is_scripted c p k (reply.No why) || false)) (is_id id) p.calls ∙ h))
  where
    at : (k : CallSoFar) × ((filter (is_id id) p.calls ≡ k ∷ []) × ((waits_at site process k && (is_scripted c p k (reply.No why) || false)) ≡ true)) → list_all changes_nothing_named (filter (is_id id) p.calls) ≡ true
    at (k, (only, answered)) = all_of_one changes_nothing_named (filter (is_id id) p.calls) k only (refused_one c before p a fair k own (given_stalls (asks c p k) why scripted))
      where
        named : find (is_id id) p.calls ≡ Some k
        named = found_alone (is_id id) p.calls k only

        own : find (is_id k.id) p.calls ≡ Some k
        own = ap (λ (d : CallId). find (is_id d) p.calls) (call_eq k.id id (found_passes (is_id id) p.calls k named)) ∙ named

        first_of : (b : Bool) → (b || false) ≡ true → b ≡ true
        first_of true h = refl
        first_of false h = h

        scripted : gives (asks c p k) (reply.No why) ≡ true
        scripted = (both_parts (is_due p.last k) _ (both_parts (is_home p k) _ (first_of (is_scripted c p k (reply.No why)) (both_parts (waits_at site process k) _ answered).1)).1).1

refusal_so : (c : Config) (before : Trace) (p : Past) (w : Record) → Agrees c before p → AllFair c before p → may_follow c p w ≡ true → refusals_change_nothing p w ≡ true
refusal_so c before p (says.Answer site process id (reply.No (refusal.Changed e))) a fair h = refl
refusal_so c before p (says.Answer site process id (reply.No why)) a fair h = named_change c before p a fair site process id why h
refusal_so c before p _ a fair h = refl

-- ---- every run ----

fair_all : (c : Config) → IsNamed c → (trace : Trace) → EachComesSo c trace → CommitsAreNotRefused c trace → AllFair c trace (past c trace)
fair_all c named [] so granted = λ k found. none_some k found
fair_all c named (r ∷ before) so granted = λ k found. fair_step c r.line r.what before (past c before) so.0.row a (fits_so c before (past c before) r.what so.0.row a (all_hold c named before so.1) granted.0) (fair_all c named before so.1 granted.1) k found
  where
    a : Agrees c before (past c before)
    a = all_agrees c named before so.1

refusals : (c : Config) → IsNamed c → (trace : Trace) → EachComesSo c trace → CommitsAreNotRefused c trace → OfEach (λ r before. refusals_change_nothing (past c before) r.what ≡ true) trace
refusals c named [] so granted = tt
refusals c named (r ∷ before) so granted = (refusal_so c before (past c before) r.what (all_agrees c named before so.1) (fair_all c named before so.1 granted.1) (may_follow_all c named r before so), refusals c named before so.1 granted.1)

pub run_refusals : (lines : List ScheduleLine) → AreInOrder lines → each refusals_change_nothing (config_of lines) (nothing_yet (config_of lines)) (reverse (trace_of (run lines))) ≡ true
run_refusals lines order = each_of refusals_change_nothing (config_of lines) (trace_of (run lines)) (refusals (config_of lines) (run_is_named lines order) (trace_of (run lines)) (run_comes_so lines order) (never_refused lines order))
