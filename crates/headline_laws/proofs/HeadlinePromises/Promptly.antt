-- In every run, while a reply is owed at once by the past, only such replies come.
use Rattle.std.proofs.Common.{◌≡◌, ℕ, suc, ◌==◌, Bool, true, false, not, cond, ◌&&◌, ◌||◌, List, [], ◌∷◌, length, filter, map, reverse, Option, Some, None, refl, sym, ◌∙◌, ap, subst, arith, inl, inr}
use Rattle.std.proofs.lemmas.Bool.Decides.{nat_tests}
use Rattle.std.specs.List.{find, list_any, list_all}
use Rattle.std.specs.Option.{is_some}
use Rattle.locus_ids.specs.declared.config.Config.{Config}
use Rattle.locus_ids.specs.declared.ids.CallId.{CallId}
use Rattle.locus_ids.specs.declared.ids.EpochId.{EpochId}
use Rattle.schedule_lines.specs.Cluster.{config_of}
use Rattle.schedule_lines.specs.Schedule.{AreInOrder}
use Rattle.schedule_lines.specs.declared.line.ScheduleLine.{ScheduleLine}
use Rattle.trace_book.specs.Same.{same_call}
use Rattle.trace_book.specs.declared.entry.Entry.{Entry}
use Rattle.trace_book.specs.declared.record.Record.{Record}
use Rattle.trace_book.specs.declared.record.Record.TheVariants as says
use Rattle.call_rules.specs.Scripts.{gives_reply}
use Rattle.call_rules.specs.declared.answer.Answer.{Answer}
use Rattle.call_rules.specs.declared.want.Want.{Want}
use Rattle.tree_model.specs.declared.accepted.Waiting.{Waiting}
use Rattle.tree_model.specs.Calls.{waiting}
use Rattle.tree_model.specs.Epochs.{epoch_of, is_in}
use Rattle.tree_model.specs.Folds.{Trace, last_line}
use Rattle.tree_model.specs.Working.{list_of}
use Rattle.lawful_trace.specs.Progress.{answers, left_epoch, left_since, wants_after, wants_next}
use Rattle.lawful_trace.specs.Prompt.{answers_call, comes_first, due, due_among, is_due, is_reply_due, is_unanswered, lesser}
use Rattle.the_run.specs.Kept.{Among}
use Rattle.the_run.specs.Runs.{run}
use Rattle.row_laws.specs.Shown.{EachRecord, trace_of}
use Rattle.promises.specs.Past.{CallSoFar, Past, asks, nothing_yet, site_at}
use Rattle.promises.specs.After.{is_id}
use Rattle.promises.specs.Beside.{comes_promptly, is_owed_reply}
use Rattle.promises.specs.Rows.{is_home}
use Rattle.promises.specs.Traces.{each}
use Rattle.headline_laws.specs.Prompting.Due.{IsDueRow}
use Rattle.headline_laws.proofs.Prompting.RunDue.{replies_next}
use Rattle.past_laws.specs.Agreement.{Agrees, past, waiting_as}
use Rattle.past_laws.specs.Along.{EachComesSo, IsNamed}
use Rattle.past_laws.proofs.Agreeing.{all_agrees}
use Rattle.past_laws.proofs.CallsAsks.{want_as}
use Rattle.past_laws.proofs.Names.{both, both_parts, call_eq, call_own, false_true, some_same}
use Rattle.headline_laws.proofs.HeadlinePromises.Comes.{run_comes_so, run_is_named}
use Rattle.headline_laws.proofs.HeadlinePromises.Lists.{among_found}
use Rattle.headline_laws.proofs.HeadlinePromises.Moments.{OfEach, each_of}

-- ---- lists ----

-- what passes a test among the images of some passes one among all
any_through : {X Y : Type 0} (f q : X → Bool) (h : X → Y) (g : Y → Bool) (xs : List X) → ((x : X) → Among x xs → f x ≡ (q x && g (h x))) → list_any f xs ≡ list_any g (map h (filter q xs))
any_through f q h g [] same = refl
any_through {X} {Y} f q h g (x ∷ xs) same = over (q x) (same x (inl refl)) (any_through f q h g xs (λ y k. same y (inr k)))
  where
    over : (b : Bool) → f x ≡ (b && g (h x)) → list_any f xs ≡ list_any g (map h (filter q xs)) → (f x || list_any f xs) ≡ list_any g (map h (cond b (x ∷ filter q xs) (filter q xs)))
    over true e later = ap (λ (y : Bool). y || list_any f xs) e ∙ ap (λ (y : Bool). g (h x) || y) later
    over false e later = ap (λ (y : Bool). y || list_any f xs) e ∙ later

-- ---- the call that is answered next ----

none_due : (c : Config) (before : Trace) (ws : List Waiting) → due_among c before ws ≡ None → list_any (is_due c before) ws ≡ false
none_due c before [] e = refl
none_due c before (w ∷ ws) e = over (is_due c before w) e (none_due c before ws)
  where
    over : (b : Bool) → cond b (Some (lesser w (due_among c before ws))) (due_among c before ws) ≡ None → (due_among c before ws ≡ None → list_any (is_due c before) ws ≡ false) → (b || list_any (is_due c before) ws) ≡ false
    over true k later = absurd (cc)
    over false k later = later k

-- the call is this one, and a reply is due to it
abbrev is_due_as : Config → Trace → CallId → Waiting → Bool
is_due_as c before id v = same_call v.call id && is_due c before v

one_due : (c : Config) (before : Trace) (ws : List Waiting) (w : Waiting) → due_among c before ws ≡ Some w → list_any (is_due_as c before w.call) ws ≡ true
one_due c before [] w e = absurd (cc)
one_due c before (v ∷ ws) w e = over (is_due c before v) refl (due_among c before ws) e (one_due c before ws w)
  where
    later_one : (b : Bool) → list_any (is_due_as c before w.call) ws ≡ true → (b || list_any (is_due_as c before w.call) ws) ≡ true
    later_one true h = refl
    later_one false h = h

    first_one : is_due c before v ≡ true → v ≡ w → list_any (is_due_as c before w.call) (v ∷ ws) ≡ true
    first_one d is = ap (λ (b : Bool). b || list_any (is_due_as c before w.call) ws) (both (same_call v.call w.call) (is_due c before v) (subst (λ (x : Waiting). same_call v.call x.call ≡ true) is (call_own v.call)) d)

    chosen : is_due c before v ≡ true → (u : Waiting) (b : Bool) → cond b u v ≡ w → (u ≡ w → list_any (is_due_as c before w.call) ws ≡ true) → list_any (is_due_as c before w.call) (v ∷ ws) ≡ true
    chosen d u true is later = later_one (is_due_as c before w.call v) (later is)
    chosen d u false is later = first_one d is

    over : (b : Bool) → is_due c before v ≡ b → (o : Option Waiting) → cond b (Some (lesser v o)) o ≡ Some w → (o ≡ Some w → list_any (is_due_as c before w.call) ws ≡ true) → list_any (is_due_as c before w.call) (v ∷ ws) ≡ true
    over true d None k later = first_one d (some_same v w k)
    over true d (Some u) k later = chosen d u (comes_first u v) (some_same (cond (comes_first u v) u v) w k) (λ is. later (ap (λ (x : Waiting). Some x) is))
    over false d o k later = later_one (is_due_as c before w.call v) (later k)

-- ---- what is owed by both ----

none_heard : (xs : List Answer) → (length xs == 0) ≡ is_unanswered xs
none_heard [] = refl
none_heard (x ∷ xs) = some_heard (length xs)
  where
    some_heard : (n : ℕ) → (suc n == 0) ≡ false
    some_heard n = grind (arith, nat_tests)

-- a call is at home by the past where its site hasn't left its epoch by the folds
home_same : (c : Config) (before : Trace) (p : Past) → Agrees c before p → (site : ℕ) (o : Option EpochId) → list_all (is_in (site_at p site).epoch) (list_of o) ≡ not (is_some (left_since before site o))
home_same c before p a site None = refl
home_same c before p a site (Some e) = ap (λ (o : Option EpochId). is_in o e && true) (a.sites.epoch site) ∙ over (is_in (epoch_of before site) e)
  where
    over : (b : Bool) → (b && true) ≡ not (is_some (cond b None (Some e)))
    over true = refl
    over false = refl

owed_same : (c : Config) (before : Trace) (p : Past) → Agrees c before p → (k : CallSoFar) → Among k p.calls → is_owed_reply c p k ≡ (k.waits && is_due c before (waiting_as k))
owed_same c before p a k there = over k.waits refl
  where
    found : find (is_id k.id) p.calls ≡ Some k
    found = among_found (is_id k.id) p.calls k there (call_own k.id) (a.calls.once k.id)

    heard : k.answers ≡ answers c before k.id
    heard = a.calls.answers k found

    back : (b : Bool) → not (not b) ≡ b
    back true = refl
    back false = refl

    asked : k.waits ≡ true → asks c p k ≡ wants_next c before k.id
    asked w = want_as c before p a k found w k.answers ∙ ap (wants_after c before k.id) heard

    unanswered : (length k.answers == 0) ≡ is_unanswered (answers c before k.id)
    unanswered = none_heard k.answers ∙ ap is_unanswered heard

    same : k.waits ≡ true → (not (is_home p k) || ((length k.answers == 0) && gives_reply (asks c p k))) ≡ is_due c before (waiting_as k)
    same w = ap (λ (b : Bool). not b || ((length k.answers == 0) && gives_reply (asks c p k))) (home_same c before p a k.id.site k.epoch)
        ∙ (ap (λ (b : Bool). b || ((length k.answers == 0) && gives_reply (asks c p k))) (back (is_some (left_epoch before (waiting_as k))))
        ∙ (ap (λ (b : Bool). is_some (left_epoch before (waiting_as k)) || (b && gives_reply (asks c p k))) unanswered
        ∙ ap (λ (v : Want). is_some (left_epoch before (waiting_as k)) || (is_unanswered (answers c before k.id) && gives_reply v)) (asked w)))

    over : (b : Bool) → k.waits ≡ b → is_owed_reply c p k ≡ (b && is_due c before (waiting_as k))
    over false w = ap (λ (b : Bool). b && (not (is_home p k) || ((length k.answers == 0) && gives_reply (asks c p k)))) w
    over true w = ap (λ (b : Bool). b && (not (is_home p k) || ((length k.answers == 0) && gives_reply (asks c p k)))) w ∙ same w

-- some reply is owed where one is due, and to the same call
any_owed : (c : Config) (before : Trace) (p : Past) → Agrees c before p → list_any (is_owed_reply c p) p.calls ≡ list_any (is_due c before) (waiting before)
any_owed c before p a = any_through (is_owed_reply c p) (λ (k : CallSoFar). k.waits) waiting_as (is_due c before) p.calls (owed_same c before p a) ∙ ap (list_any (is_due c before)) a.calls.waits

this_owed : (c : Config) (before : Trace) (p : Past) → Agrees c before p → (id : CallId) → list_any (λ k. is_id id k && is_owed_reply c p k) p.calls ≡ list_any (is_due_as c before id) (waiting before)
this_owed c before p a id = any_through (λ k. is_id id k && is_owed_reply c p k) (λ (k : CallSoFar). k.waits) waiting_as (is_due_as c before id) p.calls same ∙ ap (list_any (is_due_as c before id)) a.calls.waits
  where
    turned : (x w d : Bool) → (x && (w && d)) ≡ (w && (x && d))
    turned true w d = refl
    turned false true d = refl
    turned false false d = refl

    same : (k : CallSoFar) → Among k p.calls → (is_id id k && is_owed_reply c p k) ≡ (k.waits && is_due_as c before id (waiting_as k))
    same k there = ap (λ (b : Bool). is_id id k && b) (owed_same c before p a k there) ∙ turned (is_id id k) k.waits (is_due c before (waiting_as k))

-- ---- one record ----

-- where none is owed each record may come
unowed : (c : Config) (p : Past) (r : Record) → list_any (is_owed_reply c p) p.calls ≡ false → comes_promptly c p r ≡ true
unowed c p (says.Answer site process id r) e = ap (λ (b : Bool). not b || list_any (λ k. is_id id k && is_owed_reply c p k) p.calls) e
unowed c p _ e = ap not e

-- and where one is, the reply to the call that is due
owed : (c : Config) (before : Trace) (p : Past) (w : Waiting) → Agrees c before p → due c before ≡ Some w → (r : Record) → answers_call w.call r ≡ true → comes_promptly c p r ≡ true
owed c before p w a d (says.Answer site process id r) e = ap (λ (b : Bool). not (list_any (is_owed_reply c p) p.calls) || b) (this_owed c before p a id ∙ subst (λ (i : CallId). list_any (is_due_as c before i) (waiting before) ≡ true) (sym (call_eq id w.call e)) (one_due c before (waiting before) w d)) ∙ last (not (list_any (is_owed_reply c p) p.calls))
  where
    last : (b : Bool) → (b || true) ≡ true
    last true = refl
    last false = refl
owed c before p w a d _ e = false_true e

promptly : (c : Config) (before : Trace) (p : Past) (r : Entry) → Agrees c before p → IsDueRow c before r → comes_promptly c p r.what ≡ true
promptly c before p r a k = over (due c before) refl k
  where
    over : (o : Option Waiting) → due c before ≡ o → is_reply_due o (last_line before) r ≡ true → comes_promptly c p r.what ≡ true
    over None d h = unowed c p r.what (any_owed c before p a ∙ none_due c before (waiting before) d)
    over (Some w) d h = owed c before p w a d r.what (both_parts (r.line == last_line before) (answers_call w.call r.what) h).1

-- ---- every run ----

all_promptly : (c : Config) → IsNamed c → (trace : Trace) → EachComesSo c trace → EachRecord (IsDueRow c) trace → OfEach (λ r before. comes_promptly c (past c before) r.what ≡ true) trace
all_promptly c named [] so next = tt
all_promptly c named (r ∷ before) so next = (promptly c before (past c before) r (all_agrees c named before so.1) next.0, all_promptly c named before so.1 next.1)

pub run_comes_promptly : (lines : List ScheduleLine) → AreInOrder lines → each (comes_promptly (config_of lines)) (config_of lines) (nothing_yet (config_of lines)) (reverse (trace_of (run lines))) ≡ true
run_comes_promptly lines order = each_of (comes_promptly (config_of lines)) (config_of lines) (trace_of (run lines)) (all_promptly (config_of lines) (run_is_named lines order) (trace_of (run lines)) (run_comes_so lines order) (replies_next lines order).each)
