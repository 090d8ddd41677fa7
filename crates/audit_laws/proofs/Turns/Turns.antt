-- A call is told in its turn that its epoch has changed.
use Rattle.std.proofs.Common.{◌≡◌, ℕ, ◌==◌, ◌&&◌, ◌||◌, ◌≤◌, ◌<◌, not, nat_lt, nat_le, Bool, true, false, cond, List, [], ◌∷◌, length, filter, map, Option, Some, None, refl, sym, ap, subst, ◌∙◌, arith}
use Rattle.std.proofs.lemmas.Bool.Decides.{nat_tests}
use Rattle.std.specs.List.{find, list_any, AllByRecursion}
use Rattle.std.specs.Option.{is_some}
use Rattle.locus_ids.specs.declared.config.Config.{Config}
use Rattle.locus_ids.specs.declared.ids.CallId.{CallId}
use Rattle.locus_ids.specs.declared.ids.EpochId.{EpochId}
use Rattle.locus_ids.specs.declared.refusal.Refusal.TheVariants.{Changed}
use Rattle.trace_book.specs.Same.{same_call, same_epoch}
use Rattle.trace_book.specs.declared.entry.Entry.{Entry}
use Rattle.trace_book.specs.declared.record.Record.{Record}
use Rattle.trace_book.specs.declared.record.Record.TheVariants as rec
use Rattle.trace_book.specs.declared.reply.Reply.{Reply}
use Rattle.trace_book.specs.declared.reply.Reply.TheVariants as reply
use Rattle.tree_model.specs.declared.accepted.Waiting.{Waiting}
use Rattle.tree_model.specs.Calls.{waiting}
use Rattle.tree_model.specs.Epochs.{epoch_of, epoch_after, is_in}
use Rattle.tree_model.specs.Folds.{Trace, last_line}
use Rattle.lawful_trace.specs.Progress.{left_since}
use Rattle.lawful_trace.specs.Prompt.{answers_call, comes_first, due, due_among, is_due, is_reply_due, lesser, needs_no_request, mended_group}
use Rattle.promises.specs.Past.{Past, CallSoFar}
use Rattle.promises.specs.After.{is_id}
use Rattle.promises.specs.Rows.{may_follow, waits_at, is_scripted, is_changed}
use Rattle.past_laws.specs.Agreement.{Agrees, past, waiting_as}
use Rattle.past_laws.specs.Along.{EachComesSo, IsNamed}
use Rattle.past_laws.specs.Due.{SaysDue, is_after, tells_left}
use Rattle.plain_facts.proofs.Tests.{and_first, and_second, or_first}
use Rattle.audit_laws.proofs.Tidy.Lists.{found_one}
use Rattle.past_laws.proofs.Agreeing.{all_agrees, may_follow_all}
use Rattle.past_laws.proofs.Names.{false_true, none_some, some_same, both_parts, number_eq, call_eq, call_test, epoch_eq}
use Rattle.past_laws.proofs.Changing.{any_finds, Finds}
use Rattle.past_laws.proofs.Finding.{found_only}
use Rattle.past_laws.proofs.CallsLists.{each_more, each_found, each_filter, each_mapped}
use Rattle.audit_rules.specs.Turns.{is_before, is_in_turn}

-- ---- the site has left its epoch ----

left_step : (c : Config) (before : Trace) (w : Record) → SaysDue c before w → (site q : ℕ) (e : EpochId) → tells_left site q e w ≡ true → ((p : ℕ) → is_after (tells_left site p e) before ≡ true → epoch_of before site ≡ None) → epoch_after w site (epoch_of before site) ≡ None
left_step c before (rec.Leave s left) due site q e h later = rw ((both_parts (s == site) (same_epoch left e) h).0) refl
left_step c before (rec.Answer s p d (reply.No (Changed left))) due site q e h later = (let first : ((s == site) ≡ true) × ((nat_le p q && same_epoch left e) ≡ true) = both_parts (s == site) (nat_le p q && same_epoch left e) h in
    let second : (nat_le p q ≡ true) × (same_epoch left e ≡ true) = both_parts (nat_le p q) (same_epoch left e) first.1 in
    later p (subst (λ (x : EpochId). is_after (tells_left site p x) before ≡ true) (epoch_eq left e second.1) (subst (λ n. is_after (tells_left n p left) before ≡ true) (number_eq s site first.0) due)))
left_step c before w due site q e h later = false_true h

left_now : (c : Config) (trace : Trace) → EachComesSo c trace → (site q : ℕ) (e : EpochId) → is_after (tells_left site q e) trace ≡ true → epoch_of trace site ≡ None
left_now c [] each site q e h = false_true h
left_now c (r ∷ before) each site q e h = left_step c before r.what each.0.due site q e h (λ p k. left_now c before each.1 site p e k)

-- ---- the call that is due ----

pub record LowerDue (c : Config) (before : Trace) (ws : List Waiting) (w : Waiting) : Type 0 where
  pub one : Waiting
  pub is : due_among c before ws ≡ Some one
  pub low : one.process ≤ w.process

-- of two the lesser is no higher than each
lesser_low : (v w : Waiting) → ((cond (comes_first v w) v w).process ≤ v.process) × ((cond (comes_first v w) v w).process ≤ w.process)
lesser_low v w = at (comes_first v w) refl
  where
    up : comes_first v w ≡ true → v.process ≤ w.process
    up h = by (nat_lt v.process w.process) (v.process == w.process) refl refl h
      where
        by : (a b : Bool) → nat_lt v.process w.process ≡ a → (v.process == w.process) ≡ b → (a || (b && nat_lt (mended_group v.words) (mended_group w.words))) ≡ true → v.process ≤ w.process
        by true b e f k = grind (arith, nat_tests)
        by false true e f k = grind (arith, nat_tests)
        by false false e f k = false_true k

    down : comes_first v w ≡ false → w.process ≤ v.process
    down h = by (nat_lt v.process w.process) refl h
      where
        by : (a : Bool) → nat_lt v.process w.process ≡ a → (a || ((v.process == w.process) && nat_lt (mended_group v.words) (mended_group w.words))) ≡ false → w.process ≤ v.process
        by true e k = false_true (sym k)
        by false e k = grind (arith, nat_tests)

    at : (b : Bool) → comes_first v w ≡ b → ((cond b v w).process ≤ v.process) × ((cond b v w).process ≤ w.process)
    at true h = (omega arith, up h)
    at false h = (down h, omega arith)

due_low : (c : Config) (before : Trace) (ws : List Waiting) → AllByRecursion (λ (w : Waiting). is_due c before w ≡ true → LowerDue c before ws w) ws
due_low c before [] = tt
due_low c before (w ∷ ws) = at (is_due c before w) refl (due_low c before ws)
  where
    through : (a b d : ℕ) → a ≤ b → b ≤ d → a ≤ d
    through a b d h k = omega (arith, h, k)

    with_it : (o : Option Waiting) → due_among c before ws ≡ o → (is_due c before w ≡ true) → LowerDue c before (w ∷ ws) w
    with_it None e h = record { one = w; is = rw (h, e) refl; low = omega arith }
    with_it (Some v) e h = record { one = cond (comes_first v w) v w; is = rw (h, e) refl; low = (lesser_low v w).1 }

    further : is_due c before w ≡ true → (x : Waiting) → LowerDue c before ws x → LowerDue c before (w ∷ ws) x
    further h x k = record { one = cond (comes_first k.one w) k.one w; is = rw (h, k.is) refl; low = through (cond (comes_first k.one w) k.one w).process k.one.process x.process (lesser_low k.one w).0 k.low }

    at : (b : Bool) → is_due c before w ≡ b → AllByRecursion (λ (x : Waiting). is_due c before x ≡ true → LowerDue c before ws x) ws
        → (is_due c before w ≡ true → LowerDue c before (w ∷ ws) w) × AllByRecursion (λ (x : Waiting). is_due c before x ≡ true → LowerDue c before (w ∷ ws) x) ws
    at true h later = (λ g. with_it (due_among c before ws) refl g, each_more (λ (x : Waiting). is_due c before x ≡ true → LowerDue c before ws x) (λ (x : Waiting). is_due c before x ≡ true → LowerDue c before (w ∷ ws) x) (λ x f g. further h x (f g)) ws later)
    at false h later = (
      λ g. false_true (sym h ∙ g),
      each_more (λ (x : Waiting). is_due c before x ≡ true → LowerDue c before ws x) (λ (x : Waiting). is_due c before x ≡ true → LowerDue c before (w ∷ ws) x)
          (λ x f g. (let k : LowerDue c before ws x = f g in record { one = k.one; is = rw h k.is; low = k.low })) ws later,
    )

-- it is one of those that wait
due_of : (P : Waiting → Type 0) (c : Config) (before : Trace) (ws : List Waiting) → AllByRecursion P ws → (v : Waiting) → due_among c before ws ≡ Some v → P v
due_of P c before [] h v e = none_some v e
due_of P c before (w ∷ ws) h v e = at (is_due c before w) (due_among c before ws) refl (due_of P c before ws h.1) e
  where
    at : (b : Bool) (o : Option Waiting) → due_among c before ws ≡ o → ((x : Waiting) → due_among c before ws ≡ Some x → P x) → cond b (Some (lesser w o)) o ≡ Some v → P v
    at true None f later k = subst P (some_same w v k) h.0
    at true (Some x) f later k = subst P (some_same (cond (comes_first x w) x w) v k) (either (comes_first x w))
      where
        either : (b : Bool) → P (cond b x w)
        either true = later x f
        either false = h.0
    at false o f later k = later v (f ∙ k)

-- what is so of each that is seen is so of each that waits
seen_back : {X Y : Type 0} (Q : Y → Type 0) (g : X → Y) (q : X → Bool) (xs : List X) → AllByRecursion Q (map g (filter q xs)) → AllByRecursion (λ x. q x ≡ true → Q (g x)) xs
seen_back Q g q [] h = tt
seen_back Q g q (x ∷ xs) h = at (q x) refl h (seen_back Q g q xs)
  where
    at : (b : Bool) → q x ≡ b → AllByRecursion Q (map g (cond b (x ∷ filter q xs) (filter q xs))) → (AllByRecursion Q (map g (filter q xs)) → AllByRecursion (λ y. q y ≡ true → Q (g y)) xs) → (q x ≡ true → Q (g x)) × AllByRecursion (λ y. q y ≡ true → Q (g y)) xs
    at true e k later = (λ f. k.0, later k.1)
    at false e k later = (λ f. false_true (sym e ∙ f), later k)

-- ---- the turn ----

in_epoch : (o : Option EpochId) (e : EpochId) → is_in o e ≡ true → o ≡ Some e
in_epoch None e h = false_true h
in_epoch (Some d) e h = ap Some (epoch_eq d e h)

-- the calls of the name are of the process
of_process : (c : Config) (p : Past) (site process : ℕ) (id : CallId) (r : Reply) → ((d : CallId) → length (filter (is_id d) p.calls) ≤ 1) → may_follow c p (rec.Answer site process id r) ≡ true → AllByRecursion (λ (k : CallSoFar). k.id ≡ id → k.process ≡ process) p.calls
of_process c p site process id r once may = of (any_finds test p.calls may)
  where
    test : CallSoFar → Bool
    test k = is_id id k && (waits_at site process k && (is_scripted c p k r || is_changed p k r))

    of : Finds test p.calls → AllByRecursion (λ (k : CallSoFar). k.id ≡ id → k.process ≡ process) p.calls
    of it = each_more (λ (k : CallSoFar). is_id id k ≡ true → find (is_id id) p.calls ≡ Some k) (λ (k : CallSoFar). k.id ≡ id → k.process ≡ process)
        (λ k h q. ap (λ (x : CallSoFar). x.process) (some_same k it.one (sym (h (call_test k.id id q)) ∙ found_only (is_id id) test (λ x g. and_first (is_id id x) _ g) p.calls it.one (once id) it.found)) ∙ own)
        p.calls (found_one (is_id id) p.calls (once id))
      where
        own : it.one.process ≡ process
        own = number_eq it.one.process process (and_second (it.one.id.site == site) (it.one.process == process) (and_second it.one.waits _ (and_first (waits_at site process it.one) _ (and_second (is_id id it.one) (waits_at site process it.one && (is_scripted c p it.one r || is_changed p it.one r)) it.passes))))

-- no call comes before it
none_before : (c : Config) (before : Trace) → Agrees c before (past c before) → (site process : ℕ) (id : CallId) (e : EpochId) → epoch_of before site ≡ None → AllByRecursion (λ (k : CallSoFar). k.id ≡ id → k.process ≡ process) (past c before).calls
    → ((v : Waiting) → due c before ≡ Some v → same_call id v.call ≡ true) → Finds (is_before site process e) (past c before).calls → ⊥
none_before c before a site process id e left own next it = higher (each_found (λ (k : CallSoFar). k.waits ≡ true → is_due c before (waiting_as k) ≡ true → LowerDue c before (waiting before) (waiting_as k)) (is_before site process e) (past c before).calls it.one it.found lows).0
  where
    calls : List CallSoFar
    calls = (past c before).calls

    lows : AllByRecursion (λ (k : CallSoFar). k.waits ≡ true → is_due c before (waiting_as k) ≡ true → LowerDue c before (waiting before) (waiting_as k)) calls
    lows = seen_back (λ (w : Waiting). is_due c before w ≡ true → LowerDue c before (waiting before) w) waiting_as (λ (k : CallSoFar). k.waits) calls
        (subst (AllByRecursion (λ (w : Waiting). is_due c before w ≡ true → LowerDue c before (waiting before) w)) (sym a.calls.waits) (due_low c before (waiting before)))

    owns : AllByRecursion (λ (w : Waiting). w.call ≡ id → w.process ≡ process) (waiting before)
    owns = subst (AllByRecursion (λ (w : Waiting). w.call ≡ id → w.process ≡ process)) a.calls.waits
        (each_mapped (λ (k : CallSoFar). k.id ≡ id → k.process ≡ process) (λ (w : Waiting). w.call ≡ id → w.process ≡ process) waiting_as (λ k h. h) (filter (λ (k : CallSoFar). k.waits) calls) (each_filter (λ (k : CallSoFar). k.id ≡ id → k.process ≡ process) (λ (k : CallSoFar). k.waits) calls own))

    waits : it.one.waits ≡ true
    waits = and_first it.one.waits _ it.passes

    there : ((it.one.id.site == site) && (nat_lt it.one.process process && is_in it.one.epoch e)) ≡ true
    there = and_second it.one.waits ((it.one.id.site == site) && (nat_lt it.one.process process && is_in it.one.epoch e)) it.passes

    lower : it.one.process < process
    lower = below it.one.process (and_first (nat_lt it.one.process process) (is_in it.one.epoch e) (and_second (it.one.id.site == site) (nat_lt it.one.process process && is_in it.one.epoch e) there))
      where
        below : (m : ℕ) → nat_lt m process ≡ true → m < process
        below m h = grind (arith, nat_tests)

    is_due_now : is_due c before (waiting_as it.one) ≡ true
    is_due_now = or_first (is_some (left_since before it.one.id.site it.one.epoch)) (needs_no_request c before it.one.id) (ap is_some left_is)
      where
        left_is : left_since before it.one.id.site it.one.epoch ≡ Some e
        left_is = ap (left_since before it.one.id.site) (in_epoch it.one.epoch e (and_second (nat_lt it.one.process process) (is_in it.one.epoch e) (and_second (it.one.id.site == site) (nat_lt it.one.process process && is_in it.one.epoch e) there)))
            ∙ ap (λ o. cond (is_in o e) None (Some e)) (ap (epoch_of before) (number_eq it.one.id.site site (and_first (it.one.id.site == site) _ there)) ∙ left)

    higher : (it.one.waits ≡ true → is_due c before (waiting_as it.one) ≡ true → LowerDue c before (waiting before) (waiting_as it.one)) → ⊥
    higher f = against (f waits is_due_now)
      where
        against : LowerDue c before (waiting before) (waiting_as it.one) → ⊥
        against k = (let same : k.one.process ≡ process = due_of (λ (w : Waiting). w.call ≡ id → w.process ≡ process) c before (waiting before) owns k.one k.is (sym (call_eq id k.one.call (next k.one k.is))) in
            let low : k.one.process ≤ it.one.process = k.low in omega (arith, same, low, lower))

turn : (c : Config) → IsNamed c → (before : Trace) (w : Record) → EachComesSo c before → may_follow c (past c before) w ≡ true → SaysDue c before w → ((v : Waiting) → due c before ≡ Some v → answers_call v.call w ≡ true) → is_in_turn (past c before) w ≡ true
turn c named before (rec.Answer site process id (reply.No (Changed e))) each may says next = at (list_any (is_before site process e) (past c before).calls) refl
  where
    agrees : Agrees c before (past c before)
    agrees = all_agrees c named before each

    at : (b : Bool) → list_any (is_before site process e) (past c before).calls ≡ b → not b ≡ true
    at true h = absurd (none_before c before agrees site process id e (left_now c before each site process e says) (of_process c (past c before) site process id (reply.No (Changed e)) agrees.calls.once may) next (any_finds (is_before site process e) (past c before).calls h))
    at false h = refl
turn c named before w each may says next = refl

pub in_turn : (c : Config) → IsNamed c → (r : Entry) (before : Trace) → EachComesSo c (r ∷ before) → is_reply_due (due c before) (last_line before) r ≡ true → is_in_turn (past c before) r.what ≡ true
in_turn c named r before each next = turn c named before r.what each.1 (may_follow_all c named r before each) each.0.due (λ v e. and_second (r.line == last_line before) (answers_call v.call r.what) (ap (λ o. is_reply_due o (last_line before) r) (sym e) ∙ next))
