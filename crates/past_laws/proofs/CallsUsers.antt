-- What stands of names, descriptors and uses stays with each record that may come: facts of the folds over the trace.
use Rattle.std.proofs.Common.{◌≡◌, ℕ, ◌+◌, ◌≤◌, ◌<◌, ◌==◌, Bool, true, false, not, cond, ◌&&◌, ◌||◌, List, [], ◌∷◌, length, filter, Some, None, refl, sym, ◌∙◌, ap, subst, arith, ◌⊎◌, inl, inr}
use Rattle.std.specs.Prelude.{nat_lt}
use Rattle.std.specs.List.{find, AllByRecursion}
use Rattle.std.proofs.lemmas.Bool.Decides.{nat_tests}
use Rattle.locus_ids.specs.declared.config.Config.{Config}
use Rattle.locus_ids.specs.declared.ids.CallId.{CallId}
use Rattle.locus_ids.specs.declared.ids.EpochId.{EpochId}
use Rattle.locus_ids.specs.declared.ids.Serial.{Serial}
use Rattle.trace_book.specs.Same.{same_call}
use Rattle.trace_book.specs.declared.call.Call.{Call}
use Rattle.trace_book.specs.declared.call.Call.TheVariants as call
use Rattle.trace_book.specs.declared.record.Record.{Record}
use Rattle.trace_book.specs.declared.record.Record.TheVariants as says
use Rattle.trace_book.specs.declared.reply.Reply.{Reply}
use Rattle.trace_book.specs.declared.reply.Reply.TheVariants as reply
use Rattle.tree_model.specs.declared.accepted.Waiting.{Waiting}
use Rattle.tree_model.specs.Calls.{call_named, accepted_as, waiting, waiting_of, is_of, opening_of}
use Rattle.tree_model.specs.Epochs.{boot_of, calls_accepted}
use Rattle.tree_model.specs.Folds.{Trace}
use Rattle.promises.specs.of_lawful_trace.CallRows.{CallRow, next_call, is_this}
use Rattle.promises.specs.of_lawful_trace.Lawful.{MayCome}
use Rattle.promises.specs.of_lawful_trace.Tables.{begins_now, is_close, uses_by, uses_of, close_of, names_instance, has_named, is_opening}
use Rattle.past_laws.specs.Standing.{IsLow, is_mend, is_alone, UsersStand}
use Rattle.past_laws.proofs.Names.{false_true, none_some, some_same, number_eq, number_own, call_eq, call_turned}
use Rattle.past_laws.proofs.CallsLists.{each_more, each_filter, each_both, each_passing, each_found, many_left}
use Rattle.past_laws.proofs.CallsGranted.{With}

-- ---- names are counted ----

pub numbered : (c : Config) (before : Trace) (s process : ℕ) (d : CallId) (words : Call) → CallRow c before s process d words → d ≡ next_call before s
numbered c before s process d (call.Mend file) h = h.numbered
numbered c before s process d _ h = h.numbered

-- the next call of a site is none that was accepted
pub next_is_new : {A : Type 0} (before : Trace) (s : ℕ) (d : CallId) → IsLow before d → d ≡ next_call before s → A
next_is_new {A} before s d low e = over (ap (λ (x : CallId). x.site) e) (ap (λ (x : CallId). x.boot) e) (ap (λ (x : CallId). x.n) e) low
  where
    over : d.site ≡ s → d.boot ≡ boot_of before s → d.n ≡ calls_accepted before s + 1 → IsLow before d → A
    over site boot n (inl h) = let k : boot_of before d.site ≡ boot_of before s = ap (boot_of before) site in absurd (omega (arith, k))
    over site boot n (inr h) = let k : calls_accepted before d.site ≡ calls_accepted before s = ap (calls_accepted before) site in absurd (omega (arith, k, h.1))

-- the call that is accepted has the last name
pub low_new : (n s process : ℕ) (new : CallId) (words : Call) (before : Trace) → new ≡ next_call before s → IsLow (With n (says.Accept s process new words) before) new
low_new n s process new words before e = at (ap (λ (x : CallId). x.site) e) (ap (λ (x : CallId). x.boot) e) (ap (λ (x : CallId). x.n) e)
  where
    count : (b : Bool) → b ≡ true → calls_accepted before new.site ≡ calls_accepted before s → new.n ≡ calls_accepted before s + 1 → new.n ≤ cond b (calls_accepted before new.site + 1) (calls_accepted before new.site)
    count true h k m = omega (arith, k, m)
    count false h k m = false_true h

    at : new.site ≡ s → new.boot ≡ boot_of before s → new.n ≡ calls_accepted before s + 1 → IsLow (With n (says.Accept s process new words) before) new
    at site boot number = inr (boot ∙ ap (boot_of before) (sym site), count (s == new.site) (subst (λ (x : ℕ). (s == x) ≡ true) (sym site) (number_own s)) (ap (calls_accepted before) site) number)

low_up : (n s boot : ℕ) (before : Trace) (d : CallId) → nat_lt (boot_of before s) boot ≡ true → IsLow before d → IsLow (With n (says.Up s boot) before) d
low_up n s boot before d above low = over (s == d.site) refl
  where
    at_most : IsLow before d → d.boot ≤ boot_of before d.site
    at_most (inl h) = omega (arith, h)
    at_most (inr h) = omega (arith, h.0)

    lower : (a b : ℕ) → a ≡ b → d.boot ≤ b → nat_lt a boot ≡ true → d.boot < boot
    lower a b same le lt = grind (arith, nat_tests)

    over : (b : Bool) → (s == d.site) ≡ b → (d.boot < cond b boot (boot_of before d.site)) ⊎ ((d.boot ≡ cond b boot (boot_of before d.site)) × (d.n ≤ cond b 0 (calls_accepted before d.site)))
    over true e = inl (lower (boot_of before s) (boot_of before d.site) (ap (boot_of before) (number_eq s d.site e)) (at_most low) above)
    over false e = low

pub low_stays : (c : Config) (n : ℕ) (r : Record) (before : Trace) (d : CallId) → MayCome c before r → IsLow before d → IsLow (With n r before) d
low_stays c n (says.Accept s process new words) before d may low = over (s == d.site) low
  where
    over : (b : Bool) → IsLow before d → (d.boot < boot_of before d.site) ⊎ ((d.boot ≡ boot_of before d.site) × (d.n ≤ cond b (calls_accepted before d.site + 1) (calls_accepted before d.site)))
    over b (inl h) = inl h
    over true (inr h) = inr (h.0, omega (arith, h.1))
    over false (inr h) = inr h
low_stays c n (says.Up s boot) before d may low = low_up n s boot before d may.above low
low_stays c n _ before d may low = low

-- ---- who is named ----

pub named_more : (n : ℕ) (r : Record) (before : Trace) (d : CallId) → has_named before d ≡ true → has_named (With n r before) d ≡ true
named_more n (says.Answer s process other r) before d h = over (same_call other d && names_instance r)
  where
    over : (a : Bool) → (a || has_named before d) ≡ true
    over true = refl
    over false = h
named_more n _ before d h = h

-- what isn't named after a record wasn't before
pub unnamed_before : (n : ℕ) (r : Record) (before : Trace) (d : CallId) → has_named (With n r before) d ≡ false → has_named before d ≡ false
unnamed_before n r before d h = over (has_named before d) refl
  where
    over : (b : Bool) → has_named before d ≡ b → b ≡ false
    over true e = sym (named_more n r before d e) ∙ h
    over false e = refl

-- the call that a reply may answer waits
pub record Answers (before : Trace) (d : CallId) (s process : ℕ) : Type 0 where
  pub low : IsLow before d
  pub unnamed : has_named before d ≡ false
  pub caller : Waiting
  pub found : find (is_this s process d) (waiting before) ≡ Some caller
  pub site_is : caller.site ≡ s
  pub process_is : caller.process ≡ process
  pub call_is : caller.call ≡ d

parts : (a b d : Bool) → ((a && b) && d) ≡ true → (a ≡ true) × ((b ≡ true) × (d ≡ true))
parts true true d h = (refl, (refl, h))
parts true false d h = false_true h
parts false b d h = false_true h

pub answers : (c : Config) (before : Trace) (s process : ℕ) (d : CallId) (r : Reply) → MayCome c before (says.Answer s process d r) → UsersStand before → Answers before d s process
answers c before s process d r may u = record {
  low = subst (IsLow before) same found.0.0;
  unnamed = subst (λ (x : CallId). has_named before x ≡ false) same found.0.1;
  caller = may.caller;
  found = may.waits;
  site_is = number_eq may.caller.site s is.0;
  process_is = number_eq may.caller.process process is.1.0;
  call_is = same;
}
  where
    found : (IsLow before may.caller.call × (has_named before may.caller.call ≡ false)) × (is_this s process d may.caller ≡ true)
    found = each_found (λ (w : Waiting). IsLow before w.call × (has_named before w.call ≡ false)) (is_this s process d) (waiting before) may.caller may.waits u.waits

    is : (may.caller.site == s ≡ true) × ((may.caller.process == process ≡ true) × (same_call may.caller.call d ≡ true))
    is = parts (may.caller.site == s) (may.caller.process == process) (same_call may.caller.call d) found.1

    same : may.caller.call ≡ d
    same = call_eq may.caller.call d is.1.1

-- ---- names stay low ----

pub low_step : (c : Config) (n : ℕ) (r : Record) (before : Trace) → MayCome c before r → UsersStand before → (d : CallId) (w : Waiting) → call_named (With n r before) d ≡ Some w → IsLow (With n r before) d
low_step c n (says.Accept s process new words) before may u d w h = over (same_call new d) refl h
  where
    over : (b : Bool) → same_call new d ≡ b → cond b (Some (accepted_as before s process new words)) (call_named before d) ≡ Some w → IsLow (With n (says.Accept s process new words) before) d
    over true e k = subst (IsLow (With n (says.Accept s process new words) before)) (call_eq new d e) (low_new n s process new words before (numbered c before s process new words may))
    over false e k = low_stays c n (says.Accept s process new words) before d may (u.low d w k)
low_step c n (says.Up s boot) before may u d w h = low_stays c n (says.Up s boot) before d may (u.low d w h)
low_step c n _ before may u d w h = u.low d w h

pub low_named_step : (c : Config) (n : ℕ) (r : Record) (before : Trace) → MayCome c before r → UsersStand before → (d : CallId) → has_named (With n r before) d ≡ true → IsLow (With n r before) d
low_named_step c n (says.Answer s process other r) before may u d h = over (same_call other d) (names_instance r) refl h
  where
    over : (a b : Bool) → same_call other d ≡ a → ((a && b) || has_named before d) ≡ true → IsLow before d
    over true b e k = subst (IsLow before) (call_eq other d e) ((answers c before s process other r may u).low)
    over false b e k = u.low_named d k
low_named_step c n (says.Accept s process new words) before may u d h = low_stays c n (says.Accept s process new words) before d may (u.low_named d h)
low_named_step c n (says.Up s boot) before may u d h = low_stays c n (says.Up s boot) before d may (u.low_named d h)
low_named_step c n _ before may u d h = u.low_named d h

pub low_uses_step : (c : Config) (n : ℕ) (r : Record) (before : Trace) → MayCome c before r → UsersStand before → (e : EpochId) (i : Serial) → AllByRecursion (IsLow (With n r before)) (uses_of (With n r before) e i)
low_uses_step c n (says.Accept s process new words) before may u e i = over (not (is_close words) && uses_by (begins_now before s process new words) e i)
  where
    old : AllByRecursion (IsLow (With n (says.Accept s process new words) before)) (uses_of before e i)
    old = each_more (IsLow before) (IsLow (With n (says.Accept s process new words) before)) (λ d. low_stays c n (says.Accept s process new words) before d may) (uses_of before e i) (u.low_uses e i)

    over : (b : Bool) → AllByRecursion (IsLow (With n (says.Accept s process new words) before)) (cond b (new ∷ uses_of before e i) (uses_of before e i))
    over true = (low_new n s process new words before (numbered c before s process new words may), old)
    over false = old
low_uses_step c n (says.Answer s process d (reply.Data bytes)) before may u e i = over (is_opening (opening_of before d) e i)
  where
    over : (b : Bool) → AllByRecursion (IsLow before) (cond b (d ∷ uses_of before e i) (uses_of before e i))
    over true = ((answers c before s process d (reply.Data bytes) may u).low, u.low_uses e i)
    over false = u.low_uses e i
low_uses_step c n (says.Up s boot) before may u e i = each_more (IsLow before) (IsLow (With n (says.Up s boot) before)) (λ d. low_stays c n (says.Up s boot) before d may) (uses_of before e i) (u.low_uses e i)
low_uses_step c n _ before may u e i = u.low_uses e i

pub low_close_step : (c : Config) (n : ℕ) (r : Record) (before : Trace) → MayCome c before r → UsersStand before → (e : EpochId) (i : Serial) (d : CallId) → close_of (With n r before) e i ≡ Some d → IsLow (With n r before) d
low_close_step c n (says.Accept s process new words) before may u e i d h = over (is_close words && uses_by (begins_now before s process new words) e i) h
  where
    over : (b : Bool) → cond b (Some new) (close_of before e i) ≡ Some d → IsLow (With n (says.Accept s process new words) before) d
    over true k = subst (IsLow (With n (says.Accept s process new words) before)) (some_same new d k) (low_new n s process new words before (numbered c before s process new words may))
    over false k = low_stays c n (says.Accept s process new words) before d may (u.low_close e i d k)
low_close_step c n (says.Up s boot) before may u e i d h = low_stays c n (says.Up s boot) before d may (u.low_close e i d h)
low_close_step c n _ before may u e i d h = u.low_close e i d h

-- ---- who waits ----

abbrev Waits : Trace → Waiting → Type 0
Waits before w = IsLow before w.call × (has_named before w.call ≡ false)

-- a name that wasn't accepted has named nothing
pub new_unnamed : (before : Trace) (s : ℕ) (new : CallId) → UsersStand before → new ≡ next_call before s → has_named before new ≡ false
new_unnamed before s new u e = over (has_named before new) refl
  where
    over : (b : Bool) → has_named before new ≡ b → b ≡ false
    over true h = next_is_new before s new (u.low_named new h) e
    over false h = refl

pub waits_step : (c : Config) (n : ℕ) (r : Record) (before : Trace) → MayCome c before r → UsersStand before → AllByRecursion (Waits (With n r before)) (waiting (With n r before))
waits_step c n (says.Accept s process new words) before may u = (
  (low_new n s process new words before (numbered c before s process new words may), new_unnamed before s new u (numbered c before s process new words may)),
  each_more (Waits before) (Waits (With n (says.Accept s process new words) before)) (λ w k. (low_stays c n (says.Accept s process new words) before w.call may k.0, k.1)) (waiting before) u.waits,
)
waits_step c n (says.Up s boot) before may u = each_more (Waits before) (Waits (With n (says.Up s boot) before)) (λ w k. (low_stays c n (says.Up s boot) before w.call may k.0, k.1)) (waiting before) u.waits
waits_step c n (says.Stopped s cause) before may u = each_filter (Waits before) (λ (w : Waiting). not (w.site == s)) (waiting before) u.waits
waits_step c n (says.Answer s process other r) before may u = each_both (Waits before) (λ (w : Waiting). not (same_call w.call other) ≡ true) (Waits (With n (says.Answer s process other r) before)) left (filter kept (waiting before))
    (each_filter (Waits before) kept (waiting before) u.waits) (each_passing (λ (w : Waiting). not (same_call w.call other) ≡ true) kept (λ w e. e) (waiting before))
  where
    kept : Waiting → Bool
    kept w = not (same_call w.call other)

    turned : (w : Waiting) (b : Bool) → same_call w.call other ≡ b → not b ≡ true → has_named before w.call ≡ false → ((b && names_instance r) || has_named before w.call) ≡ false
    turned w true e k h = false_true k
    turned w false e k h = h

    left : (w : Waiting) → Waits before w → not (same_call w.call other) ≡ true → Waits (With n (says.Answer s process other r) before) w
    left w k h = (k.0, ap (λ (b : Bool). (b && names_instance r) || has_named before w.call) (call_turned other w.call) ∙ turned w (same_call w.call other) refl h k.1)
waits_step c n _ before may u = u.waits

-- a call that is no mend is accepted of an idle process
pub idle : (c : Config) (before : Trace) (s process : ℕ) (d : CallId) (words : Call) → CallRow c before s process d words → is_mend words ≡ false → waiting_of s process (waiting before) ≡ None
idle c before s process d (call.Mend file) h k = false_true (sym k)
idle c before s process d _ h k = h.idle

-- none is found that passes a test, so none passes it with another
none_alone : (s process : ℕ) (ws : List Waiting) → waiting_of s process ws ≡ None → filter (is_alone s process) ws ≡ []
none_alone s process [] h = refl
none_alone s process (w ∷ ws) h = over (is_of s process w) refl (none_alone s process ws) h
  where
    over : (b : Bool) → is_of s process w ≡ b → (waiting_of s process ws ≡ None → filter (is_alone s process) ws ≡ []) → cond b (Some w) (waiting_of s process ws) ≡ None → cond (b && not (is_mend w.words)) (w ∷ filter (is_alone s process) ws) (filter (is_alone s process) ws) ≡ []
    over true e later k = none_some w (sym k)
    over false e later k = later k

pub alone_step : (c : Config) (n : ℕ) (r : Record) (before : Trace) → MayCome c before r → UsersStand before → (site process : ℕ) → length (filter (is_alone site process) (waiting (With n r before))) ≤ 1
alone_step c n (says.Accept s p new words) before may u site process = over (s == site) (p == process) (is_mend words) refl refl refl
  where
    rest : List Waiting
    rest = filter (is_alone site process) (waiting before)

    none : s ≡ site → p ≡ process → is_mend words ≡ false → rest ≡ []
    none e f g = none_alone site process (waiting before) (subst (λ (x : ℕ). waiting_of site x (waiting before) ≡ None) f (subst (λ (x : ℕ). waiting_of x p (waiting before) ≡ None) e (idle c before s p new words may g)))

    one : (w : Waiting) (ws : List Waiting) → ws ≡ [] → length (w ∷ ws) ≤ 1
    one w ws e = rw e (omega arith)

    over : (a b m : Bool) → (s == site) ≡ a → (p == process) ≡ b → is_mend words ≡ m → length (cond ((a && b) && not m) (accepted_as before s p new words ∷ rest) rest) ≤ 1
    over true true false e f g = one (accepted_as before s p new words) rest (none (number_eq s site e) (number_eq p process f) g)
    over true true true e f g = u.alone site process
    over true false m e f g = u.alone site process
    over false b m e f g = u.alone site process
alone_step c n (says.Answer s p d r) before may u site process = (let few : length (filter (is_alone site process) (waiting before)) ≤ 1 = u.alone site process in let fewer = many_left (is_alone site process) (λ (w : Waiting). not (same_call w.call d)) (waiting before) in omega (arith, few, fewer))
alone_step c n (says.Stopped s cause) before may u site process = (let few : length (filter (is_alone site process) (waiting before)) ≤ 1 = u.alone site process in let fewer = many_left (is_alone site process) (λ (w : Waiting). not (w.site == s)) (waiting before) in omega (arith, few, fewer))
alone_step c n _ before may u site process = u.alone site process
