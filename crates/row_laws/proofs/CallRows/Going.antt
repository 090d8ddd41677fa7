-- A call that waits goes on: its row is put or replaced, or it is answered and its row taken away.
use Rattle.locus_ids.specs.declared.config.Config.{Config}
use Rattle.std.proofs.Common.{◌≡◌, ◌≤◌, ℕ, ◌+◌, ◌==◌, ◌⊎◌, Bool, true, false, cond, ◌&&◌, List, [], ◌∷◌, Option, Some, None, refl, sym, ◌∙◌, ap, subst, inl, inr, arith}
use Rattle.std.proofs.lemmas.Bool.Decides.{nat_tests}
use Rattle.std.specs.List.{find}
use Rattle.role_steps.proofs.of_plain_facts.Numbers.{equal_test}
use Rattle.role_steps.proofs.of_plain_facts.Tests.{true_false}
use Rattle.locus_ids.specs.declared.ids.CallId.{CallId}
use Rattle.locus_ids.specs.declared.ids.EpochId.{EpochId}
use Rattle.locus_ids.specs.declared.refusal.Refusal.TheVariants as refusal
use Rattle.trace_book.specs.Same.{same_call}
use Rattle.trace_book.specs.declared.call.Call.{Call}
use Rattle.trace_book.specs.declared.call.Call.TheVariants as call
use Rattle.trace_book.specs.declared.descriptor.Beginning.{Beginning}
use Rattle.trace_book.specs.declared.record.Record.TheVariants as says
use Rattle.trace_book.specs.declared.reply.Reply.{Reply}
use Rattle.trace_book.specs.declared.reply.Reply.TheVariants as reply
use Rattle.role_steps.specs.Tables.{with_row, without_row}
use Rattle.role_steps.specs.Requests.{waiting_of, waiting_key}
use Rattle.role_steps.specs.Using.{own_call, reply_record, accepted, with_copied, changed_records}
use Rattle.role_steps.specs.declared.users.WaitingCall.{WaitingCall}
use Rattle.tree_model.specs.declared.accepted.Waiting.{Waiting}
use Rattle.tree_model.specs.Folds.{Trace}
use Rattle.tree_model.specs.Epochs.{is_up, boot_of, calls_accepted}
use Rattle.tree_model.specs.Calls.{waiting, is_of}
use Rattle.tree_model.specs.Calls as tree
use Rattle.lawful_trace.specs.CallRows.{next_call}
use Rattle.the_run.specs.Kept.{Among}
use Rattle.row_laws.specs.Shown.{with_told}
use Rattle.row_laws.specs.CallRows.Accepting.{AcceptedAs}
use Rattle.row_laws.specs.CallRows.Serials.{Rises}
use Rattle.row_laws.specs.CallRows.Waiting.{after, Matches, IsWaiting, HasRow, KeyedAs, Keyed, Waits, IsOther, Goes, SameCall}
use Rattle.row_laws.proofs.CallRows.Rising.{key_case, one_row, put_there, put_keeps, put_old, taken_keeps, taken_old}
use Rattle.row_laws.proofs.CallRows.Keeping.{call_test, answered_old, answered_keeps, key_same, keyed_same, matches_same, waiting_same}

-- ---- the row is put ----

pub put_waits : (c : Config) (s boot calls : ℕ) (now : Trace) (rows : List WaitingCall) (w v : WaitingCall) → SameCall w v → Goes c s boot now calls rows w → Waits c s boot now calls (with_row waiting_key v rows)
put_waits c s boot calls now rows w v same g = record {
  up = g.up;
  boot_is = g.boot_is;
  counted = g.counted;
  there = λ x a e. by_there x (g.there x a e);
  back = λ r a. by_back r (old r a);
  low = λ r a. by_low r (old r a);
  apart = λ r q a b e. by_apart r q (old r a) (old q b) e;
  keyed = λ r a. by_keyed r (old r a);
}
  where
    key : waiting_key w ≡ waiting_key v
    key = key_same w v same

    Old : WaitingCall → Type 0
    Old r = (r ≡ v) ⊎ (Among r rows × (waiting_key r ≡ waiting_key v → ⊥))

    old : (r : WaitingCall) → Among r (with_row waiting_key v rows) → Old r
    old r a = put_old waiting_key v 0 rows g.rises r a

    by_there : (x : Waiting) → Matches s boot x w ⊎ ((r : WaitingCall) × (Among r rows × (IsOther w r × Matches s boot x r))) → HasRow s boot x (with_row waiting_key v rows)
    by_there x (inl m) = (v, (put_there waiting_key v rows, matches_same s boot x w v same m))
    by_there x (inr k) = (k.0, (put_keeps waiting_key v rows k.0 k.1.0 (λ f. k.1.1.0 (f ∙ sym key)), k.1.1.1))

    by_back : (r : WaitingCall) → Old r → IsWaiting s boot now r
    by_back r (inl e) = subst (IsWaiting s boot now) (sym e) (waiting_same s boot now w v same g.waits)
    by_back r (inr k) = g.back r k.0 (λ f. k.1 (f ∙ key))

    by_low : (r : WaitingCall) → Old r → r.call ≤ calls
    by_low r (inl e) = let a : w.call ≤ calls = g.own_low in let b : w.call ≡ v.call = same.same_number in let c : r.call ≡ v.call = ap (λ (y : WaitingCall). y.call) e in omega (arith, a, b, c)
    by_low r (inr k) = g.low r k.0

    own : (r q : WaitingCall) → r ≡ v → Among q rows → r.call ≡ q.call → waiting_key q ≡ waiting_key v
    own r q e a f = g.own_apart q a (sym f ∙ (ap (λ (y : WaitingCall). y.call) e ∙ sym same.same_number)) ∙ key

    by_apart : (r q : WaitingCall) → Old r → Old q → r.call ≡ q.call → waiting_key r ≡ waiting_key q
    by_apart r q (inl e) (inl f) h = ap waiting_key (e ∙ sym f)
    by_apart r q (inl e) (inr k) h = ap waiting_key e ∙ sym (own r q e k.0 h)
    by_apart r q (inr k) (inl f) h = own q r f k.0 (sym h) ∙ ap waiting_key (sym f)
    by_apart r q (inr k) (inr l) h = g.apart r q k.0 l.0 h

    by_keyed : (r : WaitingCall) → Old r → Keyed r
    by_keyed r (inl e) = subst Keyed (sym e) (keyed_same w v same g.own_keyed)
    by_keyed r (inr k) = g.keyed r k.0

-- ---- the call is answered ----

pub answer_waits : (c : Config) (s boot m calls : ℕ) (now : Trace) (rows : List WaitingCall) (w : WaitingCall) (r : Reply) → Goes c s boot now calls rows w →
    Waits c s boot (with_told m (reply_record s boot w r) now) calls (without_row waiting_key (waiting_key w) rows)
answer_waits c s boot m calls now rows w r g = record {
  up = g.up;
  boot_is = g.boot_is;
  counted = g.counted;
  there = λ x a e. (let k : Among x (waiting now) × (same_call x.call id ≡ false) = answered_old id now x a in by_there x k.1 (g.there x k.0 e));
  back = λ q a. (let k : Among q rows × (waiting_key q ≡ waiting_key w → ⊥) = old q a in still q k (g.back q k.0 k.1));
  low = λ q a. g.low q (old q a).0;
  apart = λ q p a b e. g.apart q p (old q a).0 (old p b).0 e;
  keyed = λ q a. g.keyed q (old q a).0;
}
  where
    id : CallId
    id = own_call s boot w.call

    old : (q : WaitingCall) → Among q (without_row waiting_key (waiting_key w) rows) → Among q rows × (waiting_key q ≡ waiting_key w → ⊥)
    old q a = taken_old waiting_key (waiting_key w) 0 rows g.rises q a

    by_there : (x : Waiting) → same_call x.call id ≡ false → Matches s boot x w ⊎ ((q : WaitingCall) × (Among q rows × (IsOther w q × Matches s boot x q))) → HasRow s boot x (without_row waiting_key (waiting_key w) rows)
    by_there x n (inl k) = absurd (true_false (sym (call_test x.call id k.1) ∙ n))
    by_there x n (inr k) = (k.0, (taken_keeps waiting_key (waiting_key w) rows k.0 k.1.0 k.1.1.0, k.1.1.1))

    still : (q : WaitingCall) → Among q rows × (waiting_key q ≡ waiting_key w → ⊥) → IsWaiting s boot now q → IsWaiting s boot (with_told m (reply_record s boot w r) now) q
    still q o k = (k.0, (answered_keeps id now k.0 k.1.0 (λ e. o.1 (g.own_apart q o.0 (ap (λ (c : CallId). c.n) (sym k.1.1.1.1 ∙ e)))), k.1.1))

-- ---- a waiting call takes an answer ----

pub goes_again : (c : Config) (s boot calls : ℕ) (now : Trace) (rows : List WaitingCall) (w v : WaitingCall) → Rises waiting_key 0 rows → Among w rows → SameCall w v → Waits c s boot now calls rows → Goes c s boot now calls rows v
goes_again c s boot calls now rows w v rises a same h = record {
  up = h.up;
  boot_is = h.boot_is;
  counted = h.counted;
  rises = rises;
  there = λ x b e. by_row x (h.there x b e);
  back = λ r b ne. h.back r b;
  waits = waiting_same s boot now w v same (h.back w a);
  low = h.low;
  own_low = (let l : w.call ≤ calls = h.low w a in let e : w.call ≡ v.call = same.same_number in omega (arith, l, e));
  apart = h.apart;
  own_apart = λ r b e. h.apart r w b a (e ∙ sym same.same_number) ∙ key_same w v same;
  keyed = h.keyed;
  own_keyed = keyed_same w v same (h.keyed w a);
}
  where
    by_row : (x : Waiting) → HasRow s boot x rows → Matches s boot x v ⊎ ((r : WaitingCall) × (Among r rows × (IsOther v r × Matches s boot x r)))
    by_row x k = key_case (Matches s boot x v ⊎ ((r : WaitingCall) × (Among r rows × (IsOther v r × Matches s boot x r)))) (waiting_key k.0) (waiting_key v)
        (λ e. inl (matches_same s boot x w v same (subst (Matches s boot x) (one_row waiting_key 0 rows rises k.0 w k.1.0 a (e ∙ sym (key_same w v same))) k.1.1)))
        (λ ne. inr (k.0, (k.1.0, (ne, k.1.1))))

-- ---- a call is accepted ----

-- no row has its key, so that the process waits for nothing
pub accept_goes : (c : Config) (s boot m calls process : ℕ) (now : Trace) (rows : List WaitingCall) (words : Call) (b : Beginning) (copied : Option (List ℕ)) → Rises waiting_key 0 rows → ((r : WaitingCall) → Among r rows → waiting_key r ≡ waiting_of process words → ⊥) → KeyedAs process words →
    Waits c s boot now calls rows → Goes c s boot (record { line = m; what = says.Accept s process (own_call s boot (calls + 1)) words } ∷ now) (calls + 1) rows (with_copied copied (accepted process (calls + 1) words b))
accept_goes c s boot m calls process now rows words b copied rises alone keyed h = record {
  up = h.up;
  boot_is = h.boot_is;
  counted = ap (λ (t : Bool). cond t (calls_accepted now s + 1) (calls_accepted now s)) (equal_test s s refl) ∙ ap (λ (n : ℕ). n + 1) h.counted;
  rises = rises;
  there = by_place;
  back = λ r a ne. (let k : IsWaiting s boot now r = h.back r a in (k.0, (inr k.1.0, k.1.1)));
  waits = (tree.accepted_as now s process (own_call s boot (calls + 1)) words, (inl refl, (refl, (refl, refl))));
  low = λ r a. (let l : r.call ≤ calls = h.low r a in omega (arith, l));
  own_low = omega arith;
  apart = h.apart;
  own_apart = λ r a e. (let l : r.call ≤ calls = h.low r a in absurd (omega (arith, l, e)));
  keyed = h.keyed;
  own_keyed = keyed;
}
  where
    w : WaitingCall
    w = with_copied copied (accepted process (calls + 1) words b)

    by_place : (x : Waiting) → Among x (waiting (record { line = m; what = says.Accept s process (own_call s boot (calls + 1)) words } ∷ now)) → x.site ≡ s → Matches s boot x w ⊎ ((r : WaitingCall) × (Among r rows × (IsOther w r × Matches s boot x r)))
    by_place x (inl e) f = inl (ap (λ (y : Waiting). y.process) e, ap (λ (y : Waiting). y.call) e)
    by_place x (inr a) f = (let k : HasRow s boot x rows = h.there x a f in inr (k.0, (k.1.0, (alone k.0 k.1.0, k.1.1))))

-- ---- the row of an accepted call ----

none_found : {A : Type 0} (p : A → Bool) (xs : List A) → ((x : A) → Among x xs → p x ≡ true → ⊥) → find p xs ≡ None
none_found p [] h = refl
none_found p (x ∷ xs) h =
    (elim (p x) as (λ b. p x ≡ b → cond b (Some x) (find p xs) ≡ None) [
      | true ↦ λ e. absurd (h x (inl refl) e)
      | false ↦ λ e. none_found p xs (λ y a f. h y (inr a) f)
    ]) refl

pub idle_process : (c : Config) (s boot calls process : ℕ) (now : Trace) (rows : List WaitingCall) → ((r : WaitingCall) → Among r rows → r.process ≡ process → ⊥) → Waits c s boot now calls rows → tree.waiting_of s process (waiting now) ≡ None
idle_process c s boot calls process now rows idle h = none_found (is_of s process) (waiting now) (λ x a t. by_test x a (both x t))
  where
    both : (x : Waiting) → is_of s process x ≡ true → (x.site ≡ s) × (x.process ≡ process)
    both x t = parts x.site x.process t
      where
        parts : (a b : ℕ) → ((a == s) && (b == process)) ≡ true → (a ≡ s) × (b ≡ process)
        parts a b t = (grind (arith, nat_tests), grind (arith, nat_tests))

    by_test : (x : Waiting) → Among x (waiting now) → (x.site ≡ s) × (x.process ≡ process) → ⊥
    by_test x a k = (let r : HasRow s boot x rows = h.there x a k.0 in idle r.0 r.1.0 (sym r.1.1.0 ∙ k.1))

numbered : (c : Config) (s boot calls : ℕ) (now : Trace) (rows : List WaitingCall) → Waits c s boot now calls rows → own_call s boot (calls + 1) ≡ next_call now s
numbered c s boot calls now rows h = same_id (sym h.boot_is) (ap (λ (k : ℕ). k + 1) (sym h.counted))
  where
    same_id : {a b n k : ℕ} → a ≡ b → n ≡ k → ◌≡◌ {A = CallId} (record { site = s; boot = a; n = n }) (record { site = s; boot = b; n = k })
    same_id e f = λ i. record { site = s; boot = e i; n = f i }

-- a mend is the process's own: it may go on beside others
abbrev pub Idle : ℕ → Call → List WaitingCall → Type 0
Idle process (call.Mend file) rows = Unit {0}
Idle process _ rows = (r : WaitingCall) → Among r rows → r.process ≡ process → ⊥

pub accept_row : (c : Config) (s boot calls process : ℕ) (now : Trace) (rows : List WaitingCall) (words : Call) → Idle process words rows → Waits c s boot now calls rows → AcceptedAs c now s process (own_call s boot (calls + 1)) words
accept_row c s boot calls process now rows (call.Mend file) idle h = numbered c s boot calls now rows h
accept_row c s boot calls process now rows (call.Create path sites) idle h = record { up = h.up; idle = idle_process c s boot calls process now rows idle h; numbered = numbered c s boot calls now rows h }
accept_row c s boot calls process now rows (call.MakeDir path) idle h = record { up = h.up; idle = idle_process c s boot calls process now rows idle h; numbered = numbered c s boot calls now rows h }
accept_row c s boot calls process now rows (call.Unlink path) idle h = record { up = h.up; idle = idle_process c s boot calls process now rows idle h; numbered = numbered c s boot calls now rows h }
accept_row c s boot calls process now rows (call.RemoveDir path) idle h = record { up = h.up; idle = idle_process c s boot calls process now rows idle h; numbered = numbered c s boot calls now rows h }
accept_row c s boot calls process now rows (call.Rename path name) idle h = record { up = h.up; idle = idle_process c s boot calls process now rows idle h; numbered = numbered c s boot calls now rows h }
accept_row c s boot calls process now rows (call.List path) idle h = record { up = h.up; idle = idle_process c s boot calls process now rows idle h; numbered = numbered c s boot calls now rows h }
accept_row c s boot calls process now rows (call.Stat path) idle h = record { up = h.up; idle = idle_process c s boot calls process now rows idle h; numbered = numbered c s boot calls now rows h }
accept_row c s boot calls process now rows (call.Mail path bytes) idle h = record { up = h.up; idle = idle_process c s boot calls process now rows idle h; numbered = numbered c s boot calls now rows h }
accept_row c s boot calls process now rows (call.Mails path) idle h = record { up = h.up; idle = idle_process c s boot calls process now rows idle h; numbered = numbered c s boot calls now rows h }
accept_row c s boot calls process now rows (call.Open path how) idle h = record { up = h.up; idle = idle_process c s boot calls process now rows idle h; numbered = numbered c s boot calls now rows h }
accept_row c s boot calls process now rows (call.Read fd at len) idle h = record { up = h.up; idle = idle_process c s boot calls process now rows idle h; numbered = numbered c s boot calls now rows h }
accept_row c s boot calls process now rows (call.Write fd at bytes) idle h = record { up = h.up; idle = idle_process c s boot calls process now rows idle h; numbered = numbered c s boot calls now rows h }
accept_row c s boot calls process now rows (call.Cut fd len) idle h = record { up = h.up; idle = idle_process c s boot calls process now rows idle h; numbered = numbered c s boot calls now rows h }
accept_row c s boot calls process now rows (call.Commit fd) idle h = record { up = h.up; idle = idle_process c s boot calls process now rows idle h; numbered = numbered c s boot calls now rows h }
accept_row c s boot calls process now rows (call.Abort fd) idle h = record { up = h.up; idle = idle_process c s boot calls process now rows idle h; numbered = numbered c s boot calls now rows h }
accept_row c s boot calls process now rows (call.Close fd) idle h = record { up = h.up; idle = idle_process c s boot calls process now rows idle h; numbered = numbered c s boot calls now rows h }

-- ---- the epoch is left: each row is answered ----

-- the calls that wait at the site have their rows among these
record Leaving (c : Config) (s boot : ℕ) (now : Trace) (calls : ℕ) (rows : List WaitingCall) : Type 0 where
  up : is_up c now s ≡ true
  boot_is : boot_of now s ≡ boot
  counted : calls_accepted now s ≡ calls
  there : (x : Waiting) → Among x (waiting now) → x.site ≡ s → HasRow s boot x rows

leaves_on : (c : Config) (s boot m calls : ℕ) (e : EpochId) (now : Trace) (rows : List WaitingCall) → Leaving c s boot now calls rows → Leaving c s boot (after m (changed_records s boot e rows) now) calls []
leaves_on c s boot m calls e now [] h = h
leaves_on c s boot m calls e now (w ∷ ws) h =
    leaves_on c s boot m calls e (with_told m (reply_record s boot w (reply.No (refusal.Changed e))) now) ws
    (record { up = h.up; boot_is = h.boot_is; counted = h.counted; there = λ x a f. (let k : Among x (waiting now) × (same_call x.call id ≡ false) = answered_old id now x a in by_row x k.1 (h.there x k.0 f)) })
  where
    id : CallId
    id = own_call s boot w.call

    by_row : (x : Waiting) → same_call x.call id ≡ false → HasRow s boot x (w ∷ ws) → HasRow s boot x ws
    by_row x n k = by_place k.0 k.1.0 k.1.1
      where
        by_place : (r : WaitingCall) → (r ≡ w) ⊎ Among r ws → Matches s boot x r → HasRow s boot x ws
        by_place r (inl p) m = absurd (true_false (sym (call_test x.call id (m.1 ∙ ap (λ (q : WaitingCall). own_call s boot q.call) p)) ∙ n))
        by_place r (inr a) m = (r, (a, m))

pub leave_waits : (c : Config) (s boot m calls : ℕ) (e : EpochId) (now : Trace) (rows : List WaitingCall) → Waits c s boot now calls rows → Waits c s boot (after m (changed_records s boot e rows) now) calls []
leave_waits c s boot m calls e now rows h =
    let k : Leaving c s boot (after m (changed_records s boot e rows) now) calls [] = leaves_on c s boot m calls e now rows (record { up = h.up; boot_is = h.boot_is; counted = h.counted; there = h.there }) in
    record {
      up = k.up;
      boot_is = k.boot_is;
      counted = k.counted;
      there = k.there;
      back = λ r a. absurd a;
      low = λ r a. absurd a;
      apart = λ r q a. absurd a;
      keyed = λ r a. absurd a;
    }
