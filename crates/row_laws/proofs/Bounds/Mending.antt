-- The mends that start at the end of an event: each sends one Open at most, and one starts in a group at most.
use Rattle.std.proofs.Common.{◌≡◌, ℕ, ◌+◌, ◌≤◌, ◌==◌, nat_lt, Bool, true, false, not, ◌&&◌, ◌||◌, cond, List, [], ◌∷◌, ◌++◌, Option, Some, None, refl, sym, ◌∙◌, ap, arith}
use Rattle.std.proofs.lemmas.Bool.Decides.{nat_tests}
use Rattle.std.specs.List.{list_any}
use Rattle.role_steps.proofs.of_plain_facts.Numbers.{apart, equal, equal_test}
use Rattle.role_steps.proofs.of_plain_facts.Tests.{or_first, or_second, true_false}
use Rattle.locus_ids.specs.declared.ids.FileId.{FileId}
use Rattle.locus_ids.specs.declared.refusal.Refusal.TheVariants.{NoStorage}
use Rattle.locus_ids.specs.declared.config.Config.{Config}
use Rattle.trace_book.specs.declared.call.Call.{Call}
use Rattle.trace_book.specs.declared.call.Call.TheVariants as call
use Rattle.trace_book.specs.declared.reply.Reply.TheVariants as reply
use Rattle.call_rules.specs.Descriptors.{beginning}
use Rattle.call_rules.specs.declared.want.Want.TheVariants as want
use Rattle.wire_messages.specs.declared.packet.Packet.{Packet}
use Rattle.wire_messages.specs.declared.body.Body.TheVariants as body
use Rattle.wire_messages.specs.declared.body.Opening.TheVariants as how
use Rattle.role_steps.specs.Tables.{with_row, without_row, first_that}
use Rattle.role_steps.specs.Views.{Frame, Users, SiteView, Outcome, quiet, to_some, sync_site}
use Rattle.role_steps.specs.Requests.{waiting_of, waiting_key, descriptors_of, next_request}
use Rattle.role_steps.specs.Using.{is_packed, asks_want, accepted, on_call, own_call}
use Rattle.role_steps.specs.Mends.{mends_in, is_mend_in, has_mend_in, wants_mend, row_file, starts_mend_of, starts_mend, starts_mends_in}
use Rattle.role_steps.specs.Epochs.{frame_in}
use Rattle.role_steps.specs.declared.rounds.InEpoch.{InEpoch}
use Rattle.role_steps.specs.declared.synchronizing.FileRow.{FileRow}
use Rattle.role_steps.specs.declared.synchronizing.SyncTable.{SyncTable}
use Rattle.role_steps.specs.declared.users.Asking.TheVariants as asking
use Rattle.role_steps.specs.declared.users.WaitingCall.{WaitingCall}
use Rattle.the_run.specs.Steps.{starts_mends_of}
use Rattle.row_laws.specs.Bounds.Deliveries.{opens_mend_in, serves_other, count}
use Rattle.row_laws.proofs.Bounds.Counting.{count_append}

-- ---- calls that wait ----

least : (n : ℕ) → 0 ≤ n
least n = omega arith

-- a mend of the group stands at the group's place
mend_key : (g process : ℕ) (words : Call) → mends_in g words ≡ true → waiting_of process words ≡ g
mend_key g process (call.Mend file) h = equal file.group g h
mend_key g process _ h = absurd (true_false (sym h))

-- a row that is put in is there
put_any : (test : WaitingCall → Bool) (x : WaitingCall) (ws : List WaitingCall) → test x ≡ true → list_any test (with_row waiting_key x ws) ≡ true
put_any test x [] h = or_first (test x) false h
put_any test x (y ∷ ys) h =
    elim (nat_lt (waiting_key y) (waiting_key x)) as (λ b. list_any test (elim b [ true ↦ y ∷ with_row waiting_key x ys | false ↦ elim (waiting_key y == waiting_key x) [ true ↦ x ∷ ys | false ↦ x ∷ y ∷ ys ] ]) ≡ true) [
      | true ↦ or_second (test y) (list_any test (with_row waiting_key x ys)) (put_any test x ys h)
      | false ↦ elim (waiting_key y == waiting_key x) as (λ b. list_any test (elim b [ true ↦ x ∷ ys | false ↦ x ∷ y ∷ ys ]) ≡ true) [ true ↦ or_first (test x) (list_any test ys) h | false ↦ or_first (test x) (list_any test (y ∷ ys)) h ]
    ]

-- of one of two a test is so
one_of : (a b : Bool) (P : Type 0) → (a || b) ≡ true → (a ≡ true → P) → (b ≡ true → P) → P
one_of true b P h f g = f refl
one_of false b P h f g = g h

-- a mend of another group stays where a row is put in, and where one is taken out
kept_put : (g : ℕ) (x : WaitingCall) (ws : List WaitingCall) → (waiting_key x ≡ g → ⊥) → list_any (is_mend_in g) ws ≡ true → list_any (is_mend_in g) (with_row waiting_key x ws) ≡ true
kept_put g x [] ne h = absurd (true_false (sym h))
kept_put g x (y ∷ ys) ne h =
    elim (nat_lt (waiting_key y) (waiting_key x)) as (λ b. list_any (is_mend_in g) (elim b [ true ↦ y ∷ with_row waiting_key x ys | false ↦ elim (waiting_key y == waiting_key x) [ true ↦ x ∷ ys | false ↦ x ∷ y ∷ ys ] ]) ≡ true) [
      | true ↦ one_of (is_mend_in g y) (list_any (is_mend_in g) ys) _ h
          (λ m. or_first (is_mend_in g y) (list_any (is_mend_in g) (with_row waiting_key x ys)) m)
          (λ m. or_second (is_mend_in g y) (list_any (is_mend_in g) (with_row waiting_key x ys)) (kept_put g x ys ne m))
      | false ↦ (elim (waiting_key y == waiting_key x) as (λ b. (waiting_key y == waiting_key x) ≡ b → list_any (is_mend_in g) (elim b [ true ↦ x ∷ ys | false ↦ x ∷ y ∷ ys ]) ≡ true) [
        | true ↦ λ e. or_second (is_mend_in g x) (list_any (is_mend_in g) ys) (one_of (is_mend_in g y) (list_any (is_mend_in g) ys) _ h (λ m. absurd (ne (sym (equal (waiting_key y) (waiting_key x) e) ∙ mend_key g y.process y.words m))) (λ m. m))
        | false ↦ λ e. or_second (is_mend_in g x) (list_any (is_mend_in g) (y ∷ ys)) h
      ]) refl
    ]

kept_without : (g k : ℕ) (ws : List WaitingCall) → (k ≡ g → ⊥) → list_any (is_mend_in g) ws ≡ true → list_any (is_mend_in g) (without_row waiting_key k ws) ≡ true
kept_without g k [] ne h = h
kept_without g k (y ∷ ys) ne h =
    (elim (waiting_key y == k) as (λ b. (waiting_key y == k) ≡ b → list_any (is_mend_in g) (elim b [ true ↦ ys | false ↦ y ∷ without_row waiting_key k ys ]) ≡ true) [
      | true ↦ λ e. one_of (is_mend_in g y) (list_any (is_mend_in g) ys) _ h (λ m. absurd (ne (sym (equal (waiting_key y) k e) ∙ mend_key g y.process y.words m))) (λ m. m)
      | false ↦ λ e. one_of (is_mend_in g y) (list_any (is_mend_in g) ys) _ h
          (λ m. or_first (is_mend_in g y) (list_any (is_mend_in g) (without_row waiting_key k ys)) m)
          (λ m. or_second (is_mend_in g y) (list_any (is_mend_in g) (without_row waiting_key k ys)) (kept_without g k ys ne m))
    ]) refl

-- ---- what is sent, and what waits then ----

-- 1 where a mend of the group waits
abbrev waits : Users → ℕ → ℕ
waits u g = cond (has_mend_in u g) 1 0

-- no packet serves another call, and each Open of a mend in a group has a mend of it wait that didn't before
record Mended (u now : Users) (ps : List Packet) : Type 0 where
  calls : count serves_other ps ≡ 0
  mends : (g : ℕ) → count (opens_mend_in g) ps + waits u g ≤ waits now g

mended_none : (u : Users) → Mended u u []
mended_none u = record { calls = refl; mends = λ g. omega arith }

mended_then : (u now then : Users) (ps qs : List Packet) → Mended u now ps → Mended now then qs → Mended u then (ps ++ qs)
mended_then u now then ps qs h g = record {
  calls = (let e : count serves_other (ps ++ qs) ≡ count serves_other ps + count serves_other qs = count_append serves_other ps qs in let a : count serves_other ps ≡ 0 = h.calls in let b : count serves_other qs ≡ 0 = g.calls in omega (arith, e, a, b));
  mends = λ k. (let e : count (opens_mend_in k) (ps ++ qs) ≡ count (opens_mend_in k) ps + count (opens_mend_in k) qs = count_append (opens_mend_in k) ps qs in let a : count (opens_mend_in k) ps + waits u k ≤ waits now k = h.mends k in let b : count (opens_mend_in k) qs + waits now k ≤ waits then k = g.mends k in omega (arith, e, a, b));
}

at_most_one : (b : Bool) → cond b 1 0 ≤ 1
at_most_one true = omega arith
at_most_one false = omega arith

-- what waits still waits
still_waits : (u now : Users) (g : ℕ) → (has_mend_in u g ≡ true → has_mend_in now g ≡ true) → waits u g ≤ waits now g
still_waits u now g h = by_test (has_mend_in u g) (has_mend_in now g) h
  where
    by_test : (a b : Bool) → (a ≡ true → b ≡ true) → cond a 1 0 ≤ cond b 1 0
    by_test true true h = omega arith
    by_test true false h = absurd (true_false (sym (h refl)))
    by_test false b h = omega arith

-- ---- one mend ----

-- the Open of a mend in this group
open_counts : (f : Frame) (g serial n process request : ℕ) (file : FileId) (o : Option ℕ) → count (opens_mend_in g) (to_some f (body.Open serial n process request file how.Mend) o) ≤ cond (file.group == g) 1 0
open_counts f g serial n process request file None = omega arith
open_counts f g serial n process request file (Some to) = omega arith

open_serves : (f : Frame) (serial n process request : ℕ) (file : FileId) (o : Option ℕ) → count serves_other (to_some f (body.Open serial n process request file how.Mend) o) ≡ 0
open_serves f serial n process request file None = refl
open_serves f serial n process request file (Some to) = refl

mend_starts : (f : Frame) (file : FileId) (u : Users) → has_mend_in u file.group ≡ false → Mended u (on_call f (Some f.epoch) 0 (call.Mend file) u).view (on_call f (Some f.epoch) 0 (call.Mend file) u).sent
mend_starts f file u none = by_pack (is_packed f file.group)
  where
    started : Users
    started = record u { calls = u.calls + 1 }

    w : WaitingCall
    w = accepted 0 (u.calls + 1) (call.Mend file) (beginning (descriptors_of u 0) (Some f.epoch) (own_call f.me f.boot (u.calls + 1)) (call.Mend file))

    asked : Bool → Outcome Users
    asked b = asks_want f w (cond b (want.OpenToMend file) (want.Give (reply.No NoStorage))) started

    by_group : (now : Users) (g n : ℕ) → n ≤ cond (file.group == g) 1 0 → (file.group ≡ g → n + 0 ≤ waits now g) → ((file.group ≡ g → ⊥) → has_mend_in u g ≡ true → has_mend_in now g ≡ true) → n + waits u g ≤ waits now g
    by_group now g n le same other =
        (elim (file.group == g) as (λ t. (file.group == g) ≡ t → n ≤ cond t 1 0 → n + waits u g ≤ waits now g) [
          | true ↦ λ e l. (let s : file.group ≡ g = equal file.group g e in let k : n + 0 ≤ waits now g = same s in let z : waits u g ≡ 0 = ap (λ (b : Bool). cond b 1 0) (ap (has_mend_in u) (sym s) ∙ none) in omega (arith, k, z))
          | false ↦ λ e l. (let k : waits u g ≤ waits now g = still_waits u now g (other (apart file.group g e)) in let none_sent : n ≤ 0 = l in omega (arith, k, none_sent))
        ]) refl le

    -- the call that waits for its directory to be opened
    opening : WaitingCall
    opening = next_request w (asking.Open (u.serials + 1) file how.Mend)

    by_pack : (b : Bool) → Mended u (asked b).view (asked b).sent
    by_pack true = record {
      calls = open_serves f (u.serials + 1) (u.calls + 1) 0 1 file (sync_site f.config f.members file.group);
      mends = λ g. by_group (asked true).view g (count (opens_mend_in g) (asked true).sent) (open_counts f g (u.serials + 1) (u.calls + 1) 0 1 file (sync_site f.config f.members file.group))
          (λ s. (let l : count (opens_mend_in g) (asked true).sent ≤ cond (file.group == g) 1 0 = open_counts f g (u.serials + 1) (u.calls + 1) 0 1 file (sync_site f.config f.members file.group) in
          let m : cond (file.group == g) 1 0 ≤ 1 = at_most_one (file.group == g) in
          let k : waits (asked true).view g ≡ 1 = ap (λ (b : Bool). cond b 1 0) (put_any (is_mend_in g) opening u.waiting (equal_test file.group g s)) in
          omega (arith, l, m, k)))
          (λ ne h. kept_put g opening u.waiting ne h);
    }
    by_pack false = record { calls = refl; mends = λ g. by_group (asked false).view g 0 (least (cond (file.group == g) 1 0)) (λ s. least (waits (asked false).view g)) (λ ne h. kept_without g file.group u.waiting ne h) }

mend_of : (f : Frame) (t : SyncTable) (o : Option FileRow) (v : SiteView) → has_mend_in v.users t.group ≡ false → Mended v.users (starts_mend_of f t o v).view.users (starts_mend_of f t o v).sent
mend_of f t None v none = mended_none v.users
mend_of f t (Some r) v none = mend_starts f (row_file t r) v.users none

starts_mended : (f : Frame) (t : SyncTable) (v : SiteView) → Mended v.users (starts_mend f t v).view.users (starts_mend f t v).sent
starts_mended f t v = by_test t.started (has_mend_in v.users t.group) refl
  where
    starts : Bool → Outcome SiteView
    starts b = elim b [ true ↦ starts_mend_of f t (first_that (wants_mend v t) t.files) v | false ↦ quiet v ]

    by_test : (a b : Bool) → has_mend_in v.users t.group ≡ b → Mended v.users (starts (a && not b)).view.users (starts (a && not b)).sent
    by_test false b e = mended_none v.users
    by_test true true e = mended_none v.users
    by_test true false e = mend_of f t (first_that (wants_mend v t) t.files) v e

mends_mended : (f : Frame) (ts : List SyncTable) (v : SiteView) → Mended v.users (starts_mends_in f ts v).view.users (starts_mends_in f ts v).sent
mends_mended f [] v = mended_none v.users
mends_mended f (t ∷ ts) v = mended_then v.users (starts_mend f t v).view.users (starts_mends_in f ts (starts_mend f t v).view).view.users (starts_mend f t v).sent (starts_mends_in f ts (starts_mend f t v).view).sent (starts_mended f t v) (mends_mended f ts (starts_mend f t v).view)

mends_of_mended : (c : Config) (me : ℕ) (e : Option InEpoch) (v : SiteView) → Mended v.users (starts_mends_of c me e v).view.users (starts_mends_of c me e v).sent
mends_of_mended c me None v = mended_none v.users
mends_of_mended c me (Some e) v = mends_mended (frame_in c me v.boot e) v.tables v

-- no packet serves another call, and at most one Open of a mend is sent in a group
pub mends_sent : (c : Config) (me : ℕ) (e : Option InEpoch) (v : SiteView) → (count serves_other (starts_mends_of c me e v).sent ≡ 0) × ((g : ℕ) → count (opens_mend_in g) (starts_mends_of c me e v).sent ≤ 1)
mends_sent c me e v = (m.calls, λ g. (let a : count (opens_mend_in g) (starts_mends_of c me e v).sent + waits v.users g ≤ waits (starts_mends_of c me e v).view.users g = m.mends g in let b : waits (starts_mends_of c me e v).view.users g ≤ 1 = at_most_one (has_mend_in (starts_mends_of c me e v).view.users g) in omega (arith, a, b)))
  where
    m : Mended v.users (starts_mends_of c me e v).view.users (starts_mends_of c me e v).sent
    m = mends_of_mended c me e v
