-- A call of a user leaves the mends of a site as they are: those that wait stay, and so does what has no hope.
use Rattle.std.proofs.Common.{◌≡◌, ℕ, ◌+◌, ◌==◌, ◌<◌, ◌≤◌, nat_lt, arith, Bool, true, false, ◌||◌, List, [], ◌∷◌, Option, None, Some, refl, sym, ◌∙◌, subst}
use Rattle.std.specs.List.{list_any}
use Rattle.role_steps.proofs.of_plain_facts.Numbers.{equal}
use Rattle.role_steps.proofs.of_plain_facts.Tests.{true_false}
use Rattle.locus_ids.specs.declared.ids.EpochId.{EpochId}
use Rattle.trace_book.specs.declared.call.Call.{Call}
use Rattle.trace_book.specs.declared.call.Call.TheVariants as call
use Rattle.trace_book.specs.declared.descriptor.Beginning.{Beginning}
use Rattle.trace_book.specs.declared.descriptor.Beginning.TheVariants as begins
use Rattle.trace_book.specs.declared.operation.Op.{Op}
use Rattle.trace_book.specs.declared.reply.Reply.{Reply}
use Rattle.trace_book.specs.declared.reply.Reply.TheVariants as reply
use Rattle.call_rules.specs.declared.want.Want.{Want}
use Rattle.call_rules.specs.declared.want.Want.TheVariants as want
use Rattle.locus_ids.specs.declared.refusal.Refusal.{Refusal}
use Rattle.lawful_trace.specs.LineRows.{is_mend}
use Rattle.role_steps.specs.Mends.{has_mend_in, is_mend_in, mends_in}
use Rattle.role_steps.specs.Requests.{asks, asks_close_of, asks_op_of, user_instance, waiting_key, waiting_of, waiting_span, without_waiting}
use Rattle.role_steps.specs.Tables.{with_row, without_row}
use Rattle.role_steps.specs.Using.{after_reply, holds_again, asks_want, frees, goes_on, next_want, on_call, counted_users, counted_call, accepted_call, replies, without_hope}
use Rattle.role_steps.specs.Views.{Frame, Users}
use Rattle.role_steps.specs.declared.users.UserInstance.{UserInstance}
use Rattle.role_steps.specs.declared.users.WaitingCall.{WaitingCall}

-- the mends of a group that wait stay, and what has no hope stays
pub record KeepsMends (g : ℕ) (u n : Users) : Type 0 where
  pub hopeless : n.hopeless ≡ u.hopeless
  pub stays : has_mend_in u g ≡ true → has_mend_in n g ≡ true

then_keeps : (g : ℕ) (u n m : Users) → KeepsMends g u n → KeepsMends g n m → KeepsMends g u m
then_keeps g u n m h k = record { hopeless = k.hopeless ∙ h.hopeless; stays = λ e. k.stays (h.stays e) }

-- ---- rows ----

-- mends have their groups as keys
mend_key : (g process : ℕ) (words : Call) → mends_in g words ≡ true → waiting_of process words ≡ g
mend_key g process (call.Mend file) h = equal file.group g h
mend_key g process _ h = absurd (true_false (sym h))

other_key : (g : ℕ) (w y : WaitingCall) → (waiting_key w ≡ g → ⊥) → is_mend_in g y ≡ true → (waiting_key y == waiting_key w) ≡ true → ⊥
other_key g w y apart h e = apart (sym (equal (waiting_key y) (waiting_key w) e) ∙ mend_key g y.process y.words h)

second : (a b : Bool) → b ≡ true → (a || b) ≡ true
second true b e = refl
second false b e = e

put_stays : (g : ℕ) (w : WaitingCall) (xs : List WaitingCall) → (waiting_key w ≡ g → ⊥) → list_any (is_mend_in g) xs ≡ true → list_any (is_mend_in g) (with_row waiting_key w xs) ≡ true
put_stays g w [] apart h = absurd (true_false (sym h))
put_stays g w (y ∷ ys) apart h = by_order (nat_lt (waiting_key y) (waiting_key w)) (waiting_key y == waiting_key w) refl (put_stays g w ys apart) h
  where
    deeper : (a : Bool) → (list_any (is_mend_in g) ys ≡ true → list_any (is_mend_in g) (with_row waiting_key w ys) ≡ true) → (a || list_any (is_mend_in g) ys) ≡ true → (a || list_any (is_mend_in g) (with_row waiting_key w ys)) ≡ true
    deeper true f q = refl
    deeper false f q = f q

    replaced : (a : Bool) → is_mend_in g y ≡ a → (waiting_key y == waiting_key w) ≡ true → (a || list_any (is_mend_in g) ys) ≡ true → (is_mend_in g w || list_any (is_mend_in g) ys) ≡ true
    replaced true e k q = absurd (other_key g w y apart e k)
    replaced false e k q = second (is_mend_in g w) (list_any (is_mend_in g) ys) q

    by_order : (a b : Bool) → (waiting_key y == waiting_key w) ≡ b → (list_any (is_mend_in g) ys ≡ true → list_any (is_mend_in g) (with_row waiting_key w ys) ≡ true) → (is_mend_in g y || list_any (is_mend_in g) ys) ≡ true → list_any {X = WaitingCall} (is_mend_in g) (elim a [ true ↦ y ∷ with_row waiting_key w ys | false ↦ elim b [ true ↦ w ∷ ys | false ↦ w ∷ y ∷ ys ] ]) ≡ true
    by_order true b k f q = deeper (is_mend_in g y) f q
    by_order false true k f q = replaced (is_mend_in g y) refl k q
    by_order false false k f q = second (is_mend_in g w) (is_mend_in g y || list_any (is_mend_in g) ys) q

drop_stays : (g : ℕ) (w : WaitingCall) (xs : List WaitingCall) → (waiting_key w ≡ g → ⊥) → list_any (is_mend_in g) xs ≡ true → list_any (is_mend_in g) (without_row waiting_key (waiting_key w) xs) ≡ true
drop_stays g w [] apart h = h
drop_stays g w (y ∷ ys) apart h = by_key (waiting_key y == waiting_key w) refl (drop_stays g w ys apart) h
  where
    deeper : (a : Bool) → (list_any (is_mend_in g) ys ≡ true → list_any (is_mend_in g) (without_row waiting_key (waiting_key w) ys) ≡ true) → (a || list_any (is_mend_in g) ys) ≡ true → (a || list_any (is_mend_in g) (without_row waiting_key (waiting_key w) ys)) ≡ true
    deeper true f q = refl
    deeper false f q = f q

    dropped : (a : Bool) → is_mend_in g y ≡ a → (waiting_key y == waiting_key w) ≡ true → (a || list_any (is_mend_in g) ys) ≡ true → list_any (is_mend_in g) ys ≡ true
    dropped true e k q = absurd (other_key g w y apart e k)
    dropped false e k q = q

    by_key : (b : Bool) → (waiting_key y == waiting_key w) ≡ b → (list_any (is_mend_in g) ys ≡ true → list_any (is_mend_in g) (without_row waiting_key (waiting_key w) ys) ≡ true) → (is_mend_in g y || list_any (is_mend_in g) ys) ≡ true → list_any {X = WaitingCall} (is_mend_in g) (elim b [ true ↦ ys | false ↦ y ∷ without_row waiting_key (waiting_key w) ys ]) ≡ true
    by_key true k f q = dropped (is_mend_in g y) refl k q
    by_key false k f q = deeper (is_mend_in g y) f q

-- ---- a call goes on ----

asks_keep : (g : ℕ) (f : Frame) (w : WaitingCall) (u : Users) → (waiting_key w ≡ g → ⊥) → KeepsMends g u (asks f w u).view
asks_keep g f w u apart = record { hopeless = refl; stays = λ h. put_stays g w u.waiting apart h }

serials_keep : (g n : ℕ) (u : Users) → KeepsMends g u (record u { serials = n })
serials_keep g n u = record { hopeless = refl; stays = λ h. h }

op_keeps : (g : ℕ) (f : Frame) (w : WaitingCall) (o : Op) (i : Option UserInstance) (u : Users) → (waiting_key w ≡ g → ⊥) → KeepsMends g u (asks_op_of f w o i u).view
op_keeps g f w o None u apart = record { hopeless = refl; stays = λ h. h }
op_keeps g f w o (Some i) u apart = record { hopeless = refl; stays = λ h. put_stays g _ u.waiting apart h }

close_keeps : (g : ℕ) (f : Frame) (w : WaitingCall) (i : Option UserInstance) (u : Users) → (waiting_key w ≡ g → ⊥) → KeepsMends g u (asks_close_of f w i u).view
close_keeps g f w None u apart = record { hopeless = refl; stays = λ h. h }
close_keeps g f w (Some i) u apart = record { hopeless = refl; stays = λ h. put_stays g _ u.waiting apart h }

hope_same : (words : Call) (why : Refusal) (u : Users) → is_mend words ≡ false → without_hope words why u ≡ u
hope_same (call.Mend file) why u e = absurd (true_false e)
hope_same _ why u e = refl

again_keeps : (g : ℕ) (f : Frame) (w : WaitingCall) (b : Beginning) (words : Call) (u : Users) → KeepsMends g u (holds_again f w b words u)
again_keeps g f w (begins.Reopens version last) (call.Read fd at len) u = record { hopeless = refl; stays = λ h. h }
again_keeps g f w _ words u = record { hopeless = refl; stays = λ h. h }

reply_keeps : (g : ℕ) (f : Frame) (w : WaitingCall) (r : Reply) (u : Users) → is_mend w.words ≡ false → KeepsMends g u (after_reply f w r u)
reply_keeps g f w (reply.Opened fd) u e = record { hopeless = refl; stays = λ h. h }
reply_keeps g f w (reply.No why) u e = subst (KeepsMends g u) (sym (hope_same w.words why u e)) (record { hopeless = refl; stays = λ h. h })
reply_keeps g f w (reply.Data bytes) u e = again_keeps g f w w.begins w.words u
reply_keeps g f w _ u e = record { hopeless = refl; stays = λ h. h }

want_keeps : (g : ℕ) (f : Frame) (w : WaitingCall) (a : Want) (u : Users) → is_mend w.words ≡ false → (waiting_key w ≡ g → ⊥) → KeepsMends g u (asks_want f w a u).view
want_keeps g f w (want.Look file what) u e apart = asks_keep g f _ u apart
want_keeps g f w (want.Open file m) u e apart = record { hopeless = refl; stays = λ h. put_stays g _ u.waiting apart h }
want_keeps g f w (want.OpenToMend file) u e apart = record { hopeless = refl; stays = λ h. put_stays g _ u.waiting apart h }
want_keeps g f w (want.Make group kind sites) u e apart = record { hopeless = refl; stays = λ h. put_stays g _ u.waiting apart h }
want_keeps g f w (want.Do inst o) u e apart = op_keeps g f w o (user_instance u inst.serial) u apart
want_keeps g f w (want.Close inst) u e apart = close_keeps g f w (user_instance u inst.serial) u apart
want_keeps g f w (want.Give r) u e apart = then_keeps g u (without_waiting w u) (replies f w r u).view (record { hopeless = refl; stays = λ h. drop_stays g w u.waiting apart h }) (reply_keeps g f w r (without_waiting w u) e)
want_keeps g f w want.Never u e apart = record { hopeless = refl; stays = λ h. h }

frees_keep : (g process : ℕ) (words : Call) (u : Users) → KeepsMends g u (frees process words u)
frees_keep g process (call.Close fd) u = record { hopeless = refl; stays = λ h. h }
frees_keep g process _ u = record { hopeless = refl; stays = λ h. h }

user_key : (g process : ℕ) (words : Call) → is_mend words ≡ false → 1 ≤ process → g < waiting_span → waiting_of process words ≡ g → ⊥
user_key g process (call.Mend file) e low small same = true_false e
user_key g process _ e low small same = omega (arith, low, small, same)

pub call_keeps : (g : ℕ) (f : Frame) (now : Option EpochId) (process : ℕ) (words : Call) (u : Users) → is_mend words ≡ false → 1 ≤ process → g < waiting_span → KeepsMends g u (on_call f now process words u).view
call_keeps g f now process words u e low small =
    let counted : Users = counted_call f now process words u in
    let w : WaitingCall = accepted_call f now process words u in
    then_keeps g u counted (goes_on f w counted).view (then_keeps g u (counted_users f now process words u) counted (record { hopeless = refl; stays = λ h. h }) (frees_keep g process words (counted_users f now process words u)))
    (want_keeps g f w (next_want f w counted) counted e (user_key g process words e low small))
