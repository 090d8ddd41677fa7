-- What a using site asks as a call goes on: a call that waits then waited before, or the packet of its request is sent.
use Rattle.std.proofs.Common.{◌≡◌, ℕ, ◌==◌, nat_lt, ◌⊎◌, Bool, true, false, cond, not, ◌&&◌, List, [], ◌∷◌, ◌++◌, Option, Some, None, refl, ◌∙◌, ◌+◌, ap, subst, inl, inr}
use Rattle.locus_ids.specs.declared.ids.EpochId.{EpochId}
use Rattle.trace_book.specs.declared.call.Call.{Call}
use Rattle.trace_book.specs.declared.call.Call.TheVariants as call
use Rattle.trace_book.specs.declared.descriptor.Beginning.{Beginning}
use Rattle.trace_book.specs.declared.descriptor.Beginning.TheVariants as begins
use Rattle.trace_book.specs.declared.operation.Op.{Op}
use Rattle.trace_book.specs.declared.reply.Reply.{Reply}
use Rattle.trace_book.specs.declared.reply.Reply.TheVariants as reply
use Rattle.call_rules.specs.declared.want.Want.{Want}
use Rattle.call_rules.specs.declared.want.Want.TheVariants as want
use Rattle.locus_ids.specs.declared.refusal.Refusal.{Refusal}
use Rattle.wire_messages.specs.declared.packet.Packet.{Packet}
use Rattle.role_steps.specs.Tables.{with_row, first_that}
use Rattle.role_steps.specs.Views.{Frame, Users, SiteView, Outcome, quiet}
use Rattle.role_steps.specs.Requests.{waiting_key, user_instance, with_user_instance, without_waiting, request_packets, asks, asks_op_of, asks_close_of}
use Rattle.role_steps.specs.Using.{is_hopeless, without_hope, after_reply, holds_again, replies, asks_want, next_want, goes_on, frees, on_call, counted_users, counted_call, accepted_call}
use Rattle.role_steps.specs.Mends.{starts_mend_of, starts_mend, starts_mends_in, starts_mends, has_mend_in, wants_mend, row_file}
use Rattle.role_steps.specs.declared.synchronizing.FileRow.{FileRow}
use Rattle.role_steps.specs.declared.synchronizing.SyncTable.{SyncTable}
use Rattle.role_steps.specs.declared.users.UserInstance.{UserInstance}
use Rattle.role_steps.specs.declared.users.WaitingCall.{WaitingCall}
use Rattle.the_run.specs.Kept.{Among}
use Rattle.row_laws.proofs.Orderly.Formed.{among_left, among_right}
use Rattle.row_laws.proofs.Orderly.Numbers.{left_without}

-- the packets of its request are all sent
abbrev pub IsSent : Frame → WaitingCall → List Packet → Type 0
IsSent f y sent = (p : Packet) → Among p (request_packets f y y.asking) → Among p sent

-- each call that waits then waited before, or its request is sent
abbrev pub CallsAsk : Frame → List WaitingCall → List WaitingCall → List Packet → Type 0
CallsAsk f old new sent = (y : WaitingCall) → Among y new → Among y old ⊎ IsSent f y sent

pub calls_itself : (f : Frame) (xs : List WaitingCall) (sent : List Packet) → CallsAsk f xs xs sent
calls_itself f xs sent y a = inl a

pub calls_then : (f : Frame) (a b d : List WaitingCall) (p q : List Packet) → CallsAsk f a b p → CallsAsk f b d q → CallsAsk f a d (p ++ q)
calls_then f a b d p q h g y m = over (g y m)
  where
    before : Among y a ⊎ IsSent f y p → Among y a ⊎ IsSent f y (p ++ q)
    before (inl k) = inl k
    before (inr k) = inr (λ z n. among_left z p q (k z n))

    over : Among y b ⊎ IsSent f y q → Among y a ⊎ IsSent f y (p ++ q)
    over (inl k) = before (h y k)
    over (inr k) = inr (λ z n. among_right z p q (k z n))

pub calls_wider : (f : Frame) (a b : List WaitingCall) (p q : List Packet) → ((z : Packet) → Among z p → Among z q) → CallsAsk f a b p → CallsAsk f a b q
calls_wider f a b p q w h y m = over (h y m)
  where
    over : Among y a ⊎ IsSent f y p → Among y a ⊎ IsSent f y q
    over (inl k) = inl k
    over (inr k) = inr (λ z n. w z (k z n))

-- ---- rows ----

row_among : {A : Type 0} (key : A → ℕ) (x y : A) (xs : List A) → Among y (with_row key x xs) → (y ≡ x) ⊎ Among y xs
row_among key x y [] (inl e) = inl e
row_among key x y [] (inr h) = absurd h
row_among {A = A} key x y (z ∷ zs) h = by_order (nat_lt (key z) (key x)) (key z == key x) (λ k. row_among key x y zs k) h
  where
    over : (y ≡ x) ⊎ Among y zs → (y ≡ x) ⊎ Among y (z ∷ zs)
    over (inl e) = inl e
    over (inr m) = inr (inr m)

    by_order : (a b : Bool) → (Among y (with_row key x zs) → (y ≡ x) ⊎ Among y zs) → Among {A = A} y (elim a [ true ↦ z ∷ with_row key x zs | false ↦ elim b [ true ↦ x ∷ zs | false ↦ x ∷ z ∷ zs ] ]) → (y ≡ x) ⊎ Among y (z ∷ zs)
    by_order true b f (inl e) = inr (inl e)
    by_order true b f (inr k) = over (f k)
    by_order false true f (inl e) = inl e
    by_order false true f (inr k) = inr (inr k)
    by_order false false f (inl e) = inl e
    by_order false false f (inr k) = inr k

-- ---- what is asked next ----

pub asks_calls : (f : Frame) (w : WaitingCall) (u : Users) → CallsAsk f u.waiting (asks f w u).view.waiting (asks f w u).sent
asks_calls f w u y m = over (row_among waiting_key w y u.waiting m)
  where
    over : (y ≡ w) ⊎ Among y u.waiting → Among y u.waiting ⊎ IsSent f y (request_packets f w w.asking)
    over (inl e) = inr (λ p a. subst (λ (x : WaitingCall). Among p (request_packets f x x.asking)) e a)
    over (inr k) = inl k

hope_waiting : (words : Call) (why : Refusal) (u : Users) → (without_hope words why u).waiting ≡ u.waiting
hope_waiting (call.Mend file) why u = elim (is_hopeless why) as (λ b. (cond b (record u { hopeless = u.hopeless ++ file ∷ [] }) u).waiting ≡ u.waiting) [ true ↦ refl | false ↦ refl ]
hope_waiting _ why u = refl

again_waiting : (f : Frame) (w : WaitingCall) (b : Beginning) (words : Call) (u : Users) → (holds_again f w b words u).waiting ≡ u.waiting
again_waiting f w (begins.Reopens version last) (call.Read fd at len) u = refl
again_waiting f w _ words u = refl

reply_waiting : (f : Frame) (w : WaitingCall) (r : Reply) (u : Users) → (after_reply f w r u).waiting ≡ u.waiting
reply_waiting f w (reply.Opened fd) u = refl
reply_waiting f w (reply.No why) u = hope_waiting w.words why u
reply_waiting f w (reply.Data bytes) u = again_waiting f w w.begins w.words u
reply_waiting f w _ u = refl

replies_calls : (f : Frame) (w : WaitingCall) (r : Reply) (u : Users) → CallsAsk f u.waiting (replies f w r u).view.waiting (replies f w r u).sent
replies_calls f w r u y m = inl (left_without waiting_key (waiting_key w) u.waiting y (subst (λ (xs : List WaitingCall). Among y xs) (reply_waiting f w r (without_waiting w u)) m))

op_calls : (f : Frame) (w : WaitingCall) (o : Op) (i : Option UserInstance) (u : Users) → CallsAsk f u.waiting (asks_op_of f w o i u).view.waiting (asks_op_of f w o i u).sent
op_calls f w o None u y m = inl m
op_calls f w o (Some i) u y m = asks_calls f _ (with_user_instance (record i { ops = i.ops + 1 }) u) y m

close_calls : (f : Frame) (w : WaitingCall) (i : Option UserInstance) (u : Users) → CallsAsk f u.waiting (asks_close_of f w i u).view.waiting (asks_close_of f w i u).sent
close_calls f w None u y m = inl m
close_calls f w (Some i) u y m = asks_calls f _ u y m

want_calls : (f : Frame) (w : WaitingCall) (a : Want) (u : Users) → CallsAsk f u.waiting (asks_want f w a u).view.waiting (asks_want f w a u).sent
want_calls f w (want.Look file what) u y m = asks_calls f _ u y m
want_calls f w (want.Open file m) u y k = asks_calls f _ (record u { serials = u.serials + 1 }) y k
want_calls f w (want.OpenToMend file) u y m = asks_calls f _ (record u { serials = u.serials + 1 }) y m
want_calls f w (want.Make group kind sites) u y m = asks_calls f _ (record u { serials = u.serials + 1 }) y m
want_calls f w (want.Do inst o) u y m = op_calls f w o (user_instance u inst.serial) u y m
want_calls f w (want.Close inst) u y m = close_calls f w (user_instance u inst.serial) u y m
want_calls f w (want.Give r) u y m = replies_calls f w r u y m
want_calls f w want.Never u y m = inl m

pub goes_calls : (f : Frame) (w : WaitingCall) (u : Users) → CallsAsk f u.waiting (goes_on f w u).view.waiting (goes_on f w u).sent
goes_calls f w u = want_calls f w (next_want f w u) u

pub frees_waiting : (process : ℕ) (words : Call) (u : Users) → (frees process words u).waiting ≡ u.waiting
frees_waiting process (call.Close fd) u = refl
frees_waiting process _ u = refl

call_calls : (f : Frame) (now : Option EpochId) (process : ℕ) (words : Call) (u : Users) → CallsAsk f u.waiting (on_call f now process words u).view.waiting (on_call f now process words u).sent
call_calls f now process words u y m = over (goes_calls f (accepted_call f now process words u) (counted_call f now process words u) y m)
  where
    over : Among y (counted_call f now process words u).waiting ⊎ IsSent f y (on_call f now process words u).sent → Among y u.waiting ⊎ IsSent f y (on_call f now process words u).sent
    over (inl k) = inl (subst (λ (xs : List WaitingCall). Among y xs) (frees_waiting process words (counted_users f now process words u)) k)
    over (inr k) = inr k

-- ---- mends that start ----

-- only the calls of a site change, and each new one asks
pub record OnlyCalls (f : Frame) (v : SiteView) (o : Outcome SiteView) : Type 0 where
  pub same : o.view ≡ record v { users = o.view.users }
  pub calls : CallsAsk f v.users.waiting o.view.users.waiting o.sent

mend_of_calls : (f : Frame) (t : SyncTable) (r : Option FileRow) (v : SiteView) → OnlyCalls f v (starts_mend_of f t r v)
mend_of_calls f t None v = record { same = refl; calls = calls_itself f v.users.waiting [] }
mend_of_calls f t (Some r) v = record { same = refl; calls = call_calls f (Some f.epoch) 0 (call.Mend (row_file t r)) v.users }

mend_calls : (f : Frame) (t : SyncTable) (v : SiteView) → OnlyCalls f v (starts_mend f t v)
mend_calls f t v = elim (t.started && not (has_mend_in v.users t.group)) as (λ b. OnlyCalls f v (elim b [ true ↦ starts_mend_of f t (first_that (wants_mend v t) t.files) v | false ↦ quiet v ])) [
  | true ↦ mend_of_calls f t (first_that (wants_mend v t) t.files) v
  | false ↦ record { same = refl; calls = calls_itself f v.users.waiting [] }
]

mends_in_calls : (f : Frame) (ts : List SyncTable) (v : SiteView) → OnlyCalls f v (starts_mends_in f ts v)
mends_in_calls f [] v = record { same = refl; calls = calls_itself f v.users.waiting [] }
mends_in_calls f (t ∷ ts) v =
    let o : Outcome SiteView = starts_mend f t v in
    let h : OnlyCalls f v o = mend_calls f t v in
    let g : OnlyCalls f o.view (starts_mends_in f ts o.view) = mends_in_calls f ts o.view in
    record {
      same = g.same ∙ ap (λ (u : SiteView). record u { users = (starts_mends_in f ts o.view).view.users }) h.same;
      calls = calls_then f v.users.waiting o.view.users.waiting (starts_mends_in f ts o.view).view.users.waiting o.sent (starts_mends_in f ts o.view).sent h.calls g.calls;
    }

pub mends_calls : (f : Frame) (v : SiteView) → OnlyCalls f v (starts_mends f v)
mends_calls f v = mends_in_calls f v.tables v
