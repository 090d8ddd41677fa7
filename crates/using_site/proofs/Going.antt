-- A call goes on while its row is taken out of the table of waiting calls.
use Rattle.std.proofs.Common.{◌≡◌, ℕ, List, [], ◌∷◌, ◌++◌, Some, sym, ap, ◌∙◌}
use Rattle.std.proofs.lemmas.List.{append-nil}
use Rattle.trace_book.specs.declared.record.Record.{Record}
use Rattle.trace_book.specs.declared.reply.Reply.{Reply}
use Rattle.call_rules.specs.declared.want.Want.{Want}
use Rattle.wire_messages.specs.declared.packet.Packet.{Packet}
use Rattle.role_steps.specs.Tables.{row, with_row, without_row}
use Rattle.role_steps.specs.Views.{Frame, Users, Outcome}
use Rattle.role_steps.specs.Requests.{waiting_key, asks, next_request}
use Rattle.role_steps.specs.Using.{after_reply, asks_want, goes_on, next_want, reply_record}
use Rattle.role_steps.specs.declared.users.Asking.{Asking}
use Rattle.role_steps.specs.declared.users.WaitingCall.{WaitingCall}
use Rattle.site_frame.specs.Printed.{printed}
use Rattle.keyed_tables.specs.Rising.{Rising}
use Rattle.waiting_calls.specs.declared.step.Step.{Step}
use Rattle.waiting_calls.specs.declared.step.Step.TheVariants.{Asks, Replies, Stays}
use Rattle.waiting_calls.specs.Steps.{after_step}
use Rattle.using_site.proofs.Taken.{put_back, put_over}

abbrev pub with_waiting_rows : List WaitingCall → Users → Users
with_waiting_rows all u = record u { waiting = all }

-- the users before the call goes on, those without its row, and those once its step is taken
pub record Gone (f : Frame) (u u1 u2 : Users) (key : ℕ) (w : WaitingCall) (want : Want) (s : Step) : Type 0 where
  pub rising : Rising waiting_key u.waiting
  pub key_is : waiting_key w ≡ key
  pub out : u1 ≡ with_waiting_rows (without_row waiting_key key u.waiting) u
  pub next : want ≡ next_want f w u1
  pub step : (all : List WaitingCall) → after_step f w s (with_waiting_rows all u2) ≡ asks_want f w want (with_waiting_rows all u1)
  pub same : u2.waiting ≡ u1.waiting

next_of : (f : Frame) (w : WaitingCall) (u u1 : Users) (all : List WaitingCall) → u1 ≡ with_waiting_rows all u → next_want f w u1 ≡ next_want f w u
next_of f w u u1 all e = ap (next_want f w) e

back : (u u1 : Users) (all : List WaitingCall) → u1 ≡ with_waiting_rows all u → with_waiting_rows u.waiting u1 ≡ u
back u u1 all e = ap (with_waiting_rows u.waiting) e

-- the step tells what the call goes on to
pub goes : {f : Frame} {u u1 u2 : Users} {key : ℕ} {w : WaitingCall} {want : Want} {s : Step} → Gone f u u1 u2 key w want s → goes_on f w u ≡ after_step f w s (with_waiting_rows u.waiting u2)
goes {f = f} {u = u} {u1 = u1} {u2 = u2} {key = key} {w = w} {want = want} {s = s} g =
    sym (g.step u.waiting
    ∙ (ap (λ (v : Want). asks_want f w v (with_waiting_rows u.waiting u1)) (g.next ∙ next_of f w u u1 _ g.out)
    ∙ ap (asks_want f w (next_want f w u)) (back u u1 _ g.out)))

waiting_left : {f : Frame} {u u1 u2 : Users} {key : ℕ} {w : WaitingCall} {want : Want} {s : Step} → Gone f u u1 u2 key w want s → u2.waiting ≡ without_row waiting_key key u.waiting
waiting_left g = g.same ∙ ap (λ (v : Users). v.waiting) g.out

pub asked_view : {f : Frame} {u u1 u2 u3 : Users} {key : ℕ} {w : WaitingCall} {want : Want} {a : Asking} → Gone f u u1 u2 key w want (Asks a) → u3 ≡ (asks f (next_request w a) u2).view → u3 ≡ (goes_on f w u).view
asked_view {f = f} {u = u} {u2 = u2} {key = key} {w = w} {a = a} g e =
    e ∙ (ap (λ (all : List WaitingCall). with_waiting_rows all u2) (ap (with_row waiting_key (next_request w a)) (waiting_left g) ∙ put_over waiting_key key (next_request w a) u.waiting g.rising g.key_is)
    ∙ sym (ap (λ (o : Outcome Users). o.view) (goes g)))

pub asked_sent : {f : Frame} {u u1 u2 : Users} {key : ℕ} {w : WaitingCall} {want : Want} {a : Asking} {new : List Packet} (old : List Packet) → Gone f u u1 u2 key w want (Asks a) → new ≡ old ++ (asks f (next_request w a) u2).sent → new ≡ old ++ (goes_on f w u).sent
asked_sent old g e = e ∙ ap (λ ps. old ++ ps) (sym (ap (λ (o : Outcome Users). o.sent) (goes g)))

pub asked_told : {f : Frame} {u u1 u2 : Users} {key : ℕ} {w : WaitingCall} {want : Want} {a : Asking} {new old : List Record} → Gone f u u1 u2 key w want (Asks a) → new ≡ old → new ≡ old ++ printed (goes_on f w u).told
asked_told {old = old} g e = e ∙ (sym (append-nil old) ∙ ap (λ rs. old ++ rs) (sym (ap (λ (o : Outcome Users). printed o.told) (goes g))))

rows_again : (u : Users) (all : List WaitingCall) → u.waiting ≡ all → with_waiting_rows all u ≡ u
rows_again u all e = ap (λ (ws : List WaitingCall). with_waiting_rows ws u) (sym e)

pub replied_view : {f : Frame} {u u1 u2 u3 : Users} {key : ℕ} {w : WaitingCall} {want : Want} {r : Reply} → Gone f u u1 u2 key w want (Replies r) → u3 ≡ after_reply f w r u2 → u3 ≡ (goes_on f w u).view
replied_view {f = f} {u = u} {u2 = u2} {key = key} {w = w} {r = r} g e =
    e ∙ (ap (after_reply f w r) (sym (rows_again u2 (without_row waiting_key key u.waiting) (waiting_left g)))
    ∙ (ap (λ (k : ℕ). after_reply f w r (with_waiting_rows (without_row waiting_key k u.waiting) u2)) (sym g.key_is)
    ∙ sym (ap (λ (o : Outcome Users). o.view) (goes g))))

pub replied_sent : {f : Frame} {u u1 u2 : Users} {key : ℕ} {w : WaitingCall} {want : Want} {r : Reply} {new old : List Packet} → Gone f u u1 u2 key w want (Replies r) → new ≡ old → new ≡ old ++ (goes_on f w u).sent
replied_sent {old = old} g e = e ∙ (sym (append-nil old) ∙ ap (λ ps. old ++ ps) (sym (ap (λ (o : Outcome Users). o.sent) (goes g))))

pub replied_told : {f : Frame} {u u1 u2 : Users} {key : ℕ} {w : WaitingCall} {want : Want} {r : Reply} {new : List Record} (old : List Record) → Gone f u u1 u2 key w want (Replies r) → new ≡ old ++ printed (reply_record f.me f.boot w r ∷ []) → new ≡ old ++ printed (goes_on f w u).told
replied_told old g e = e ∙ ap (λ rs. old ++ rs) (sym (ap (λ (o : Outcome Users). printed o.told) (goes g)))

pub stayed_view : {f : Frame} {u u1 u2 u3 : Users} {key : ℕ} {w before : WaitingCall} {want : Want} → Gone f u u1 u2 key w want Stays → row waiting_key key u.waiting ≡ Some before → u3 ≡ with_waiting_rows (with_row waiting_key before u2.waiting) u2 → u3 ≡ (goes_on f w u).view
stayed_view {u = u} {u2 = u2} {key = key} {before = before} g r e =
    e ∙ (ap (λ (all : List WaitingCall). with_waiting_rows all u2) (ap (with_row waiting_key before) (waiting_left g) ∙ put_back waiting_key key before u.waiting g.rising r)
    ∙ sym (ap (λ (o : Outcome Users). o.view) (goes g)))

pub stayed_sent : {f : Frame} {u u1 u2 : Users} {key : ℕ} {w : WaitingCall} {want : Want} {new old : List Packet} → Gone f u u1 u2 key w want Stays → new ≡ old → new ≡ old ++ (goes_on f w u).sent
stayed_sent {old = old} g e = e ∙ (sym (append-nil old) ∙ ap (λ ps. old ++ ps) (sym (ap (λ (o : Outcome Users). o.sent) (goes g))))

pub stayed_told : {f : Frame} {u u1 u2 : Users} {key : ℕ} {w : WaitingCall} {want : Want} {new old : List Record} → Gone f u u1 u2 key w want Stays → new ≡ old → new ≡ old ++ printed (goes_on f w u).told
stayed_told {old = old} g e = e ∙ (sym (append-nil old) ∙ ap (λ rs. old ++ rs) (sym (ap (λ (o : Outcome Users). printed o.told) (goes g))))

-- ---- a call that has no row yet ----

-- the users before the call goes on, and those once its step is taken
pub record Begun (f : Frame) (u u2 : Users) (w : WaitingCall) (want : Want) (s : Step) : Type 0 where
  pub next : want ≡ next_want f w u
  pub step : (all : List WaitingCall) → after_step f w s (with_waiting_rows all u2) ≡ asks_want f w want (with_waiting_rows all u)
  pub same : u2.waiting ≡ u.waiting

pub begun : {f : Frame} {u u2 : Users} {w : WaitingCall} {want : Want} {s : Step} → Begun f u u2 w want s → goes_on f w u ≡ after_step f w s u2
begun {f = f} {u = u} {u2 = u2} {w = w} {want = want} {s = s} g =
    sym (ap (after_step f w s) (sym (rows_again u2 u.waiting g.same))
    ∙ (g.step u.waiting ∙ ap (λ (v : Want). asks_want f w v u) g.next))
