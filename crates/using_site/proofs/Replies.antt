-- What a call gives as it goes on, by its step.
use Rattle.std.proofs.Common.{◌≡◌, ℕ, List, ◌++◌, ap, sym, ◌∙◌, Ok, Err}
use Rattle.std.proofs.lemmas.List.{append-nil}
use Rattle.std.specs.declared.result.Result.{Result}
use Rattle.std.specs.Prelude.{OnOk}
use Rattle.locus_ids.specs.declared.ids.FileId.{FileId}
use Rattle.trace_book.specs.declared.reply.Reply.{Reply}
use Rattle.call_rules.specs.declared.want.Want.{Want}
use Rattle.call_rules.specs.declared.answer.Answer.{Answer}
use Rattle.wire_messages.specs.Outboxes.{Outgoing}
use Rattle.role_steps.specs.Tables.{without_row}
use Rattle.role_steps.specs.Views.{Frame, Users, Outcome}
use Rattle.role_steps.specs.Requests.{asks, next_request, waiting_key, without_waiting}
use Rattle.role_steps.specs.Using.{after_reply, goes_on, reply_record, takes_answer, with_answer}
use Rattle.role_steps.specs.declared.users.Asking.{Asking}
use Rattle.role_steps.specs.declared.users.DescriptorRow.{DescriptorRow}
use Rattle.role_steps.specs.declared.users.WaitingCall.{WaitingCall}
use Rattle.site_frame.specs.Printed.{printed}
use Rattle.waiting_calls.specs.declared.step.Step.{Step}
use Rattle.waiting_calls.specs.declared.step.Step.TheVariants.{Asks, Replies, Stays}
use Rattle.using_site.specs.Steps.{Gives}
use Rattle.waiting_calls.specs.Steps.{after_step}
use Rattle.waiting_calls.specs.Called.{with_content}
use Rattle.waiting_calls.proofs.DescriptorRows.{on_ok}
use Rattle.using_site.proofs.Going.{Begun, begun, Gone, with_waiting_rows, asked_view, asked_sent, asked_told, replied_view, replied_sent, replied_told}
use Rattle.std.proofs.Common.{[], ◌∷◌, refl, subst, Option, Some, None}

pub on_ok3 : {A E : Type 0} {P Q R S : Type 0} (r : Result A E) → (P → Q → R → S) → OnOk r P → OnOk r Q → OnOk r R → OnOk r S
on_ok3 (Ok x) f p q r = f p q r
on_ok3 (Err e) f p q r = tt

-- what a reply changes, of the users as they are seen, by what it changes of the users that their parts make
pub replied : {A E : Type 0} (done : Result A E) (f : Frame) (w : WaitingCall) (y : Reply) (v u : Users) (ds : List DescriptorRow) (hs : List FileId) → v ≡ u → ((z : Users) → OnOk done (record z { descriptors = ds; hopeless = hs } ≡ after_reply f w y (record z { descriptors = v.descriptors; hopeless = v.hopeless }))) → OnOk done (record v { descriptors = ds; hopeless = hs } ≡ after_reply f w y u)
replied done f w y v u ds hs e k = on_ok done (λ h. h ∙ ap (after_reply f w y) e) (k v)

-- an outcome that is known gives what it gives
by_outcome : {o p : Outcome Users} {new : Users} {before after : Outgoing} → o ≡ p → Gives p new before after → Gives o new before after
by_outcome {o = o} {p = p} {new = new} {before = before} {after = after} e g = record {
  view = g.view ∙ sym (ap (λ (q : Outcome Users). q.view) e);
  packets = g.packets ∙ ap (λ ps. before.packets ++ ps) (sym (ap (λ (q : Outcome Users). q.sent) e));
  records = g.records ∙ ap (λ rs. before.records ++ rs) (sym (ap (λ (q : Outcome Users). printed q.told) e));
}

pub begun_asks : {f : Frame} {u u2 u3 : Users} {w : WaitingCall} {want : Want} {s : Step} {a : Asking} {before after : Outgoing} → Begun f u u2 w want s → s ≡ Asks a → u3 ≡ (asks f (next_request w a) u2).view → after.packets ≡ before.packets ++ (asks f (next_request w a) u2).sent → after.records ≡ before.records → Gives (goes_on f w u) u3 before after
begun_asks {f = f} {u2 = u2} {w = w} {before = before} g e v p r =
    by_outcome (begun g ∙ ap (λ (x : Step). after_step f w x u2) e) (record { view = v; packets = p; records = r ∙ sym (append-nil before.records) })

pub begun_replies : {f : Frame} {u u2 u3 u4 : Users} {w : WaitingCall} {want : Want} {s : Step} {y : Reply} {before after : Outgoing} → Begun f u u2 w want s → s ≡ Replies y → u3 ≡ without_waiting w u2 → u4 ≡ after_reply f w y u3 → after.packets ≡ before.packets → after.records ≡ before.records ++ printed (reply_record f.me f.boot w y ∷ []) → Gives (goes_on f w u) u4 before after
begun_replies {f = f} {u2 = u2} {w = w} {y = y} {before = before} g e o v p r =
    by_outcome (begun g ∙ ap (λ (x : Step). after_step f w x u2) e) (record { view = v ∙ ap (after_reply f w y) o; packets = p ∙ sym (append-nil before.packets); records = r })

pub begun_stays : {f : Frame} {u u2 : Users} {w : WaitingCall} {want : Want} {s : Step} {before : Outgoing} → Begun f u u2 w want s → s ≡ Stays → Gives (goes_on f w u) u2 before before
begun_stays {f = f} {u2 = u2} {w = w} {before = before} g e =
    by_outcome (begun g ∙ ap (λ (x : Step). after_step f w x u2) e) (record { view = refl; packets = sym (append-nil before.packets); records = sym (append-nil before.records) })

pub row_gone : (u u' : Users) (rows : List WaitingCall) (k : ℕ) (w : WaitingCall) → u ≡ u' → k ≡ waiting_key w → rows ≡ without_row waiting_key k u.waiting → record u { waiting = rows } ≡ without_waiting w u'
row_gone u u' rows k w e f g =
    ap (λ (ws : List WaitingCall). record u { waiting = ws }) (g ∙ ap (λ (n : ℕ). without_row waiting_key n u.waiting) f) ∙ ap (without_waiting w) e

-- a call that takes an answer gives what it gives as it goes on
pub taken : (f : Frame) (w : WaitingCall) (a : Answer) (u : Users) {new : Users} {before after : Outgoing} → Gives (goes_on f (with_answer w a) u) new before after → Gives (takes_answer f w a u) new before after
taken f w a u g = record { view = g.view; packets = g.packets; records = g.records }

-- ---- a call whose row is taken out ----

pub gone_asks : {f : Frame} {u u1 u2 u3 : Users} {key : ℕ} {w : WaitingCall} {want : Want} {s : Step} {a : Asking} {before after : Outgoing} → Gone f u u1 u2 key w want s → s ≡ Asks a → u3 ≡ (asks f (next_request w a) u2).view → after.packets ≡ before.packets ++ (asks f (next_request w a) u2).sent → after.records ≡ before.records → Gives (goes_on f w u) u3 before after
gone_asks {f = f} {u = u} {u1 = u1} {u2 = u2} {key = key} {w = w} {want = want} {s = s} {a = a} {before = before} g e v p r =
    let h : Gone f u u1 u2 key w want (Asks a) = subst (λ (x : Step). Gone f u u1 u2 key w want x) e g in
    record { view = asked_view h v; packets = asked_sent before.packets h p; records = asked_told h r }

pub gone_replies : {f : Frame} {u u1 u2 u3 : Users} {key : ℕ} {w : WaitingCall} {want : Want} {s : Step} {y : Reply} {before after : Outgoing} → Gone f u u1 u2 key w want s → s ≡ Replies y → u3 ≡ after_reply f w y u2 → after.packets ≡ before.packets → after.records ≡ before.records ++ printed (reply_record f.me f.boot w y ∷ []) → Gives (goes_on f w u) u3 before after
gone_replies {f = f} {u = u} {u1 = u1} {u2 = u2} {key = key} {w = w} {want = want} {s = s} {y = y} {before = before} g e v p r =
    let h : Gone f u u1 u2 key w want (Replies y) = subst (λ (x : Step). Gone f u u1 u2 key w want x) e g in
    record { view = replied_view h v; packets = replied_sent h p; records = replied_told before.records h r }

-- one content more doesn't change the key of a call
pub content_key : (content : Option (List ℕ)) (w : WaitingCall) → waiting_key (with_content content w) ≡ waiting_key w
content_key None w = refl
content_key (Some bytes) w = refl

pub row_out : (u u' : Users) (rows : List WaitingCall) (k : ℕ) → u ≡ u' → rows ≡ without_row waiting_key k u.waiting → record u { waiting = rows } ≡ with_waiting_rows (without_row waiting_key k u'.waiting) u'
row_out u u' rows k e g =
    ap (λ (ws : List WaitingCall). record u { waiting = ws }) g ∙ ap (λ (v : Users). with_waiting_rows (without_row waiting_key k v.waiting) v) e
