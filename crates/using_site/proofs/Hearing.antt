-- A call takes an answer, and goes on while its row is taken out.
use Rattle.std.proofs.Common.{◌≡◌, ℕ, List, [], ◌∷◌, ◌++◌, Option, Some, refl, ap, ◌∙◌, subst}
use Rattle.role_steps.proofs.of_plain_facts.Options.{some_same}
use Rattle.trace_book.specs.declared.reply.Reply.{Reply}
use Rattle.call_rules.specs.declared.want.Want.{Want}
use Rattle.call_rules.specs.declared.answer.Answer.{Answer}
use Rattle.wire_messages.specs.Outboxes.{Outgoing}
use Rattle.role_steps.specs.Tables.{row, with_row, without_row}
use Rattle.role_steps.specs.Views.{Frame, Users}
use Rattle.role_steps.specs.Requests.{asks, next_request, waiting_key}
use Rattle.role_steps.specs.Using.{after_reply, asks_want, goes_on, next_want, reply_record, takes_answer, with_answer}
use Rattle.role_steps.specs.declared.users.Asking.{Asking}
use Rattle.role_steps.specs.declared.users.WaitingCall.{WaitingCall}
use Rattle.site_frame.specs.Printed.{printed}
use Rattle.keyed_tables.specs.Rising.{Rising}
use Rattle.waiting_calls.specs.declared.step.Step.{Step}
use Rattle.waiting_calls.specs.declared.step.Step.TheVariants.{Asks, Replies, Stays}
use Rattle.using_site.specs.Steps.{Gives}
use Rattle.waiting_calls.specs.Steps.{after_step}
use Rattle.waiting_calls.specs.Called.{with_content}
use Rattle.using_site.proofs.Taken.{row_key}
use Rattle.using_site.proofs.Going.{Gone, with_waiting_rows, stayed_view, stayed_sent, stayed_told}
use Rattle.using_site.proofs.Replies.{content_key, gone_asks, gone_replies, row_out, taken}

-- the call w of the row found, before and x after it has heard the answer; v the users whose rows are taken out
pub record Taking (f : Frame) (u v u2 : Users) (rows : List WaitingCall) (key : ℕ) (w x before found : WaitingCall) (content : Option (List ℕ)) (a : Answer) (want : Want) (s : Step) : Type 0 where
  pub rising : Rising waiting_key u.waiting
  pub row_is : ◌≡◌ {A = Option WaitingCall} (row waiting_key key u.waiting) (Some w)
  pub view_is : v ≡ u
  pub found_is : before ≡ found
  pub removed : ◌≡◌ {A = Option WaitingCall} (Some found) (row waiting_key key v.waiting)
  pub left : rows ≡ without_row waiting_key key v.waiting
  pub heard : x ≡ with_answer (with_content content before) a
  pub next : want ≡ next_want f x (with_waiting_rows rows v)
  pub step : (all : List WaitingCall) → after_step f x s (with_waiting_rows all u2) ≡ asks_want f x want (with_waiting_rows all v)
  pub same : u2.waiting ≡ rows

pub was : {f : Frame} {u v u2 : Users} {rows : List WaitingCall} {key : ℕ} {w x before found : WaitingCall} {content : Option (List ℕ)} {a : Answer} {want : Want} {s : Step} → Taking f u v u2 rows key w x before found content a want s → before ≡ w
was {v = v} {key = key} {w = w} {found = found} t =
    t.found_is ∙ some_same found w (t.removed ∙ (ap (λ (z : Users). row waiting_key key z.waiting) t.view_is ∙ t.row_is))

pub heard_by : {f : Frame} {u v u2 : Users} {rows : List WaitingCall} {key : ℕ} {w x before found : WaitingCall} {content : Option (List ℕ)} {a : Answer} {want : Want} {s : Step} → Taking f u v u2 rows key w x before found content a want s → x ≡ with_answer (with_content content w) a
heard_by {content = content} {a = a} t = t.heard ∙ ap (λ (z : WaitingCall). with_answer (with_content content z) a) (was t)

gone_of : {f : Frame} {u v u2 : Users} {rows : List WaitingCall} {key : ℕ} {w x before found : WaitingCall} {content : Option (List ℕ)} {a : Answer} {want : Want} {s : Step} → Taking f u v u2 rows key w x before found content a want s → Gone f u (with_waiting_rows rows v) u2 key x want s
gone_of {u = u} {v = v} {rows = rows} {key = key} {w = w} {content = content} t = record {
  rising = t.rising;
  key_is = ap waiting_key (heard_by t) ∙ (content_key content w ∙ row_key waiting_key key w u.waiting t.row_is);
  out = row_out v u rows key t.view_is t.left;
  next = t.next;
  step = t.step;
  same = t.same;
}

answered : (f : Frame) (w x : WaitingCall) (a : Answer) (u : Users) {new : Users} {before after : Outgoing} → x ≡ with_answer w a → Gives (goes_on f x u) new before after → Gives (takes_answer f w a u) new before after
answered f w x a u {new = new} {before = before} {after = after} e g = taken f w a u (subst (λ (y : WaitingCall). Gives (goes_on f y u) new before after) e g)

pub take_asks : {f : Frame} {u v u2 u3 : Users} {rows : List WaitingCall} {key : ℕ} {w x before found : WaitingCall} {content : Option (List ℕ)} {a : Answer} {want : Want} {s : Step} {asking : Asking} {sent heard : Outgoing} → Taking f u v u2 rows key w x before found content a want s → s ≡ Asks asking → u3 ≡ (asks f (next_request x asking) u2).view → heard.packets ≡ sent.packets ++ (asks f (next_request x asking) u2).sent → heard.records ≡ sent.records → Gives (takes_answer f (with_content content w) a u) u3 sent heard
take_asks {f = f} {u = u} {w = w} {x = x} {content = content} {a = a} t e v p r =
    answered f (with_content content w) x a u (heard_by t) (gone_asks (gone_of t) e v p r)

pub take_replies : {f : Frame} {u v u2 u3 : Users} {rows : List WaitingCall} {key : ℕ} {w x before found : WaitingCall} {content : Option (List ℕ)} {a : Answer} {want : Want} {s : Step} {y : Reply} {sent heard : Outgoing} → Taking f u v u2 rows key w x before found content a want s → s ≡ Replies y → u3 ≡ after_reply f x y u2 → heard.packets ≡ sent.packets → heard.records ≡ sent.records ++ printed (reply_record f.me f.boot x y ∷ []) → Gives (takes_answer f (with_content content w) a u) u3 sent heard
take_replies {f = f} {u = u} {w = w} {x = x} {content = content} {a = a} t e v p r =
    answered f (with_content content w) x a u (heard_by t) (gone_replies (gone_of t) e v p r)

pub gone_stays : {f : Frame} {u u1 u2 u3 : Users} {key : ℕ} {w before : WaitingCall} {want : Want} {s : Step} {sent : Outgoing} → Gone f u u1 u2 key w want s → s ≡ Stays → ◌≡◌ {A = Option WaitingCall} (row waiting_key key u.waiting) (Some before) → u3 ≡ with_waiting_rows (with_row waiting_key before u2.waiting) u2 → Gives (goes_on f w u) u3 sent sent
gone_stays {f = f} {u = u} {u1 = u1} {u2 = u2} {key = key} {w = w} {want = want} {s = s} {sent = sent} g e r v =
    let h : Gone f u u1 u2 key w want Stays = subst (λ (y : Step). Gone f u u1 u2 key w want y) e g in
    record { view = stayed_view h r v; packets = stayed_sent h refl; records = stayed_told h refl }

put_again : (v2 u2 : Users) (rows : List WaitingCall) (y w : WaitingCall) → v2 ≡ u2 → rows ≡ with_row waiting_key y v2.waiting → y ≡ w → with_waiting_rows rows v2 ≡ with_waiting_rows (with_row waiting_key w u2.waiting) u2
put_again v2 u2 rows y w e g h =
    ap (λ (all : List WaitingCall). with_waiting_rows all v2) (g ∙ ap (λ (z : WaitingCall). with_row waiting_key z v2.waiting) h) ∙ ap (λ (z : Users). with_waiting_rows (with_row waiting_key w z.waiting) z) e

pub take_stays : {f : Frame} {u v u2 v2 : Users} {rows again : List WaitingCall} {key : ℕ} {w x y before found : WaitingCall} {content : Option (List ℕ)} {a : Answer} {want : Want} {s : Step} {sent : Outgoing} → Taking f u v u2 rows key w x before found content a want s → s ≡ Stays → v2 ≡ u2 → y ≡ w → again ≡ with_row waiting_key y v2.waiting → Gives (takes_answer f (with_content content w) a u) (with_waiting_rows again v2) sent sent
take_stays {f = f} {u = u} {u2 = u2} {v2 = v2} {again = again} {w = w} {x = x} {y = y} {content = content} {a = a} t e q h g =
    answered f (with_content content w) x a u (heard_by t) (gone_stays (gone_of t) e t.row_is (put_again v2 u2 again y w q g h))
