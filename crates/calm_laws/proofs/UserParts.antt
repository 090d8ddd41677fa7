-- What the handlers of answers at a using site have in common: which call takes an answer, and that it goes on.
use Rattle.std.proofs.Common.{◌≡◌, ℕ, ◌==◌, ◌⊎◌, Bool, true, false, List, [], ◌∷◌, Option, Some, None, refl, sym, ◌∙◌, ap, inl, inr, arith}
use Rattle.std.proofs.lemmas.Bool.Decides.{nat_tests}
use Rattle.role_steps.proofs.of_plain_facts.Tests.{true_false}
use Rattle.locus_ids.specs.declared.config.Config.{Config}
use Rattle.locus_ids.specs.declared.ids.CallId.{CallId}
use Rattle.locus_ids.specs.declared.ids.FileId.{FileId}
use Rattle.wire_messages.specs.declared.body.Opening.{Opening}
use Rattle.tree_model.specs.declared.accepted.Waiting.{Waiting}
use Rattle.trace_book.specs.declared.operation.Op.{Op}
use Rattle.call_rules.specs.declared.answer.Answer.{Answer}
use Rattle.call_rules.specs.declared.want.Want.{Want}
use Rattle.call_rules.specs.declared.want.Want.TheVariants as want
use Rattle.wire_messages.specs.declared.body.Body.TheVariants as body
use Rattle.wire_messages.specs.declared.body.ReportedCopy.{ReportedCopy}
use Rattle.wire_messages.specs.declared.packet.Packet.{Packet}
use Rattle.role_steps.specs.Tables.{first_that}
use Rattle.role_steps.specs.Using.{with_answer, takes_answer}
use Rattle.role_steps.specs.Views.{Frame, Users, SiteView, Outcome}
use Rattle.role_steps.specs.declared.rounds.InEpoch.{InEpoch}
use Rattle.role_steps.specs.declared.users.Asking.TheVariants as asking
use Rattle.role_steps.specs.declared.users.WaitingCall.{WaitingCall}
use Rattle.the_run.specs.Kept.{Among}
use Rattle.the_run.specs.Steps.{at_users}
use Rattle.the_run.specs.Worlds.{Line}
use Rattle.lawful_trace.specs.TreeRows.{IsCallIn}
use Rattle.tree_laws.specs.Calls.{script}
use Rattle.tree_laws.specs.Packets.{serial_of}
use Rattle.tree_laws.specs.Printed.{entries}
use Rattle.tree_laws.specs.Serials.{asked_now, is_open_want, serial_asked}
use Rattle.tree_laws.specs.Users.{own_call, AskingIs, WaitingFact}
use Rattle.calm_laws.specs.Carrying.{frame_of, Goes, Carries}
use Rattle.calm_laws.proofs.AnswerRows.{HasTaken, AnswerHandler}
use Rattle.calm_laws.proofs.Calls.{CallsAsk, IsSent, goes_calls}
use Rattle.calm_laws.proofs.Ends.{handles}
use Rattle.calm_laws.proofs.Keeping.{KeepsRoles, all_itself}
use Rattle.run_laws.specs.Epochs.Known.{Places}

-- ---- an outcome of the using site ----

pub record UserHandler (f : Frame) (v : SiteView) (o : Outcome SiteView) : Type 0 where
  pub roles : KeepsRoles v o.view
  pub boot : o.view.boot ≡ v.boot
  pub round : o.view.round ≡ v.round
  pub epoch : o.view.epoch ≡ v.epoch
  pub calls : CallsAsk f v.users.waiting o.view.users.waiting o.sent

pub users_handle : (f : Frame) (v : SiteView) (g : Users → Outcome Users) → CallsAsk f v.users.waiting (g v.users).view.waiting (g v.users).sent → UserHandler f v (at_users g v)
users_handle f v g h = record { roles = record { tables = all_itself v.tables; instances = refl }; boot = refl; round = refl; epoch = refl; calls = h }

pub answer_calls : (f : Frame) (w : WaitingCall) (a : Answer) (u : Users) → CallsAsk f u.waiting (takes_answer f w a u).view.waiting (takes_answer f w a u).sent
answer_calls f w a u = goes_calls f (with_answer w a) u

pub answer_handler : (c : Config) (e : InEpoch) (m : ℕ) (p : Packet) (v : SiteView) → UserHandler (frame_of c e m) v (handles c e m p v) → ((from to group : ℕ) (copies : List ReportedCopy) → Goes c e from to (body.Report group copies) p → ⊥) → ((at : Places) (s : ℕ) (y : WaitingCall) → Carries c e at s y y.asking p → s ≡ m) →
    ((at : Places) (y : WaitingCall) → Among y v.users.waiting → Carries c e at m y y.asking p → HasTaken (own_call m v.boot y.call) (handles c e m p v).told ⊎ (Among y (handles c e m p v).view.users.waiting → IsSent (frame_of c e m) y (handles c e m p v).sent)) → AnswerHandler c e m p v
answer_handler c e m p v h none mine takes = record { roles = h.roles; boot = h.boot; round = h.round; epoch = h.epoch; calls = h.calls; none = none; mine = mine; takes = takes }

-- ---- the call that is found ----

pub record Found {A : Type 0} (test : A → Bool) (xs : List A) : Type 0 where
  pub it : A
  pub found : first_that test xs ≡ Some it
  pub there : Among it xs
  pub passes : test it ≡ true

-- where one passes, the first that passes is found
pub first_found : {A : Type 0} (test : A → Bool) (xs : List A) (y : A) → Among y xs → test y ≡ true → Found test xs
first_found test [] y a t = absurd a
first_found {A = A} test (x ∷ xs) y a t = over (test x) refl (λ b. first_found test xs y b t) a
  where
    here : (b : Bool) → b ≡ true → ◌≡◌ {A = Option A} (elim b [ true ↦ Some x | false ↦ first_that test xs ]) (Some x)
    here true e = refl
    here false e = absurd (true_false (sym e))

    there : (b : Bool) (z : A) → b ≡ false → first_that test xs ≡ Some z → ◌≡◌ {A = Option A} (elim b [ true ↦ Some x | false ↦ first_that test xs ]) (Some z)
    there true z e h = absurd (true_false e)
    there false z e h = h

    later : Among y (x ∷ xs) → test x ≡ false → Among y xs
    later (inl e) q = absurd (true_false (sym t ∙ (ap test e ∙ q)))
    later (inr b) q = b

    over : (b : Bool) → test x ≡ b → (Among y xs → Found test xs) → Among y (x ∷ xs) → Found test (x ∷ xs)
    over true q f b = record { it = x; found = here (test x) q; there = inl refl; passes = q }
    over false q f b = (let r : Found test xs = f (later b q) in record { it = r.it; found = there (test x) r.it q r.found; there = inr r.there; passes = r.passes })

-- ---- what a waiting call asks, by the trace ----

pub call_inside : (c : Config) (t : List Line) (f : Frame) (y : WaitingCall) → WaitingFact c t f y → IsCallIn (entries t) f.epoch (own_call f.me f.boot y.call)
call_inside c t f y k = record { accepted = k.caller; named = k.named; made_in = ap (λ (w : Waiting). w.epoch) k.caller_is }

pub asked_is : (c : Config) (t : List Line) (f : Frame) (y : WaitingCall) (k : WaitingFact c t f y) → asked_now c t (own_call f.me f.boot y.call) ≡ k.wanted
asked_is c t f y k = ap (script c (entries t) (own_call f.me f.boot y.call) None) (sym k.answers_are) ∙ k.script_is

pub op_asked : (c : Config) (t : List Line) (me : ℕ) (d : CallId) (wanted : Want) (serial ss n : ℕ) (o : Op) (seen : List ℕ) → AskingIs c t me d wanted (asking.Op serial ss n o seen) → wanted ≡ want.Do (serial_of me serial) o
op_asked c t me d (want.Do inst p) serial ss n o seen k = λ i. want.Do (sym k.0 i) (sym k.1 i)
op_asked c t me d _ serial ss n o seen k = absurd k

pub close_asked : (c : Config) (t : List Line) (me : ℕ) (d : CallId) (wanted : Want) (serial ss : ℕ) → AskingIs c t me d wanted (asking.Close serial ss) → wanted ≡ want.Close (serial_of me serial)
close_asked c t me d (want.Close inst) serial ss k = ap want.Close (sym k)
close_asked c t me d _ serial ss k = absurd k

pub open_asked : (c : Config) (t : List Line) (me : ℕ) (d : CallId) (wanted : Want) (serial : ℕ) (f : FileId) (it : Opening) → AskingIs c t me d wanted (asking.Open serial f it) → (is_open_want wanted ≡ true) × (serial ≡ serial_asked c t d)
open_asked c t me d (want.Open file m) serial f it k = (refl, k.1)
open_asked c t me d (want.OpenToMend file) serial f it k = (refl, k.1)
open_asked c t me d (want.Make group kind sites) serial f it k = (refl, k.1)
open_asked c t me d _ serial f it k = absurd k.0

pub number_of_call : (s b m n : ℕ) → own_call s b m ≡ own_call s b n → m ≡ n
number_of_call s b m n e = ap (λ (d : CallId). d.n) e
