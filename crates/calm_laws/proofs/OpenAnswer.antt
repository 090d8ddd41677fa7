-- The answer to an open that comes to its using site: the call that asks it takes it.
use Rattle.std.proofs.Common.{◌≡◌, ℕ, ◌==◌, ◌⊎◌, Bool, true, false, List, Option, Some, None, refl, sym, ◌∙◌, ap, subst, inl, inr}
use Rattle.role_steps.proofs.of_plain_facts.Numbers.{equal, equal_test}
use Rattle.role_steps.proofs.of_plain_facts.Tests.{false_true}
use Rattle.locus_ids.specs.declared.config.Config.{Config}
use Rattle.locus_ids.specs.declared.ids.CallId.{CallId}
use Rattle.locus_ids.specs.declared.ids.FileId.{FileId}
use Rattle.locus_ids.specs.declared.ids.Stamp.{Stamp}
use Rattle.call_rules.specs.declared.answer.Answer.TheVariants as answer
use Rattle.role_steps.specs.declared.synchronizing.OpenRow.{OpenRow}
use Rattle.wire_messages.specs.declared.body.Body.{Body}
use Rattle.wire_messages.specs.declared.body.Body.TheVariants as body
use Rattle.wire_messages.specs.declared.body.Granted.{Granted}
use Rattle.wire_messages.specs.declared.body.Granted.TheVariants as granted
use Rattle.wire_messages.specs.declared.body.OpenedAs.{OpenedAs}
use Rattle.wire_messages.specs.declared.body.Opening.{Opening}
use Rattle.wire_messages.specs.declared.packet.Packet.{Packet}
use Rattle.role_steps.specs.Epochs.{frame_in}
use Rattle.role_steps.specs.Tables.{first_that}
use Rattle.role_steps.specs.Mends.{kept_stamps}
use Rattle.role_steps.specs.Requests.{with_user_instance}
use Rattle.role_steps.specs.Using.{asks_open_of, opened_answer, kept_for, mended_file, takes_open, version_read, on_open_done, on_open_done_of}
use Rattle.role_steps.specs.Views.{Frame, Users, SiteView}
use Rattle.role_steps.specs.declared.rounds.InEpoch.{InEpoch}
use Rattle.role_steps.specs.declared.users.Asking.{Asking}
use Rattle.role_steps.specs.declared.users.Asking.TheVariants as asking
use Rattle.role_steps.specs.declared.users.WaitingCall.{WaitingCall}
use Rattle.the_run.specs.Kept.{Among}
use Rattle.the_run.specs.Steps.{takes_inside}
use Rattle.the_run.specs.Worlds.{Line}
use Rattle.run_laws.specs.Epochs.Forming.{FormsNone}
use Rattle.run_laws.specs.Epochs.Known.{Places}
use Rattle.tree_laws.specs.Serials.{is_open_want, serial_asked}
use Rattle.tree_laws.specs.Following.{IsFollowed}
use Rattle.tree_laws.specs.Users.{own_call, AskingIs, WaitingFact}
use Rattle.tree_laws.proofs.Serials.{one_asker}
use Rattle.calm_laws.specs.Carrying.{frame_of, own_serial, open_body, opening_body, Goes, CarriesOpen, AnswersOpen, Carries}
use Rattle.calm_laws.specs.Rounds.{CarriesOn, IsOpenDone}
use Rattle.calm_laws.proofs.AnswerRows.{HasTaken, AnswerHandler, answer_row, waiting_fact}
use Rattle.calm_laws.proofs.Calls.{CallsAsk, IsSent}
use Rattle.calm_laws.proofs.Carriers.{of_kind, MayCarry, carrier_kind}
use Rattle.calm_laws.proofs.Ends.{handles}
use Rattle.calm_laws.proofs.Facts.{RoundFacts}
use Rattle.calm_laws.proofs.Rows.{AllGoToMembers, TriesNone, Taker, taker}
use Rattle.calm_laws.proofs.UserParts.{UserHandler, users_handle, answer_calls, answer_handler, Found, first_found, call_inside, asked_is, open_asked, number_of_call}

-- ---- which calls it carries ----

abbrev pub IsOpenAsking : Asking → Type 0
IsOpenAsking (asking.Open serial file how) = Unit {0}
IsOpenAsking _ = ⊥

only_opens : (a : Asking) (b : Body) → IsOpenDone b → MayCarry a b → IsOpenAsking a
only_opens (asking.Open serial file how) b k h = tt
only_opens (asking.Look file w take) (body.OpenDone serial answer) k h = h
only_opens (asking.Look file w take) _ k h = absurd k
only_opens (asking.Op serial ss n o seen) (body.OpenDone number answer) k h = h
only_opens (asking.Op serial ss n o seen) _ k h = absurd k
only_opens (asking.Close serial ss) (body.OpenDone number answer) k h = h
only_opens (asking.Close serial ss) _ k h = absurd k

answers_open_of : (c : Config) (e : InEpoch) (at : Places) (s : ℕ) (y : WaitingCall) (serial : ℕ) (file : FileId) (how : Opening) (css : ℕ) (p : Packet) → IsOpenDone p.body → CarriesOpen c e at s y serial file how css p → AnswersOpen c e s serial css p
answers_open_of c e at s y serial file how css p k (inl g) = absurd (of_kind IsOpenDone c e s css (open_body y serial file how) p k g)
answers_open_of c e at s y serial file how css p k (inr (inl h)) = absurd (none h.opened h.way)
  where
    none : (o : OpenRow) → Goes c e css o.ss (opening_body o) p ⊎ ((a : OpenedAs) × Goes c e o.ss css (body.Opened (own_serial s serial) a) p) → ⊥
    none o (inl g) = of_kind IsOpenDone c e css o.ss (opening_body o) p k g
    none o (inr g) = of_kind IsOpenDone c e o.ss css (body.Opened (own_serial s serial) g.0) p k g.1
answers_open_of c e at s y serial file how css p k (inr (inr h)) = h

-- the open that the call asks, and the answer to it
record Asked (c : Config) (e : InEpoch) (s : ℕ) (y : WaitingCall) (p : Packet) : Type 0 where
  serial : ℕ
  file : FileId
  how : Opening
  is : y.asking ≡ asking.Open serial file how
  css : ℕ
  answers : AnswersOpen c e s serial css p

asked : (c : Config) (e : InEpoch) (at : Places) (s : ℕ) (y : WaitingCall) (p : Packet) (a : Asking) → y.asking ≡ a → IsOpenDone p.body → Carries c e at s y a p → Asked c e s y p
asked c e at s y p (asking.Open serial file how) is kind k = record { serial = serial; file = file; how = how; is = is; css = k.0; answers = answers_open_of c e at s y serial file how k.0 p kind k.2 }
asked c e at s y p (asking.Look file w take) is kind k = absurd (only_opens (asking.Look file w take) p.body kind (carrier_kind c e at s y (asking.Look file w take) p k))
asked c e at s y p (asking.Op serial ss n o seen) is kind k = absurd (only_opens (asking.Op serial ss n o seen) p.body kind (carrier_kind c e at s y (asking.Op serial ss n o seen) p k))
asked c e at s y p (asking.Close serial ss) is kind k = absurd (only_opens (asking.Close serial ss) p.body kind (carrier_kind c e at s y (asking.Close serial ss) p k))

-- ---- the handler ----

taken_calls : (f : Frame) (kept : FileId → List Stamp) (serial : ℕ) (w : WaitingCall) (r : Granted) (u : Users) → CallsAsk f u.waiting (takes_open f kept serial w r u).view.waiting (takes_open f kept serial w r u).sent
taken_calls f kept serial w (granted.Open ss ino size stamp vector) u y a = answer_calls f w (opened_answer f serial ino stamp (kept_for kept (mended_file w.words)) w.words w.asking) (with_user_instance (record { serial = serial; ss = ss; vector = vector; ops = 0; reads = version_read size stamp w.asking }) u) y a
taken_calls f kept serial w (granted.No why) u y a = answer_calls f w (answer.Refused why) u y a

done_calls : (f : Frame) (kept : FileId → List Stamp) (serial : ℕ) (r : Granted) (o : Option WaitingCall) (u : Users) → CallsAsk f u.waiting (on_open_done_of f kept serial r o u).view.waiting (on_open_done_of f kept serial r o u).sent
done_calls f kept serial r None u y a = inl a
done_calls f kept serial r (Some w) u y a = taken_calls f kept serial w r u y a

handler_of : (f : Frame) (from : ℕ) (b : Body) (v : SiteView) → IsOpenDone b → UserHandler f v (takes_inside f from b v)
handler_of f from (body.OpenDone serial answer) v k = users_handle f v (on_open_done f (kept_stamps v) serial answer) (done_calls f (kept_stamps v) serial answer (first_that (asks_open_of serial) v.users.waiting) v.users)
handler_of f from _ v k = absurd k

forms : (b : Body) → IsOpenDone b → FormsNone b × TriesNone b
forms (body.OpenDone serial answer) k = (tt, tt)
forms _ k = absurd k

takes_told : (f : Frame) (kept : FileId → List Stamp) (serial : ℕ) (w : WaitingCall) (r : Granted) (u : Users) (d : CallId) → own_call f.me f.boot w.call ≡ d → HasTaken d (takes_open f kept serial w r u).told
takes_told f kept serial w (granted.Open ss ino size stamp vector) u d e = inl e
takes_told f kept serial w (granted.No why) u d e = inl e

-- ---- who asks it ----

abbrev test_of : Asking → ℕ → Bool
test_of (asking.Open s file how) serial = s == serial
test_of _ serial = false

test_is : (serial : ℕ) (y : WaitingCall) → asks_open_of serial y ≡ test_of y.asking serial
test_is serial y = by_asking y.asking
  where
    by_asking : (a : Asking) → asks_open_of serial (record y { asking = a }) ≡ test_of a serial
    by_asking (asking.Open s file how) = refl
    by_asking _ = refl

-- two calls of the site that ask an open under one serial number are one
one_asks : (c : Config) (t : List Line) (f : Frame) (y z : WaitingCall) (serial : ℕ) → (h : WaitingFact c t f y) (g : WaitingFact c t f z) → IsFollowed c t → (is_open_want h.wanted ≡ true) × (serial ≡ serial_asked c t (own_call f.me f.boot y.call)) → (is_open_want g.wanted ≡ true) × (serial ≡ serial_asked c t (own_call f.me f.boot z.call)) → y.call ≡ z.call
one_asks c t f y z serial h g followed yo zo =
    number_of_call f.me f.boot y.call z.call (one_asker c t f.epoch (own_call f.me f.boot y.call) (own_call f.me f.boot z.call) followed (call_inside c t f y h) (call_inside c t f z g) refl (ap is_open_want (asked_is c t f y h) ∙ yo.0) (ap is_open_want (asked_is c t f z g) ∙ zo.0) (sym yo.1 ∙ zo.1))

asking_open : (a : Asking) (serial : ℕ) → test_of a serial ≡ true → (file : FileId) × (how : Opening) × (a ≡ asking.Open serial file how)
asking_open (asking.Open s file how) serial h = (file, how, ap (λ (k : ℕ). asking.Open k file how) (equal s serial h))
asking_open (asking.Look file w take) serial h = absurd (false_true h)
asking_open (asking.Op s ss n o seen) serial h = absurd (false_true h)
asking_open (asking.Close s ss) serial h = absurd (false_true h)

-- ---- the row ----

pub open_answer_row : (c : Config) → AllGoToMembers c → CarriesOn c IsOpenDone
open_answer_row c members lines n e x w d kind old = answer_row c members lines n e x w d (forms x.packet.body kind).0 (forms x.packet.body kind).1 handler old
  where
    m : ℕ
    m = x.packet.to

    p : Packet
    p = x.packet

    v : SiteView
    v = d.view

    t : Taker c e m v
    t = taker c lines n e x w d

    handler : RoundFacts c w → AnswerHandler c e m p v
    handler facts = answer_handler c e m p v (handler_of (frame_of c e m) p.from p.body v kind) (λ from to group copies g. of_kind IsOpenDone c e from to (body.Report group copies) p kind g) mine takes
      where
        mine : (at : Places) (s : ℕ) (y : WaitingCall) → Carries c e at s y y.asking p → s ≡ m
        mine at s y k = (let a : Asked c e s y p = asked c e at s y p y.asking refl kind k in sym (ap (λ (q : Packet). q.to) a.answers.goes.is))

        fact : (y : WaitingCall) → Among y v.users.waiting → WaitingFact c w.trace (frame_in c m v.boot e) y
        fact y a = waiting_fact c w m v e y facts.fact d.here t.epoch a

        takes : (at : Places) (y : WaitingCall) → Among y v.users.waiting → Carries c e at m y y.asking p → HasTaken (own_call m v.boot y.call) (handles c e m p v).told ⊎ (Among y (handles c e m p v).view.users.waiting → IsSent (frame_of c e m) y (handles c e m p v).sent)
        takes at y there k = inl (subst (λ (b : Body). HasTaken (own_call m v.boot y.call) (takes_inside (frame_of c e m) p.from b v).told) (sym (ap (λ (q : Packet). q.body) a.answers.goes.is)) told)
          where
            a : Asked c e m y p
            a = asked c e at m y p y.asking refl kind k

            passes : asks_open_of a.serial y ≡ true
            passes = test_is a.serial y ∙ (ap (λ (z : Asking). test_of z a.serial) a.is ∙ equal_test a.serial a.serial refl)

            first : Found (asks_open_of a.serial) v.users.waiting
            first = first_found (asks_open_of a.serial) v.users.waiting y there passes

            theirs : (file : FileId) × (how : Opening) × (first.it.asking ≡ asking.Open a.serial file how)
            theirs = asking_open first.it.asking a.serial (sym (test_is a.serial first.it) ∙ first.passes)

            hy : WaitingFact c w.trace (frame_in c m v.boot e) y
            hy = fact y there

            hz : WaitingFact c w.trace (frame_in c m v.boot e) first.it
            hz = fact first.it first.there

            same : y.call ≡ first.it.call
            same = one_asks c w.trace (frame_in c m v.boot e) y first.it a.serial hy hz facts.fact.followed
                (open_asked c w.trace m (own_call m v.boot y.call) hy.wanted a.serial a.file a.how (subst (λ (z : Asking). AskingIs c w.trace m (own_call m v.boot y.call) hy.wanted z) a.is hy.asking_is))
                (open_asked c w.trace m (own_call m v.boot first.it.call) hz.wanted a.serial theirs.0 theirs.1 (subst (λ (z : Asking). AskingIs c w.trace m (own_call m v.boot first.it.call) hz.wanted z) theirs.2 hz.asking_is))

            told : HasTaken (own_call m v.boot y.call) (on_open_done (frame_of c e m) (kept_stamps v) a.serial a.answers.answer v.users).told
            told = subst (λ (o : Option WaitingCall). HasTaken (own_call m v.boot y.call) (on_open_done_of (frame_of c e m) (kept_stamps v) a.serial a.answers.answer o v.users).told) (sym first.found)
                (takes_told (frame_of c e m) (kept_stamps v) a.serial first.it a.answers.answer v.users (own_call m v.boot y.call) (λ i. own_call m (sym t.boot i) (sym same i)))
