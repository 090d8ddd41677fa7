-- The answer to a close that comes to its using site: the call that asks it takes it.
use Rattle.std.proofs.Common.{◌≡◌, ℕ, ◌==◌, ◌⊎◌, Bool, true, false, List, Option, Some, None, refl, sym, ◌∙◌, ap, subst, inl, inr}
use Rattle.role_steps.proofs.of_plain_facts.Numbers.{equal, equal_test}
use Rattle.role_steps.proofs.of_plain_facts.Tests.{false_true}
use Rattle.locus_ids.specs.declared.config.Config.{Config}
use Rattle.locus_ids.specs.declared.ids.CallId.{CallId}
use Rattle.call_rules.specs.declared.want.Want.TheVariants as want
use Rattle.wire_messages.specs.declared.body.Body.{Body}
use Rattle.wire_messages.specs.declared.body.Body.TheVariants as body
use Rattle.wire_messages.specs.declared.body.CloseAnswer.{CloseAnswer}
use Rattle.wire_messages.specs.declared.body.MadeVersion.{MadeVersion}
use Rattle.wire_messages.specs.declared.packet.Packet.{Packet}
use Rattle.role_steps.specs.Epochs.{frame_in}
use Rattle.role_steps.specs.Tables.{first_that}
use Rattle.role_steps.specs.Requests.{without_user_instance}
use Rattle.role_steps.specs.Using.{asks_close_of, close_answer, on_close_done, on_close_done_of}
use Rattle.role_steps.specs.Views.{Frame, Users, SiteView}
use Rattle.role_steps.specs.declared.rounds.InEpoch.{InEpoch}
use Rattle.role_steps.specs.declared.users.Asking.{Asking}
use Rattle.role_steps.specs.declared.users.Asking.TheVariants as asking
use Rattle.role_steps.specs.declared.users.WaitingCall.{WaitingCall}
use Rattle.the_run.specs.Kept.{Among}
use Rattle.the_run.specs.Steps.{takes_inside}
use Rattle.the_run.specs.Worlds.{Line}
use Rattle.run_laws.specs.Epochs.Forming.{FormsNone}
use Rattle.run_laws.specs.Epochs.Known.{Places}
use Rattle.tree_laws.specs.Calls.{is_request}
use Rattle.tree_laws.specs.Packets.{serial_of}
use Rattle.tree_laws.specs.Serials.{asked_now}
use Rattle.tree_laws.specs.Following.{IsFollowed}
use Rattle.tree_laws.specs.Users.{own_call, AskingIs, WaitingFact}
use Rattle.store_laws.proofs.AnswerAskers.{close_had, one_has}
use Rattle.calm_laws.specs.Carrying.{frame_of, own_serial, Goes, CarriesClose, AnswersClose, Carries}
use Rattle.calm_laws.specs.Rounds.{CarriesOn, IsCloseDone}
use Rattle.calm_laws.proofs.AnswerRows.{HasTaken, AnswerHandler, answer_row, waiting_fact}
use Rattle.calm_laws.proofs.Calls.{CallsAsk, IsSent}
use Rattle.calm_laws.proofs.Carriers.{of_kind, MayCarry, carrier_kind}
use Rattle.calm_laws.proofs.Ends.{handles}
use Rattle.calm_laws.proofs.Facts.{RoundFacts}
use Rattle.calm_laws.proofs.Rows.{AllGoToMembers, TriesNone, Taker, taker}
use Rattle.calm_laws.proofs.UserParts.{UserHandler, users_handle, answer_calls, answer_handler, Found, first_found, call_inside, asked_is, close_asked, number_of_call}

-- ---- which calls it carries ----

abbrev pub IsCloseAsking : Asking → Type 0
IsCloseAsking (asking.Close serial ss) = Unit {0}
IsCloseAsking _ = ⊥

only_closes : (a : Asking) (b : Body) → IsCloseDone b → MayCarry a b → IsCloseAsking a
only_closes (asking.Close serial ss) b k h = tt
only_closes (asking.Look file w take) (body.CloseDone serial answer) k h = h
only_closes (asking.Look file w take) _ k h = absurd k
only_closes (asking.Open serial file how) (body.CloseDone number answer) k h = h
only_closes (asking.Open serial file how) _ k h = absurd k
only_closes (asking.Op serial ss n o seen) (body.CloseDone number answer) k h = h
only_closes (asking.Op serial ss n o seen) _ k h = absurd k

answers_close_of : (c : Config) (e : InEpoch) (at : Places) (s serial ss : ℕ) (p : Packet) → IsCloseDone p.body → CarriesClose c e at s serial ss p → AnswersClose c e s serial ss p
answers_close_of c e at s serial ss p k (inl g) = absurd (of_kind IsCloseDone c e s ss (body.Close serial) p k g)
answers_close_of c e at s serial ss p k (inr (inl h)) = absurd (none h.css h.way)
  where
    none : (css : ℕ) → ((made : Option MadeVersion) × Goes c e ss css (body.Closed (own_serial s serial) made) p) ⊎ Goes c e css ss (body.ClosedOk (own_serial s serial)) p → ⊥
    none css (inl g) = of_kind IsCloseDone c e ss css (body.Closed (own_serial s serial) g.0) p k g.1
    none css (inr g) = of_kind IsCloseDone c e css ss (body.ClosedOk (own_serial s serial)) p k g
answers_close_of c e at s serial ss p k (inr (inr h)) = h

-- the close that the call asks, and the answer to it
record Asked (c : Config) (e : InEpoch) (s : ℕ) (y : WaitingCall) (p : Packet) : Type 0 where
  serial : ℕ
  ss : ℕ
  is : y.asking ≡ asking.Close serial ss
  answers : AnswersClose c e s serial ss p

asked : (c : Config) (e : InEpoch) (at : Places) (s : ℕ) (y : WaitingCall) (p : Packet) (a : Asking) → y.asking ≡ a → IsCloseDone p.body → Carries c e at s y a p → Asked c e s y p
asked c e at s y p (asking.Close serial ss) is kind k = record { serial = serial; ss = ss; is = is; answers = answers_close_of c e at s serial ss p kind k }
asked c e at s y p (asking.Look file w take) is kind k = absurd (only_closes (asking.Look file w take) p.body kind (carrier_kind c e at s y (asking.Look file w take) p k))
asked c e at s y p (asking.Open serial file how) is kind k = absurd (only_closes (asking.Open serial file how) p.body kind (carrier_kind c e at s y (asking.Open serial file how) p k))
asked c e at s y p (asking.Op serial ss n o seen) is kind k = absurd (only_closes (asking.Op serial ss n o seen) p.body kind (carrier_kind c e at s y (asking.Op serial ss n o seen) p k))

-- ---- the handler ----

done_calls : (f : Frame) (serial : ℕ) (r : CloseAnswer) (o : Option WaitingCall) (u : Users) → CallsAsk f u.waiting (on_close_done_of f serial r o u).view.waiting (on_close_done_of f serial r o u).sent
done_calls f serial r None u y a = inl a
done_calls f serial r (Some w) u y a = answer_calls f w (close_answer r) (without_user_instance serial u) y a

handler_of : (f : Frame) (from : ℕ) (b : Body) (v : SiteView) → IsCloseDone b → UserHandler f v (takes_inside f from b v)
handler_of f from (body.CloseDone serial answer) v k = users_handle f v (on_close_done f serial answer) (done_calls f serial answer (first_that (asks_close_of serial) v.users.waiting) v.users)
handler_of f from _ v k = absurd k

forms : (b : Body) → IsCloseDone b → FormsNone b × TriesNone b
forms (body.CloseDone serial answer) k = (tt, tt)
forms _ k = absurd k

-- ---- who asks it ----

abbrev test_of : Asking → ℕ → Bool
test_of (asking.Close s ss) serial = s == serial
test_of _ serial = false

test_is : (serial : ℕ) (y : WaitingCall) → asks_close_of serial y ≡ test_of y.asking serial
test_is serial y = by_asking y.asking
  where
    by_asking : (a : Asking) → asks_close_of serial (record y { asking = a }) ≡ test_of a serial
    by_asking (asking.Close s ss) = refl
    by_asking _ = refl

-- two calls of the site that ask the close of one instance are one
one_asks : (c : Config) (t : List Line) (f : Frame) (y z : WaitingCall) (serial : ℕ) → (h : WaitingFact c t f y) (g : WaitingFact c t f z) → IsFollowed c t → h.wanted ≡ want.Close (serial_of f.me serial) → g.wanted ≡ want.Close (serial_of f.me serial) → y.call ≡ z.call
one_asks c t f y z serial h g followed yo zo =
    let dy : CallId = own_call f.me f.boot y.call in
    let dz : CallId = own_call f.me f.boot z.call in
    let ay : asked_now c t dy ≡ want.Close (serial_of f.me serial) = asked_is c t f y h ∙ yo in
    let az : asked_now c t dz ≡ want.Close (serial_of f.me serial) = asked_is c t f z g ∙ zo in
    number_of_call f.me f.boot y.call z.call (one_has c t f.epoch (serial_of f.me serial) dy dz followed (call_inside c t f y h) (call_inside c t f z g) (ap is_request ay) (ap is_request az)
    (close_had c t dy (serial_of f.me serial) followed (h.caller, h.named) ay) (close_had c t dz (serial_of f.me serial) followed (g.caller, g.named) az))

asking_close : (a : Asking) (serial : ℕ) → test_of a serial ≡ true → (ss : ℕ) × (a ≡ asking.Close serial ss)
asking_close (asking.Close s ss) serial h = (ss, ap (λ (k : ℕ). asking.Close k ss) (equal s serial h))
asking_close (asking.Look file w take) serial h = absurd (false_true h)
asking_close (asking.Open s file how) serial h = absurd (false_true h)
asking_close (asking.Op s ss n o seen) serial h = absurd (false_true h)

-- ---- the row ----

pub close_answer_row : (c : Config) → AllGoToMembers c → CarriesOn c IsCloseDone
close_answer_row c members lines n e x w d kind old = answer_row c members lines n e x w d (forms x.packet.body kind).0 (forms x.packet.body kind).1 handler old
  where
    m : ℕ
    m = x.packet.to

    p : Packet
    p = x.packet

    v : SiteView
    v = d.view

    t : Taker c e m v
    t = taker c lines n e x w d

    handler : RoundFacts c w → AnswerHandler c e m p v
    handler facts = answer_handler c e m p v (handler_of (frame_of c e m) p.from p.body v kind) (λ from to group copies g. of_kind IsCloseDone c e from to (body.Report group copies) p kind g) mine takes
      where
        mine : (at : Places) (s : ℕ) (y : WaitingCall) → Carries c e at s y y.asking p → s ≡ m
        mine at s y k = (let a : Asked c e s y p = asked c e at s y p y.asking refl kind k in sym (ap (λ (q : Packet). q.to) a.answers.goes.is))

        fact : (y : WaitingCall) → Among y v.users.waiting → WaitingFact c w.trace (frame_in c m v.boot e) y
        fact y a = waiting_fact c w m v e y facts.fact d.here t.epoch a

        takes : (at : Places) (y : WaitingCall) → Among y v.users.waiting → Carries c e at m y y.asking p → HasTaken (own_call m v.boot y.call) (handles c e m p v).told ⊎ (Among y (handles c e m p v).view.users.waiting → IsSent (frame_of c e m) y (handles c e m p v).sent)
        takes at y there k = inl (subst (λ (b : Body). HasTaken (own_call m v.boot y.call) (takes_inside (frame_of c e m) p.from b v).told) (sym (ap (λ (q : Packet). q.body) a.answers.goes.is)) told)
          where
            a : Asked c e m y p
            a = asked c e at m y p y.asking refl kind k

            passes : asks_close_of a.serial y ≡ true
            passes = test_is a.serial y ∙ (ap (λ (z : Asking). test_of z a.serial) a.is ∙ equal_test a.serial a.serial refl)

            first : Found (asks_close_of a.serial) v.users.waiting
            first = first_found (asks_close_of a.serial) v.users.waiting y there passes

            theirs : (ss : ℕ) × (first.it.asking ≡ asking.Close a.serial ss)
            theirs = asking_close first.it.asking a.serial (sym (test_is a.serial first.it) ∙ first.passes)

            hy : WaitingFact c w.trace (frame_in c m v.boot e) y
            hy = fact y there

            hz : WaitingFact c w.trace (frame_in c m v.boot e) first.it
            hz = fact first.it first.there

            same : y.call ≡ first.it.call
            same = one_asks c w.trace (frame_in c m v.boot e) y first.it a.serial hy hz facts.fact.followed
                (close_asked c w.trace m (own_call m v.boot y.call) hy.wanted a.serial a.ss (subst (λ (z : Asking). AskingIs c w.trace m (own_call m v.boot y.call) hy.wanted z) a.is hy.asking_is))
                (close_asked c w.trace m (own_call m v.boot first.it.call) hz.wanted a.serial theirs.0 (subst (λ (z : Asking). AskingIs c w.trace m (own_call m v.boot first.it.call) hz.wanted z) theirs.1 hz.asking_is))

            told : HasTaken (own_call m v.boot y.call) (on_close_done (frame_of c e m) a.serial a.answers.answer v.users).told
            told = subst (λ (o : Option WaitingCall). HasTaken (own_call m v.boot y.call) (on_close_done_of (frame_of c e m) a.serial a.answers.answer o v.users).told) (sym first.found) (inl (λ i. own_call m (sym t.boot i) (sym same i)))
