-- The result of an operation that comes to its using site: the call that asks it takes it.
use Rattle.std.proofs.Common.{◌≡◌, ℕ, ◌==◌, ◌⊎◌, Bool, true, false, ◌&&◌, List, Option, Some, None, refl, sym, ◌∙◌, ap, subst, inl, inr}
use Rattle.role_steps.proofs.of_plain_facts.Numbers.{equal, equal_test}
use Rattle.role_steps.proofs.Caching.{kept_only}
use Rattle.role_steps.proofs.of_plain_facts.Tests.{and_first, and_second}
use Rattle.locus_ids.specs.declared.config.Config.{Config}
use Rattle.locus_ids.specs.declared.ids.CallId.{CallId}
use Rattle.trace_book.specs.declared.operation.Op.{Op}
use Rattle.trace_book.specs.declared.operation.Op.TheVariants as op
use Rattle.trace_book.specs.declared.operation.Outcome.{Outcome as Result}
use Rattle.trace_book.specs.declared.operation.Outcome.TheVariants as result
use Rattle.call_rules.specs.declared.answer.Answer.TheVariants as answer
use Rattle.call_rules.specs.declared.want.Want.TheVariants as want
use Rattle.wire_messages.specs.declared.body.Body.{Body}
use Rattle.wire_messages.specs.declared.body.Body.TheVariants as body
use Rattle.wire_messages.specs.declared.packet.Packet.{Packet}
use Rattle.role_steps.specs.Epochs.{frame_in}
use Rattle.role_steps.specs.Requests.{operation_body}
use Rattle.role_steps.specs.Tables.{first_that}
use Rattle.role_steps.specs.Using.{answers_op, asks_op_number, asks_held_number, op_answer, keeps_brought, on_op_done, on_op_done_of, takes_copied, on_as_held, on_as_held_of}
use Rattle.role_steps.specs.Views.{Frame, Users, SiteView}
use Rattle.role_steps.specs.declared.rounds.InEpoch.{InEpoch}
use Rattle.role_steps.specs.declared.users.Asking.{Asking}
use Rattle.role_steps.specs.declared.users.Asking.TheVariants as asking
use Rattle.role_steps.specs.declared.users.WaitingCall.{WaitingCall}
use Rattle.the_run.specs.Kept.{Among}
use Rattle.the_run.specs.Steps.{takes_inside}
use Rattle.the_run.specs.Worlds.{Line}
use Rattle.run_laws.specs.Epochs.Forming.{FormsNone}
use Rattle.run_laws.specs.Epochs.Known.{Places}
use Rattle.tree_laws.specs.Calls.{is_request}
use Rattle.tree_laws.specs.Packets.{serial_of}
use Rattle.tree_laws.specs.Serials.{asked_now}
use Rattle.tree_laws.specs.Following.{IsFollowed}
use Rattle.tree_laws.specs.Users.{own_call, AskingIs, WaitingFact}
use Rattle.store_laws.proofs.AnswerAskers.{op_had, one_has}
use Rattle.calm_laws.specs.Carrying.{frame_of, CarriesOp, AnswersOp, AnswersHeld, Carries}
use Rattle.calm_laws.specs.Rounds.{CarriesOn, IsOpDone}
use Rattle.calm_laws.proofs.AnswerRows.{HasTaken, AnswerHandler, answer_row, waiting_fact}
use Rattle.calm_laws.proofs.Calls.{CallsAsk, IsSent}
use Rattle.calm_laws.proofs.Carriers.{of_kind, MayCarry, carrier_kind}
use Rattle.calm_laws.proofs.Ends.{handles}
use Rattle.calm_laws.proofs.Facts.{RoundFacts}
use Rattle.calm_laws.proofs.Rows.{AllGoToMembers, TriesNone, Taker, taker}
use Rattle.calm_laws.proofs.UserParts.{UserHandler, users_handle, answer_calls, answer_handler, Found, first_found, call_inside, asked_is, op_asked, number_of_call}

-- ---- which calls it carries ----

abbrev pub IsOpAsking : Asking → Type 0
IsOpAsking (asking.Op serial ss n o seen) = Unit {0}
IsOpAsking _ = ⊥

only_ops : (a : Asking) (b : Body) → IsOpDone b → MayCarry a b → IsOpAsking a
only_ops (asking.Op serial ss n o seen) b k h = tt
only_ops (asking.Look file w take) (body.OpDone serial n result) k h = h
only_ops (asking.Look file w take) (body.AsHeld serial n len) k h = h
only_ops (asking.Look file w take) _ k h = absurd k
only_ops (asking.Open serial file how) (body.OpDone number n result) k h = h
only_ops (asking.Open serial file how) (body.AsHeld number n len) k h = h
only_ops (asking.Open serial file how) _ k h = absurd k
only_ops (asking.Close serial ss) (body.OpDone number n result) k h = h
only_ops (asking.Close serial ss) (body.AsHeld number n len) k h = h
only_ops (asking.Close serial ss) _ k h = absurd k

-- an answer of either form
abbrev Answers : Config → InEpoch → ℕ → ℕ → ℕ → ℕ → Option (List ℕ) → Op → Packet → Type 0
Answers c e s serial ss n copied o p = AnswersOp c e s serial ss n o p ⊎ AnswersHeld c e s serial ss n copied o p

no_answer : (copied : Option (List ℕ)) (serial n : ℕ) (o : Op) (seen : List ℕ) → IsOpDone (operation_body copied serial n o seen) → ⊥
no_answer (Some bytes) serial n (op.Read at len) seen k = k
no_answer copied serial n o seen k = k

answers_op_of : (c : Config) (e : InEpoch) (s serial ss n : ℕ) (copied : Option (List ℕ)) (o : Op) (seen : List ℕ) (p : Packet) → IsOpDone p.body → CarriesOp c e s serial ss n copied o seen p → Answers c e s serial ss n copied o p
answers_op_of c e s serial ss n copied o seen p k (inl g) = absurd (no_answer copied serial n o seen (of_kind IsOpDone c e s ss (operation_body copied serial n o seen) p k g))
answers_op_of c e s serial ss n copied o seen p k (inr h) = h

-- the operation that the call asks, and the answer to it
record Asked (c : Config) (e : InEpoch) (s : ℕ) (y : WaitingCall) (p : Packet) : Type 0 where
  serial : ℕ
  ss : ℕ
  n : ℕ
  op : Op
  seen : List ℕ
  is : y.asking ≡ asking.Op serial ss n op seen
  answers : Answers c e s serial ss n y.copied op p

asked : (c : Config) (e : InEpoch) (at : Places) (s : ℕ) (y : WaitingCall) (p : Packet) (a : Asking) → y.asking ≡ a → IsOpDone p.body → Carries c e at s y a p → Asked c e s y p
asked c e at s y p (asking.Op serial ss n o seen) is kind k = record { serial = serial; ss = ss; n = n; op = o; seen = seen; is = is; answers = answers_op_of c e s serial ss n y.copied o seen p kind k }
asked c e at s y p (asking.Look file w take) is kind k = absurd (only_ops (asking.Look file w take) p.body kind (carrier_kind c e at s y (asking.Look file w take) p k))
asked c e at s y p (asking.Open serial file how) is kind k = absurd (only_ops (asking.Open serial file how) p.body kind (carrier_kind c e at s y (asking.Open serial file how) p k))
asked c e at s y p (asking.Close serial ss) is kind k = absurd (only_ops (asking.Close serial ss) p.body kind (carrier_kind c e at s y (asking.Close serial ss) p k))

-- ---- the handler ----

done_calls : (f : Frame) (r : Result) (o : Option WaitingCall) (u : Users) → CallsAsk f u.waiting (on_op_done_of f r o u).view.waiting (on_op_done_of f r o u).sent
done_calls f r None u y a = inl a
done_calls f r (Some w) u y a = over (answer_calls f w (op_answer r) (keeps_brought w.asking r u) y a)
  where
    over : Among y (keeps_brought w.asking r u).waiting ⊎ IsSent f y (on_op_done_of f r (Some w) u).sent → Among y u.waiting ⊎ IsSent f y (on_op_done_of f r (Some w) u).sent
    over (inl k) = inl (subst (λ (xs : List WaitingCall). Among y xs) (kept_only (λ (z : Users). z.waiting ≡ u.waiting) w.asking r u (λ pages. refl)) k)
    over (inr k) = inr k

copied_calls : (f : Frame) (w : WaitingCall) (o : Option (List ℕ)) (u : Users) → CallsAsk f u.waiting (takes_copied f w o u).view.waiting (takes_copied f w o u).sent
copied_calls f w None u y a = inl a
copied_calls f w (Some bytes) u y a = answer_calls f w (answer.Did (result.Data bytes)) u y a

held_calls : (f : Frame) (o : Option WaitingCall) (u : Users) → CallsAsk f u.waiting (on_as_held_of f o u).view.waiting (on_as_held_of f o u).sent
held_calls f None u y a = inl a
held_calls f (Some w) u y a = copied_calls f w w.copied u y a

handler_of : (f : Frame) (from : ℕ) (b : Body) (v : SiteView) → IsOpDone b → UserHandler f v (takes_inside f from b v)
handler_of f from (body.OpDone serial n result) v k = users_handle f v (on_op_done f serial n result) (done_calls f result (first_that (asks_op_number serial n result) v.users.waiting) v.users)
handler_of f from (body.AsHeld serial n len) v k = users_handle f v (on_as_held f serial n) (held_calls f (first_that (asks_held_number serial n) v.users.waiting) v.users)
handler_of f from _ v k = absurd k

forms : (b : Body) → IsOpDone b → FormsNone b × TriesNone b
forms (body.OpDone serial n result) k = (tt, tt)
forms (body.AsHeld serial n len) k = (tt, tt)
forms _ k = absurd k

-- ---- who asks it ----

abbrev test_of : Asking → ℕ → ℕ → Result → Bool
test_of (asking.Op s ss number o seen) serial n r = (s == serial) && ((number == n) && answers_op o r)
test_of _ serial n r = false

test_is : (serial n : ℕ) (r : Result) (y : WaitingCall) → asks_op_number serial n r y ≡ test_of y.asking serial n r
test_is serial n r y = by_asking y.asking
  where
    by_asking : (a : Asking) → asks_op_number serial n r (record y { asking = a }) ≡ test_of a serial n r
    by_asking (asking.Op s ss number o seen) = refl
    by_asking _ = refl

and_true : (a b d : Bool) → a ≡ true → b ≡ true → d ≡ true → (a && (b && d)) ≡ true
and_true a b d p q r = ap (λ (x : Bool). x && (b && d)) p ∙ (ap (λ (x : Bool). x && d) q ∙ r)

-- two calls of the site that ask an operation of one instance are one
one_asks : (c : Config) (t : List Line) (f : Frame) (y z : WaitingCall) (serial : ℕ) → (h : WaitingFact c t f y) (g : WaitingFact c t f z) → IsFollowed c t → (o q : Op) → h.wanted ≡ want.Do (serial_of f.me serial) o → g.wanted ≡ want.Do (serial_of f.me serial) q → y.call ≡ z.call
one_asks c t f y z serial h g followed o q yo zo =
    let dy : CallId = own_call f.me f.boot y.call in
    let dz : CallId = own_call f.me f.boot z.call in
    let ay : asked_now c t dy ≡ want.Do (serial_of f.me serial) o = asked_is c t f y h ∙ yo in
    let az : asked_now c t dz ≡ want.Do (serial_of f.me serial) q = asked_is c t f z g ∙ zo in
    number_of_call f.me f.boot y.call z.call (one_has c t f.epoch (serial_of f.me serial) dy dz followed (call_inside c t f y h) (call_inside c t f z g) (ap is_request ay) (ap is_request az)
    (op_had c t dy (serial_of f.me serial) o followed (h.caller, h.named) ay) (op_had c t dz (serial_of f.me serial) q followed (g.caller, g.named) az))

asking_op : (a : Asking) (serial n : ℕ) (r : Result) → test_of a serial n r ≡ true → (ss : ℕ) × (number : ℕ) × (o : Op) × (seen : List ℕ) × (a ≡ asking.Op serial ss number o seen)
asking_op (asking.Op s ss number o seen) serial n r h = (ss, number, o, seen, ap (λ (k : ℕ). asking.Op k ss number o seen) (equal s serial (and_first (s == serial) ((number == n) && answers_op o r) h)))
asking_op (asking.Look file w take) serial n r h = absurd (false_true h)
  where
    false_true : false ≡ true → ⊥
    false_true e = cc
asking_op (asking.Open s file how) serial n r h = absurd (false_true h)
  where
    false_true : false ≡ true → ⊥
    false_true e = cc
asking_op (asking.Close s ss) serial n r h = absurd (false_true h)
  where
    false_true : false ≡ true → ⊥
    false_true e = cc

-- the call asks a read of which its site has the bytes
record HeldAsking (serial n : ℕ) (y : WaitingCall) : Type 0 where
  bytes : List ℕ
  has : y.copied ≡ Some bytes
  ss : ℕ
  at : ℕ
  len : ℕ
  seen : List ℕ
  is : y.asking ≡ asking.Op serial ss n (op.Read at len) seen

false_true : false ≡ true → ⊥
false_true e = cc

held_asking : (serial n : ℕ) (y : WaitingCall) → asks_held_number serial n y ≡ true → HeldAsking serial n y
held_asking serial n y = over y.copied y.asking refl refl
  where
    none : (a : Asking) → asks_held_number serial n (record y { copied = None; asking = a }) ≡ true → ⊥
    none a h = false_true h

    over : (o : Option (List ℕ)) (a : Asking) → y.copied ≡ o → y.asking ≡ a → asks_held_number serial n (record y { copied = o; asking = a }) ≡ true → HeldAsking serial n y
    over None a p q h = absurd (none a h)
    over (Some bytes) (asking.Op s ss number (op.Read at len) seen) p q h = record {
      bytes = bytes;
      has = p;
      ss = ss;
      at = at;
      len = len;
      seen = seen;
      is = q ∙ (ap (λ (k : ℕ). asking.Op k ss number (op.Read at len) seen) (equal s serial (and_first (s == serial) (number == n) h)) ∙ ap (λ (k : ℕ). asking.Op serial ss k (op.Read at len) seen) (equal number n (and_second (s == serial) (number == n) h)));
    }
    over (Some bytes) (asking.Op s ss number o seen) p q h = absurd (false_true h)
    over (Some bytes) (asking.Look file w take) p q h = absurd (false_true h)
    over (Some bytes) (asking.Open s file how) p q h = absurd (false_true h)
    over (Some bytes) (asking.Close s ss) p q h = absurd (false_true h)

    and_second : (a b : Bool) → (a && b) ≡ true → b ≡ true
    and_second true b h = h
    and_second false b h = absurd (false_true h)

asks_held : (serial ss n at len : ℕ) (seen bytes : List ℕ) (y : WaitingCall) → y.copied ≡ Some bytes → y.asking ≡ asking.Op serial ss n (op.Read at len) seen → asks_held_number serial n y ≡ true
asks_held serial ss n at len seen bytes y has is = ap (λ (o : Option (List ℕ)). asks_held_number serial n (record y { copied = o })) has
    ∙ (ap (λ (a : Asking). asks_held_number serial n (record y { copied = Some bytes; asking = a })) is ∙ both (serial == serial) (n == n) (equal_test serial serial refl) (equal_test n n refl))
  where
    both : (a b : Bool) → a ≡ true → b ≡ true → (a && b) ≡ true
    both true true p q = refl
    both true false p q = absurd (false_true q)
    both false b p q = absurd (false_true p)

-- ---- the row ----

pub op_answer_row : (c : Config) → AllGoToMembers c → CarriesOn c IsOpDone
op_answer_row c members lines n e x w d kind old = answer_row c members lines n e x w d (forms x.packet.body kind).0 (forms x.packet.body kind).1 handler old
  where
    m : ℕ
    m = x.packet.to

    p : Packet
    p = x.packet

    v : SiteView
    v = d.view

    t : Taker c e m v
    t = taker c lines n e x w d

    handler : RoundFacts c w → AnswerHandler c e m p v
    handler facts = answer_handler c e m p v (handler_of (frame_of c e m) p.from p.body v kind) (λ from to group copies g. of_kind IsOpDone c e from to (body.Report group copies) p kind g) mine takes
      where
        mine : (at : Places) (s : ℕ) (y : WaitingCall) → Carries c e at s y y.asking p → s ≡ m
        mine at s y k = over a.answers
          where
            a : Asked c e s y p
            a = asked c e at s y p y.asking refl kind k

            over : Answers c e s a.serial a.ss a.n y.copied a.op p → s ≡ m
            over (inl h) = sym (ap (λ (q : Packet). q.to) h.goes.is)
            over (inr h) = sym (ap (λ (q : Packet). q.to) h.goes.is)

        fact : (y : WaitingCall) → Among y v.users.waiting → WaitingFact c w.trace (frame_in c m v.boot e) y
        fact y a = waiting_fact c w m v e y facts.fact d.here t.epoch a

        -- two that ask of one instance are one call
        one : (y z : WaitingCall) → Among y v.users.waiting → Among z v.users.waiting → (serial ss n r k : ℕ) (o q : Op) (saw seen : List ℕ) → y.asking ≡ asking.Op serial ss n o saw → z.asking ≡ asking.Op serial r k q seen → y.call ≡ z.call
        one y z a b serial ss n r k o q saw seen is are = one_asks c w.trace (frame_in c m v.boot e) y z serial hy hz facts.fact.followed o q
            (op_asked c w.trace m (own_call m v.boot y.call) hy.wanted serial ss n o saw (subst (λ (x : Asking). AskingIs c w.trace m (own_call m v.boot y.call) hy.wanted x) is hy.asking_is))
            (op_asked c w.trace m (own_call m v.boot z.call) hz.wanted serial r k q seen (subst (λ (x : Asking). AskingIs c w.trace m (own_call m v.boot z.call) hz.wanted x) are hz.asking_is))
          where
            hy : WaitingFact c w.trace (frame_in c m v.boot e) y
            hy = fact y a

            hz : WaitingFact c w.trace (frame_in c m v.boot e) z
            hz = fact z b

        takes : (at : Places) (y : WaitingCall) → Among y v.users.waiting → Carries c e at m y y.asking p → HasTaken (own_call m v.boot y.call) (handles c e m p v).told ⊎ (Among y (handles c e m p v).view.users.waiting → IsSent (frame_of c e m) y (handles c e m p v).sent)
        takes at y there k = inl (over a.answers)
          where
            a : Asked c e m y p
            a = asked c e at m y p y.asking refl kind k

            in_full : (r : Result) → answers_op a.op r ≡ true → HasTaken (own_call m v.boot y.call) (on_op_done (frame_of c e m) a.serial a.n r v.users).told
            in_full r fits = subst (λ (o : Option WaitingCall). HasTaken (own_call m v.boot y.call) (on_op_done_of (frame_of c e m) r o v.users).told) (sym first.found) (inl (λ i. own_call m (sym t.boot i) (sym same i)))
              where
                test : WaitingCall → Bool
                test = asks_op_number a.serial a.n r

                passes : test y ≡ true
                passes = test_is a.serial a.n r y ∙ (ap (λ (z : Asking). test_of z a.serial a.n r) a.is ∙ and_true (a.serial == a.serial) (a.n == a.n) (answers_op a.op r) (equal_test a.serial a.serial refl) (equal_test a.n a.n refl) fits)

                first : Found test v.users.waiting
                first = first_found test v.users.waiting y there passes

                theirs : (ss : ℕ) × (number : ℕ) × (o : Op) × (seen : List ℕ) × (first.it.asking ≡ asking.Op a.serial ss number o seen)
                theirs = asking_op first.it.asking a.serial a.n r (sym (test_is a.serial a.n r first.it) ∙ first.passes)

                same : y.call ≡ first.it.call
                same = one y first.it there first.there a.serial a.ss a.n theirs.0 theirs.1 a.op theirs.2 a.seen theirs.3 a.is theirs.4

            as_held : AnswersHeld c e m a.serial a.ss a.n y.copied a.op p → HasTaken (own_call m v.boot y.call) (on_as_held (frame_of c e m) a.serial a.n v.users).told
            as_held h = subst (λ (o : Option WaitingCall). HasTaken (own_call m v.boot y.call) (on_as_held_of (frame_of c e m) o v.users).told) (sym first.found)
                (subst (λ (o : Option (List ℕ)). HasTaken (own_call m v.boot y.call) (takes_copied (frame_of c e m) first.it o v.users).told) (sym theirs.has) (inl (λ i. own_call m (sym t.boot i) (sym same i))))
              where
                test : WaitingCall → Bool
                test = asks_held_number a.serial a.n

                reads : y.asking ≡ asking.Op a.serial a.ss a.n (op.Read h.at h.len) a.seen
                reads = a.is ∙ ap (λ (o : Op). asking.Op a.serial a.ss a.n o a.seen) h.is_read

                first : Found test v.users.waiting
                first = first_found test v.users.waiting y there (asks_held a.serial a.ss a.n h.at h.len a.seen h.bytes y h.has reads)

                theirs : HeldAsking a.serial a.n first.it
                theirs = held_asking a.serial a.n first.it first.passes

                same : y.call ≡ first.it.call
                same = one y first.it there first.there a.serial a.ss a.n theirs.ss a.n (op.Read h.at h.len) (op.Read theirs.at theirs.len) a.seen theirs.seen reads theirs.is

            over : Answers c e m a.serial a.ss a.n y.copied a.op p → HasTaken (own_call m v.boot y.call) (handles c e m p v).told
            over (inl h) = subst (λ (b : Body). HasTaken (own_call m v.boot y.call) (takes_inside (frame_of c e m) p.from b v).told) (sym (ap (λ (q : Packet). q.body) h.goes.is)) (in_full h.result h.fits)
            over (inr h) = subst (λ (b : Body). HasTaken (own_call m v.boot y.call) (takes_inside (frame_of c e m) p.from b v).told) (sym (ap (λ (q : Packet). q.body) h.goes.is)) (as_held h)
