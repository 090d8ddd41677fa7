-- The answer to a look that comes to its using site: the call that asks it takes it, or asks the look again where the version was there no more.
use Rattle.std.proofs.Common.{◌≡◌, ℕ, ◌==◌, ◌⊎◌, Bool, true, false, ◌&&◌, List, [], ◌∷◌, Option, Some, None, refl, sym, ◌∙◌, ap, subst, inl, inr, ◌<◌, ◌+◌, nat_lt, arith}
use Rattle.locus_ids.specs.declared.config.Config.{Config}
use Rattle.locus_ids.specs.declared.ids.CallId.{CallId}
use Rattle.locus_ids.specs.declared.ids.FileId.{FileId}
use Rattle.call_rules.specs.declared.answer.Answer.TheVariants as answer
use Rattle.wire_messages.specs.declared.body.Body.{Body}
use Rattle.wire_messages.specs.declared.body.Body.TheVariants as body
use Rattle.wire_messages.specs.declared.packet.Packet.{Packet}
use Rattle.role_steps.specs.Epochs.{frame_in}
use Rattle.role_steps.specs.Tables.{with_row, first_that}
use Rattle.trace_book.specs.declared.operation.What.{What}
use Rattle.trace_book.specs.declared.operation.What.TheVariants as what
use Rattle.wire_messages.specs.declared.body.LookAnswer.{LookAnswer}
use Rattle.wire_messages.specs.declared.body.LookAnswer.TheVariants as looked
use Rattle.role_steps.specs.Requests.{waiting_key, request_packets}
use Rattle.role_steps.specs.Using.{answers_what, asks_take, content_answer, with_brought, looks_again, takes_look, on_look_done, on_look_done_of}
use Rattle.tree_laws.specs.Stores.{Ascends}
use Rattle.store_laws.specs.Users.Leaving.{AreApart}
use Rattle.std.proofs.lemmas.Bool.Decides.{nat_tests}
use Rattle.role_steps.proofs.of_plain_facts.Numbers.{apart, equal, equal_test}
use Rattle.role_steps.proofs.of_plain_facts.Tests.{both_true}
use Rattle.store_laws.specs.OneTree.Places.{InsideFact}
use Rattle.role_steps.specs.Views.{Frame, Users, SiteView}
use Rattle.role_steps.specs.declared.rounds.InEpoch.{InEpoch}
use Rattle.role_steps.specs.declared.users.Asking.{Asking}
use Rattle.role_steps.specs.declared.users.Asking.TheVariants as asking
use Rattle.role_steps.specs.declared.users.WaitingCall.{WaitingCall}
use Rattle.the_run.specs.Kept.{Among}
use Rattle.the_run.specs.Steps.{takes_inside}
use Rattle.run_laws.specs.Epochs.Forming.{FormsNone}
use Rattle.run_laws.specs.Epochs.Known.{Places}
use Rattle.tree_laws.specs.Users.{own_call}
use Rattle.calm_laws.specs.Carrying.{frame_of, look_body, CarriesLook, AnswersLook, Carries}
use Rattle.calm_laws.specs.Rounds.{CarriesOn, IsLookDone}
use Rattle.calm_laws.proofs.AnswerRows.{HasTaken, AnswerHandler, answer_row, inside_fact}
use Rattle.calm_laws.proofs.Calls.{CallsAsk, IsSent, asks_calls}
use Rattle.calm_laws.proofs.Carriers.{of_kind, MayCarry, IsLookAsking, carrier_kind}
use Rattle.calm_laws.proofs.Ends.{handles}
use Rattle.calm_laws.proofs.Facts.{RoundFacts}
use Rattle.calm_laws.proofs.Rows.{AllGoToMembers, TriesNone, Taker, taker}
use Rattle.calm_laws.proofs.Lists.{every_among}
use Rattle.calm_laws.proofs.UserParts.{UserHandler, users_handle, answer_calls, answer_handler, Found, first_found}

-- ---- which calls it carries ----

only_looks : (a : Asking) (b : Body) → IsLookDone b → MayCarry a b → IsLookAsking a
only_looks (asking.Look file w take) b k h = tt
only_looks (asking.Open serial file how) (body.LookDone call request take answer) k h = h
only_looks (asking.Open serial file how) _ k h = absurd k
only_looks (asking.Op serial ss n o seen) (body.LookDone call request take answer) k h = h
only_looks (asking.Op serial ss n o seen) _ k h = absurd k
only_looks (asking.Close serial ss) (body.LookDone call request take answer) k h = h
only_looks (asking.Close serial ss) _ k h = absurd k

answers_look_of : (c : Config) (e : InEpoch) (s : ℕ) (y : WaitingCall) (file : FileId) (w : What) (take css : ℕ) (p : Packet) → IsLookDone p.body → CarriesLook c e s y file w take css p → AnswersLook c e s y w take p
answers_look_of c e s y file w take css p k (inl g) = absurd (of_kind IsLookDone c e s css (look_body y file w take) p k g)
answers_look_of c e s y file w take css p k (inr (inl h)) = absurd (of_kind IsLookDone c e h.css h.holder (body.LookSs s y.call y.process y.request take file w h.stamp) p k h.goes)
answers_look_of c e s y file w take css p k (inr (inr h)) = h

-- the look that the call asks, and the answer to it
record Asked (c : Config) (e : InEpoch) (s : ℕ) (y : WaitingCall) (p : Packet) : Type 0 where
  file : FileId
  what : What
  take : ℕ
  is : y.asking ≡ asking.Look file what take
  answers : AnswersLook c e s y what take p

asked : (c : Config) (e : InEpoch) (at : Places) (s : ℕ) (y : WaitingCall) (p : Packet) (a : Asking) → y.asking ≡ a → IsLookDone p.body → Carries c e at s y a p → Asked c e s y p
asked c e at s y p (asking.Look file w take) is kind k = record { file = file; what = w; take = take; is = is; answers = answers_look_of c e s y file w take k.0 p kind k.2 }
asked c e at s y p (asking.Open serial file how) is kind k = absurd (only_looks (asking.Open serial file how) p.body kind (carrier_kind c e at s y (asking.Open serial file how) p k))
asked c e at s y p (asking.Op serial ss n o seen) is kind k = absurd (only_looks (asking.Op serial ss n o seen) p.body kind (carrier_kind c e at s y (asking.Op serial ss n o seen) p k))
asked c e at s y p (asking.Close serial ss) is kind k = absurd (only_looks (asking.Close serial ss) p.body kind (carrier_kind c e at s y (asking.Close serial ss) p k))

-- ---- the handler ----

again_calls : (f : Frame) (w : WaitingCall) (a : Asking) (u : Users) → CallsAsk f u.waiting (looks_again f w a u).view.waiting (looks_again f w a u).sent
again_calls f w (asking.Look file what take) u y m = asks_calls f (record w { asking = asking.Look file what (take + 1) }) u y m
again_calls f w _ u y m = inl m

looked_calls : (f : Frame) (w : WaitingCall) (r : LookAnswer) (u : Users) → CallsAsk f u.waiting (takes_look f w r u).view.waiting (takes_look f w r u).sent
looked_calls f w (looked.Found ino kind) u y m = answer_calls f w (answer.Entered ino kind) u y m
looked_calls f w (looked.Content bytes) u y m = answer_calls f (with_brought w.asking bytes w) (content_answer w.asking bytes) u y m
looked_calls f w (looked.Stat kind size stamp) u y m = answer_calls f w (answer.Described kind size stamp) u y m
looked_calls f w looked.Moved u y m = again_calls f w w.asking u y m
looked_calls f w (looked.No why) u y m = answer_calls f w (answer.Refused why) u y m

done_calls : (f : Frame) (r : LookAnswer) (o : Option WaitingCall) (u : Users) → CallsAsk f u.waiting (on_look_done_of f r o u).view.waiting (on_look_done_of f r o u).sent
done_calls f r None u y m = inl m
done_calls f r (Some w) u y m = looked_calls f w r u y m

handler_of : (f : Frame) (from : ℕ) (b : Body) (v : SiteView) → IsLookDone b → UserHandler f v (takes_inside f from b v)
handler_of f from (body.LookDone call request take answer) v k = users_handle f v (on_look_done f call request take answer) (done_calls f answer (first_that (asks_take call request take answer) v.users.waiting) v.users)
handler_of f from _ v k = absurd k

forms : (b : Body) → IsLookDone b → FormsNone b × TriesNone b
forms (body.LookDone call request take answer) k = (tt, tt)
forms _ k = absurd k

-- ---- a look that is asked again ----

below_not : (a b : ℕ) → nat_lt a b ≡ true → a ≡ b → ⊥
below_not a b h e = grind (arith, nat_tests)

equal_below : (a b d : ℕ) → (a == b) ≡ true → a < d → d ≡ b → ⊥
equal_below a b d h k e = grind (arith, nat_tests)

beyond : (a b d : ℕ) → nat_lt a b ≡ false → a < d → d ≡ b → ⊥
beyond a b d h k e = grind (arith, nat_tests)

-- in a table in order a row takes the place of the one with its key
row_strict : {A : Type 0} (key : A → ℕ) (x y : A) (xs : List A) → Ascends key xs → Among y (with_row key x xs) → (y ≡ x) ⊎ (key y ≡ key x → ⊥)
row_strict key x y [] h (inl e) = inl e
row_strict key x y [] h (inr m) = absurd m
row_strict {A = A} key x y (z ∷ zs) h m = by_order (nat_lt (key z) (key x)) (key z == key x) refl refl (λ k. row_strict key x y zs h.1 k) m
  where
    higher : (k : A) → Among k zs → key z < key k
    higher k a = every_among (λ (q : A). key z < key q) k zs a h.0

    by_order : (a b : Bool) → nat_lt (key z) (key x) ≡ a → (key z == key x) ≡ b → (Among y (with_row key x zs) → (y ≡ x) ⊎ (key y ≡ key x → ⊥)) → Among {A = A} y (elim a [ true ↦ z ∷ with_row key x zs | false ↦ elim b [ true ↦ x ∷ zs | false ↦ x ∷ z ∷ zs ] ]) → (y ≡ x) ⊎ (key y ≡ key x → ⊥)
    by_order true b p q f (inl e) = inr (λ k. below_not (key z) (key x) p (ap key (sym e) ∙ k))
    by_order true b p q f (inr k) = f k
    by_order false true p q f (inl e) = inl e
    by_order false true p q f (inr k) = inr (λ r. equal_below (key z) (key x) (key y) q (higher y k) r)
    by_order false false p q f (inl e) = inl e
    by_order false false p q f (inr (inl e)) = inr (λ k. apart (key z) (key x) q (ap key (sym e) ∙ k))
    by_order false false p q f (inr (inr k)) = inr (λ r. beyond (key z) (key x) (key y) p (higher y k) r)

asked_again : (f : Frame) (y : WaitingCall) (a : Asking) (file : FileId) (w : What) (take : ℕ) (u : Users) → a ≡ asking.Look file w take → Ascends waiting_key u.waiting → Among y (looks_again f y a u).view.waiting → IsSent f y (looks_again f y a u).sent
asked_again f y a file w take u is asc = subst (λ (z : Asking). Among y (looks_again f y z u).view.waiting → IsSent f y (looks_again f y z u).sent) (sym is) by_row
  where
    over : (y ≡ record y { asking = asking.Look file w (take + 1) }) ⊎ (waiting_key y ≡ waiting_key y → ⊥) → IsSent f y (looks_again f y (asking.Look file w take) u).sent
    over (inl e) = λ p b. subst (λ (x : WaitingCall). Among p (request_packets f x x.asking)) e b
    over (inr ne) = absurd (ne refl)

    by_row : Among y (looks_again f y (asking.Look file w take) u).view.waiting → IsSent f y (looks_again f y (asking.Look file w take) u).sent
    by_row m = over (row_strict waiting_key (record y { asking = asking.Look file w (take + 1) }) y u.waiting asc m)

call_same : (a : Asking) (bytes : List ℕ) (w : WaitingCall) → (with_brought a bytes w).call ≡ w.call
call_same (asking.Look file (what.Whole stamp) take) bytes w = refl
call_same _ bytes w = refl

-- no two waiting calls have one number
apart_same : (xs : List WaitingCall) (y z : WaitingCall) → AreApart xs → Among y xs → Among z xs → y.call ≡ z.call → y ≡ z
apart_same [] y z h a b e = absurd a
apart_same (x ∷ xs) y z h (inl a) (inl b) e = a ∙ sym b
apart_same (x ∷ xs) y z h (inl a) (inr b) e = absurd (every_among (λ (v : WaitingCall). v.call ≡ x.call → ⊥) z xs b h.0 (sym e ∙ ap (λ (v : WaitingCall). v.call) a))
apart_same (x ∷ xs) y z h (inr a) (inl b) e = absurd (every_among (λ (v : WaitingCall). v.call ≡ x.call → ⊥) y xs a h.0 (e ∙ ap (λ (v : WaitingCall). v.call) b))
apart_same (x ∷ xs) y z h (inr a) (inr b) e = apart_same xs y z h.1 a b e

-- ---- who asks it ----

abbrev test_of : Asking → ℕ → LookAnswer → Bool
test_of (asking.Look file asked t) take r = (t == take) && answers_what asked r
test_of _ take r = false

test_is : (n request take : ℕ) (r : LookAnswer) (y : WaitingCall) → asks_take n request take r y ≡ ((y.call == n) && ((y.request == request) && test_of y.asking take r))
test_is n request take r y = by_asking y.asking
  where
    by_asking : (a : Asking) → asks_take n request take r (record y { asking = a }) ≡ ((y.call == n) && ((y.request == request) && test_of a take r))
    by_asking (asking.Look file asked t) = refl
    by_asking _ = refl

all_true : (a b d : Bool) → a ≡ true → b ≡ true → d ≡ true → (a && (b && d)) ≡ true
all_true a b d p q r = ap (λ (x : Bool). x && (b && d)) p ∙ (ap (λ (x : Bool). x && d) q ∙ r)

-- what the found call does with the answer
look_taken : (f : Frame) (z y : WaitingCall) (r : LookAnswer) (u : Users) (d : CallId) (file : FileId) (w : What) (take : ℕ) → own_call f.me f.boot z.call ≡ d → z ≡ y → y.asking ≡ asking.Look file w take → Ascends waiting_key u.waiting → HasTaken d (takes_look f z r u).told ⊎ (Among y (takes_look f z r u).view.waiting → IsSent f y (takes_look f z r u).sent)
look_taken f z y (looked.Found ino kind) u d file w take e same is asc = inl (inl e)
look_taken f z y (looked.Content bytes) u d file w take e same is asc = inl (inl (ap (own_call f.me f.boot) (call_same z.asking bytes z) ∙ e))
look_taken f z y (looked.Stat kind size stamp) u d file w take e same is asc = inl (inl e)
look_taken f z y (looked.No why) u d file w take e same is asc = inl (inl e)
look_taken f z y looked.Moved u d file w take e same is asc = inr (subst (λ (k : WaitingCall). Among y (looks_again f k k.asking u).view.waiting → IsSent f y (looks_again f k k.asking u).sent) (sym same) (λ m. asked_again f y y.asking file w take u is asc m))

-- ---- the row ----

pub look_answer_row : (c : Config) → AllGoToMembers c → CarriesOn c IsLookDone
look_answer_row c members lines n e x w d kind old = answer_row c members lines n e x w d (forms x.packet.body kind).0 (forms x.packet.body kind).1 handler old
  where
    m : ℕ
    m = x.packet.to

    p : Packet
    p = x.packet

    v : SiteView
    v = d.view

    t : Taker c e m v
    t = taker c lines n e x w d

    handler : RoundFacts c w → AnswerHandler c e m p v
    handler facts = answer_handler c e m p v (handler_of (frame_of c e m) p.from p.body v kind) (λ from to group copies g. of_kind IsLookDone c e from to (body.Report group copies) p kind g) mine takes
      where
        mine : (at : Places) (s : ℕ) (y : WaitingCall) → Carries c e at s y y.asking p → s ≡ m
        mine at s y k = (let a : Asked c e s y p = asked c e at s y p y.asking refl kind k in sym (ap (λ (q : Packet). q.to) a.answers.goes.is))

        fact : InsideFact c (frame_in c m v.boot e) w.trace v
        fact = inside_fact c w m v e facts.fact d.here t.epoch

        takes : (at : Places) (y : WaitingCall) → Among y v.users.waiting → Carries c e at m y y.asking p → HasTaken (own_call m v.boot y.call) (handles c e m p v).told ⊎ (Among y (handles c e m p v).view.users.waiting → IsSent (frame_of c e m) y (handles c e m p v).sent)
        takes at y there k = subst (λ (b : Body). HasTaken (own_call m v.boot y.call) (takes_inside (frame_of c e m) p.from b v).told ⊎ (Among y (takes_inside (frame_of c e m) p.from b v).view.users.waiting → IsSent (frame_of c e m) y (takes_inside (frame_of c e m) p.from b v).sent)) (sym (ap (λ (q : Packet). q.body) a.answers.goes.is)) done
          where
            a : Asked c e m y p
            a = asked c e at m y p y.asking refl kind k

            test : WaitingCall → Bool
            test = asks_take y.call y.request a.take a.answers.answer

            passes : test y ≡ true
            passes = test_is y.call y.request a.take a.answers.answer y ∙ all_true (y.call == y.call) (y.request == y.request) (test_of y.asking a.take a.answers.answer) (equal_test y.call y.call refl) (equal_test y.request y.request refl)
                (ap (λ (z : Asking). test_of z a.take a.answers.answer) a.is ∙ (ap (λ (b : Bool). b && answers_what a.what a.answers.answer) (equal_test a.take a.take refl) ∙ a.answers.fits))

            first : Found test v.users.waiting
            first = first_found test v.users.waiting y there passes

            call_is : first.it.call ≡ y.call
            call_is = equal first.it.call y.call (both_true (first.it.call == y.call) ((first.it.request == y.request) && test_of first.it.asking a.take a.answers.answer) (sym (test_is y.call y.request a.take a.answers.answer first.it) ∙ first.passes)).0

            same : first.it ≡ y
            same = apart_same v.users.waiting first.it y fact.users.apart first.there there call_is

            done : HasTaken (own_call m v.boot y.call) (on_look_done (frame_of c e m) y.call y.request a.take a.answers.answer v.users).told ⊎ (Among y (on_look_done (frame_of c e m) y.call y.request a.take a.answers.answer v.users).view.waiting → IsSent (frame_of c e m) y (on_look_done (frame_of c e m) y.call y.request a.take a.answers.answer v.users).sent)
            done = subst (λ (o : Option WaitingCall). HasTaken (own_call m v.boot y.call) (on_look_done_of (frame_of c e m) a.answers.answer o v.users).told ⊎ (Among y (on_look_done_of (frame_of c e m) a.answers.answer o v.users).view.waiting → IsSent (frame_of c e m) y (on_look_done_of (frame_of c e m) a.answers.answer o v.users).sent)) (sym first.found)
                (look_taken (frame_of c e m) first.it y a.answers.answer v.users (own_call m v.boot y.call) a.file a.what a.take (λ i. own_call m (sym t.boot i) (call_is i)) same a.is fact.users.waiting_ascends)
