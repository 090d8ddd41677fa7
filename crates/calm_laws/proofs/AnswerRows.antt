-- An answer that comes to a using site: its call takes it, and goes on; so it asks something else then, or has its reply.
use Rattle.std.proofs.Common.{◌≡◌, ℕ, ◌+◌, ◌≤◌, ◌⊎◌, Bool, true, false, cond, List, [], ◌∷◌, ◌++◌, length, Option, Some, sym, ◌∙◌, ap, subst, inl, inr, length-append, arith}
use Rattle.std.proofs.lemmas.Bool.Decides.{nat_tests}
use Rattle.locus_ids.specs.declared.config.Config.{Config}
use Rattle.locus_ids.specs.declared.ids.CallId.{CallId}
use Rattle.locus_ids.specs.declared.sites.Links.{Links}
use Rattle.trace_book.specs.Same.{same_call}
use Rattle.schedule_lines.specs.declared.line.ScheduleLine.{ScheduleLine}
use Rattle.wire_messages.specs.declared.body.Body.TheVariants as body
use Rattle.wire_messages.specs.declared.body.ReportedCopy.{ReportedCopy}
use Rattle.wire_messages.specs.declared.packet.Packet.{Packet}
use Rattle.role_steps.specs.Epochs.{frame_in}
use Rattle.role_steps.specs.Views.{SiteView, Told, Takes, Outcome, Receives}
use Rattle.role_steps.specs.declared.rounds.InEpoch.{InEpoch}
use Rattle.role_steps.specs.declared.users.WaitingCall.{WaitingCall}
use Rattle.the_run.specs.Kept.{Among}
use Rattle.the_run.specs.Runs.{arrives}
use Rattle.the_run.specs.Steps.{tries_at, whole, step}
use Rattle.the_run.specs.Worlds.{World, Running, Numbered, Line, place_at, told_onto}
use Rattle.run_laws.specs.Epochs.Forming.{FormsNone}
use Rattle.run_laws.specs.Epochs.Known.{Places}
use Rattle.lawful_trace.specs.Progress.{Answers}
use Rattle.tree_laws.specs.Calls.{log_after, log}
use Rattle.tree_laws.specs.Users.{own_call, WaitingFact}
use Rattle.store_laws.specs.OneTree.Places.{InsideFact, SiteIn, WorldFact}
use Rattle.calm_laws.specs.Carrying.{frame_of, Goes, Carries, IsAllCarried}
use Rattle.calm_laws.specs.Rounds.{Delivery}
use Rattle.calm_laws.proofs.Calls.{CallsAsk, IsSent}
use Rattle.calm_laws.proofs.Ends.{After, handles, step_is}
use Rattle.calm_laws.proofs.Facts.{RoundFacts, round_facts}
use Rattle.calm_laws.proofs.Handing.{StillWaits, IsHandedOn, Hands}
use Rattle.calm_laws.proofs.Keeping.{KeepsRoles, AllKeep, one_keeps, roles_then, carries_kept, held_kept, reported_kept}
use Rattle.calm_laws.proofs.Lists.{every_among}
use Rattle.calm_laws.proofs.Requests.{Requested, request_carries}
use Rattle.calm_laws.proofs.Rows.{AllGoToMembers, TriesNone, Taker, taker, Event, event_row, handler_after}
use Rattle.row_laws.specs.Orderly.Calm.{IsInside}
use Rattle.row_laws.proofs.Orderly.Places.{view_eq}

-- ---- a log grows where its call takes an answer ----

-- the call takes an answer in these
abbrev pub TakesFor : CallId → Told → Type 0
TakesFor d (Takes s call request times a) = call ≡ d
TakesFor d _ = ⊥

abbrev pub HasTaken : CallId → List Told → Type 0
HasTaken d [] = ⊥
HasTaken d (x ∷ xs) = TakesFor d x ⊎ HasTaken d xs

pub taken_left : (d : CallId) (xs ys : List Told) → HasTaken d xs → HasTaken d (xs ++ ys)
taken_left d [] ys h = absurd h
taken_left d (x ∷ xs) ys (inl k) = inl k
taken_left d (x ∷ xs) ys (inr h) = inr (taken_left d xs ys h)

pub taken_right : (d : CallId) (xs ys : List Told) → HasTaken d ys → HasTaken d (xs ++ ys)
taken_right d [] ys h = h
taken_right d (x ∷ xs) ys h = inr (taken_right d xs ys h)

one_longer : (d : CallId) (x : Told) (old : Answers) → length old ≤ length (log_after x d old)
one_longer d (Takes s call request times a) old = over (same_call call d)
  where
    over : (b : Bool) → length old ≤ length (cond b (old ++ a ∷ []) old)
    over true = (let e : length (old ++ a ∷ []) ≡ length old + 1 = length-append old (a ∷ []) in omega (arith, e))
    over false = omega arith
one_longer d _ old = omega arith

onto_longer : (n : ℕ) (told : List Told) (trace : List Line) (d : CallId) → length (log trace d) ≤ length (log (told_onto n told trace) d)
onto_longer n [] trace d = omega arith
onto_longer n (x ∷ xs) trace d = (let a : length (log trace d) ≤ length (log_after x d (log trace d)) = one_longer d x (log trace d) in let b : length (log_after x d (log trace d)) ≤ length (log (told_onto n xs (record { number = n; told = x } ∷ trace)) d) = onto_longer n xs (record { number = n; told = x } ∷ trace) d in omega (arith, a, b))

call_itself : (d : CallId) → same_call d d ≡ true
call_itself d = grind (arith, nat_tests)

takes_longer : (d : CallId) (x : Told) (old : Answers) → TakesFor d x → length old + 1 ≤ length (log_after x d old)
takes_longer d (Takes s call request times a) old e = subst (λ (b : Bool). length old + 1 ≤ length (cond b (old ++ a ∷ []) old)) (sym (ap (λ (k : CallId). same_call k d) e ∙ call_itself d)) (let k : length (old ++ a ∷ []) ≡ length old + 1 = length-append old (a ∷ []) in omega (arith, k))
takes_longer d _ old e = absurd e

pub taken_longer : (n : ℕ) (told : List Told) (trace : List Line) (d : CallId) → HasTaken d told → length (log trace d) + 1 ≤ length (log (told_onto n told trace) d)
taken_longer n [] trace d h = absurd h
taken_longer n (x ∷ xs) trace d (inl k) = (let a : length (log trace d) + 1 ≤ length (log_after x d (log trace d)) = takes_longer d x (log trace d) k in let b : length (log_after x d (log trace d)) ≤ length (log (told_onto n xs (record { number = n; told = x } ∷ trace)) d) = onto_longer n xs (record { number = n; told = x } ∷ trace) d in omega (arith, a, b))
taken_longer n (x ∷ xs) trace d (inr h) = (let a : length (log trace d) ≤ length (log_after x d (log trace d)) = one_longer d x (log trace d) in let b : length (log_after x d (log trace d)) + 1 ≤ length (log (told_onto n xs (record { number = n; told = x } ∷ trace)) d) = taken_longer n xs (record { number = n; told = x } ∷ trace) d h in omega (arith, a, b))

-- ---- a waiting call by the trace ----

-- what a member in its epoch has, by the trace
pub inside_fact : (c : Config) (w : World) (s : ℕ) (v : SiteView) (e : InEpoch) → WorldFact c w → place_at w s ≡ Some (Running v) → v.epoch ≡ Some e → InsideFact c (frame_in c s v.boot e) w.trace v
inside_fact c w s v e f here inside = subst (λ (o : Option InEpoch). SiteIn c s w.trace v o) inside (f.places s (Running v) here)

pub waiting_fact : (c : Config) (w : World) (s : ℕ) (v : SiteView) (e : InEpoch) (y : WaitingCall) → WorldFact c w → place_at w s ≡ Some (Running v) → v.epoch ≡ Some e → Among y v.users.waiting → WaitingFact c w.trace (frame_in c s v.boot e) y
waiting_fact c w s v e y f here inside a = every_among (WaitingFact c w.trace (frame_in c s v.boot e)) y v.users.waiting a (inside_fact c w s v e f here inside).users.inside.inside.calls

-- ---- the row ----

-- what the handler of an answer does, where it finds the call that asked
pub record AnswerHandler (c : Config) (e : InEpoch) (m : ℕ) (p : Packet) (v : SiteView) : Type 0 where
  pub roles : KeepsRoles v (handles c e m p v).view
  pub boot : (handles c e m p v).view.boot ≡ v.boot
  pub round : (handles c e m p v).view.round ≡ v.round
  pub epoch : (handles c e m p v).view.epoch ≡ v.epoch
  pub calls : CallsAsk (frame_of c e m) v.users.waiting (handles c e m p v).view.users.waiting (handles c e m p v).sent
  pub none : (from to group : ℕ) (copies : List ReportedCopy) → Goes c e from to (body.Report group copies) p → ⊥
  -- whose call it carries is the member, and the call takes it, or asks again
  pub mine : (at : Places) (s : ℕ) (y : WaitingCall) → Carries c e at s y y.asking p → s ≡ m
  pub takes : (at : Places) (y : WaitingCall) → Among y v.users.waiting → Carries c e at m y y.asking p → HasTaken (own_call m v.boot y.call) (handles c e m p v).told ⊎ (Among y (handles c e m p v).view.users.waiting → IsSent (frame_of c e m) y (handles c e m p v).sent)

told_after : (c : Config) (e : InEpoch) (m : ℕ) (links : Links) (p : Packet) (v : SiteView) (d : CallId) → HasTaken d (handles c e m p v).told → HasTaken d (whole c m links (handles c e m p v) (tries_at c m p.body)).told
told_after c e m links p v d h = taken_right d (tries_at c m p.body (handles c e m p v).view).told _ (taken_left d (handles c e m p v).told _ h)

pub answer_row : (c : Config) → AllGoToMembers c → (lines : List ScheduleLine) (n : ℕ) (e : InEpoch) (x : Numbered) (w : World) (d : Delivery c lines n e x w) → FormsNone x.packet.body → TriesNone x.packet.body → (RoundFacts c w → AnswerHandler c e x.packet.to x.packet d.view) → IsAllCarried c e w → IsAllCarried c e (arrives c n x w)
answer_row c members lines n e x w d forms tries handler old = event_row c members lines n e x w d hands old
  where
    m : ℕ
    m = x.packet.to

    before : RoundFacts c w
    before = round_facts c lines n w d.round

    h : AnswerHandler c e m x.packet d.view
    h = handler before

    t : Taker c e m d.view
    t = taker c lines n e x w d

    o : Outcome SiteView
    o = handles c e m x.packet d.view

    hands : (links : Links) (u : World) → Event c lines n e x w d.view links u → Hands c e m (place_at w) (place_at u) x.packet d.view (step c m links d.view (Receives x.packet)).view (step c m links d.view (Receives x.packet)).sent
    hands links u k = record {
      calls = λ y a. calls y a (asks y a);
      keeps = λ s y q still g. inl (carries_kept c e (place_at w) (place_at u) s y y.asking q keep g);
      takes = λ s y still g. takes s y still g (h.mine (place_at w) s y g);
      holds = λ s y still g. inr (held_kept c e (place_at w) (place_at u) s y y.asking keep g);
      reported = λ css group s i r. reported_kept e (place_at w) (place_at u) css group s keep i r;
      counts = λ group css s copies sync g. absurd (h.none s css group copies g);
    }
      where
        end : Outcome SiteView
        end = step c m links d.view (Receives x.packet)

        after : After (frame_of c e m) o.view o.sent end
        after = handler_after c e m links x.packet d.view t forms tries d.taken h.boot h.round h.epoch

        keep : AllKeep e (place_at w) (place_at u)
        keep = one_keeps e m (place_at w) (place_at u) d.view end.view d.here k.run.here k.moved.others (roles_then d.view o.view end.view h.roles after.keeps)

        -- a call that waits now waited before, or its request is sent
        asks : (y : WaitingCall) → Among y end.view.users.waiting → Among y d.view.users.waiting ⊎ IsSent (frame_of c e m) y end.sent
        asks y a = over (after.calls y a)
          where
            first : Among y d.view.users.waiting ⊎ IsSent (frame_of c e m) y o.sent → Among y d.view.users.waiting ⊎ IsSent (frame_of c e m) y end.sent
            first (inl b) = inl b
            first (inr g) = inr (λ p i. after.sends p (g p i))

            over : Among y o.view.users.waiting ⊎ IsSent (frame_of c e m) y end.sent → Among y d.view.users.waiting ⊎ IsSent (frame_of c e m) y end.sent
            over (inl b) = first (h.calls y b)
            over (inr g) = inr g

        anew : (y : WaitingCall) → Among y end.view.users.waiting → IsSent (frame_of c e m) y end.sent → IsHandedOn c e (place_at u) end.sent m y
        anew y a g = (let r : Requested c e (place_at u) m y y.asking = request_carries c e (place_at u) m y y.asking d.member (k.requests m end.view y d.member k.run.here a) in inl (r.letter, g r.letter r.there, r.carries))

        calls : (y : WaitingCall) → Among y end.view.users.waiting → Among y d.view.users.waiting ⊎ IsSent (frame_of c e m) y end.sent → Among y d.view.users.waiting ⊎ IsHandedOn c e (place_at u) end.sent m y
        calls y a (inl b) = inl b
        calls y a (inr g) = inr (anew y a g)

        takes : (s : ℕ) (y : WaitingCall) → StillWaits e (place_at w) (place_at u) s y → Carries c e (place_at w) s y y.asking x.packet → s ≡ m → IsHandedOn c e (place_at u) end.sent s y
        takes s y still g eq = subst (λ (z : ℕ). IsHandedOn c e (place_at u) end.sent z y) (sym eq) (by_taking (h.takes (place_at w) y was (subst (λ (z : ℕ). Carries c e (place_at w) z y y.asking x.packet) eq g)))
          where
            was : Among y d.view.users.waiting
            was = subst (λ (z : SiteView). Among y z.users.waiting) (view_eq (place_at w m) still.before d.view (ap (place_at w) (sym eq) ∙ still.was) d.here) still.waited

            now : Among y end.view.users.waiting
            now = subst (λ (z : SiteView). Among y z.users.waiting) (view_eq (place_at u m) still.after end.view (ap (place_at u) (sym eq) ∙ still.here) k.run.here) still.waits

            -- the call hasn't taken the answer, where it waits as before
            still_log : HasTaken (own_call m d.view.boot y.call) o.told → ⊥
            still_log taken = longer (length (log w.trace call)) (length (log u.trace call)) (ap length (sym earlier.answers_are)) (ap length later_answers) (subst (λ (z : List Line). length (log w.trace call) + 1 ≤ length (log z call)) (sym k.run.trace) (taken_longer n end.told w.trace call told))
              where
                call : CallId
                call = own_call m d.view.boot y.call

                told : HasTaken call end.told
                told = subst (λ (z : Outcome SiteView). HasTaken call z.told) (sym (step_is c e m links x.packet d.view forms t.epoch t.boot d.taken)) (told_after c e m links x.packet d.view call taken)

                earlier : WaitingFact c w.trace (frame_in c m d.view.boot e) y
                earlier = waiting_fact c w m d.view e y before.fact d.here t.epoch was

                end_inside : (end.view.epoch ≡ Some e) × (end.view.boot ≡ d.view.boot)
                end_inside = (let i : IsInside u e m = k.together.inside m d.member in let is : i.view ≡ end.view = view_eq (place_at u m) i.view end.view i.here k.run.here in
                    (ap (λ (z : SiteView). z.epoch) (sym is) ∙ i.epoch, ap (λ (z : SiteView). z.boot) (sym is) ∙ (i.boot ∙ sym t.boot)))

                later : WaitingFact c u.trace (frame_in c m end.view.boot e) y
                later = waiting_fact c u m end.view e y (round_facts c lines n u k.round).fact k.run.here end_inside.0 now

                later_answers : y.answers ≡ log u.trace call
                later_answers = later.answers_are ∙ ap (λ (b : ℕ). log u.trace (own_call m b y.call)) end_inside.1

                longer : (a b : ℕ) → a ≡ length y.answers → length y.answers ≡ b → a + 1 ≤ b → ⊥
                longer a b p q le = omega (arith, p, q, le)

            by_taking : HasTaken (own_call m d.view.boot y.call) o.told ⊎ (Among y o.view.users.waiting → IsSent (frame_of c e m) y o.sent) → IsHandedOn c e (place_at u) end.sent m y
            by_taking (inl taken) = absurd (still_log taken)
            by_taking (inr again) = over (after.calls y now)
              where
                over : Among y o.view.users.waiting ⊎ IsSent (frame_of c e m) y end.sent → IsHandedOn c e (place_at u) end.sent m y
                over (inl b) = anew y now (λ p i. after.sends p (again b p i))
                over (inr g) = anew y now g
