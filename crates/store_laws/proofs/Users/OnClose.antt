-- The answer to a close comes: its process takes it, the instance goes, and the call goes on.
use Rattle.std.proofs.Common.{◌≡◌, ℕ, ◌==◌, Bool, true, false, not, cond, ◌||◌, List, [], ◌∷◌, Option, Some, None, refl, sym, ◌∙◌, ap, subst, filter}
use Rattle.std.specs.Option.{is_some}
use Rattle.role_steps.proofs.of_plain_facts.Numbers.{equal, equal_self}
use Rattle.role_steps.proofs.of_plain_facts.Tests.{true_false}
use Rattle.locus_ids.specs.declared.config.Config.{Config}
use Rattle.locus_ids.specs.declared.ids.CallId.{CallId}
use Rattle.locus_ids.specs.declared.ids.Serial.{Serial}
use Rattle.call_rules.specs.declared.want.Want.{Want}
use Rattle.call_rules.specs.declared.want.Want.TheVariants as want
use Rattle.wire_messages.specs.declared.body.CloseAnswer.{CloseAnswer}
use Rattle.wire_messages.specs.declared.body.CloseAnswer.TheVariants as closing
use Rattle.role_steps.specs.Requests.{instance_serial, without_user_instance}
use Rattle.role_steps.specs.Tables.{first_that, row, without_row}
use Rattle.role_steps.specs.Using.{asks_close_of, close_answer, goes_on, on_close_done, on_close_done_of, takes_answer, takes_record, with_answer}
use Rattle.role_steps.specs.Views.{Users, Frame}
use Rattle.role_steps.specs.declared.users.Asking.{Asking}
use Rattle.role_steps.specs.declared.users.Asking.TheVariants as asking
use Rattle.role_steps.specs.declared.users.WaitingCall.{WaitingCall}
use Rattle.tree_laws.specs.of_the_run.Kept.{Among}
use Rattle.tree_laws.specs.of_the_run.Worlds.{Line}
use Rattle.tree_model.specs.State.{has_number}
use Rattle.tree_laws.specs.Printed.{entries}
use Rattle.tree_laws.specs.Calls.{Waits, script}
use Rattle.tree_laws.specs.Doing.{FrameFact, UsersFine, UsersInside}
use Rattle.tree_laws.specs.Following.{IsFollowed}
use Rattle.tree_laws.specs.Frames.{AllStay}
use Rattle.tree_laws.specs.Packets.{CloseDoneFact, serial_of}
use Rattle.tree_laws.specs.Serials.{asked_now}
use Rattle.tree_laws.specs.Users.{had, had_by, AskingIs, UserInstanceFact, WaitingFact}
use Rattle.store_laws.specs.Users.Rests.{CloseRests, Follows, Staying}
use Rattle.store_laws.specs.Users.Turning.{it, InstanceTurns, Turning}
use Rattle.store_laws.proofs.Users.Going.{goes_fine}
use Rattle.store_laws.proofs.Users.OnLook.{NoContent, brings_kept}
use Rattle.store_laws.proofs.Users.Staying.{With}
use Rattle.store_laws.proofs.Users.Taking.{again, call_here, call_turns, frame_so, instance_turns, may_take, others_turn, serials_turn}
use Rattle.store_laws.proofs.Users.Tabled.{ascends_without, every_among, every_without, first_found, row_gone, row_left}

-- ---- numbers that are left ----

number_gone : (ns : List ℕ) (s : ℕ) → has_number (filter (λ n. not (n == s)) ns) s ≡ false
number_gone [] s = refl
number_gone (m ∷ ns) s = at (number_gone ns s) (m == s) refl
  where
    at : has_number (filter (λ n. not (n == s)) ns) s ≡ false → (b : Bool) → (m == s) ≡ b → has_number (cond (not b) (m ∷ filter (λ n. not (n == s)) ns) (filter (λ n. not (n == s)) ns)) s ≡ false
    at later true e = later
    at later false e = ap (λ (b : Bool). b || has_number (filter (λ n. not (n == s)) ns) s) e ∙ later

number_left : (ns : List ℕ) (s t : ℕ) → (s ≡ t → ⊥) → has_number (filter (λ n. not (n == s)) ns) t ≡ has_number ns t
number_left [] s t ne = refl
number_left (m ∷ ns) s t ne = at (number_left ns s t ne) (m == s) refl
  where
    none : (m == s) ≡ true → (b : Bool) → (m == t) ≡ b → (m == t) ≡ false
    none e true g = absurd (ne (sym (equal m s e) ∙ equal m t g))
    none e false g = g

    at : has_number (filter (λ n. not (n == s)) ns) t ≡ has_number ns t → (b : Bool) → (m == s) ≡ b → has_number (cond (not b) (m ∷ filter (λ n. not (n == s)) ns) (filter (λ n. not (n == s)) ns)) t ≡ has_number (m ∷ ns) t
    at later true e = later ∙ sym (ap (λ (b : Bool). b || has_number ns t) (none e (m == t) refl))
    at later false e = ap (λ (b : Bool). (m == t) || b) later

-- ---- the call that asked ----

record IsAsked (w : WaitingCall) (serial : ℕ) : Type 0 where
  place : ℕ
  asking_is : w.asking ≡ asking.Close serial place

is_asked : (w : WaitingCall) (serial : ℕ) → asks_close_of serial w ≡ true → IsAsked w serial
is_asked w serial test = over w.asking refl test
  where
    over : (s : Asking) → w.asking ≡ s → asks_close_of serial (record w { asking = s }) ≡ true → IsAsked w serial
    over (asking.Look file asked t) e z = absurd (true_false (sym z))
    over (asking.Open s file m) e z = absurd (true_false (sym z))
    over (asking.Op s ss number o seen) e z = absurd (true_false (sym z))
    over (asking.Close s ss) e z = record { place = ss; asking_is = e ∙ ap (λ (m : ℕ). asking.Close m ss) (equal s serial z) }

-- by the trace
close_asked : (c : Config) (t : List Line) (me : ℕ) (d : CallId) (y : Want) (serial ss : ℕ) → AskingIs c t me d y (asking.Close serial ss) → y ≡ want.Close (serial_of me serial)
close_asked c t me d (want.Close inst) serial ss z = ap want.Close (sym z)
close_asked c t me d _ serial ss z = absurd z

no_content : (a : CloseAnswer) → NoContent (close_answer a)
no_content closing.Nothing = tt
no_content (closing.Made stamp) = tt
no_content (closing.No why) = tt

-- a close takes its instance away, whatever it is answered
goes : (i : Serial) (a : CloseAnswer) (old : List ℕ) → had_by (want.Close i) (close_answer a) old ≡ filter (λ n. not (n == i.serial)) old
goes i closing.Nothing old = refl
goes i (closing.Made stamp) old = refl
goes i (closing.No why) old = refl

pub close_done_fine : (c : Config) (n : ℕ) (t : List Line) (f : Frame) (u : Users) (serial : ℕ) (a : CloseAnswer) → IsFollowed c t → FrameFact c t f → UsersInside c f t u → CloseRests c t → CloseDoneFact c t f.epoch (serial_of f.me serial) a → Staying c n t (on_close_done f serial a u).told → UsersFine c n t f (on_close_done f serial a u)
close_done_fine c n t f u serial a h frame k closes l staying = over (first_that (asks_close_of serial) u.waiting) refl staying
  where
    take : (w : WaitingCall) → Among w u.waiting → IsAsked w serial → Staying c n t (takes_answer f w (close_answer a) (without_user_instance serial u)).told → UsersFine c n t f (takes_answer f w (close_answer a) (without_user_instance serial u))
    take w among z s = record { told = (may_take c t f w (close_answer a) fact waits, rest.told); own = (refl, rest.own); view = rest.view; sent = rest.sent; written = rest.written }
      where
        fact : WaitingFact c t f w
        fact = every_among (WaitingFact c t f) w u.waiting among k.inside.calls

        wants : asked_now c t (it f w) ≡ want.Close (serial_of f.me serial)
        wants = ap (script c (entries t) (it f w) None) (sym fact.answers_are) ∙ (fact.script_is ∙ close_asked c t f.me (it f w) fact.wanted serial z.place (subst (AskingIs c t f.me (it f w) fact.wanted) z.asking_is fact.asking_is))

        waits : Waits c t (it f w) (close_answer a)
        waits = closes.closed f.epoch (it f w) (serial_of f.me serial) a (call_here c t f w frame fact) wants l

        next : Follows c t (With n (takes_record f w (close_answer a)) t) (takes_record f w (close_answer a)) × Staying c n (With n (takes_record f w (close_answer a)) t) (goes_on f (with_answer w (close_answer a)) (without_user_instance serial u)).told
        next = s (may_take c t f w (close_answer a) fact waits)

        stay : AllStay c t (With n (takes_record f w (close_answer a)) t) (takes_record f w (close_answer a))
        stay = next.0.stay

        had_is : had c (With n (takes_record f w (close_answer a)) t) f.me ≡ filter (λ m. not (m == serial)) (had c t f.me)
        had_is = ap (λ (b : Bool). cond b (had_by (asked_now c t (it f w)) (close_answer a) (had c t f.me)) (had c t f.me)) (equal_self f.me) ∙ (ap (λ (v : Want). had_by v (close_answer a) (had c t f.me)) wants ∙ goes (serial_of f.me serial) a (had c t f.me))

        has : (m : ℕ) → is_some (row instance_serial m (without_row instance_serial serial u.instances)) ≡ has_number (had c (With n (takes_record f w (close_answer a)) t) f.me) m
        has m = at (serial == m) refl ∙ ap (λ (ns : List ℕ). has_number ns m) (sym had_is)
          where
            at : (b : Bool) → (serial == m) ≡ b → is_some (row instance_serial m (without_row instance_serial serial u.instances)) ≡ has_number (filter (λ j. not (j == serial)) (had c t f.me)) m
            at true e = subst (λ (j : ℕ). is_some (row instance_serial j (without_row instance_serial serial u.instances)) ≡ has_number (filter (λ j. not (j == serial)) (had c t f.me)) j) (equal serial m e) (ap is_some (row_gone instance_serial serial u.instances k.inside.numbered) ∙ sym (number_gone (had c t f.me) serial))
            at false e = ap is_some (row_left instance_serial serial m u.instances ne) ∙ (k.inside.has m ∙ sym (number_left (had c t f.me) serial m ne))
              where
                ne : serial ≡ m → ⊥
                ne g = true_false (sym (ap (λ (j : ℕ). serial == j) (sym g) ∙ equal_self serial) ∙ e)

        turning : Turning c (With n (takes_record f w (close_answer a)) t) f (with_answer w (close_answer a)) (without_user_instance serial u)
        turning = record {
          call = call_turns c n t f w u (close_answer a) h frame k among waits stay w.brought (brings_kept c n t f u h frame k w (close_answer a) (no_content a) w.words w.brought fact.brings);
          others = others_turn c n t f w u (close_answer a) h frame k among waits stay w.brought (without_row instance_serial serial u.instances) (ascends_without instance_serial serial u.instances k.inside.numbered) has;
          serials = serials_turn c n t f w u (close_answer a) h frame k among waits stay;
          instances = every_without instance_serial serial (UserInstanceFact c t f) (InstanceTurns c (With n (takes_record f w (close_answer a)) t) f (it f w)) u.instances (λ i ne p. instance_turns c n t f w u (close_answer a) h frame k among waits stay i p) k.inside.numbered k.inside.instances;
        }

        rest : UsersFine c n (With n (takes_record f w (close_answer a)) t) f (goes_on f (with_answer w (close_answer a)) (without_user_instance serial u))
        rest = goes_fine c n (With n (takes_record f w (close_answer a)) t) f (with_answer w (close_answer a)) (without_user_instance serial u) (again c n t f w u (close_answer a) h frame k among waits stay) (frame_so c n t f w u (close_answer a) h frame k among waits stay) turning next.0.requests next.0.replies next.1

    over : (o : Option WaitingCall) → first_that (asks_close_of serial) u.waiting ≡ o → Staying c n t (on_close_done_of f serial a o u).told → UsersFine c n t f (on_close_done_of f serial a o u)
    over None e s = record { told = tt; own = tt; view = k; sent = tt; written = tt }
    over (Some w) e s = take w (first_found (asks_close_of serial) u.waiting w e).0 (is_asked w serial (first_found (asks_close_of serial) u.waiting w e).1) s
