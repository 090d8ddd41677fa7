-- A process takes the answer that waits for it: its call turns, and what the site has beside it stays.
use Rattle.std.proofs.Common.{◌≡◌, ℕ, ◌+◌, ◌==◌, Bool, true, false, cond, ◌&&◌, List, [], ◌∷◌, ◌++◌, length, length-append, refl, sym, ◌∙◌, ap, subst, ◌⊎◌, inl, inr}
use Rattle.std.specs.Option.{is_some}
use Rattle.role_steps.proofs.of_plain_facts.Numbers.{equal, equal_self}
use Rattle.role_steps.proofs.of_plain_facts.Tests.{true_false}
use Rattle.locus_ids.specs.declared.config.Config.{Config}
use Rattle.locus_ids.specs.declared.ids.CallId.{CallId}
use Rattle.trace_book.specs.declared.call.Call.{Call}
use Rattle.trace_book.specs.declared.call.Call.TheVariants as call
use Rattle.call_rules.specs.declared.answer.Answer.{Answer}
use Rattle.role_steps.specs.Requests.{waiting_key, instance_serial}
use Rattle.role_steps.specs.Tables.{row}
use Rattle.role_steps.specs.Using.{takes_record, with_answer, takes_answer, goes_on}
use Rattle.role_steps.specs.Views.{Users, Frame, Told}
use Rattle.role_steps.specs.declared.users.UserInstance.{UserInstance}
use Rattle.role_steps.specs.declared.users.WaitingCall.{WaitingCall}
use Rattle.tree_laws.specs.of_the_run.Kept.{Among}
use Rattle.tree_laws.specs.of_the_run.Worlds.{Line}
use Rattle.tree_model.specs.Calls.{waiting}
use Rattle.tree_model.specs.State.{has_number}
use Rattle.tree_model.specs.declared.accepted.Waiting.{Waiting}
use Rattle.tree_laws.specs.of_lawful_trace.CallRows.{is_this}
use Rattle.tree_laws.specs.Printed.{entries}
use Rattle.tree_laws.specs.Calls.{Waits, log, tries}
use Rattle.tree_laws.specs.Doing.{FrameFact, UsersInside, UsersFine}
use Rattle.tree_laws.specs.Following.{IsFollowed, MayTell}
use Rattle.tree_laws.specs.Frames.{AllStay}
use Rattle.tree_laws.specs.Serials.{asked_now, is_open_want, opens_asked, serial_asked}
use Rattle.tree_laws.specs.Stores.{Ascends}
use Rattle.tree_laws.specs.Users.{had, had_by, taken_whole, Brings, BringsFor, WaitingFact, UserInstanceFact}
use Rattle.tree_laws.proofs.Awaiting.{turn_clear}
use Rattle.tree_laws.proofs.Boots.{every_both}
use Rattle.tree_laws.proofs.Names.{same_call_own}
use Rattle.tree_laws.proofs.Waiting.{found_among}
use Rattle.store_laws.specs.Users.Rests.{IsCallHere}
use Rattle.store_laws.specs.Users.Turning.{it, CallTurns, Others, InstanceTurns, Turning}
use Rattle.store_laws.proofs.Users.Caching.{copied_stays}
use Rattle.store_laws.proofs.Users.Beside.{TurnsOne, waiting_same, instance_turns as each_turns}
use Rattle.store_laws.proofs.Users.Leaving.{one_number}
use Rattle.store_laws.proofs.Users.Staying.{With, other_call, log_stays}
use Rattle.store_laws.proofs.Users.Tabled.{every_among, one_row}

-- the call that waits is of the epoch in which its site is
pub call_here : (c : Config) (t : List Line) (f : Frame) (w : WaitingCall) → FrameFact c t f → WaitingFact c t f w → IsCallHere t f.epoch (it f w)
call_here c t f w frame fact = record { caller = fact.caller; named = fact.named; made_in = ap (λ (x : Waiting). x.epoch) fact.caller_is; inside = frame.inside }

-- the answer that waits may be taken
pub may_take : (c : Config) (t : List Line) (f : Frame) (w : WaitingCall) (a : Answer) → WaitingFact c t f w → Waits c t (it f w) a → MayTell c t (takes_record f w a)
may_take c t f w a fact answer = record {
  site_is = refl;
  waits_for = record { process = w.process; caller = fact.caller; found = fact.waits };
  answer = answer;
  request_is = fact.request_is ∙ ap (λ (xs : List Answer). length xs + 1) fact.answers_are;
}

module _ (c : Config) (n : ℕ) (t : List Line) (f : Frame) (w : WaitingCall) (u : Users) (a : Answer) (h : IsFollowed c t) (frame : FrameFact c t f) (k : UsersInside c f t u) (among : Among w u.waiting) (answer : Waits c t (it f w) a)
    (stay : AllStay c t (With n (takes_record f w a) t) (takes_record f w a)) where
  abbrev pub x : Told
  x = takes_record f w a

  abbrev pub newer : List Line
  newer = With n x t

  abbrev pub d : CallId
  d = it f w

  fact : WaitingFact c t f w
  fact = every_among (WaitingFact c t f) w u.waiting among k.inside.calls

  pub may : MayTell c t (takes_record f w a)
  may = may_take c t f w a fact answer

  pub again : IsFollowed c newer
  again = (may, h)

  pub frame_so : FrameFact c newer f
  frame_so = record { config_is = frame.config_is; inside = frame.inside; members_are = frame.members_are; up = frame.up; boot_is = frame.boot_is; is_member = frame.is_member }

  -- ---- another call ----

  one : TurnsOne c n x t f d
  one = record {
    inside = record { accepted = fact.caller; named = fact.named; made_in = ap (λ (y : Waiting). y.epoch) fact.caller_is };
    here = record { caller = fact.caller; among = found_among (is_this f.me w.process d) (waiting (entries t)) fact.caller fact.waits; call_is = ap (λ (y : Waiting). y.call) fact.caller_is };
    unturned = λ e away turn. away turn;
    waits = λ e process caller away found. found;
    serials = λ e away. ap (λ (b : Bool). cond b (opens_asked c newer f.me) (serial_asked c t e)) (other_call d e away);
    ops = λ i. refl;
    brings = λ e words contents away z. brought_same e words contents (log_stays n x t e away) z;
  }
    where
      brought_same : (e : CallId) (words : Call) (contents : List (List ℕ)) → log newer e ≡ log t e → BringsFor c t e words contents → BringsFor c newer e words contents
      brought_same e (call.Mend file) contents same z = subst (λ (xs : List Answer). Brings c newer file (taken_whole xs) contents) (sym same) (record { stand = z.stand; contents_are = z.contents_are })
      brought_same e _ contents same z = z

  -- another row is another call's
  turn_of : (v : WaitingCall) → WaitingFact c t f v → (waiting_key v ≡ waiting_key w → ⊥) → d ≡ it f v → ⊥
  turn_of v l apart e = apart (one_number c t f w v fact l (ap (λ (y : CallId). y.n) (sym e)))

  -- ---- the call ----

  pub log_is : log newer d ≡ log t d ++ a ∷ []
  log_is = ap (λ (b : Bool). cond b (log t d ++ a ∷ []) (log t d)) (same_call_own d)

  pub call_turns : (bs : List (List ℕ)) → BringsFor c newer d w.words bs → CallTurns c newer f (with_answer (record w { brought = bs }) a)
  call_turns bs brings = record {
    caller = fact.caller;
    named = fact.named;
    caller_is = fact.caller_is;
    waits = fact.waits;
    begins_is = fact.begins_is;
    answers_are = ap (λ (xs : List Answer). xs ++ a ∷ []) fact.answers_are ∙ sym log_is;
    request_is = fact.request_is ∙ sym (length-append w.answers (a ∷ []));
    nothing_waits = turn_clear c n x t d may refl;
    tries_are = ap (λ (b : Bool). cond b 1 (tries t d)) (same_call_own d);
    serial_is = ap (λ (b : Bool). cond b (opens_asked c newer f.me) (serial_asked c t d)) (same_call_own d);
    brings = brings;
    copied = copied_stays c n x t (λ g s q. q) (λ g s q. refl) f w.words w.begins w.copied fact.copied;
  }

  -- ---- the rest ----

  pub others_turn : (bs : List (List ℕ)) (is : List UserInstance) → Ascends instance_serial is → ((serial : ℕ) → is_some (row instance_serial serial is) ≡ has_number (had c newer f.me) serial) → Others c newer f (with_answer (record w { brought = bs }) a) (record u { instances = is })
  others_turn bs is up has = record {
    boot_is = k.always.boot_is;
    calls = k.always.calls;
    descriptors = k.always.descriptors;
    listed = k.always.ascends;
    cache = k.always.cache;
    waits = every_both (WaitingFact c t f) (λ (v : WaitingCall). (waiting_key v ≡ waiting_key w → ⊥) → WaitingFact c newer f v) u.waiting (λ v l apart. waiting_same c n x t f d h may stay one v (turn_of v l apart) l) k.inside.calls;
    ascends = k.inside.ascends;
    numbered = up;
    has = has;
    all = λ e process caller found. over e (k.inside.all e process caller found);
    hopeless = k.inside.hopeless;
  }
    where
      over : (e : CallId) → (v : WaitingCall) × Among v u.waiting × (e ≡ it f v) → (e ≡ d) ⊎ ((v : WaitingCall) × Among v u.waiting × (waiting_key v ≡ waiting_key w → ⊥) × (e ≡ it f v))
      over e z = at (waiting_key z.0 == waiting_key w) refl
        where
          at : (b : Bool) → (waiting_key z.0 == waiting_key w) ≡ b → (e ≡ d) ⊎ ((v : WaitingCall) × Among v u.waiting × (waiting_key v ≡ waiting_key w → ⊥) × (e ≡ it f v))
          at true s = inl (z.2 ∙ ap (λ (v : WaitingCall). it f v) (one_row waiting_key z.0 w u.waiting k.inside.ascends z.1 among (equal (waiting_key z.0) (waiting_key w) s)))
          at false s = inr (z.0, z.1, (λ e. true_false (sym (subst (λ (m : ℕ). (waiting_key z.0 == m) ≡ true) e (equal_self (waiting_key z.0))) ∙ s)), z.2)

  pub serials_turn : cond (is_open_want (asked_now c newer d)) (u.serials + 1) u.serials ≡ opens_asked c newer f.me
  serials_turn = ap (λ (m : ℕ). cond (is_open_want (asked_now c newer d)) (m + 1) m) k.always.serials ∙ sym (ap (λ (b : Bool). cond (b && is_open_want (asked_now c newer d)) (opens_asked c t f.me + 1) (opens_asked c t f.me)) (equal_self f.me))

  pub instance_turns : (i : UserInstance) → UserInstanceFact c t f i → InstanceTurns c newer f d i
  instance_turns i p = each_turns c n x t f d h may stay one i p

  -- ---- an answer that opens nothing and closes nothing ----

  pub plain_turns : (bs : List (List ℕ)) → BringsFor c newer d w.words bs → had_by (asked_now c t d) a (had c t f.me) ≡ had c t f.me → Turning c newer f (with_answer (record w { brought = bs }) a) u
  plain_turns bs brings keeps = record {
    call = call_turns bs brings;
    others = others_turn bs u.instances k.inside.numbered (λ serial. k.inside.has serial ∙ ap (λ (ns : List ℕ). has_number ns serial) (sym had_is));
    serials = serials_turn;
    instances = every_both (UserInstanceFact c t f) (InstanceTurns c newer f d) u.instances instance_turns k.inside.instances;
  }
    where
      had_is : had c newer f.me ≡ had c t f.me
      had_is = ap (λ (b : Bool). cond b (had_by (asked_now c t d) a (had c t f.me)) (had c t f.me)) (equal_self f.me) ∙ keeps

  -- ---- and goes on ----

  pub takes_fine : (bs : List (List ℕ)) → UsersFine c n newer f (goes_on f (with_answer (record w { brought = bs }) a) u) → UsersFine c n t f (takes_answer f (record w { brought = bs }) a u)
  takes_fine bs o = record { told = (may, o.told); own = (refl, o.own); view = o.view; sent = o.sent; written = o.written }
