-- The version was there no more: the look is asked again, and what the site has beside it stays.
use Rattle.std.proofs.Common.{◌≡◌, ℕ, ◌+◌, ◌==◌, Bool, true, false, cond, List, length, Option, Some, None, refl, sym, ◌∙◌, ap, subst, inl, inr}
use Rattle.role_steps.proofs.of_plain_facts.Numbers.{equal, equal_self}
use Rattle.role_steps.proofs.of_plain_facts.Tests.{true_false}
use Rattle.locus_ids.specs.declared.config.Config.{Config}
use Rattle.locus_ids.specs.declared.ids.CallId.{CallId}
use Rattle.locus_ids.specs.declared.ids.FileId.{FileId}
use Rattle.trace_book.specs.declared.call.Call.{Call}
use Rattle.trace_book.specs.declared.call.Call.TheVariants as call
use Rattle.trace_book.specs.declared.operation.What.{What}
use Rattle.call_rules.specs.declared.answer.Answer.{Answer}
use Rattle.call_rules.specs.declared.want.Want.{Want}
use Rattle.call_rules.specs.declared.want.Want.TheVariants as want
use Rattle.wire_messages.specs.declared.body.Body.{Body}
use Rattle.wire_messages.specs.declared.body.Body.TheVariants as body
use Rattle.role_steps.specs.Own.{Every}
use Rattle.role_steps.specs.Requests.{waiting_key, request_packets}
use Rattle.role_steps.specs.Tables.{with_row}
use Rattle.role_steps.specs.Using.{looks_again}
use Rattle.role_steps.specs.Views.{Users, Frame, Told, LooksAgain, packet, sync_site, to_some}
use Rattle.role_steps.specs.declared.users.Asking.{Asking}
use Rattle.role_steps.specs.declared.users.Asking.TheVariants as asking
use Rattle.role_steps.specs.declared.users.UserInstance.{UserInstance}
use Rattle.role_steps.specs.declared.users.WaitingCall.{WaitingCall}
use Rattle.tree_laws.specs.of_the_run.Kept.{Among}
use Rattle.tree_laws.specs.of_the_run.Worlds.{Line}
use Rattle.tree_model.specs.declared.accepted.Waiting.{Waiting}
use Rattle.tree_laws.specs.Printed.{entries}
use Rattle.tree_laws.specs.Calls.{Asks, Waits, log, script, tries}
use Rattle.tree_laws.specs.Doing.{FrameFact, UsersFine, UsersInside}
use Rattle.tree_laws.specs.Following.{IsFollowed, MayTell}
use Rattle.tree_laws.specs.Frames.{AllStay, VersionsStay}
use Rattle.tree_laws.specs.Packets.{PacketFact}
use Rattle.tree_laws.specs.Users.{AskingIs, BringsFor, WaitingFact, UserInstanceFact}
use Rattle.tree_laws.proofs.Awaiting.{turn_clear}
use Rattle.tree_laws.proofs.Boots.{every_both}
use Rattle.tree_laws.proofs.Carried.{packet_stays}
use Rattle.tree_laws.proofs.CarriedVersions.{sees_stay}
use Rattle.tree_laws.proofs.Names.{same_call_own}
use Rattle.tree_laws.proofs.Stepping.{answered_stays}
use Rattle.tree_laws.proofs.Versions.{versions_stay}
use Rattle.store_laws.specs.Users.Turning.{it}
use Rattle.store_laws.proofs.Users.Caching.{copied_stays, reads_stay}
use Rattle.store_laws.proofs.Users.Leaving.{one_number}
use Rattle.store_laws.proofs.Users.Staying.{With, tries_stay}
use Rattle.store_laws.proofs.Users.Tabled.{among_kept, among_with, ascends_with, every_among, every_with, one_row}

abbrev pub again_record : Frame → WaitingCall → ℕ → Told
again_record f w times = LooksAgain f.me (it f w) w.request (times + 1)

pub may_again : (c : Config) (t : List Line) (f : Frame) (w : WaitingCall) (file : FileId) (asked : What) (times : ℕ) (a : Answer) → WaitingFact c t f w → Waits c t (it f w) a → script c (entries t) (it f w) None (log t (it f w)) ≡ want.Look file asked → times ≡ tries t (it f w) → MayTell c t (again_record f w times)
may_again c t f w file asked times a fact waits looks same = record {
  site_is = refl;
  waits_for = record { process = w.process; caller = fact.caller; found = fact.waits };
  old = a;
  answer = waits;
  request_is = fact.request_is ∙ ap (λ (xs : List Answer). length xs + 1) fact.answers_are;
  times_are = ap (λ (m : ℕ). m + 1) same;
  file = file;
  what = asked;
  looks = looks;
}

module _ (c : Config) (n : ℕ) (t : List Line) (f : Frame) (w : WaitingCall) (u : Users) (file : FileId) (asked : What) (times : ℕ) (h : IsFollowed c t) (frame : FrameFact c t f) (k : UsersInside c f t u) (among : Among w u.waiting) (may : MayTell c t (again_record f w times))
    (looks : script c (entries t) (it f w) None (log t (it f w)) ≡ want.Look file asked) (stay : AllStay c t (With n (again_record f w times) t) (again_record f w times)) where
  abbrev x : Told
  x = again_record f w times

  abbrev newer : List Line
  newer = With n x t

  abbrev d : CallId
  d = it f w

  fact : WaitingFact c t f w
  fact = every_among (WaitingFact c t f) w u.waiting among k.inside.calls

  versions : VersionsStay c t newer
  versions = versions_stay c n x t h may stay.fresh stay.order

  -- ---- another call ----

  asking_same : (v : WaitingCall) → (d ≡ it f v → ⊥) → (y : Want) (s : Asking) → AskingIs c t f.me (it f v) y s → AskingIs c newer f.me (it f v) y s
  asking_same v away (want.Look g what) (asking.Look e p m) z = (z.0, z.1, z.2 ∙ sym (tries_stay n x t (it f v) away))
  asking_same v away (want.Do inst o) (asking.Op serial ss number p seen) z = z
  asking_same v away (want.Close inst) (asking.Close serial ss) z = z
  asking_same v away (want.Open g m) (asking.Open serial e p) z = z
  asking_same v away (want.OpenToMend g) (asking.Open serial e p) z = z
  asking_same v away (want.Make group kind sites) (asking.Open serial e p) z = z
  asking_same v away y (asking.Open serial g p) z = absurd z.0
  asking_same v away y s z = absurd z

  brought_same : (e : CallId) (words : Call) (contents : List (List ℕ)) → BringsFor c t e words contents → BringsFor c newer e words contents
  brought_same e (call.Mend g) contents z = record { stand = z.stand; contents_are = z.contents_are }
  brought_same e _ contents z = z

  waiting_same : (v : WaitingCall) → (waiting_key v ≡ waiting_key w → ⊥) → WaitingFact c t f v → WaitingFact c newer f v
  waiting_same v apart l = record {
    caller = l.caller;
    named = l.named;
    caller_is = l.caller_is;
    waits = l.waits;
    begins_is = l.begins_is;
    answers_are = l.answers_are;
    request_is = l.request_is;
    wanted = l.wanted;
    script_is = l.script_is;
    asking_is = asking_same v away l.wanted v.asking l.asking_is;
    answered = answered_stays c n x t (it f v) l.wanted h may (l.caller, l.named) away l.answered;
    sent = every_both (PacketFact c t) (PacketFact c newer) (request_packets f v v.asking) (λ p sent. packet_stays c n x t h may stay p sent) l.sent;
    brings = brought_same (it f v) v.words v.brought l.brings;
    copied = copied_stays c n x t versions.stands versions.contents f v.words v.begins v.copied l.copied;
  }
    where
      away : d ≡ it f v → ⊥
      away e = apart (one_number c t f w v fact l (ap (λ (y : CallId). y.n) (sym e)))

  -- ---- the call ----

  tries_are : times + 1 ≡ tries newer d
  tries_are = sym (ap (λ (b : Bool). cond b (times + 1) (tries t d)) (same_call_own d))

  asks_it : Asks c newer d (want.Look file asked)
  asks_it = record { asked = looks; request = refl; nothing_waits = turn_clear c n x t d may refl }

  to_site : (b : Body) (o : Option ℕ) → ((s : ℕ) → PacketFact c newer (packet f s b)) → Every (PacketFact c newer) (to_some f b o)
  to_site b None each = tt
  to_site b (Some s) each = (each s, tt)

  sent : Every (PacketFact c newer) (request_packets f (record w { asking = asking.Look file asked (times + 1) }) (asking.Look file asked (times + 1)))
  sent = to_site (body.Look w.call w.process w.request (times + 1) file asked) (sync_site f.config f.members file.group) (λ s. record {
    call = d;
    is_call = record { site_is = refl; number_is = refl; inside = record { accepted = fact.caller; named = fact.named; made_in = ap (λ (y : Waiting). y.epoch) fact.caller_is }; caller = fact.caller; named = fact.named; process_is = ap (λ (y : Waiting). y.process) fact.caller_is };
    stands = inr (record { asks = asks_it; request_is = fact.request_is ∙ ap (λ (xs : List Answer). length xs + 1) fact.answers_are; tries_are = tries_are });
  })

  own : WaitingFact c newer f (record w { asking = asking.Look file asked (times + 1) })
  own = record {
    caller = fact.caller;
    named = fact.named;
    caller_is = fact.caller_is;
    waits = fact.waits;
    begins_is = fact.begins_is;
    answers_are = fact.answers_are;
    request_is = fact.request_is;
    wanted = want.Look file asked;
    script_is = ap (script c (entries t) d None) fact.answers_are ∙ looks;
    asking_is = (refl, refl, tries_are);
    answered = inl asks_it;
    sent = sent;
    brings = brought_same d w.words w.brought fact.brings;
    copied = copied_stays c n x t versions.stands versions.contents f w.words w.begins w.copied fact.copied;
  }

  instance_same : (i : UserInstance) → UserInstanceFact c t f i → UserInstanceFact c newer f i
  instance_same i p = record { call = p.call; request = p.request; mode = p.mode; file = p.file; stamp = p.stamp; was_granted = inr p.was_granted; sees = sees_stay c t newer versions p.file p.mode p.stamp i.vector p.sees; reads = reads_stay c t newer versions p.mode p.file p.stamp i.reads p.reads; ops = p.ops }

  pub again_fine : UsersFine c n t f (looks_again f w (asking.Look file asked times) u)
  again_fine = record {
    told = (may, tt);
    own = (refl, tt);
    view = record {
      always = record { boot_is = k.always.boot_is; calls = k.always.calls; serials = k.always.serials; descriptors = k.always.descriptors; ascends = k.always.ascends; cache = k.always.cache };
      inside = record {
        calls = every_with waiting_key (record w { asking = asking.Look file asked (times + 1) }) (WaitingFact c t f) (WaitingFact c newer f) u.waiting (λ v apart l. waiting_same v apart l) k.inside.ascends k.inside.calls own;
        ascends = ascends_with waiting_key (record w { asking = asking.Look file asked (times + 1) }) u.waiting k.inside.ascends;
        instances = every_both (UserInstanceFact c t f) (UserInstanceFact c newer f) u.instances instance_same k.inside.instances;
        numbered = k.inside.numbered;
        has = k.inside.has;
        all = λ e process caller found. over e (k.inside.all e process caller found);
        hopeless = k.inside.hopeless;
      };
    };
    sent = sent;
    written = tt;
  }
    where
      over : (e : CallId) → (v : WaitingCall) × Among v u.waiting × (e ≡ it f v) → (v : WaitingCall) × Among v (with_row waiting_key (record w { asking = asking.Look file asked (times + 1) }) u.waiting) × (e ≡ it f v)
      over e z = at (waiting_key z.0 == waiting_key w) refl
        where
          at : (b : Bool) → (waiting_key z.0 == waiting_key w) ≡ b → (v : WaitingCall) × Among v (with_row waiting_key (record w { asking = asking.Look file asked (times + 1) }) u.waiting) × (e ≡ it f v)
          at true s = (record w { asking = asking.Look file asked (times + 1) }, among_with waiting_key (record w { asking = asking.Look file asked (times + 1) }) u.waiting, z.2 ∙ ap (λ (v : WaitingCall). it f v) (one_row waiting_key z.0 w u.waiting k.inside.ascends z.1 among (equal (waiting_key z.0) (waiting_key w) s)))
          at false s = (z.0, among_kept waiting_key (record w { asking = asking.Look file asked (times + 1) }) z.0 u.waiting (λ e. true_false (sym (subst (λ (m : ℕ). (waiting_key z.0 == m) ≡ true) e (equal_self (waiting_key z.0))) ∙ s)) z.1, z.2)
