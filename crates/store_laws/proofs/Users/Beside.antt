-- One call of the site turns by a line: what the site has of its other calls, and of its instances, goes on.
use Rattle.std.proofs.Common.{◌≡◌, ℕ, ◌+◌, ◌==◌, Bool, true, false, cond, ◌&&◌, List, Some, None, refl, sym, ◌∙◌, ap, subst, inr}
use Rattle.std.specs.List.{find}
use Rattle.role_steps.proofs.of_plain_facts.Numbers.{equal_self}
use Rattle.locus_ids.specs.declared.config.Config.{Config}
use Rattle.locus_ids.specs.declared.ids.CallId.{CallId}
use Rattle.locus_ids.specs.declared.ids.Serial.{Serial}
use Rattle.trace_book.specs.declared.call.Call.{Call}
use Rattle.trace_book.specs.declared.operation.Op.{Op}
use Rattle.call_rules.specs.declared.want.Want.{Want}
use Rattle.call_rules.specs.declared.want.Want.TheVariants as want
use Rattle.role_steps.specs.Requests.{request_packets}
use Rattle.role_steps.specs.Views.{Frame, Told}
use Rattle.role_steps.specs.declared.users.Asking.{Asking}
use Rattle.role_steps.specs.declared.users.Asking.TheVariants as asking
use Rattle.role_steps.specs.declared.users.UserInstance.{UserInstance}
use Rattle.role_steps.specs.declared.users.WaitingCall.{WaitingCall}
use Rattle.tree_laws.specs.of_the_run.Worlds.{Line}
use Rattle.tree_model.specs.Calls.{waiting}
use Rattle.tree_model.specs.declared.accepted.Waiting.{Waiting}
use Rattle.tree_laws.specs.of_lawful_trace.CallRows.{is_this}
use Rattle.tree_laws.specs.of_lawful_trace.TreeRows.{IsCallIn}
use Rattle.tree_laws.specs.Printed.{entries}
use Rattle.tree_laws.specs.Calls.{script}
use Rattle.tree_laws.specs.Following.{IsFollowed, MayTell}
use Rattle.tree_laws.specs.Frames.{AllStay, VersionsStay}
use Rattle.tree_laws.specs.Holding.{has_instances, IsOf}
use Rattle.tree_laws.specs.Packets.{PacketFact, serial_of}
use Rattle.tree_laws.specs.Serials.{asked_now, is_op_on, ops_asked, serial_asked}
use Rattle.tree_laws.specs.Users.{AskingIs, BringsFor, WaitingFact, UserInstanceFact}
use Rattle.tree_laws.proofs.Asking.{Turns}
use Rattle.tree_laws.proofs.Boots.{every_both}
use Rattle.tree_laws.proofs.Carried.{packet_stays}
use Rattle.tree_laws.proofs.CarriedVersions.{sees_stay}
use Rattle.tree_laws.proofs.OfOwn.{asks_of_own}
use Rattle.tree_laws.proofs.Scripts.{begun_stays, named_stays, script_stays}
use Rattle.tree_laws.proofs.Stepping.{answered_stays}
use Rattle.tree_laws.proofs.Versions.{versions_stay}
use Rattle.tree_laws.proofs.Waiting.{found_among}
use Rattle.tree_laws.proofs.Orders.ProcessHad.{IsHere, holders_one}
use Rattle.tree_laws.proofs.Orders.ProcessOperations.{op_is}
use Rattle.store_laws.specs.Users.Turning.{it, InstanceTurns}
use Rattle.store_laws.proofs.Users.Caching.{copied_stays, reads_stay}
use Rattle.store_laws.proofs.Users.Staying.{With, log_stays, tries_stay}

-- the call turns by the line: what that leaves as it was
pub record TurnsOne (c : Config) (n : ℕ) (x : Told) (t : List Line) (f : Frame) (d : CallId) : Type 0 where
  pub inside : IsCallIn (entries (With n x t)) f.epoch d
  pub here : IsHere (With n x t) d
  pub unturned : (e : CallId) → (d ≡ e → ⊥) → Turns x e → ⊥
  pub waits : (e : CallId) (process : ℕ) (caller : Waiting) → (d ≡ e → ⊥) → find (is_this f.me process e) (waiting (entries t)) ≡ Some caller → find (is_this f.me process e) (waiting (entries (With n x t))) ≡ Some caller
  pub serials : (e : CallId) → (d ≡ e → ⊥) → serial_asked c (With n x t) e ≡ serial_asked c t e
  pub ops : (i : Serial) → ops_asked c (With n x t) i ≡ cond ((f.me == i.us) && is_op_on i (asked_now c (With n x t) d)) (ops_asked c t i + 1) (ops_asked c t i)
  pub brings : (e : CallId) (words : Call) (contents : List (List ℕ)) → (d ≡ e → ⊥) → BringsFor c t e words contents → BringsFor c (With n x t) e words contents

module _ (c : Config) (n : ℕ) (x : Told) (t : List Line) (f : Frame) (d : CallId) (h : IsFollowed c t) (may : MayTell c t x) (stay : AllStay c t (With n x t) x) (one : TurnsOne c n x t f d) where
  abbrev newer : List Line
  newer = With n x t

  again : IsFollowed c newer
  again = (may, h)

  versions : VersionsStay c t newer
  versions = versions_stay c n x t h may stay.fresh stay.order

  -- ---- another call ----

  named_so : (v : WaitingCall) → WaitingFact c t f v → IsCallIn (entries newer) f.epoch (it f v)
  named_so v l = record { accepted = l.caller; named = named_stays c n x t (it f v) h may (l.caller, l.named) ∙ l.named; made_in = ap (λ (y : Waiting). y.epoch) l.caller_is }

  here_so : (v : WaitingCall) → WaitingFact c t f v → (d ≡ it f v → ⊥) → IsHere newer (it f v)
  here_so v l away = record { caller = l.caller; among = found_among (is_this f.me v.process (it f v)) (waiting (entries newer)) l.caller (one.waits (it f v) v.process l.caller away l.waits); call_is = ap (λ (y : Waiting). y.call) l.caller_is }

  script_so : (v : WaitingCall) (l : WaitingFact c t f v) → script c (entries newer) (it f v) None v.answers ≡ l.wanted
  script_so v l = script_stays c n x t (it f v) None v.answers h may (l.caller, l.named) ∙ l.script_is

  -- an instance of which another call asks isn't asked by this one
  ops_same : (v : WaitingCall) (l : WaitingFact c t f v) (inst : Serial) (o : Op) → (d ≡ it f v → ⊥) → l.wanted ≡ want.Do inst o → ops_asked c newer inst ≡ ops_asked c t inst
  ops_same v l inst o away wants = one.ops inst ∙ (ap (λ (b : Bool). cond ((f.me == inst.us) && b) (ops_asked c t inst + 1) (ops_asked c t inst)) (none (is_op_on inst (asked_now c newer d)) refl) ∙ either (f.me == inst.us))
    where
      either : (b : Bool) → cond (b && false) (ops_asked c t inst + 1) (ops_asked c t inst) ≡ ops_asked c t inst
      either true = refl
      either false = refl

      asked : asked_now c newer (it f v) ≡ want.Do inst o
      asked = ap (script c (entries newer) (it f v) None) (log_stays n x t (it f v) (one.unturned (it f v) away) ∙ sym l.answers_are) ∙ (script_so v l ∙ wants)

      none : (b : Bool) → is_op_on inst (asked_now c newer d) ≡ b → is_op_on inst (asked_now c newer d) ≡ false
      none true e = absurd (away (holders_one c newer f.epoch inst d (it f v) again one.inside (named_so v l) one.here (here_so v l away)
          (subst (IsOf (has_instances c newer d)) (op_is inst (asked_now c newer d) e).1 (asks_of_own c newer d again (one.inside.accepted, one.inside.named)))
          (subst (IsOf (has_instances c newer (it f v))) asked (asks_of_own c newer (it f v) again ((named_so v l).accepted, (named_so v l).named)))))
      none false e = e

  asking_same : (v : WaitingCall) (l : WaitingFact c t f v) → (d ≡ it f v → ⊥) → (y : Want) (s : Asking) → l.wanted ≡ y → AskingIs c t f.me (it f v) y s → AskingIs c newer f.me (it f v) y s
  asking_same v l away (want.Look file what) (asking.Look g asked times) e z = (z.0, z.1, z.2 ∙ sym (tries_stay n x t (it f v) (one.unturned (it f v) away)))
  asking_same v l away (want.Do inst o) (asking.Op serial ss number p seen) e z = (z.0, z.1, z.2 ∙ sym (ops_same v l inst o away e))
  asking_same v l away (want.Close inst) (asking.Close serial ss) e z = z
  asking_same v l away (want.Open file m) (asking.Open serial g p) e z = (z.0, z.1 ∙ sym (one.serials (it f v) away))
  asking_same v l away (want.OpenToMend file) (asking.Open serial g p) e z = (z.0, z.1 ∙ sym (one.serials (it f v) away))
  asking_same v l away (want.Make group kind sites) (asking.Open serial g p) e z = (z.0, z.1 ∙ sym (one.serials (it f v) away))
  asking_same v l away y (asking.Open serial g p) e z = absurd z.0
  asking_same v l away y s e z = absurd z

  pub waiting_same : (v : WaitingCall) → (d ≡ it f v → ⊥) → WaitingFact c t f v → WaitingFact c newer f v
  waiting_same v away l = record {
    caller = l.caller;
    named = named_stays c n x t (it f v) h may (l.caller, l.named) ∙ l.named;
    caller_is = l.caller_is;
    waits = one.waits (it f v) v.process l.caller away l.waits;
    begins_is = begun_stays c n x t (it f v) h may (l.caller, l.named) ∙ l.begins_is;
    answers_are = l.answers_are ∙ sym (log_stays n x t (it f v) (one.unturned (it f v) away));
    request_is = l.request_is;
    wanted = l.wanted;
    script_is = script_so v l;
    asking_is = asking_same v l away l.wanted v.asking refl l.asking_is;
    answered = answered_stays c n x t (it f v) l.wanted h may (l.caller, l.named) (one.unturned (it f v) away) l.answered;
    sent = every_both (PacketFact c t) (PacketFact c newer) (request_packets f v v.asking) (λ p fact. packet_stays c n x t h may stay p fact) l.sent;
    brings = one.brings (it f v) v.words v.brought away l.brings;
    copied = copied_stays c n x t versions.stands versions.contents f v.words v.begins v.copied l.copied;
  }

  -- ---- an instance ----

  pub instance_turns : (i : UserInstance) → UserInstanceFact c t f i → InstanceTurns c newer f d i
  instance_turns i p = record {
    call = p.call;
    request = p.request;
    mode = p.mode;
    file = p.file;
    stamp = p.stamp;
    was_granted = inr p.was_granted;
    sees = sees_stay c t newer versions p.file p.mode p.stamp i.vector p.sees;
    reads = reads_stay c t newer versions p.mode p.file p.stamp i.reads p.reads;
    ops = ap (λ (m : ℕ). cond (is_op_on (serial_of f.me i.serial) (asked_now c newer d)) (m + 1) m) p.ops ∙ sym (one.ops (serial_of f.me i.serial) ∙ ap (λ (b : Bool). cond (b && is_op_on (serial_of f.me i.serial) (asked_now c newer d)) (ops_asked c t (serial_of f.me i.serial) + 1) (ops_asked c t (serial_of f.me i.serial))) (equal_self f.me));
  }
