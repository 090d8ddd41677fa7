-- What a waiting call asks by the trace; and that of two calls of a site that ask something of one instance each is the other.
use Rattle.std.proofs.Common.{◌≡◌, ℕ, true, List, None, sym, ◌∙◌, ap, subst}
use Rattle.locus_ids.specs.declared.config.Config.{Config}
use Rattle.locus_ids.specs.declared.ids.Serial.{Serial}
use Rattle.trace_book.specs.declared.operation.Op.{Op}
use Rattle.call_rules.specs.declared.want.Want.{Want}
use Rattle.call_rules.specs.declared.want.Want.TheVariants as want
use Rattle.role_steps.specs.Views.{Frame}
use Rattle.role_steps.specs.declared.users.Asking.TheVariants as asking
use Rattle.role_steps.specs.declared.users.WaitingCall.{WaitingCall}
use Rattle.the_run.specs.Worlds.{Line}
use Rattle.tree_model.specs.declared.accepted.Waiting.{Waiting}
use Rattle.lawful_trace.specs.TreeRows.{IsCallIn}
use Rattle.tree_laws.specs.Calls.{is_request, script}
use Rattle.tree_laws.specs.Following.{IsFollowed}
use Rattle.tree_laws.specs.Holding.{has_instances}
use Rattle.tree_laws.specs.Packets.{serial_of}
use Rattle.tree_laws.specs.Printed.{entries}
use Rattle.tree_laws.specs.Serials.{asked_now, ops_asked}
use Rattle.tree_laws.specs.Users.{own_call, AskingIs, WaitingFact}
use Rattle.store_laws.proofs.AnswerAskers.{op_had}

-- the call asks something of this instance
pub record Uses (c : Config) (trace : List Line) (f : Frame) (y : WaitingCall) (i : Serial) : Type 0 where
  pub inside : IsCallIn (entries trace) f.epoch (own_call f.me f.boot y.call)
  pub asks : is_request (asked_now c trace (own_call f.me f.boot y.call)) ≡ true
  pub has : has_instances c trace (own_call f.me f.boot y.call) i ≡ true

call_in : (c : Config) (t : List Line) (f : Frame) (y : WaitingCall) → WaitingFact c t f y → IsCallIn (entries t) f.epoch (own_call f.me f.boot y.call)
call_in c t f y fact = record { accepted = fact.caller; named = fact.named; made_in = ap (λ (w : Waiting). w.epoch) fact.caller_is }

now_wanted : (c : Config) (t : List Line) (f : Frame) (y : WaitingCall) (fact : WaitingFact c t f y) → asked_now c t (own_call f.me f.boot y.call) ≡ fact.wanted
now_wanted c t f y fact = ap (script c (entries t) (own_call f.me f.boot y.call) None) (sym fact.answers_are) ∙ fact.script_is

pub op_wanted : (c : Config) (t : List Line) (f : Frame) (y : WaitingCall) (serial ss n : ℕ) (o : Op) (seen : List ℕ) → WaitingFact c t f y → y.asking ≡ asking.Op serial ss n o seen → asked_now c t (own_call f.me f.boot y.call) ≡ want.Do (serial_of f.me serial) o
op_wanted c t f y serial ss n o seen fact is = now_wanted c t f y fact ∙ by_want fact.wanted (subst (AskingIs c t f.me (own_call f.me f.boot y.call) fact.wanted) is fact.asking_is)
  where
    by_want : (w : Want) → AskingIs c t f.me (own_call f.me f.boot y.call) w (asking.Op serial ss n o seen) → w ≡ want.Do (serial_of f.me serial) o
    by_want (want.Do inst it) z = ap (λ (i : Serial). want.Do i it) (sym z.0) ∙ ap (want.Do (serial_of f.me serial)) (sym z.1)
    by_want _ z = absurd z

-- and its number is that of what the site has asked of the instance
pub op_number : (c : Config) (t : List Line) (f : Frame) (y : WaitingCall) (serial ss n : ℕ) (o : Op) (seen : List ℕ) → WaitingFact c t f y → y.asking ≡ asking.Op serial ss n o seen → n ≡ ops_asked c t (serial_of f.me serial)
op_number c t f y serial ss n o seen fact is = by_want fact.wanted (subst (AskingIs c t f.me (own_call f.me f.boot y.call) fact.wanted) is fact.asking_is)
  where
    by_want : (w : Want) → AskingIs c t f.me (own_call f.me f.boot y.call) w (asking.Op serial ss n o seen) → n ≡ ops_asked c t (serial_of f.me serial)
    by_want (want.Do inst it) z = z.2 ∙ ap (ops_asked c t) (sym z.0)
    by_want _ z = absurd z

pub uses_op : (c : Config) (t : List Line) (f : Frame) (y : WaitingCall) (serial ss n : ℕ) (o : Op) (seen : List ℕ) → IsFollowed c t → WaitingFact c t f y → y.asking ≡ asking.Op serial ss n o seen → Uses c t f y (serial_of f.me serial)
uses_op c t f y serial ss n o seen h fact is =
    let k : asked_now c t (own_call f.me f.boot y.call) ≡ want.Do (serial_of f.me serial) o = op_wanted c t f y serial ss n o seen fact is in
    record { inside = call_in c t f y fact; asks = ap is_request k; has = op_had c t (own_call f.me f.boot y.call) (serial_of f.me serial) o h (fact.caller, fact.named) k }
