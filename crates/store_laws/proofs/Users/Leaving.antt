-- A site that has left its epoch answers each call that waited that this has changed.
use Rattle.std.proofs.Common.{◌≡◌, ℕ, ◌<◌, ◌==◌, arith, Bool, true, false, not, cond, ◌&&◌, List, [], ◌∷◌, ◌++◌, Option, Some, None, refl, sym, ◌∙◌, ap}
use Rattle.std.specs.List.{find, flat_map}
use Rattle.role_steps.proofs.of_plain_facts.Numbers.{equal_self}
use Rattle.role_steps.proofs.of_plain_facts.Options.{some_same}
use Rattle.locus_ids.specs.declared.config.Config.{Config}
use Rattle.locus_ids.specs.declared.ids.CallId.{CallId}
use Rattle.locus_ids.specs.declared.ids.EpochId.{EpochId}
use Rattle.locus_ids.specs.declared.refusal.Refusal.TheVariants as refusal
use Rattle.trace_book.specs.Same.{same_call}
use Rattle.trace_book.specs.declared.record.Record.TheVariants as says
use Rattle.trace_book.specs.declared.reply.Reply.TheVariants as reply
use Rattle.call_rules.specs.declared.want.Want.TheVariants as want
use Rattle.role_steps.specs.Own.{Every}
use Rattle.role_steps.specs.Requests.{waiting_key, waiting_of, request_packets, users_repeats}
use Rattle.role_steps.specs.Using.{reply_record, changed_records}
use Rattle.role_steps.specs.Views.{Users, Frame, Shown}
use Rattle.role_steps.specs.declared.users.WaitingCall.{WaitingCall}
use Rattle.tree_laws.specs.of_the_run.Worlds.{Line, told_onto}
use Rattle.tree_model.specs.declared.accepted.Waiting.{Waiting}
use Rattle.tree_model.specs.Calls.{call_named, waiting}
use Rattle.tree_model.specs.Epochs.{epoch_of, is_in}
use Rattle.tree_laws.specs.of_lawful_trace.CallRows.{is_this}
use Rattle.tree_laws.specs.of_lawful_trace.Progress.{now_wants, left_epoch, left_since, unless_left, wants_next}
use Rattle.tree_laws.specs.of_lawful_trace.Tables.{descriptor}
use Rattle.tree_laws.specs.Printed.{entries}
use Rattle.tree_laws.specs.Doing.{AllTold, IsOfUsers, UsersInside}
use Rattle.tree_laws.specs.Following.{MayTell}
use Rattle.tree_laws.specs.Packets.{PacketFact}
use Rattle.tree_laws.specs.Stores.{Ascends}
use Rattle.tree_laws.specs.Users.{own_call, WaitingFact, UsersFact}
use Rattle.tree_laws.proofs.Boots.{every_pair}
use Rattle.tree_laws.proofs.Names.{same_call_eq}
use Rattle.store_laws.specs.Users.Leaving.{AreApart, LeavesFine}
use Rattle.store_laws.proofs.Users.Idle.{idle_waits, idle_has}
use Rattle.store_laws.proofs.Users.Staying.{With, find_kept}

-- ---- one call ----

-- the call waits, and was made in the epoch
record IsLeft (t : List Line) (f : Frame) (w : WaitingCall) : Type 0 where
  caller : Waiting
  site_is : caller.site ≡ f.me
  call_is : caller.call ≡ own_call f.me f.boot w.call
  epoch_is : caller.epoch ≡ Some f.epoch
  waits : find (is_this f.me w.process (own_call f.me f.boot w.call)) (waiting (entries t)) ≡ Some caller

may_answer : (c : Config) (t : List Line) (f : Frame) (w : WaitingCall) → epoch_of (entries t) f.me ≡ None → IsLeft t f w → MayTell c t (reply_record f.me f.boot w (reply.No (refusal.Changed f.epoch)))
may_answer c t f w out k = record { row = record { caller = k.caller; waits = k.waits; given = reply.No (refusal.Changed f.epoch); gives = gives; text = refl }; in_time = out }
  where
    left : left_epoch (entries t) k.caller ≡ Some f.epoch
    left = ap (λ (s : ℕ). left_since (entries t) s k.caller.epoch) k.site_is ∙ (ap (left_since (entries t) f.me) k.epoch_is ∙ ap (λ (o : Option EpochId). cond (is_in o f.epoch) None (Some f.epoch)) out)

    gives : now_wants c (entries t) k.caller ≡ want.Give (reply.No (refusal.Changed f.epoch))
    gives = ap (λ (o : Option EpochId). unless_left o (wants_next c (entries t) k.caller.call)) left

-- ---- all of them ----

-- another call waits still
left_still : (n : ℕ) (t : List Line) (f : Frame) (w v : WaitingCall) → (v.call ≡ w.call → ⊥) → IsLeft t f v → IsLeft (With n (reply_record f.me f.boot w (reply.No (refusal.Changed f.epoch))) t) f v
left_still n t f w v apart k = record { caller = k.caller; site_is = k.site_is; call_is = k.call_is; epoch_is = k.epoch_is; waits = find_kept (is_this f.me v.process (own_call f.me f.boot v.call)) (λ (x : Waiting). not (same_call x.call (own_call f.me f.boot w.call))) (waiting (entries t)) k.caller k.waits (other (same_call k.caller.call (own_call f.me f.boot w.call)) refl) }
  where
    other : (b : Bool) → same_call k.caller.call (own_call f.me f.boot w.call) ≡ b → not (same_call k.caller.call (own_call f.me f.boot w.call)) ≡ true
    other true e = absurd (apart (ap (λ (x : CallId). x.n) (sym k.call_is ∙ same_call_eq k.caller.call (own_call f.me f.boot w.call) e)))
    other false e = ap not e

all_still : (n : ℕ) (t : List Line) (f : Frame) (w : WaitingCall) (ws : List WaitingCall) → Every (λ (v : WaitingCall). v.call ≡ w.call → ⊥) ws → Every (IsLeft t f) ws → Every (IsLeft (With n (reply_record f.me f.boot w (reply.No (refusal.Changed f.epoch))) t) f) ws
all_still n t f w [] apart k = tt
all_still n t f w (v ∷ vs) apart k = (left_still n t f w v apart.0 k.0, all_still n t f w vs apart.1 k.1)

all_told : (c : Config) (n : ℕ) (t : List Line) (f : Frame) (ws : List WaitingCall) → epoch_of (entries t) f.me ≡ None → AreApart ws → Every (IsLeft t f) ws → AllTold c n t (changed_records f.me f.boot f.epoch ws)
all_told c n t f [] out apart k = tt
all_told c n t f (w ∷ ws) out apart k = (may_answer c t f w out k.0, all_told c n (With n (reply_record f.me f.boot w (reply.No (refusal.Changed f.epoch))) t) f ws out apart.1 (all_still n t f w ws apart.0 k.1))

all_own : (f : Frame) (ws : List WaitingCall) → Every (IsOfUsers f.me) (changed_records f.me f.boot f.epoch ws)
all_own f [] = tt
all_own f (w ∷ ws) = (refl, all_own f ws)

-- ---- what stays ----

answered_stays : (c : Config) (n : ℕ) (t : List Line) (f : Frame) (w : WaitingCall) (u : Users) → UsersFact c t f.me f.boot u → UsersFact c (With n (reply_record f.me f.boot w (reply.No (refusal.Changed f.epoch))) t) f.me f.boot u
answered_stays c n t f w u k = record { boot_is = k.boot_is; calls = k.calls; serials = k.serials; descriptors = λ process fd lt. k.descriptors process fd lt ∙ sym (either ((f.me == f.me) && (w.process == process)) (descriptor (entries t) f.me process fd)); ascends = k.ascends; cache = k.cache }
  where
    either : {A : Type 0} (b : Bool) (old : A) → cond b old old ≡ old
    either true old = refl
    either false old = refl

all_answered : (c : Config) (n : ℕ) (t : List Line) (f : Frame) (ws : List WaitingCall) (u : Users) → UsersFact c t f.me f.boot u → UsersFact c (told_onto n (changed_records f.me f.boot f.epoch ws) t) f.me f.boot u
all_answered c n t f [] u k = k
all_answered c n t f (w ∷ ws) u k = all_answered c n (With n (reply_record f.me f.boot w (reply.No (refusal.Changed f.epoch))) t) f ws u (answered_stays c n t f w u k)

-- ---- no two have one number ----

-- two calls with one number are one call, and so have one key
pub one_number : (c : Config) (t : List Line) (f : Frame) (w v : WaitingCall) → WaitingFact c t f w → WaitingFact c t f v → v.call ≡ w.call → waiting_key v ≡ waiting_key w
one_number c t f w v k l e = ap (λ (x : Waiting). waiting_of x.process x.words) (sym l.caller_is ∙ (same ∙ k.caller_is))
  where
    same : l.caller ≡ k.caller
    same = some_same l.caller k.caller (sym l.named ∙ (ap (λ (m : ℕ). call_named (entries t) (own_call f.me f.boot m)) e ∙ k.named))

-- so it is of all that wait
pub all_apart : (c : Config) (t : List Line) (f : Frame) (ws : List WaitingCall) → Ascends waiting_key ws → Every (WaitingFact c t f) ws → AreApart ws
all_apart c t f [] up k = tt
all_apart c t f (w ∷ ws) up k = (every_pair (λ (v : WaitingCall). waiting_key w < waiting_key v) (WaitingFact c t f) (λ (v : WaitingCall). v.call ≡ w.call → ⊥) ws (λ v lt l e. less_own (waiting_key w) (waiting_key v) lt (one_number c t f w v k.0 l e)) up.0 k.1, all_apart c t f ws up.1 k.1)
  where
    less_own : (a b : ℕ) → a < b → b ≡ a → ⊥
    less_own a b lt e = omega (arith, lt, e)

-- ---- the site leaves ----

all_left : (c : Config) (n : ℕ) (older : List Line) (f : Frame) (ws : List WaitingCall) → Every (WaitingFact c older f) ws → Every (IsLeft (With n (Shown (says.Leave f.me f.epoch)) older) f) ws
all_left c n older f [] k = tt
all_left c n older f (w ∷ ws) k = (record { caller = k.0.caller; site_is = ap (λ (x : Waiting). x.site) k.0.caller_is; call_is = ap (λ (x : Waiting). x.call) k.0.caller_is; epoch_is = ap (λ (x : Waiting). x.epoch) k.0.caller_is; waits = k.0.waits }, all_left c n older f ws k.1)

pub users_leave_fine : (c : Config) (n : ℕ) (older : List Line) (f : Frame) (u : Users) → UsersInside c f older u → LeavesFine c n (With n (Shown (says.Leave f.me f.epoch)) older) f u
users_leave_fine c n older f u k = record {
  told = all_told c n (With n (Shown (says.Leave f.me f.epoch)) older) f u.waiting (ap (λ (b : Bool). cond b None (epoch_of (entries older) f.me)) (equal_self f.me)) (all_apart c older f u.waiting k.inside.ascends k.inside.calls) (all_left c n older f u.waiting k.inside.calls);
  own = all_own f u.waiting;
  always = all_answered c n (With n (Shown (says.Leave f.me f.epoch)) older) f u.waiting (record u { waiting = []; instances = []; hopeless = [] }) (record { boot_is = k.always.boot_is; calls = k.always.calls; serials = k.always.serials; descriptors = k.always.descriptors; ascends = k.always.ascends; cache = k.always.cache });
  sent = refl;
  none_waits = idle_waits c n older f u k.inside;
  has_none = idle_has c n older f u;
}

-- ---- a tick ----

every_joined : {A : Type 0} (P : A → Type 0) (xs ys : List A) → Every P xs → Every P ys → Every P (xs ++ ys)
every_joined P [] ys h k = k
every_joined P (x ∷ xs) ys h k = (h.0, every_joined P xs ys h.1 k)

repeats_of : (c : Config) (t : List Line) (f : Frame) (ws : List WaitingCall) → Every (WaitingFact c t f) ws → Every (PacketFact c t) (flat_map (λ (w : WaitingCall). request_packets f w w.asking) ws)
repeats_of c t f [] k = tt
repeats_of c t f (w ∷ ws) k = every_joined (PacketFact c t) (request_packets f w w.asking) (flat_map (λ (v : WaitingCall). request_packets f v v.asking) ws) k.0.sent (repeats_of c t f ws k.1)

-- what is asked again carries its facts
pub repeats_fine : (c : Config) (t : List Line) (f : Frame) (u : Users) → UsersInside c f t u → Every (PacketFact c t) (users_repeats f u)
repeats_fine c t f u k = repeats_of c t f u.waiting k.inside.calls
