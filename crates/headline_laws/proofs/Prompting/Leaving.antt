-- A site leaves its epoch: each of its waiting calls is answered so, directly after the leave, in order of process.
use Rattle.std.proofs.Common.{◌≡◌, ℕ, ◌<◌, ◌≤◌, ◌*◌, ◌==◌, arith, Bool, true, false, cond, ◌&&◌, List, [], ◌∷◌, length, Option, None, Some, refl, sym, ◌∙◌, ap, subst}
use Rattle.std.specs.Prelude.{nat_le}
use Rattle.role_steps.proofs.of_plain_facts.Numbers.{at_most_test, equal_self}
use Rattle.role_steps.proofs.of_plain_facts.Options.{some_same}
use Rattle.role_steps.proofs.of_plain_facts.Tests.{and_true}
use Rattle.locus_ids.specs.declared.config.Config.{Config}
use Rattle.locus_ids.specs.declared.ids.CallId.{CallId}
use Rattle.locus_ids.specs.declared.ids.EpochId.{EpochId}
use Rattle.locus_ids.specs.declared.ids.FileId.{FileId}
use Rattle.locus_ids.specs.declared.refusal.Refusal.TheVariants as refusal
use Rattle.trace_book.specs.Same.{same_call, same_epoch}
use Rattle.trace_book.specs.declared.call.Call.{Call}
use Rattle.trace_book.specs.declared.call.Call.TheVariants as call
use Rattle.trace_book.specs.declared.record.Record.{Record}
use Rattle.trace_book.specs.declared.record.Record.TheVariants as says
use Rattle.trace_book.specs.declared.reply.Reply.TheVariants as reply
use Rattle.role_steps.specs.Own.{Every}
use Rattle.role_steps.specs.Requests.{waiting_key, waiting_of, waiting_span}
use Rattle.role_steps.specs.Using.{changed_records, reply_record}
use Rattle.role_steps.specs.Views.{Frame, Shown, Told}
use Rattle.role_steps.specs.declared.users.WaitingCall.{WaitingCall}
use Rattle.the_run.specs.Worlds.{Line}
use Rattle.tree_model.specs.Calls.{accepted_as, call_named, waiting}
use Rattle.tree_model.specs.Epochs.{epoch_of, is_in}
use Rattle.tree_model.specs.Packs.{sync_site}
use Rattle.tree_model.specs.declared.accepted.Waiting.{Waiting}
use Rattle.lawful_trace.specs.CallRows.{is_this}
use Rattle.lawful_trace.specs.Progress.{left_epoch, left_since, unless_left, wants_next}
use Rattle.tree_laws.specs.Doing.{AllTold, FrameFact}
use Rattle.tree_laws.specs.Following.{IsFollowed, MayTell}
use Rattle.tree_laws.specs.Printed.{entries}
use Rattle.tree_laws.specs.Processes.{IsMend}
use Rattle.tree_laws.specs.Stores.{Ascends}
use Rattle.tree_laws.specs.Users.{WaitingFact, own_call}
use Rattle.tree_laws.proofs.Boots.{every_both, found_every}
use Rattle.tree_laws.proofs.Mending.{mends_at_sync}
use Rattle.tree_laws.proofs.Names.{same_call_eq, same_epoch_own}
use Rattle.tree_laws.proofs.Waiting.{accepted}
use Rattle.calm_laws.specs.of_store_laws.OneTree.Places.{AllAt}
use Rattle.calm_laws.specs.of_store_laws.OneTree.Rest.{more}
use Rattle.calm_laws.proofs.of_store_laws.OneTree.UserStepGroups.{synced_low}
use Rattle.headline_laws.specs.Prompting.Directly.{is_last, tells_left}
use Rattle.headline_laws.specs.Prompting.Given.{IsGiven}
use Rattle.headline_laws.proofs.Prompting.Facts.{ToldFact}

-- ---- one call ----

-- the call was accepted by the site in the epoch
pub record IsOf (t : List Line) (f : Frame) (w : WaitingCall) : Type 0 where
  pub caller : Waiting
  pub named : call_named (entries t) (own_call f.me f.boot w.call) ≡ Some caller
  pub site_is : caller.site ≡ f.me
  pub epoch_is : caller.epoch ≡ Some f.epoch

abbrev left_reply : Frame → WaitingCall → Told
left_reply f w = reply_record f.me f.boot w (reply.No (refusal.Changed f.epoch))

given_left : (c : Config) (t : List Line) (f : Frame) (w : WaitingCall) → IsFollowed c t → epoch_of (entries t) f.me ≡ None → IsOf t f w → MayTell c t (left_reply f w) → IsGiven c (entries t) f.me w.process (own_call f.me f.boot w.call) (reply.No (refusal.Changed f.epoch))
given_left c t f w h out k may = record { caller = may.row.caller; waits = may.row.waits; gives = ap (λ (o : Option EpochId). unless_left o (wants_next c (entries t) may.row.caller.call)) left }
  where
    third : (p q b : Bool) → (p && q && b) ≡ true → b ≡ true
    third true true b e = e
    third true false b e = cc
    third false q b e = cc

    found : (call_named (entries t) may.row.caller.call ≡ Some may.row.caller) × (is_this f.me w.process (own_call f.me f.boot w.call) may.row.caller ≡ true)
    found = found_every (λ (x : Waiting). call_named (entries t) x.call ≡ Some x) (is_this f.me w.process (own_call f.me f.boot w.call)) (waiting (entries t)) may.row.caller may.row.waits (accepted c t h).waits

    same_name : may.row.caller.call ≡ own_call f.me f.boot w.call
    same_name = same_call_eq may.row.caller.call (own_call f.me f.boot w.call) (third (may.row.caller.site == f.me) (may.row.caller.process == w.process) (same_call may.row.caller.call (own_call f.me f.boot w.call)) found.1)

    same : may.row.caller ≡ k.caller
    same = some_same may.row.caller k.caller (sym found.0 ∙ (ap (call_named (entries t)) same_name ∙ k.named))

    left : left_epoch (entries t) may.row.caller ≡ Some f.epoch
    left = ap (left_epoch (entries t)) same ∙ (ap (λ (s : ℕ). left_since (entries t) s k.caller.epoch) k.site_is ∙ (ap (left_since (entries t) f.me) k.epoch_is ∙ ap (λ (o : Option EpochId). cond (is_in o f.epoch) None (Some f.epoch)) out))

-- ---- all of them ----

-- processes ascend, from this one on
abbrev pub Rise : ℕ → List WaitingCall → Type 0
Rise low [] = Unit {0}
Rise low (w ∷ ws) = (low ≤ w.process) × Rise w.process ws

module _ (c : Config) (n : ℕ) (f : Frame) where
  -- the last record is of the leave, for processes from this one on
  abbrev Follows : ℕ → List Line → Type 0
  Follows low t = (p : ℕ) → low ≤ p → is_last (tells_left f.me p f.epoch) n (entries t) ≡ true

  after_leave : (t : List Line) → Follows 0 (more n (Shown (says.Leave f.me f.epoch)) t)
  after_leave t p le = and_true (n == n) ((f.me == f.me) && same_epoch f.epoch f.epoch) (equal_self n) (and_true (f.me == f.me) (same_epoch f.epoch f.epoch) (equal_self f.me) (same_epoch_own f.epoch))

  after_reply : (t : List Line) (w : WaitingCall) → Follows w.process (more n (left_reply f w) t)
  after_reply t w p le = and_true (n == n) ((f.me == f.me) && (nat_le w.process p && same_epoch f.epoch f.epoch)) (equal_self n)
      (and_true (f.me == f.me) (nat_le w.process p && same_epoch f.epoch f.epoch) (equal_self f.me) (and_true (nat_le w.process p) (same_epoch f.epoch f.epoch) (at_most_test w.process p le) (same_epoch_own f.epoch)))

  replies_facts : (ws : List WaitingCall) (low : ℕ) (t : List Line) → IsFollowed c t → epoch_of (entries t) f.me ≡ None → Every (IsOf t f) ws → Rise low ws → Follows low t → AllTold c n t (changed_records f.me f.boot f.epoch ws) → AllAt (ToldFact c n) n t (changed_records f.me f.boot f.epoch ws)
  replies_facts [] low t h out k rise last may = tt
  replies_facts (w ∷ ws) low t h out k rise last may = (
    (given_left c t f w h out k.0 may.0, last w.process rise.0),
    replies_facts ws w.process (more n (left_reply f w) t) (may.0, h) out (every_both (IsOf t f) (IsOf (more n (left_reply f w) t) f) ws (λ v l. record { caller = l.caller; named = l.named; site_is = l.site_is; epoch_is = l.epoch_is }) k.1) rise.1 (after_reply t w) may.1,
  )

-- ---- mends are of process 0 ----

abbrev MendsAreSystem : List Line → Type 0
MendsAreSystem t = (d : CallId) (w : Waiting) → call_named (entries t) d ≡ Some w → IsMend w.words → w.process ≡ 0

system_record : (c : Config) (n : ℕ) (r : Record) (older : List Line) → MayTell c older (Shown r) → MendsAreSystem older → MendsAreSystem (more n (Shown r) older)
system_record c n (says.Accept s process new (call.Mend file)) older may k d w named is = over (same_call new d) named
  where
    over : (b : Bool) → cond b (Some (accepted_as (entries older) s process new (call.Mend file))) (call_named (entries older) d) ≡ Some w → w.process ≡ 0
    over true e = sym (ap (λ (x : Waiting). x.process) (some_same (accepted_as (entries older) s process new (call.Mend file)) w e)) ∙ may.row.system
    over false e = k d w e is
system_record c n (says.Accept s process new words) older may k d w named is = over (same_call new d) named
  where
    over : (b : Bool) → cond b (Some (accepted_as (entries older) s process new words)) (call_named (entries older) d) ≡ Some w → w.process ≡ 0
    over true e = absurd (subst (λ (x : Waiting). IsMend x.words) (sym (some_same (accepted_as (entries older) s process new words) w e)) is)
    over false e = k d w e is
system_record c n r older may k d w named is = k d w named is

system_told : (c : Config) (n : ℕ) (x : Told) (older : List Line) → MayTell c older x → MendsAreSystem older → MendsAreSystem (more n x older)
system_told c n (Shown r) older may k = system_record c n r older may k
system_told c n _ older may k = k

pub mends_are_system : (c : Config) (t : List Line) → IsFollowed c t → MendsAreSystem t
mends_are_system c [] h d w named is = cc
mends_are_system c (x ∷ older) h d w named is = system_told c x.number x.told older h.0 (mends_are_system c older h.1) d w named is

-- ---- the order of the calls of a site ----

module _ (c : Config) (few : length c.packs ≤ 4) (t : List Line) (f : Frame) (h : IsFollowed c t) (frame : FrameFact c t f) where
  -- a mend is of one of the four groups, and of process 0
  pub mend_group : (x : WaitingCall) (file : FileId) → WaitingFact c t f x → x.words ≡ call.Mend file → file.group < 4
  mend_group x file m e = synced_low c f.members file.group f.me few (ap (sync_site c file.group) (sym frame.members_are)
      ∙ (mends_at_sync c t h (own_call f.me f.boot x.call) m.caller f.epoch file m.named (ap (λ (y : Waiting). y.epoch) m.caller_is) (ap (λ (y : Waiting). y.words) m.caller_is ∙ e) ∙ ap (λ (y : Waiting). Some y.site) m.caller_is))

  pub mend_process : (x : WaitingCall) (file : FileId) → WaitingFact c t f x → x.words ≡ call.Mend file → x.process ≡ 0
  mend_process x file m e = ap (λ (y : Waiting). y.process) (sym m.caller_is) ∙ mends_are_system c t h (own_call f.me f.boot x.call) m.caller m.named (subst IsMend (sym (ap (λ (y : Waiting). y.words) m.caller_is ∙ e)) tt)

  -- where one call stands before another, its process is no higher
  pub below : (v w : WaitingCall) → WaitingFact c t f v → WaitingFact c t f w → waiting_key v < waiting_key w → v.process ≤ w.process
  below v w k l lt = over v.words w.words refl refl lt
    where
      low : v.process ≡ 0 → v.process ≤ w.process
      low e = omega (arith, e)

      plain : waiting_span * v.process < waiting_span * w.process → v.process ≤ w.process
      plain l = omega (arith, l)

      mended : (g : ℕ) → g < 4 → waiting_span * v.process < g → v.process ≤ w.process
      mended g m l = omega (arith, m, l)

      over : (a b : Call) → v.words ≡ a → w.words ≡ b → waiting_of v.process a < waiting_of w.process b → v.process ≤ w.process
      over (call.Mend file) b e q l = low (mend_process v file k e)
      over a (call.Mend file) e q m = mended file.group (mend_group w file l q) m
      over a b e q m = plain m

  rising : (low : ℕ) (ws : List WaitingCall) → Every (λ (w : WaitingCall). low ≤ w.process) ws → Ascends waiting_key ws → Every (WaitingFact c t f) ws → Rise low ws
  rising low [] least up k = tt
  rising low (w ∷ ws) least up k = (least.0, rising w.process ws (above ws up.0 k.1) up.1 k.1)
    where
      above : (vs : List WaitingCall) → Every (λ (v : WaitingCall). waiting_key w < waiting_key v) vs → Every (WaitingFact c t f) vs → Every (λ (v : WaitingCall). w.process ≤ v.process) vs
      above [] lt l = tt
      above (v ∷ vs) lt l = (below w v k.0 l.0 lt.0, above vs lt.1 l.1)

-- ---- the leave ----

is_of : (c : Config) (n : ℕ) (t : List Line) (f : Frame) (ws : List WaitingCall) → Every (WaitingFact c t f) ws → Every (IsOf (more n (Shown (says.Leave f.me f.epoch)) t) f) ws
is_of c n t f ws k = every_both (WaitingFact c t f) (IsOf (more n (Shown (says.Leave f.me f.epoch)) t) f) ws (λ w l. record { caller = l.caller; named = l.named; site_is = ap (λ (x : Waiting). x.site) l.caller_is; epoch_is = ap (λ (x : Waiting). x.epoch) l.caller_is }) k

pub leave_facts : (c : Config) (n : ℕ) (t : List Line) (f : Frame) (ws : List WaitingCall) → length c.packs ≤ 4 → IsFollowed c t → FrameFact c t f → Ascends waiting_key ws → Every (WaitingFact c t f) ws →
    AllTold c n t (Shown (says.Leave f.me f.epoch) ∷ changed_records f.me f.boot f.epoch ws) → AllAt (ToldFact c n) n t (Shown (says.Leave f.me f.epoch) ∷ changed_records f.me f.boot f.epoch ws)
leave_facts c n t f ws few h frame up k may = (
  tt,
  replies_facts c n f ws 0 (more n (Shown (says.Leave f.me f.epoch)) t) (may.0, h)
      (ap (λ (b : Bool). cond b None (epoch_of (entries t) f.me)) (equal_self f.me)) (is_of c n t f ws k) (rising c few t f h frame 0 ws (each ws) up k) (after_leave c n f t) may.1,
)
  where
    each : (ws : List WaitingCall) → Every (λ (w : WaitingCall). 0 ≤ w.process) ws
    each [] = tt
    each (w ∷ ws) = (omega arith, each ws)
