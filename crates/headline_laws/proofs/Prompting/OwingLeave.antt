-- A site leaves its epoch: each record after that is the reply that is due, until none is.
use Rattle.std.proofs.Common.{◌≡◌, ℕ, ◌<◌, ◌≤◌, ◌*◌, ◌==◌, arith, Bool, true, false, cond, not, ◌&&◌, ◌||◌, List, [], ◌∷◌, filter, length, Option, None, Some, refl, sym, ◌∙◌, ap, subst, ◌⊎◌, inl, inr}
use Rattle.std.specs.Prelude.{nat_lt}
use Rattle.std.specs.Option.{is_some}
use Rattle.role_steps.proofs.of_plain_facts.Numbers.{above_apart, equal, equal_self, less_test, not_less_test}
use Rattle.role_steps.proofs.of_plain_facts.Options.{some_same}
use Rattle.role_steps.proofs.of_plain_facts.Tests.{and_true, or_first, true_false}
use Rattle.locus_ids.specs.declared.config.Config.{Config}
use Rattle.locus_ids.specs.declared.ids.CallId.{CallId}
use Rattle.locus_ids.specs.declared.ids.EpochId.{EpochId}
use Rattle.locus_ids.specs.declared.refusal.Refusal.TheVariants as refusal
use Rattle.trace_book.specs.Same.{same_call}
use Rattle.trace_book.specs.declared.call.Call.{Call}
use Rattle.trace_book.specs.declared.call.Call.TheVariants as call
use Rattle.trace_book.specs.declared.record.Record.TheVariants as says
use Rattle.trace_book.specs.declared.reply.Reply.TheVariants as reply
use Rattle.role_steps.specs.Own.{Every}
use Rattle.role_steps.specs.Requests.{waiting_key, waiting_of, waiting_span}
use Rattle.role_steps.specs.Using.{changed_records, reply_record}
use Rattle.role_steps.specs.Views.{Frame, Shown, Told, Users}
use Rattle.role_steps.specs.declared.users.WaitingCall.{WaitingCall}
use Rattle.the_run.specs.Kept.{Among}
use Rattle.the_run.specs.Worlds.{Line}
use Rattle.tree_model.specs.Calls.{call_named, waiting}
use Rattle.tree_model.specs.Epochs.{epoch_of, is_in}
use Rattle.tree_model.specs.Folds.{last_line}
use Rattle.tree_model.specs.declared.accepted.Waiting.{Waiting}
use Rattle.lawful_trace.specs.CallRows.{is_this}
use Rattle.lawful_trace.specs.Prompt.{comes_first, is_due, is_reply_due, mended_group, needs_no_request}
use Rattle.tree_laws.specs.Doing.{AllTold, FrameFact, UsersInside}
use Rattle.tree_laws.specs.Following.{IsFollowed, MayTell}
use Rattle.tree_laws.specs.Printed.{entries}
use Rattle.tree_laws.specs.Stores.{Ascends}
use Rattle.tree_laws.specs.Users.{WaitingFact, own_call}
use Rattle.tree_laws.proofs.Boots.{every_both, found_every}
use Rattle.tree_laws.proofs.Later.{every_among}
use Rattle.tree_laws.proofs.Names.{same_call_eq, same_call_own}
use Rattle.tree_laws.proofs.Waiting.{accepted, found_among}
use Rattle.calm_laws.specs.of_store_laws.OneTree.Rest.{more}
use Rattle.headline_laws.proofs.Prompting.Leaving.{mend_group, mend_process}
use Rattle.headline_laws.proofs.Prompting.Owing.{DueTold, Dues, IsRow, row_of, settled_due}
use Rattle.headline_laws.proofs.Prompting.OwingLeft.{IsLeast, least_due}
use Rattle.headline_laws.proofs.Prompting.Resting.{Rests, Settled, rests_stays, rests_undue}

-- the call of a row, as it waits by the trace
abbrev pub as_waiting : Frame → WaitingCall → Waiting
as_waiting f w = record { site = f.me; process = w.process; call = own_call f.me f.boot w.call; words = w.words; epoch = Some f.epoch }

-- one call comes before another, and not the other way round
abbrev pub IsBefore : Frame → WaitingCall → WaitingCall → Type 0
IsBefore f v w = (comes_first (as_waiting f v) (as_waiting f w) ≡ true) × (comes_first (as_waiting f w) (as_waiting f v) ≡ false)

abbrev pub Sorted : Frame → List WaitingCall → Type 0
Sorted f [] = Unit {0}
Sorted f (w ∷ ws) = Every (IsBefore f w) ws × Sorted f ws

-- ---- the order of rows ----

abbrev Firsts : ℕ → ℕ → ℕ → ℕ → Type 0
Firsts p q g k = ((nat_lt p q || ((p == q) && nat_lt g k)) ≡ true) × ((nat_lt q p || ((q == p) && nat_lt k g)) ≡ false)

lower_process : (p q g k : ℕ) → p < q → Firsts p q g k
lower_process p q g k lt = (or_first (nat_lt p q) ((p == q) && nat_lt g k) (less_test p q lt), both (nat_lt q p) (q == p) (not_less_test q p (omega (arith, lt))) (above_apart p q lt))
  where
    both : (a b : Bool) → a ≡ false → b ≡ false → (a || (b && nat_lt k g)) ≡ false
    both a b e z = ap (λ (x : Bool). x || (b && nat_lt k g)) e ∙ ap (λ (x : Bool). x && nat_lt k g) z

same_process : (p q g k : ℕ) → p ≡ q → g < k → Firsts p q g k
same_process p q g k e lt = subst (λ (x : ℕ). Firsts p x g k) e (
  (ap (λ (x : Bool). x || ((p == p) && nat_lt g k)) (not_less_test p p (omega arith)) ∙ (ap (λ (x : Bool). x && nat_lt g k) (equal_self p) ∙ less_test g k lt)),
  (ap (λ (x : Bool). x || ((p == p) && nat_lt k g)) (not_less_test p p (omega arith)) ∙ (ap (λ (x : Bool). x && nat_lt k g) (equal_self p) ∙ not_less_test k g (omega (arith, lt)))),
)

module _ (c : Config) (few : length c.packs ≤ 4) (t : List Line) (f : Frame) (h : IsFollowed c t) (frame : FrameFact c t f) where
  before_of : (v w : WaitingCall) → WaitingFact c t f v → WaitingFact c t f w → waiting_key v < waiting_key w → IsBefore f v w
  before_of v w k l lt = over v.words w.words refl refl lt
    where
      over : (a b : Call) → v.words ≡ a → w.words ≡ b → waiting_of v.process a < waiting_of w.process b → Firsts v.process w.process (mended_group a) (mended_group b)
      over (call.Mend g) (call.Mend j) e q m = same_process v.process w.process g.group j.group (mend_process c few t f h frame v g k e ∙ sym (mend_process c few t f h frame w j l q)) m
      over (call.Mend g) b e q m = lower_process v.process w.process g.group (mended_group b) (above v.process w.process g.group (mend_process c few t f h frame v g k e) m)
        where
          above : (p q g : ℕ) → p ≡ 0 → g < waiting_span * q → p < q
          above p q g e m = omega (arith, e, m)
      over a (call.Mend j) e q m = same_process v.process w.process (mended_group a) j.group (none v.process j.group (mend_group c few t f h frame w j l q) m ∙ sym (mend_process c few t f h frame w j l q)) (some v.process j.group m)
        where
          none : (p g : ℕ) → g < 4 → waiting_span * p < g → p ≡ 0
          none p g low m = omega (arith, low, m)

          some : (p g : ℕ) → waiting_span * p < g → 0 < g
          some p g m = omega (arith, m)
      over a b e q m = lower_process v.process w.process (mended_group a) (mended_group b) (plain v.process w.process m)
        where
          plain : (p q : ℕ) → waiting_span * p < waiting_span * q → p < q
          plain p q m = omega (arith, m)

  pub sorted_of : (ws : List WaitingCall) → Ascends waiting_key ws → Every (WaitingFact c t f) ws → Sorted f ws
  sorted_of [] up k = tt
  sorted_of (w ∷ ws) up k = (each ws up.0 k.1, sorted_of ws up.1 k.1)
    where
      each : (vs : List WaitingCall) → Every (λ (v : WaitingCall). waiting_key w < waiting_key v) vs → Every (WaitingFact c t f) vs → Every (IsBefore f w) vs
      each [] lt l = tt
      each (v ∷ vs) lt l = (before_of w v k.0 l.0 lt.0, each vs lt.1 l.1)

-- ---- while calls are answered so ----

-- the call is that of one of these rows
abbrev pub IsOneOf : Frame → List WaitingCall → Waiting → Type 0
IsOneOf f ws x = (w : WaitingCall) × Among w ws × (x ≡ as_waiting f w)

-- Those of these rows are still to be answered, and all others are owed no reply.
pub record Leaves (c : Config) (n : ℕ) (f : Frame) (ws : List WaitingCall) (t : List Line) : Type 0 where
  pub followed : IsFollowed c t
  pub outside : epoch_of (entries t) f.me ≡ None
  pub named : Every (λ (w : WaitingCall). call_named (entries t) (own_call f.me f.boot w.call) ≡ Some (as_waiting f w)) ws
  pub sorted : Sorted f ws
  pub last : last_line (entries t) ≡ n
  pub each : Every (λ (x : Waiting). Rests c (entries t) x ⊎ IsOneOf f ws x) (waiting (entries t))

abbrev left_reply : Frame → WaitingCall → Told
left_reply f w = reply_record f.me f.boot w (reply.No (refusal.Changed f.epoch))

module _ (c : Config) (n : ℕ) (f : Frame) (w : WaitingCall) (ws : List WaitingCall) (t : List Line) (k : Leaves c n f (w ∷ ws) t) (may : MayTell c t (left_reply f w)) where
  abbrev d : CallId
  d = own_call f.me f.boot w.call

  own : is_due c (entries t) (as_waiting f w) ≡ true
  own = ap (λ (o : Option EpochId). is_some (cond (is_in o f.epoch) None (Some f.epoch)) || needs_no_request c (entries t) d) k.outside

  among : Among (as_waiting f w) (waiting (entries t))
  among = subst (λ (x : Waiting). Among x (waiting (entries t))) same (found_among (is_this f.me w.process d) (waiting (entries t)) may.row.caller may.row.waits)
    where
      third : (p q b : Bool) → (p && q && b) ≡ true → b ≡ true
      third true true b e = e
      third true false b e = cc
      third false q b e = cc

      found : (call_named (entries t) may.row.caller.call ≡ Some may.row.caller) × (is_this f.me w.process d may.row.caller ≡ true)
      found = found_every (λ (x : Waiting). call_named (entries t) x.call ≡ Some x) (is_this f.me w.process d) (waiting (entries t)) may.row.caller may.row.waits (accepted c t k.followed).waits

      same : may.row.caller ≡ as_waiting f w
      same = some_same may.row.caller (as_waiting f w) (sym found.0 ∙ (ap (call_named (entries t)) (same_call_eq may.row.caller.call d (third (may.row.caller.site == f.me) (may.row.caller.process == w.process) (same_call may.row.caller.call d) found.1)) ∙ k.named.0))

  least : (xs : List Waiting) → Every (λ (x : Waiting). Rests c (entries t) x ⊎ IsOneOf f (w ∷ ws) x) xs → Every (IsLeast c (entries t) (as_waiting f w)) xs
  least [] e = tt
  least (x ∷ xs) e = (one e.0, least xs e.1)
    where
      of_row : (v : WaitingCall) → (v ≡ w) ⊎ Among v ws → x ≡ as_waiting f v → (x ≡ as_waiting f w) ⊎ ((comes_first (as_waiting f w) x ≡ true) × (comes_first x (as_waiting f w) ≡ false))
      of_row v (inl q) is = inl (is ∙ ap (as_waiting f) q)
      of_row v (inr m) is = inr (subst (λ (y : Waiting). (comes_first (as_waiting f w) y ≡ true) × (comes_first y (as_waiting f w) ≡ false)) (sym is) (every_among (IsBefore f w) v ws k.sorted.0 m))

      one : Rests c (entries t) x ⊎ IsOneOf f (w ∷ ws) x → IsLeast c (entries t) (as_waiting f w) x
      one (inl r) q = absurd (true_false (sym q ∙ rests_undue c (entries t) x r))
      one (inr z) q = of_row z.0 z.1 z.2

  pub reply_due : DueTold c n t (left_reply f w)
  reply_due = ap (λ (o : Option Waiting). is_reply_due o (last_line (entries t)) (record { line = n; what = says.Answer f.me w.process d (reply.No (refusal.Changed f.epoch)) })) (least_due c (entries t) (as_waiting f w) own (waiting (entries t)) among (least (waiting (entries t)) k.each))
      ∙ and_true (n == last_line (entries t)) (same_call d d) (subst (λ (m : ℕ). (n == m) ≡ true) (sym k.last) (equal_self n)) (same_call_own d)

  abbrev after : List Line
  after = more n (left_reply f w) t

  -- those that wait after it
  waits_still : (xs : List Waiting) → Every (λ (x : Waiting). call_named (entries t) x.call ≡ Some x) xs → Every (λ (x : Waiting). Rests c (entries t) x ⊎ IsOneOf f (w ∷ ws) x) xs → Every (λ (x : Waiting). Rests c (entries after) x ⊎ IsOneOf f ws x) (filter (λ (x : Waiting). not (same_call x.call d)) xs)
  waits_still [] named e = tt
  waits_still (x ∷ xs) named e = at (same_call x.call d) refl (waits_still xs named.1 e.1)
    where
      of_row : same_call x.call d ≡ false → (v : WaitingCall) → (v ≡ w) ⊎ Among v ws → x ≡ as_waiting f v → Rests c (entries after) x ⊎ IsOneOf f ws x
      of_row unlike v (inl q) is = absurd (true_false (sym (ap (λ (y : Waiting). same_call y.call d) (is ∙ ap (as_waiting f) q) ∙ same_call_own d) ∙ unlike))
      of_row unlike v (inr m) is = inr (v, m, is)

      one : same_call x.call d ≡ false → Rests c (entries t) x ⊎ IsOneOf f (w ∷ ws) x → Rests c (entries after) x ⊎ IsOneOf f ws x
      one unlike (inl r) = inl (rests_stays c n t k.followed x named.0 r (left_reply f w) may tt)
      one unlike (inr z) = of_row unlike z.0 z.1 z.2

      at : (b : Bool) → same_call x.call d ≡ b → Every (λ (y : Waiting). Rests c (entries after) y ⊎ IsOneOf f ws y) (filter (λ (y : Waiting). not (same_call y.call d)) xs) →
          Every (λ (y : Waiting). Rests c (entries after) y ⊎ IsOneOf f ws y) (cond (not b) (x ∷ filter (λ (y : Waiting). not (same_call y.call d)) xs) (filter (λ (y : Waiting). not (same_call y.call d)) xs))
      at true q later = later
      at false q later = (one q e.0, later)

  pub leaves_next : Leaves c n f ws after
  leaves_next = record { followed = (may, k.followed); outside = k.outside; named = k.named.1; sorted = k.sorted.1; last = refl; each = waits_still (waiting (entries t)) (accepted c t k.followed).waits k.each }

left_dues : (c : Config) (n : ℕ) (f : Frame) (ws : List WaitingCall) (t : List Line) → Leaves c n f ws t → AllTold c n t (changed_records f.me f.boot f.epoch ws) → Dues c n t (changed_records f.me f.boot f.epoch ws)
left_dues c n f [] t k may = (tt, every_both (λ (x : Waiting). Rests c (entries t) x ⊎ IsOneOf f [] x) (Rests c (entries t)) (waiting (entries t)) (λ x e. rests e) k.each)
  where
    rests : {x : Waiting} → Rests c (entries t) x ⊎ IsOneOf f [] x → Rests c (entries t) x
    rests (inl r) = r
    rests (inr z) = absurd z.1
left_dues c n f (w ∷ ws) t k may = (let later : Dues c n (more n (left_reply f w) t) (changed_records f.me f.boot f.epoch ws) = left_dues c n f ws (more n (left_reply f w) t) (leaves_next c n f w ws t k may.0) may.1 in ((reply_due c n f w ws t k may.0, later.0), later.1))

-- ---- the leave ----

module _ (c : Config) (few : length c.packs ≤ 4) (n : ℕ) (t : List Line) (f : Frame) (u : Users) (h : IsFollowed c t) (frame : FrameFact c t f) (k : UsersInside c f t u) (settled : Settled c (entries t)) (may : MayTell c t (Shown (says.Leave f.me f.epoch))) where
  abbrev gone : List Line
  gone = more n (Shown (says.Leave f.me f.epoch)) t

  those : (xs : List Waiting) → ((x : Waiting) → Among x xs → Among x (waiting (entries t))) → Every (λ (x : Waiting). call_named (entries t) x.call ≡ Some x) xs → Every (Rests c (entries t)) xs → Every (λ (x : Waiting). Rests c (entries gone) x ⊎ IsOneOf f u.waiting x) xs
  those [] within named r = tt
  those (x ∷ xs) within named r = (at (x.site == f.me) refl, those xs (λ y m. within y (inr m)) named.1 r.1)
    where
      at : (b : Bool) → (x.site == f.me) ≡ b → Rests c (entries gone) x ⊎ IsOneOf f u.waiting x
      at true e = (let row : IsRow c t f u x = row_of c t f u h frame k x (within x (inl refl)) (equal x.site f.me e) in inr (row.row, row.among, row.is ∙ row.fact.caller_is))
      at false e = inl (rests_stays c n t h x named.0 r.0 (Shown (says.Leave f.me f.epoch)) may (λ q. true_false (sym (subst (λ (s : ℕ). (x.site == s) ≡ true) (sym q) (equal_self x.site)) ∙ e)))

  leaves_now : Leaves c n f u.waiting gone
  leaves_now = record {
    followed = (may, h);
    outside = ap (λ (b : Bool). cond b None (epoch_of (entries t) f.me)) (equal_self f.me);
    named = every_both (WaitingFact c t f) (λ (w : WaitingCall). call_named (entries t) (own_call f.me f.boot w.call) ≡ Some (as_waiting f w)) u.waiting (λ w l. l.named ∙ ap Some l.caller_is) k.inside.calls;
    sorted = sorted_of c few t f h frame u.waiting k.inside.ascends k.inside.calls;
    last = refl;
    each = those (waiting (entries t)) (λ x m. m) (accepted c t h).waits settled;
  }

  pub leave_dues : AllTold c n gone (changed_records f.me f.boot f.epoch u.waiting) → Dues c n t (Shown (says.Leave f.me f.epoch) ∷ changed_records f.me f.boot f.epoch u.waiting)
  leave_dues told = (let rest : Dues c n gone (changed_records f.me f.boot f.epoch u.waiting) = left_dues c n f u.waiting gone leaves_now told in ((settled_due c n t (Shown (says.Leave f.me f.epoch)) settled, rest.0), rest.1))
