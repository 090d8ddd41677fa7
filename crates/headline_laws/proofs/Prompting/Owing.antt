-- What an event tells where no reply is due before it: each record comes as replies are due, part by part.
use Rattle.std.proofs.Common.{◌≡◌, ℕ, ◌==◌, Bool, true, false, cond, not, ◌&&◌, List, [], ◌∷◌, filter, Option, None, Some, refl, sym, ◌∙◌, ap, subst, ◌⊎◌, inl, inr}
use Rattle.std.specs.List.{find}
use Rattle.std.specs.Option.{is_some}
use Rattle.role_steps.proofs.of_plain_facts.Numbers.{equal_self}
use Rattle.role_steps.proofs.of_plain_facts.Options.{some_same}
use Rattle.role_steps.proofs.of_plain_facts.Tests.{and_true, true_false}
use Rattle.locus_ids.specs.declared.config.Config.{Config}
use Rattle.locus_ids.specs.declared.ids.CallId.{CallId}
use Rattle.locus_ids.specs.declared.ids.EpochId.{EpochId}
use Rattle.locus_ids.specs.declared.ids.FileId.{FileId}
use Rattle.trace_book.specs.Same.{same_call}
use Rattle.trace_book.specs.declared.call.Call.{Call}
use Rattle.trace_book.specs.declared.call.Call.TheVariants as call
use Rattle.trace_book.specs.declared.descriptor.Beginning.{Beginning}
use Rattle.trace_book.specs.declared.record.Record.{Record}
use Rattle.trace_book.specs.declared.record.Record.TheVariants as says
use Rattle.trace_book.specs.declared.reply.Reply.{Reply}
use Rattle.call_rules.specs.Descriptors.{beginning}
use Rattle.call_rules.specs.Scripts.{wants}
use Rattle.call_rules.specs.declared.answer.Answer.{Answer}
use Rattle.call_rules.specs.declared.want.Want.TheVariants as want
use Rattle.role_steps.specs.Own.{Every}
use Rattle.role_steps.specs.Views.{Frame, Shown, Told, Users}
use Rattle.role_steps.specs.declared.users.WaitingCall.{WaitingCall}
use Rattle.the_run.specs.Kept.{Among}
use Rattle.the_run.specs.Worlds.{Line, told_onto}
use Rattle.tree_model.specs.Calls.{accepted_as, call_named, waiting}
use Rattle.tree_model.specs.Epochs.{epoch_of}
use Rattle.tree_model.specs.Folds.{last_line}
use Rattle.tree_model.specs.declared.accepted.Waiting.{Waiting}
use Rattle.lawful_trace.specs.CallRows.{is_this}
use Rattle.lawful_trace.specs.Progress.{answers, is_packed_in}
use Rattle.lawful_trace.specs.Prompt.{due, is_due, is_reply_due, lesser}
use Rattle.lawful_trace.specs.Tables.{begun, descriptor}
use Rattle.tree_laws.specs.Calls.{Asks, Waits, heard, is_request, script, script_as}
use Rattle.tree_laws.specs.Doing.{AllTold, FrameFact, UsersInside}
use Rattle.tree_laws.specs.Following.{IsFollowed, MayTell}
use Rattle.tree_laws.specs.Printed.{entries}
use Rattle.tree_laws.specs.Users.{WaitingFact, own_call}
use Rattle.tree_laws.proofs.Boots.{every_filter}
use Rattle.tree_laws.proofs.Hearing.{Hears, hears}
use Rattle.tree_laws.proofs.Later.{every_among}
use Rattle.tree_laws.proofs.Names.{same_call_own}
use Rattle.tree_laws.proofs.Waiting.{accepted}
use Rattle.calm_laws.specs.of_store_laws.OneTree.Places.{AllAt}
use Rattle.calm_laws.specs.of_store_laws.OneTree.Rest.{more}
use Rattle.calm_laws.specs.of_store_laws.Users.Turning.{it}
use Rattle.headline_laws.proofs.Prompting.Calling.{accept_told, caller, caller_begun, caller_named, then}
use Rattle.headline_laws.proofs.Prompting.Heads.{IsMend, Mild, MildTold, accepted_by}
use Rattle.headline_laws.proofs.Prompting.Mended.{mend_opens}
use Rattle.headline_laws.proofs.Prompting.Resting.{Rests, Settled, Settles, among_undue, appended, every_all, settled_more, settled_undue, stay_all}

-- ---- what is told ----

-- a record comes as replies are due before it
abbrev pub DueTold : Config → ℕ → List Line → Told → Type 0
DueTold c n t (Shown r) = is_reply_due (due c (entries t)) (last_line (entries t)) (record { line = n; what = r }) ≡ true
DueTold c n t _ = Unit {0}

-- all of it does, and then no reply is due
abbrev pub Dues : Config → ℕ → List Line → List Told → Type 0
Dues c n t told = AllAt (DueTold c n) n t told × Settled c (entries (told_onto n told t))

pub settled_due : (c : Config) (n : ℕ) (t : List Line) (x : Told) → Settled c (entries t) → DueTold c n t x
settled_due c n t (Shown r) k = ap (λ (o : Option Waiting). is_reply_due o (last_line (entries t)) (record { line = n; what = r })) (settled_undue c (entries t) k)
settled_due c n t _ k = tt

-- ---- a mend ----

mend_rests : (c : Config) (n s process : ℕ) (d : CallId) (file : FileId) (t : List Line) → MayTell c t (accept_told s process d (call.Mend file)) → Rests c (entries (then c n t s process d (call.Mend file))) (accepted_as (entries t) s process d (call.Mend file))
mend_rests c n s process d file t may = record { epoch = may.row.epoch; made = may.row.inside; inside = may.row.inside; asks = λ e. ap is_request opens }
  where
    b : Beginning
    b = beginning (descriptor (entries t) s process) (epoch_of (entries t) s) d (call.Mend file)

    opens : script c (entries (then c n t s process d (call.Mend file))) d None [] ≡ want.OpenToMend file
    opens = ap (λ (o : Option Waiting). script_as c (entries (then c n t s process d (call.Mend file))) o (begun (entries (then c n t s process d (call.Mend file))) d) None []) (caller_named c n t s process d (call.Mend file))
        ∙ (ap (λ (o : Option Beginning). script_as c (entries (then c n t s process d (call.Mend file))) (Some (caller c n t s process d (call.Mend file))) o None []) (caller_begun c n t s process d (call.Mend file))
        ∙ (ap (λ (o : Option EpochId). wants c.mounts (is_packed_in c (entries (then c n t s process d (call.Mend file))) o) None (call.Mend file) (beginning (descriptor (entries t) s process) o d (call.Mend file)) []) may.row.inside
        ∙ mend_opens c (is_packed_in c (entries (then c n t s process d (call.Mend file))) (Some may.row.epoch)) None d file (ap is_some may.row.synchronizes)))

-- what answers no call but mends
mild_settles : (c : Config) (n : ℕ) (o : Option CallId) (t : List Line) (x : Told) → MildTold o x → MayTell c t x → Settles c n t x
mild_settles c n o t (Shown r) mild may = over r mild may
  where
    words_rest : (s process : ℕ) (d : CallId) (words : Call) → IsMend words → MayTell c t (accept_told s process d words) → Rests c (entries (then c n t s process d words)) (accepted_as (entries t) s process d words)
    words_rest s process d (call.Mend file) is may = mend_rests c n s process d file t may
    words_rest s process d _ is may = absurd is

    over : (r : Record) → MildTold o (Shown r) → MayTell c t (Shown r) → Settles c n t (Shown r)
    over (says.Leave site e) mild may = absurd mild
    over (says.Accept site process d words) mild may = words_rest site process d words mild may
    over _ mild may = tt
mild_settles c n o t _ mild may = tt

pub mild_dues : (c : Config) (n : ℕ) (o : Option CallId) (xs : List Told) (t : List Line) → IsFollowed c t → Mild o xs → AllTold c n t xs → Settled c (entries t) → Dues c n t xs
mild_dues c n o [] t h mild may k = (tt, k)
mild_dues c n o (x ∷ xs) t h mild may k =
    let later : Dues c n (more n x t) xs = mild_dues c n (accepted_by x) xs (more n x t) (may.0, h) mild.1 may.1 (settled_more c n x t h may.0 (mild_settles c n o t x mild.0 may.0) k) in
    ((settled_due c n t x k, later.0), later.1)

-- ---- a call that is answered as it is accepted ----

pub at_once : (c : Config) (n s process : ℕ) (d : CallId) (words : Call) (r : Reply) (t : List Line) → IsFollowed c t → MayTell c t (accept_told s process d words) → MayTell c (then c n t s process d words) (Shown (says.Answer s process d r)) → Settled c (entries t) →
    Dues c n t (accept_told s process d words ∷ Shown (says.Answer s process d r) ∷ [])
at_once c n s process d words r t h may answered k = (
  (settled_due c n t (accept_told s process d words) k, (due_now (is_due c (entries mid) new) (due_is (is_due c (entries mid) new) refl), tt)),
  left (same_call d d) (same_call_own d),
)
  where
    mid : List Line
    mid = then c n t s process d words

    new : Waiting
    new = caller c n t s process d words

    others : Every (Rests c (entries mid)) (waiting (entries t))
    others = stay_all c n t (accept_told s process d words) (waiting (entries t)) h may (every_all _ (waiting (entries t)) (λ x. tt)) (accepted c t h).waits k

    due_is : (b : Bool) → is_due c (entries mid) new ≡ b → due c (entries mid) ≡ cond b (Some new) None
    due_is b e = ap (λ (o : Option Waiting). cond (is_due c (entries mid) new) (Some (lesser new o)) o) (among_undue c (entries mid) (waiting (entries t)) others) ∙ ap (λ (x : Bool). cond x (Some new) None) e

    due_now : (b : Bool) → due c (entries mid) ≡ cond b (Some new) None → is_reply_due (due c (entries mid)) n (record { line = n; what = says.Answer s process d r }) ≡ true
    due_now true e = ap (λ (o : Option Waiting). is_reply_due o n (record { line = n; what = says.Answer s process d r })) e ∙ and_true (n == n) (same_call d d) (equal_self n) (same_call_own d)
    due_now false e = ap (λ (o : Option Waiting). is_reply_due o n (record { line = n; what = says.Answer s process d r })) e

    after : List Line
    after = more n (Shown (says.Answer s process d r)) mid

    rest : Every (Rests c (entries after)) (filter (λ (w : Waiting). not (same_call w.call d)) (waiting (entries t)))
    rest = every_filter (Rests c (entries after)) (λ (w : Waiting). not (same_call w.call d)) (waiting (entries t)) (stay_all c n mid (Shown (says.Answer s process d r)) (waiting (entries t)) (may, h) answered (every_all _ (waiting (entries t)) (λ x. tt)) (accepted c mid (may, h)).waits.1 others)

    left : (b : Bool) → b ≡ true → Every (Rests c (entries after)) (cond (not b) (new ∷ filter (λ (w : Waiting). not (same_call w.call d)) (waiting (entries t))) (filter (λ (w : Waiting). not (same_call w.call d)) (waiting (entries t))))
    left true e = rest
    left false e = absurd (true_false (sym e))

-- ---- a call that waits at a site in its epoch ----

pub found_some : {A : Type 0} (p : A → Bool) (x : A) (xs : List A) → Among x xs → p x ≡ true → (y : A) × (find p xs ≡ Some y)
found_some p x [] m e = absurd m
found_some {A} p x (y ∷ ys) m e = at (λ (q : Among x ys). found_some p x ys q e) (p y) refl m
  where
    at : (Among x ys → (z : A) × (find p ys ≡ Some z)) → (b : Bool) → p y ≡ b → (x ≡ y) ⊎ Among x ys → (z : A) × (cond b (Some y) (find p ys) ≡ Some z)
    at later true f m = (y, refl)
    at later false f (inl i) = absurd (true_false (sym e ∙ (ap p i ∙ f)))
    at later false f (inr q) = later q

-- the row of a call that waits
pub record IsRow (c : Config) (t : List Line) (f : Frame) (u : Users) (x : Waiting) : Type 0 where
  pub row : WaitingCall
  pub among : Among row u.waiting
  pub call_is : x.call ≡ it f row
  pub fact : WaitingFact c t f row
  pub is : x ≡ fact.caller

module _ (c : Config) (t : List Line) (f : Frame) (u : Users) (h : IsFollowed c t) (frame : FrameFact c t f) (k : UsersInside c f t u) (x : Waiting) (m : Among x (waiting (entries t))) (here : x.site ≡ f.me) where
  named : call_named (entries t) x.call ≡ Some x
  named = every_among (λ (y : Waiting). call_named (entries t) y.call ≡ Some y) x (waiting (entries t)) (accepted c t h).waits m

  found : (y : Waiting) × (find (is_this f.me x.process x.call) (waiting (entries t)) ≡ Some y)
  found = found_some (is_this f.me x.process x.call) x (waiting (entries t)) m (three (x.site == f.me) (x.process == x.process) (same_call x.call x.call) (subst (λ (s : ℕ). (x.site == s) ≡ true) here (equal_self x.site)) (equal_self x.process) (same_call_own x.call))
    where
      three : (p q b : Bool) → p ≡ true → q ≡ true → b ≡ true → (p && q && b) ≡ true
      three true true true e g z = refl
      three false q b e g z = absurd (true_false (sym e))
      three true false b e g z = absurd (true_false (sym g))
      three true true false e g z = absurd (true_false (sym z))

  pub row_of : IsRow c t f u x
  row_of = over (k.inside.all x.call x.process found.0 found.1)
    where
      over : (w : WaitingCall) × Among w u.waiting × (x.call ≡ own_call f.me f.boot w.call) → IsRow c t f u x
      over z = record { row = z.0; among = z.1; call_is = z.2; fact = its; is = some_same x its.caller (sym named ∙ (ap (call_named (entries t)) z.2 ∙ its.named)) }
        where
          its : WaitingFact c t f z.0
          its = every_among (WaitingFact c t f) z.0 u.waiting k.inside.calls z.1

  pub inside_rests : Rests c (entries t) x
  inside_rests = record {
    epoch = f.epoch;
    made = ap (λ (y : Waiting). y.epoch) row_of.is ∙ ap (λ (y : Waiting). y.epoch) row_of.fact.caller_is;
    inside = ap (epoch_of (entries t)) here ∙ frame.inside;
    asks = asks;
  }
    where
      heard_none : answers c (entries t) x.call ≡ [] → Hears c t x.call → heard c t x.call ≡ []
      heard_none e (inl same) = sym same ∙ e
      heard_none e (inr l) = absurd (appended _ _ (sym l.answers_are ∙ e))

      asked : heard c t x.call ≡ [] → Asks c t x.call row_of.fact.wanted ⊎ ((a : Answer) × Waits c t x.call a) → is_request (script c (entries t) x.call None []) ≡ true
      asked e (inl a) = subst (λ (xs : List Answer). is_request (script c (entries t) x.call None xs) ≡ true) (sym a.nothing_waits ∙ e) (ap is_request a.asked ∙ a.request)
      asked e (inr a) = absurd (appended _ _ (sym a.1 ∙ e))

      asks : answers c (entries t) x.call ≡ [] → is_request (script c (entries t) x.call None []) ≡ true
      asks e = asked (heard_none e (hears c t x.call h)) (subst (λ (d : CallId). Asks c t d row_of.fact.wanted ⊎ ((a : Answer) × Waits c t d a)) (sym row_of.call_is) row_of.fact.answered)
