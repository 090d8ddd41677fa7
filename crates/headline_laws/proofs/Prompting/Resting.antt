-- A call that waits in its epoch and asks a request, or has an answer, is owed no reply; so it is while nothing is told that answers
-- it, or that makes its site leave.
use Rattle.std.proofs.Common.{◌≡◌, ℕ, ◌-◌, ◌==◌, Bool, true, false, cond, not, ◌&&◌, ◌||◌, List, [], ◌∷◌, ◌++◌, take, filter, Option, None, Some, refl, sym, ◌∙◌, ap, subst}
use Rattle.std.specs.Option.{is_some}
use Rattle.role_steps.proofs.of_plain_facts.Numbers.{equal, equal_self}
use Rattle.role_steps.proofs.of_plain_facts.Options.{none_some}
use Rattle.role_steps.proofs.of_plain_facts.Tests.{true_false}
use Rattle.locus_ids.specs.declared.config.Config.{Config}
use Rattle.locus_ids.specs.declared.ids.CallId.{CallId}
use Rattle.locus_ids.specs.declared.ids.EpochId.{EpochId}
use Rattle.trace_book.specs.Same.{same_call}
use Rattle.trace_book.specs.declared.record.Record.{Record}
use Rattle.trace_book.specs.declared.record.Record.TheVariants as says
use Rattle.trace_book.specs.declared.record.StopCause.{StopCause}
use Rattle.call_rules.specs.Scripts.{gives_reply}
use Rattle.call_rules.specs.declared.answer.Answer.{Answer}
use Rattle.call_rules.specs.declared.want.Want.{Want}
use Rattle.call_rules.specs.declared.want.Want.TheVariants as want
use Rattle.role_steps.specs.Own.{Every}
use Rattle.role_steps.specs.Views.{Shown, Told}
use Rattle.the_run.specs.Worlds.{Line}
use Rattle.tree_model.specs.Calls.{accepted_as, call_named, waiting}
use Rattle.tree_model.specs.Epochs.{epoch_of, is_in, is_up}
use Rattle.tree_model.specs.Folds.{Trace}
use Rattle.tree_model.specs.declared.accepted.Waiting.{Waiting}
use Rattle.lawful_trace.specs.Progress.{Answers, answers, answers_after, left_epoch, left_since, wants_after}
use Rattle.lawful_trace.specs.Prompt.{due, due_among, is_due, lesser, is_unanswered, needs_no_request}
use Rattle.lawful_trace.specs.Tables.{call_of_act, call_of_release, is_call}
use Rattle.tree_laws.specs.Calls.{is_request, script}
use Rattle.tree_laws.specs.Following.{IsFollowed, MayTell}
use Rattle.tree_laws.specs.Printed.{entries}
use Rattle.tree_laws.proofs.Boots.{every_filter}
use Rattle.tree_laws.proofs.Hearing.{wants_as_asked}
use Rattle.tree_laws.proofs.Names.{same_epoch_own}
use Rattle.tree_laws.proofs.Scripts.{script_stays}
use Rattle.tree_laws.proofs.Waiting.{accepted}
use Rattle.calm_laws.specs.of_store_laws.OneTree.Rest.{more}

-- ---- owed no reply ----

-- the call waits in its epoch; it has an answer, or asks a request
pub record Rests (c : Config) (b : Trace) (x : Waiting) : Type 0 where
  pub epoch : EpochId
  pub made : x.epoch ≡ Some epoch
  pub inside : epoch_of b x.site ≡ Some epoch
  pub asks : answers c b x.call ≡ [] → is_request (script c b x.call None []) ≡ true

-- so do all that wait
abbrev pub Settled : Config → Trace → Type 0
Settled c b = Every (Rests c b) (waiting b)

no_reply : (v : Want) → is_request v ≡ true → gives_reply v ≡ false
no_reply (want.Give r) e = absurd (true_false (sym e))
no_reply (want.Look file what) e = refl
no_reply (want.Open file how) e = refl
no_reply (want.OpenToMend file) e = refl
no_reply (want.Make group kind sites) e = refl
no_reply (want.Do i o) e = refl
no_reply (want.Close i) e = refl
no_reply want.Never e = refl

pub rests_undue : (c : Config) (b : Trace) (x : Waiting) → Rests c b x → is_due c b x ≡ false
rests_undue c b x k = ap (λ (o : Option EpochId). is_some o || needs_no_request c b x.call) unleft ∙ over (answers c b x.call) refl
  where
    unleft : left_epoch b x ≡ None
    unleft = ap (left_since b x.site) k.made ∙ (ap (λ (o : Option EpochId). cond (is_in o k.epoch) None (Some k.epoch)) k.inside ∙ ap (λ (t : Bool). cond t None (Some k.epoch)) (same_epoch_own k.epoch))

    over : (xs : Answers) → answers c b x.call ≡ xs → (is_unanswered xs && gives_reply (wants_after c b x.call xs)) ≡ false
    over [] e = ap gives_reply (wants_as_asked c b x.call [] (script c b x.call None []) refl (k.asks e)) ∙ no_reply (script c b x.call None []) (k.asks e)
    over (a ∷ xs) e = refl

pub among_undue : (c : Config) (b : Trace) (xs : List Waiting) → Every (Rests c b) xs → due_among c b xs ≡ None
among_undue c b [] h = refl
among_undue c b (x ∷ xs) h = ap (λ (t : Bool). cond t (Some (lesser x (due_among c b xs))) (due_among c b xs)) (rests_undue c b x h.0) ∙ among_undue c b xs h.1

pub settled_undue : (c : Config) (b : Trace) → Settled c b → due c b ≡ None
settled_undue c b h = among_undue c b (waiting b) h

-- ---- it stays so ----

pub appended : (xs : Answers) (a : Answer) → xs ++ a ∷ [] ≡ [] → ⊥
appended [] a e = cc
appended (x ∷ xs) a e = cc

none_before : (t : Bool) (xs old : Answers) (a : Answer) → cond t (xs ++ a ∷ []) old ≡ [] → old ≡ []
none_before true xs old a e = absurd (appended xs a e)
none_before false xs old a e = e

-- a call without an answer had none before
unanswered_before : (c : Config) (r : Record) (b : Trace) (d : CallId) (old : Answers) → answers_after r c b d old ≡ [] → old ≡ []
unanswered_before c (says.Look e call request f w result) b d old h = none_before (same_call call d) (take (request - 1) old) old _ h
unanswered_before c (says.Grant e call request i m f stamp ss) b d old h = none_before (same_call call d) old old _ h
unanswered_before c (says.Refuse e call request i m f why) b d old h = none_before (same_call call d) old old _ h
unanswered_before c (says.Act e i n o result) b d old h = none_before (is_call (call_of_act b e i n) d) old old _ h
unanswered_before c (says.Release e i f stamp) b d old h = none_before (is_call (call_of_release b e i) d) old old _ h
unanswered_before c _ b d old h = h

-- a stopped site is in no epoch
pub down_outside : (c : Config) (t : List Line) (s : ℕ) → IsFollowed c t → is_up c (entries t) s ≡ false → epoch_of (entries t) s ≡ None
down_outside c [] s h down = refl
down_outside c (x ∷ older) s h down = over x.told h.0 (down_outside c older s h.1) down
  where
    differ : (a : Bool) (o p : Option EpochId) → (a ≡ true → ⊥) → o ≡ None → cond a p o ≡ None
    differ true o p never e = absurd (never refl)
    differ false o p never e = e

    either : (a : Bool) (o : Option EpochId) → (a ≡ false → o ≡ None) → cond a None o ≡ None
    either true o e = refl
    either false o e = e refl

    record_down : (r : Record) → MayTell c older (Shown r) → (is_up c (entries older) s ≡ false → epoch_of (entries older) s ≡ None) → is_up c (entries (more x.number (Shown r) older)) s ≡ false → epoch_of (entries (more x.number (Shown r) older)) s ≡ None
    record_down (says.Join t e members) may ih down = differ (t == s) (epoch_of (entries older) s) (Some e) (λ q. true_false (sym may.row.up ∙ (ap (is_up c (entries older)) (equal t s q) ∙ down))) (ih down)
    record_down (says.Leave t e) may ih down = either (t == s) (epoch_of (entries older) s) (λ q. ih down)
    record_down (says.Stopped t cause) may ih down = at (t == s) down
      where
        at : (a : Bool) → (not a && is_up c (entries older) s) ≡ false → cond a None (epoch_of (entries older) s) ≡ None
        at true e = refl
        at false e = ih e
    record_down (says.Up t boot) may ih down = at (t == s) down
      where
        at : (a : Bool) → (a || is_up c (entries older) s) ≡ false → cond a None (epoch_of (entries older) s) ≡ None
        at true e = absurd (true_false e)
        at false e = ih e
    record_down _ may ih down = ih down

    over : (y : Told) → MayTell c older y → (is_up c (entries older) s ≡ false → epoch_of (entries older) s ≡ None) → is_up c (entries (more x.number y older)) s ≡ false → epoch_of (entries (more x.number y older)) s ≡ None
    over (Shown r) may ih down = record_down r may ih down
    over _ may ih down = ih down

-- the line doesn't make the site leave or stop
abbrev pub KeepsRecord : ℕ → Record → Type 0
KeepsRecord s (says.Leave t e) = t ≡ s → ⊥
KeepsRecord s (says.Stopped t cause) = t ≡ s → ⊥
KeepsRecord s _ = Unit {0}

abbrev pub Keeps : ℕ → Told → Type 0
Keeps s (Shown r) = KeepsRecord s r
Keeps s _ = Unit {0}

module _ (c : Config) (n : ℕ) (t : List Line) (h : IsFollowed c t) (x : Waiting) (named : call_named (entries t) x.call ≡ Some x) (k : Rests c (entries t) x) where
  other : (s : ℕ) (o : Option EpochId) → (s ≡ x.site → ⊥) → cond (s == x.site) o (epoch_of (entries t) x.site) ≡ Some k.epoch
  other s o never = at (s == x.site) (λ q. never (equal s x.site q))
    where
      at : (a : Bool) → (a ≡ true → ⊥) → cond a o (epoch_of (entries t) x.site) ≡ Some k.epoch
      at true never = absurd (never refl)
      at false never = k.inside

  inside_still : (r : Record) → MayTell c t (Shown r) → KeepsRecord x.site r → epoch_of (entries (more n (Shown r) t)) x.site ≡ Some k.epoch
  inside_still (says.Join s e members) may keeps = other s (Some e) (λ q. none_some k.epoch (sym (subst (λ (y : ℕ). epoch_of (entries t) y ≡ None) q may.row.outside) ∙ k.inside))
  inside_still (says.Leave s e) may keeps = other s None keeps
  inside_still (says.Stopped s cause) may keeps = other s None keeps
  inside_still (says.Up s boot) may keeps = other s None (λ q. none_some k.epoch (sym (subst (λ (y : ℕ). epoch_of (entries t) y ≡ None) q (down_outside c t s h may.row.stopped)) ∙ k.inside))
  inside_still _ may keeps = k.inside

  pub rests_stays : (y : Told) → MayTell c t y → Keeps x.site y → Rests c (entries (more n y t)) x
  rests_stays (Shown r) may keeps = record {
    epoch = k.epoch;
    made = k.made;
    inside = inside_still r may keeps;
    asks = λ e. ap is_request (script_stays c n (Shown r) t x.call None [] h may (x, named)) ∙ k.asks (unanswered_before c r (entries t) x.call (answers c (entries t) x.call) e);
  }
  rests_stays _ may keeps = k

-- ---- all that wait ----

-- no leave, and no call that isn't owed what it rests for
abbrev pub SettlesRecord : Config → ℕ → List Line → Record → Type 0
SettlesRecord c n t (says.Leave s e) = ⊥
SettlesRecord c n t (says.Accept s process d words) = Rests c (entries (more n (Shown (says.Accept s process d words)) t)) (accepted_as (entries t) s process d words)
SettlesRecord c n t _ = Unit {0}

abbrev pub Settles : Config → ℕ → List Line → Told → Type 0
Settles c n t (Shown r) = SettlesRecord c n t r
Settles c n t _ = Unit {0}

pub stay_all : (c : Config) (n : ℕ) (t : List Line) (y : Told) (xs : List Waiting) → IsFollowed c t → MayTell c t y → Every (λ (x : Waiting). Keeps x.site y) xs → Every (λ (x : Waiting). call_named (entries t) x.call ≡ Some x) xs → Every (Rests c (entries t)) xs → Every (Rests c (entries (more n y t))) xs
stay_all c n t y [] h may keeps named k = tt
stay_all c n t y (x ∷ xs) h may keeps named k = (rests_stays c n t h x named.0 k.0 y may keeps.0, stay_all c n t y xs h may keeps.1 named.1 k.1)

pub every_all : (P : Waiting → Type 0) (xs : List Waiting) → ((x : Waiting) → P x) → Every P xs
every_all P [] f = tt
every_all P (x ∷ xs) f = (f x, every_all P xs f)

-- the calls of the site are gone after a stop
stopped_left : (c : Config) (n s : ℕ) (why : StopCause) (t : List Line) (xs : List Waiting) → IsFollowed c t → MayTell c t (Shown (says.Stopped s why)) → Every (λ (x : Waiting). call_named (entries t) x.call ≡ Some x) xs → Every (Rests c (entries t)) xs →
    Every (Rests c (entries (more n (Shown (says.Stopped s why)) t))) (filter (λ (x : Waiting). not (x.site == s)) xs)
stopped_left c n s why t [] h may named k = tt
stopped_left c n s why t (x ∷ xs) h may named k = at (x.site == s) (λ e q. true_false (sym (subst (λ (m : ℕ). (m == s) ≡ true) q (equal_self s)) ∙ e)) (stopped_left c n s why t xs h may named.1 k.1)
  where
    at : (a : Bool) → (a ≡ false → s ≡ x.site → ⊥) → Every (Rests c (entries (more n (Shown (says.Stopped s why)) t))) (filter (λ (y : Waiting). not (y.site == s)) xs) →
        Every (Rests c (entries (more n (Shown (says.Stopped s why)) t))) (cond (not a) (x ∷ filter (λ (y : Waiting). not (y.site == s)) xs) (filter (λ (y : Waiting). not (y.site == s)) xs))
    at true never later = later
    at false never later = (rests_stays c n t h x named.0 k.0 (Shown (says.Stopped s why)) may (never refl), later)

pub settled_more : (c : Config) (n : ℕ) (y : Told) (t : List Line) → IsFollowed c t → MayTell c t y → Settles c n t y → Settled c (entries t) → Settled c (entries (more n y t))
settled_more c n (Shown r) t h may new k = over r may new
  where
    named : Every (λ (x : Waiting). call_named (entries t) x.call ≡ Some x) (waiting (entries t))
    named = (accepted c t h).waits

    over : (r : Record) → MayTell c t (Shown r) → SettlesRecord c n t r → Settled c (entries (more n (Shown r) t))
    over (says.Leave s e) may new = absurd new
    over (says.Accept s process d words) may new = (new, stay_all c n t (Shown (says.Accept s process d words)) (waiting (entries t)) h may (every_all _ (waiting (entries t)) (λ x. tt)) named k)
    over (says.Answer s process d r) may new = every_filter (Rests c (entries (more n (Shown (says.Answer s process d r)) t))) (λ (w : Waiting). not (same_call w.call d)) (waiting (entries t)) (stay_all c n t (Shown (says.Answer s process d r)) (waiting (entries t)) h may (every_all _ (waiting (entries t)) (λ x. tt)) named k)
    over (says.Stopped s why) may new = stopped_left c n s why t (waiting (entries t)) h may named k
    over r may new = stay_all c n t (Shown r) (waiting (entries t)) h may (every_all _ (waiting (entries t)) (λ x. tt)) named k
settled_more c n _ t h may new k = k
