-- What a call asks it asks until its answer is told; an answer waits until its process takes it or asks its look again.
use Rattle.std.proofs.Common.{◌≡◌, ℕ, ◌+◌, Bool, true, false, cond, List, [], ◌∷◌, ◌++◌, length, Option, Some, None, refl, sym, ◌∙◌, ap, subst, arith, ◌⊎◌, inl, inr, ⊎_elim, length-append}
use Rattle.locus_ids.specs.declared.config.Config.{Config}
use Rattle.locus_ids.specs.declared.ids.CallId.{CallId}
use Rattle.trace_book.specs.Same.{same_call}
use Rattle.trace_book.specs.declared.record.Record.{Record}
use Rattle.trace_book.specs.declared.record.Record.TheVariants as says
use Rattle.call_rules.specs.declared.answer.Answer.{Answer}
use Rattle.call_rules.specs.declared.want.Want.{Want}
use Rattle.the_run.specs.of_role_steps.Views.{Told, Shown, Promises, Takes, LooksAgain, Begins, Shuts, Reserves}
use Rattle.the_run.specs.Worlds.{Line}
use Rattle.lawful_trace.specs.of_tree_model.Folds.{Trace}
use Rattle.lawful_trace.specs.Progress.{Answers, answers_after}
use Rattle.lawful_trace.specs.Tables.{call_of_act, call_of_release, is_call}
use Rattle.tree_laws.specs.Printed.{entries, onto_entries}
use Rattle.tree_laws.specs.Calls.{log, tries, heard, script, Asks, Waits}
use Rattle.tree_laws.specs.Following.{IsInTime, MayTell, IsFollowed}
use Rattle.tree_laws.specs.Serials.{opens_asked, serial_asked}
use Rattle.tree_laws.proofs.Names.{same_call_eq}
use Rattle.tree_laws.proofs.Fresh.{IsNamed, next_is_new, numbered, calls_are_low}
use Rattle.tree_laws.proofs.Scripts.{script_stays}

-- ---- which record is a step of a call ----

abbrev pub StepRecord : Trace → Record → CallId → Type 0
StepRecord before (says.Look e call request f w result) d = call ≡ d
StepRecord before (says.Grant e call request i m f stamp ss) d = call ≡ d
StepRecord before (says.Refuse e call request i m f why) d = call ≡ d
StepRecord before (says.Act e i n o result) d = call_of_act before e i n ≡ Some d
StepRecord before (says.Release e i f stamp) d = call_of_release before e i ≡ Some d
StepRecord before _ d = ⊥

abbrev pub StepOf : List Line → Told → CallId → Type 0
StepOf older (Shown r) d = StepRecord (entries older) r d
StepOf older _ d = ⊥

-- the process takes its answer, or asks its look again
abbrev pub Turns : Told → CallId → Type 0
Turns (Takes s call request k a) d = call ≡ d
Turns (LooksAgain s call request k) d = call ≡ d
Turns _ d = ⊥

-- ---- lists that are longer ----

pub not_longer : (xs ys : Answers) (a : Answer) → xs ≡ ys → xs ≡ ys ++ a ∷ [] → ⊥
not_longer xs ys a e f = over (ap length e) (ap length f) (length-append ys (a ∷ []))
  where
    over : length xs ≡ length ys → length xs ≡ length (ys ++ a ∷ []) → length (ys ++ a ∷ []) ≡ length ys + 1 → ⊥
    over g h k = omega (arith, g, h, k)

-- ---- what is heard ----

by_call : {A : Type 0} (call d : CallId) (new old : A) → (cond (same_call call d) new old ≡ old) ⊎ (call ≡ d)
by_call call d new old = over (same_call call d) (same_call_eq call d)
  where
    over : (b : Bool) → (b ≡ true → call ≡ d) → (cond b new old ≡ old) ⊎ (call ≡ d)
    over true e = inr (e refl)
    over false e = inl refl

by_owner : (o : Option CallId) (d : CallId) (new old : Answers) → (cond (is_call o d) new old ≡ old) ⊎ (o ≡ Some d)
by_owner None d new old = inl refl
by_owner (Some call) d new old = over (same_call call d) (same_call_eq call d)
  where
    over : (b : Bool) → (b ≡ true → call ≡ d) → (cond b new old ≡ old) ⊎ (Some call ≡ Some d)
    over true e = inr (ap Some (e refl))
    over false e = inl refl

pub heard_record : (c : Config) (r : Record) (before : Trace) (d : CallId) (old : Answers) → (answers_after r c before d old ≡ old) ⊎ StepRecord before r d
heard_record c (says.Look e call request f w result) before d old = by_call call d _ old
heard_record c (says.Grant e call request i m f stamp ss) before d old = by_call call d _ old
heard_record c (says.Refuse e call request i m f why) before d old = by_call call d _ old
heard_record c (says.Act e i n o result) before d old = by_owner (call_of_act before e i n) d _ old
heard_record c (says.Release e i f stamp) before d old = by_owner (call_of_release before e i) d _ old
heard_record c _ before d old = inl refl

-- nothing is heard, nothing is taken, or it is a step or a turn of the call
pub record Same (c : Config) (older : List Line) (n : ℕ) (x : Told) (d : CallId) : Type 0 where
  pub heard_same : heard c (record { number = n; told = x } ∷ older) d ≡ heard c older d
  pub log_same : log (record { number = n; told = x } ∷ older) d ≡ log older d
  pub tries_same : tries (record { number = n; told = x } ∷ older) d ≡ tries older d

by_turn : (call d : CallId) (b : Bool) → same_call call d ≡ b → (same_call call d ≡ false) ⊎ (call ≡ d)
by_turn call d true e = inr (same_call_eq call d e)
by_turn call d false e = inl e

pub same_told : (c : Config) (older : List Line) (n : ℕ) (x : Told) (d : CallId) → Same c older n x d ⊎ (StepOf older x d ⊎ Turns x d)
same_told c older n (Shown r) d = ⊎_elim (λ (e : answers_after r c (entries older) d (heard c older d) ≡ heard c older d). inl (record { heard_same = e; log_same = refl; tries_same = refl })) (λ (e : StepRecord (entries older) r d). inr (inl e)) (heard_record c r (entries older) d (heard c older d))
same_told c older n (Takes s call request k a) d = ⊎_elim (λ (e : same_call call d ≡ false). inl (record { heard_same = refl; log_same = rw e refl; tries_same = rw e refl })) (λ (e : call ≡ d). inr (inr e)) (by_turn call d (same_call call d) refl)
same_told c older n (LooksAgain s call request k) d = ⊎_elim (λ (e : same_call call d ≡ false). inl (record { heard_same = rw e refl; log_same = refl; tries_same = rw e refl })) (λ (e : call ≡ d). inr (inr e)) (by_turn call d (same_call call d) refl)
same_told c older n (Promises s id reach) d = inl (record { heard_same = refl; log_same = refl; tries_same = refl })
same_told c older n (Begins s e i f) d = inl (record { heard_same = refl; log_same = refl; tries_same = refl })
same_told c older n (Shuts s e i) d = inl (record { heard_same = refl; log_same = refl; tries_same = refl })
same_told c older n (Reserves s e i f) d = inl (record { heard_same = refl; log_same = refl; tries_same = refl })

-- a turn takes an answer that waits
turn_waits : (c : Config) (older : List Line) (x : Told) (d : CallId) → MayTell c older x → Turns x d → (a : Answer) × Waits c older d a
turn_waits c older (Takes s call request k a) d may e = (a, subst (λ (y : CallId). Waits c older y a) e may.answer)
turn_waits c older (LooksAgain s call request k) d may e = (may.old, subst (λ (y : CallId). Waits c older y may.old) e may.answer)
turn_waits c older (Shown r) d may e = absurd e
turn_waits c older (Promises s id reach) d may e = absurd e
turn_waits c older (Begins s at i f) d may e = absurd e
turn_waits c older (Shuts s at i) d may e = absurd e
turn_waits c older (Reserves s at i f) d may e = absurd e

-- a step comes where nothing waits
step_clear : (c : Config) (older : List Line) (r : Record) (d : CallId) → IsInTime c older r → StepRecord (entries older) r d → heard c older d ≡ log older d
step_clear c older (says.Look e call request f w result) d k step = subst (λ (y : CallId). heard c older y ≡ log older y) step k.asks.nothing_waits
step_clear c older (says.Grant e call request i m f stamp ss) d k step = subst (λ (y : CallId). heard c older y ≡ log older y) step k.opens.asks.asks.nothing_waits
step_clear c older (says.Refuse e call request i m f why) d k step = subst (λ (y : CallId). heard c older y ≡ log older y) step k.opens.asks.asks.nothing_waits
step_clear c older (says.Act e i n o result) d k step = subst (λ (y : CallId). heard c older y ≡ log older y) (owner_is k.call d (sym k.owner ∙ step)) k.asks.nothing_waits
  where
    owner_is : (a b : CallId) → ◌≡◌ {A = Option CallId} (Some a) (Some b) → a ≡ b
    owner_is a b e = cc
step_clear c older (says.Release e i f stamp) d k step = subst (λ (y : CallId). heard c older y ≡ log older y) (owner_is k.call d (sym k.owner ∙ step)) k.asks.nothing_waits
  where
    owner_is : (a b : CallId) → ◌≡◌ {A = Option CallId} (Some a) (Some b) → a ≡ b
    owner_is a b e = cc
step_clear c older (says.Up s boot) d k step = absurd step
step_clear c older (says.Stopped s cause) d k step = absurd step
step_clear c older (says.Leave s e) d k step = absurd step
step_clear c older (says.Join s e members) d k step = absurd step
step_clear c older (says.Start e group copies) d k step = absurd step
step_clear c older (says.Accept s process call words) d k step = absurd step
step_clear c older (says.Commit f s stamp parents content) d k step = absurd step
step_clear c older (says.Adopt f s stamp) d k step = absurd step
step_clear c older (says.Answer s process call r) d k step = absurd step
step_clear c older (says.Packet number from to kind) d k step = absurd step
step_clear c older says.Void d k step = absurd step
step_clear c older says.Budget d k step = absurd step

-- ---- the frame ----

-- the serial number of what a call asks changes with a turn of it alone
serial_same : (c : Config) (n : ℕ) (x : Told) (older : List Line) (d : CallId) → IsFollowed c older → MayTell c older x → IsNamed (entries older) d → (serial_asked c (record { number = n; told = x } ∷ older) d ≡ serial_asked c older d) ⊎ Turns x d
serial_same c n (Shown (says.Accept s process call words)) older d h may named = ⊎_elim (λ (e : cond (same_call call d) (opens_asked c (record { number = n; told = Shown (says.Accept s process call words) } ∷ older) s) (serial_asked c older d) ≡ serial_asked c older d). inl e)
    (λ (e : call ≡ d). absurd (next_is_new (entries older) s d (calls_are_low c older h d named) (sym e ∙ numbered c (entries older) s process call words may.row))) (by_call call d _ (serial_asked c older d))
serial_same c n (Takes s call request k a) older d h may named = ⊎_elim (λ (e : cond (same_call call d) (opens_asked c (record { number = n; told = Takes s call request k a } ∷ older) s) (serial_asked c older d) ≡ serial_asked c older d). inl e) (λ (e : call ≡ d). inr e) (by_call call d _ (serial_asked c older d))
serial_same c n (Shown r) older d h may named = inl refl
serial_same c n _ older d h may named = inl refl

-- a request that still stands: the process has taken nothing since
pub record AsksStill (c : Config) (older : List Line) (n : ℕ) (x : Told) (d : CallId) (w : Want) : Type 0 where
  pub asks : Asks c (record { number = n; told = x } ∷ older) d w
  pub log_same : log (record { number = n; told = x } ∷ older) d ≡ log older d
  pub tries_same : tries (record { number = n; told = x } ∷ older) d ≡ tries older d
  pub serial_is : serial_asked c (record { number = n; told = x } ∷ older) d ≡ serial_asked c older d

-- a request stands until a step of its call answers it
pub asks_stays : (c : Config) (n : ℕ) (x : Told) (older : List Line) (d : CallId) (w : Want) → IsFollowed c older → MayTell c older x → IsNamed (entries older) d → Asks c older d w → AsksStill c older n x d w ⊎ StepOf older x d
asks_stays c n x older d w h may named k = ⊎_elim (λ (s : Same c older n x d). ⊎_elim (λ (e : serial_asked c (record { number = n; told = x } ∷ older) d ≡ serial_asked c older d). inl (record {
  asks = record {
    asked = ap (λ (xs : Answers). script c (onto_entries n x (entries older)) d None xs) s.log_same ∙ (script_stays c n x older d None (log older d) h may named ∙ k.asked);
    request = k.request;
    nothing_waits = s.heard_same ∙ (k.nothing_waits ∙ sym s.log_same);
  };
  log_same = s.log_same;
  tries_same = s.tries_same;
  serial_is = e;
})) (λ (t : Turns x d). absurd (taken t)) (serial_same c n x older d h may named))
    (λ (t : StepOf older x d ⊎ Turns x d). over t) (same_told c older n x d)
  where
    taken : Turns x d → ⊥
    taken t = (let a : (a : Answer) × Waits c older d a = turn_waits c older x d may t in not_longer (heard c older d) (log older d) a.0 k.nothing_waits a.1)

    over : StepOf older x d ⊎ Turns x d → AsksStill c older n x d w ⊎ StepOf older x d
    over (inl s) = inr s
    over (inr t) = absurd (taken t)

-- an answer waits until its process turns to it
pub waits_stays : (c : Config) (n : ℕ) (x : Told) (older : List Line) (d : CallId) (a : Answer) → MayTell c older x → Waits c older d a → Waits c (record { number = n; told = x } ∷ older) d a ⊎ Turns x d
waits_stays c n x older d a may k = ⊎_elim (λ (s : Same c older n x d). inl (s.heard_same ∙ (k ∙ ap (λ (xs : Answers). xs ++ a ∷ []) (sym s.log_same))))
    (λ (t : StepOf older x d ⊎ Turns x d). over x may t) (same_told c older n x d)
  where
    over : (x : Told) → MayTell c older x → StepOf older x d ⊎ Turns x d → Waits c (record { number = n; told = x } ∷ older) d a ⊎ Turns x d
    over (Shown r) may (inl s) = absurd (not_longer (heard c older d) (log older d) a (step_clear c older r d may.in_time s) k)
    over x may (inr t) = inr t
    over _ may (inl s) = absurd s
