-- What the lawful trace says a call was answered is what its process has heard, but for a look that is asked again; so what a
-- call asks is what the rows of the lawful trace ask of its next step.
use Rattle.std.proofs.Common.{◌≡◌, ℕ, suc, ◌+◌, ◌-◌, Bool, true, false, cond, List, [], ◌∷◌, ◌++◌, length, take, Option, Some, None, refl, sym, ◌∙◌, ap, subst, arith, ◌⊎◌, inl, inr, length-append}
use Rattle.std.proofs.lemmas.Bool.Decides.{nat_tests}
use Rattle.the_run.proofs.of_plain_facts.Options.{some_same}
use Rattle.the_run.proofs.of_plain_facts.Tests.{true_false}
use Rattle.locus_ids.specs.declared.config.Config.{Config}
use Rattle.locus_ids.specs.declared.ids.CallId.{CallId}
use Rattle.locus_ids.specs.declared.ids.FileId.{FileId}
use Rattle.trace_book.specs.Same.{same_call}
use Rattle.trace_book.specs.declared.descriptor.Beginning.{Beginning}
use Rattle.trace_book.specs.declared.operation.What.{What}
use Rattle.trace_book.specs.declared.record.Record.{Record}
use Rattle.trace_book.specs.declared.record.Record.TheVariants as says
use Rattle.call_rules.specs.declared.answer.Answer.{Answer}
use Rattle.call_rules.specs.declared.want.Want.{Want}
use Rattle.call_rules.specs.declared.want.Want.TheVariants as want
use Rattle.call_rules.specs.Descriptors.{lowest_free}
use Rattle.the_run.specs.of_role_steps.Views.{Told, Shown, Promises, Takes, LooksAgain, Begins, Shuts, Reserves}
use Rattle.the_run.specs.Worlds.{Line}
use Rattle.lawful_trace.specs.of_tree_model.declared.accepted.Waiting.{Waiting}
use Rattle.lawful_trace.specs.of_tree_model.Calls.{call_named}
use Rattle.lawful_trace.specs.of_tree_model.Folds.{Trace}
use Rattle.lawful_trace.specs.Progress.{Answers, answers, answers_after, look_answer, wants_as, wants_after, wants_next}
use Rattle.lawful_trace.specs.Tables.{begun, descriptor}
use Rattle.lawful_trace.specs.TreeRows.{is_next_or_again}
use Rattle.tree_laws.specs.Printed.{entries, onto_entries}
use Rattle.tree_laws.specs.Calls.{log, heard, script, script_as, is_request, Asks, Waits, request_number}
use Rattle.tree_laws.specs.Following.{MayTell, IsFollowed}
use Rattle.tree_laws.specs.Instances.{IsOpening}
use Rattle.tree_laws.proofs.Names.{same_call_eq, same_call_own}
use Rattle.tree_laws.proofs.Fresh.{IsNamed}
use Rattle.tree_laws.proofs.Scripts.{script_stays}
use Rattle.tree_laws.proofs.Asking.{StepRecord, not_longer, heard_record}
use Rattle.tree_laws.proofs.Free.{free_same}

-- the call asks its look again: the records have an answer more than its process has heard
pub record LooksStill (c : Config) (t : List Line) (d : CallId) : Type 0 where
  pub old : Answer
  pub answers_are : answers c (entries t) d ≡ heard c t d ++ old ∷ []
  pub heard_is : heard c t d ≡ log t d
  pub file : FileId
  pub what : What
  pub looks : script c (entries t) d None (log t d) ≡ want.Look file what

abbrev pub Hears : Config → List Line → CallId → Type 0
Hears c t d = (answers c (entries t) d ≡ heard c t d) ⊎ LooksStill c t d

-- a call that asks something is named
pub asking_named : (c : Config) (before : Trace) (d : CallId) (free : Option ℕ) (xs : Answers) (w : Want) → script c before d free xs ≡ w → is_request w ≡ true → IsNamed before d
asking_named c before d free xs w e r = over (call_named before d) refl
  where
    none : want.Never ≡ w → ⊥
    none k = true_false (sym (subst (λ (v : Want). is_request v ≡ true) (sym k) r))

    over : (o : Option Waiting) → call_named before d ≡ o → IsNamed before d
    over None k = absurd (none (sym (ap (λ (o : Option Waiting). script_as c before o (begun before d) free xs) k) ∙ e))
    over (Some v) k = (v, k)

pub take_all : (xs : Answers) (a : Answer) → take (length xs + 1 - 1) (xs ++ a ∷ []) ≡ xs
take_all [] a = refl
take_all (x ∷ xs) a = ap (λ (n : ℕ). take n (x ∷ xs ++ a ∷ [])) (number (length xs)) ∙ ap (λ (ys : Answers). x ∷ ys) (ap (λ (n : ℕ). take n (xs ++ a ∷ [])) (sym (same (length xs))) ∙ take_all xs a)
  where
    number : (n : ℕ) → suc n + 1 - 1 ≡ suc n
    number n = omega arith

    same : (n : ℕ) → n + 1 - 1 ≡ n
    same n = omega arith

pub take_own : (xs : Answers) → take (length xs + 1 - 1) xs ≡ xs
take_own [] = refl
take_own (x ∷ xs) = ap (λ (n : ℕ). take n (x ∷ xs)) (number (length xs)) ∙ ap (λ (ys : Answers). x ∷ ys) (ap (λ (n : ℕ). take n xs) (sym (same (length xs))) ∙ take_own xs)
  where
    number : (n : ℕ) → suc n + 1 - 1 ≡ suc n
    number n = omega arith

    same : (n : ℕ) → n + 1 - 1 ≡ n
    same n = omega arith

-- ---- a record ----

-- another record leaves a look asked again
still_record : (c : Config) (older : List Line) (n : ℕ) (x : Told) (d : CallId) → IsFollowed c older → MayTell c older x → (l : LooksStill c older d) → answers c (onto_entries n x (entries older)) d ≡ answers c (entries older) d →
    heard c (record { number = n; told = x } ∷ older) d ≡ heard c older d → log (record { number = n; told = x } ∷ older) d ≡ log older d → LooksStill c (record { number = n; told = x } ∷ older) d
still_record c older n x d h may l a b e = record {
  old = l.old;
  answers_are = a ∙ (l.answers_are ∙ ap (λ (xs : Answers). xs ++ l.old ∷ []) (sym b));
  heard_is = b ∙ (l.heard_is ∙ sym e);
  file = l.file;
  what = l.what;
  looks = ap (script c (onto_entries n x (entries older)) d None) e ∙ (script_stays c n x older d None (log older d) h may (asking_named c (entries older) d None (log older d) (want.Look l.file l.what) l.looks refl) ∙ l.looks);
}

-- a step of a call that asks a look again takes the place of the answer that it drops
again_step : (c : Config) (older : List Line) (n : ℕ) (r : Record) (d : CallId) → MayTell c older (Shown r) → LooksStill c older d → StepRecord (entries older) r d → answers_after r c (entries older) d (answers c (entries older) d) ≡ answers_after r c (entries older) d (heard c older d)
again_step c older n (says.Look e call request f w result) d may l step = over (same_call call d) refl
  where
    short : take (request - 1) (answers c (entries older) d) ≡ take (request - 1) (heard c older d)
    short = (let number : request ≡ length (log older d) + 1 = may.in_time.request_is ∙ ap (λ (y : CallId). length (log older y) + 1) step in
        ap (λ (m : ℕ). take (m - 1) (answers c (entries older) d)) number
        ∙ (ap (take (length (log older d) + 1 - 1)) (l.answers_are ∙ ap (λ (xs : Answers). xs ++ l.old ∷ []) l.heard_is)
        ∙ (take_all (log older d) l.old
        ∙ (sym (take_own (log older d))
        ∙ (ap (take (length (log older d) + 1 - 1)) (sym l.heard_is) ∙ ap (λ (m : ℕ). take (m - 1) (heard c older d)) (sym number))))))

    over : (b : Bool) → same_call call d ≡ b → cond b (take (request - 1) (answers c (entries older) d) ++ look_answer c (entries older) f w result ∷ []) (answers c (entries older) d) ≡ cond b (take (request - 1) (heard c older d) ++ look_answer c (entries older) f w result ∷ []) (heard c older d)
    over true e = ap (λ (xs : Answers). xs ++ look_answer c (entries older) f w result ∷ []) short
    over false e = absurd (true_false (sym (subst (λ (y : CallId). same_call call y ≡ true) step (same_call_own call)) ∙ e))
again_step c older n (says.Grant e call request i m f stamp ss) d may l step = absurd (subst (λ (v : Want). IsOpening c v may.in_time.opens.asked may.in_time.opens.it) (sym may.in_time.opens.asks.asks.asked ∙ (ap (λ (y : CallId). script c (entries older) y None (log older y)) step ∙ l.looks)) may.in_time.opens.asks.opening_is)
again_step c older n (says.Refuse e call request i m f why) d may l step = absurd (subst (λ (v : Want). IsOpening c v may.in_time.opens.asked may.in_time.opens.it) (sym may.in_time.opens.asks.asks.asked ∙ (ap (λ (y : CallId). script c (entries older) y None (log older y)) step ∙ l.looks)) may.in_time.opens.asks.opening_is)
again_step c older n (says.Act e i number o result) d may l step = absurd (other (sym may.in_time.asks.asked ∙ (ap (λ (y : CallId). script c (entries older) y None (log older y)) (some_same may.in_time.call d (sym may.in_time.owner ∙ step)) ∙ l.looks)))
  where
    other : want.Do i o ≡ want.Look l.file l.what → ⊥
    other e = cc
again_step c older n (says.Release e i f stamp) d may l step = absurd (other (sym may.in_time.asks.asked ∙ (ap (λ (y : CallId). script c (entries older) y None (log older y)) (some_same may.in_time.call d (sym may.in_time.owner ∙ step)) ∙ l.looks)))
  where
    other : want.Close i ≡ want.Look l.file l.what → ⊥
    other e = cc
again_step c older n _ d may l step = absurd step

hears_record : (c : Config) (older : List Line) (n : ℕ) (r : Record) (d : CallId) → IsFollowed c older → MayTell c older (Shown r) → Hears c older d → Hears c (record { number = n; told = Shown r } ∷ older) d
hears_record c older n r d h may (inl e) = inl (ap (answers_after r c (entries older) d) e)
hears_record c older n r d h may (inr l) = over (heard_record c r (entries older) d (answers c (entries older) d)) (heard_record c r (entries older) d (heard c older d))
  where
    over : (answers_after r c (entries older) d (answers c (entries older) d) ≡ answers c (entries older) d) ⊎ StepRecord (entries older) r d → (answers_after r c (entries older) d (heard c older d) ≡ heard c older d) ⊎ StepRecord (entries older) r d →
        Hears c (record { number = n; told = Shown r } ∷ older) d
    over (inl a) (inl b) = inr (still_record c older n (Shown r) d h may l a b refl)
    over (inr step) b = inl (again_step c older n r d may l step)
    over (inl a) (inr step) = inl (again_step c older n r d may l step)

-- ---- what only the laws see ----

hears_take : (c : Config) (older : List Line) (n s : ℕ) (call : CallId) (request times : ℕ) (a : Answer) (d : CallId) → IsFollowed c older → MayTell c older (Takes s call request times a) → Hears c older d → Hears c (record { number = n; told = Takes s call request times a } ∷ older) d
hears_take c older n s call request times a d h may (inl e) = inl e
hears_take c older n s call request times a d h may (inr l) = over (same_call call d) refl
  where
    over : (b : Bool) → same_call call d ≡ b → Hears c (record { number = n; told = Takes s call request times a } ∷ older) d
    over true e = absurd (not_longer (heard c older d) (log older d) a l.heard_is (subst (λ (y : CallId). Waits c older y a) (same_call_eq call d e) may.answer))
    over false e = inr (still_record c older n (Takes s call request times a) d h may l refl refl (rw e refl))

hears_again : (c : Config) (older : List Line) (n s : ℕ) (call : CallId) (request times : ℕ) (d : CallId) → IsFollowed c older → MayTell c older (LooksAgain s call request times) → Hears c older d → Hears c (record { number = n; told = LooksAgain s call request times } ∷ older) d
hears_again c older n s call request times d h may k = over (same_call call d) refl k
  where
    again : call ≡ d → same_call call d ≡ true → answers c (entries older) d ≡ heard c older d → LooksStill c (record { number = n; told = LooksAgain s call request times } ∷ older) d
    again same e k = record {
      old = may.old;
      answers_are = k ∙ (waits ∙ ap (λ (xs : Answers). xs ++ may.old ∷ []) (sym heard_now));
      heard_is = heard_now;
      file = may.file;
      what = may.what;
      looks = subst (λ (y : CallId). script c (entries older) y None (log older y) ≡ want.Look may.file may.what) same may.looks;
    }
      where
        waits : heard c older d ≡ log older d ++ may.old ∷ []
        waits = subst (λ (y : CallId). Waits c older y may.old) same may.answer

        heard_now : cond (same_call call d) (take (request - 1) (heard c older d)) (heard c older d) ≡ log older d
        heard_now = rw e (ap (λ (m : ℕ). take (m - 1) (heard c older d)) (may.request_is ∙ ap (λ (y : CallId). length (log older y) + 1) same) ∙ (ap (take (length (log older d) + 1 - 1)) waits ∙ take_all (log older d) may.old))

    over : (b : Bool) → same_call call d ≡ b → Hears c older d → Hears c (record { number = n; told = LooksAgain s call request times } ∷ older) d
    over true e (inl k) = inr (again (same_call_eq call d e) e k)
    over true e (inr l) = absurd (not_longer (heard c older d) (log older d) may.old l.heard_is (subst (λ (y : CallId). Waits c older y may.old) (same_call_eq call d e) may.answer))
    over false e (inl k) = inl (rw e k)
    over false e (inr l) = inr (still_record c older n (LooksAgain s call request times) d h may l refl (rw e refl) refl)

hears_told : (c : Config) (older : List Line) (n : ℕ) (x : Told) (d : CallId) → IsFollowed c older → MayTell c older x → Hears c older d → Hears c (record { number = n; told = x } ∷ older) d
hears_told c older n (Shown r) d h may k = hears_record c older n r d h may k
hears_told c older n (Takes s call request times a) d h may k = hears_take c older n s call request times a d h may k
hears_told c older n (LooksAgain s call request times) d h may k = hears_again c older n s call request times d h may k
hears_told c older n (Promises s id reach) d h may (inl k) = inl k
hears_told c older n (Begins s e i f) d h may (inl k) = inl k
hears_told c older n (Shuts s e i) d h may (inl k) = inl k
hears_told c older n (Reserves s e i f) d h may (inl k) = inl k
hears_told c older n x d h may (inr l) = inr (still_record c older n x d h may l refl refl refl)

pub hears : (c : Config) (trace : List Line) (d : CallId) → IsFollowed c trace → Hears c trace d
hears c [] d h = inl refl
hears c (x ∷ older) d h = hears_told c older x.number x.told d h.1 h.0 (hears c older d h.1)

-- ---- what a call asks is what the rows ask of its next step ----

-- by the lawful trace, after these answers
pub wants_as_asked : (c : Config) (before : Trace) (d : CallId) (xs : Answers) (w : Want) → script c before d None xs ≡ w → is_request w ≡ true → wants_after c before d xs ≡ w
wants_as_asked c before d xs w e r = over (call_named before d) (begun before d) e
  where
    over : (o : Option Waiting) (b : Option Beginning) → script_as c before o b None xs ≡ w → wants_as c before o b xs ≡ w
    over None b e = e
    over (Some v) None e = e
    over (Some v) (Some b) e = free_same c before (Some v) (Some b) (lowest_free (descriptor before v.site v.process)) xs (subst (λ (y : Want). is_request y ≡ true) (sym e) r) ∙ e

-- a request that is no look: all answers are taken, and it is what comes next
pub asks_next : (c : Config) (trace : List Line) (d : CallId) (w : Want) → IsFollowed c trace → Asks c trace d w → ((f : FileId) (what : What) → w ≡ want.Look f what → ⊥) →
    (wants_next c (entries trace) d ≡ w) × (request_number trace d ≡ length (answers c (entries trace) d) + 1)
asks_next c trace d w h k other = over (hears c trace d h)
  where
    over : Hears c trace d → (wants_next c (entries trace) d ≡ w) × (request_number trace d ≡ length (answers c (entries trace) d) + 1)
    over (inl e) = (
      ap (wants_after c (entries trace) d) (e ∙ k.nothing_waits) ∙ wants_as_asked c (entries trace) d (log trace d) w k.asked k.request,
      ap (λ (xs : Answers). length xs + 1) (sym (e ∙ k.nothing_waits)),
    )
    over (inr l) = absurd (other l.file l.what (sym k.asked ∙ l.looks))

-- a look: it is what comes after the answers that are taken, for the first time or again
pub asks_look : (c : Config) (trace : List Line) (d : CallId) (f : FileId) (what : What) → IsFollowed c trace → Asks c trace d (want.Look f what) →
    (wants_after c (entries trace) d (take (request_number trace d - 1) (answers c (entries trace) d)) ≡ want.Look f what) × (is_next_or_again (request_number trace d) (length (answers c (entries trace) d)) ≡ true)
asks_look c trace d f what h k = over (hears c trace d h)
  where
    after_log : wants_after c (entries trace) d (log trace d) ≡ want.Look f what
    after_log = wants_as_asked c (entries trace) d (log trace d) (want.Look f what) k.asked k.request

    next : (m a : ℕ) → m ≡ a → is_next_or_again (m + 1) a ≡ true
    next m a e = grind (arith, nat_tests)

    again : (m a : ℕ) → a ≡ m + 1 → is_next_or_again (m + 1) a ≡ true
    again m a e = grind (arith, nat_tests)

    over : Hears c trace d → (wants_after c (entries trace) d (take (request_number trace d - 1) (answers c (entries trace) d)) ≡ want.Look f what) × (is_next_or_again (request_number trace d) (length (answers c (entries trace) d)) ≡ true)
    over (inl e) = (let same : answers c (entries trace) d ≡ log trace d = e ∙ k.nothing_waits in (
      ap (wants_after c (entries trace) d) (ap (take (length (log trace d) + 1 - 1)) same ∙ take_own (log trace d)) ∙ after_log,
      next (length (log trace d)) (length (answers c (entries trace) d)) (ap length (sym same)),
    ))
    over (inr l) = (let same : answers c (entries trace) d ≡ log trace d ++ l.old ∷ [] = l.answers_are ∙ ap (λ (xs : Answers). xs ++ l.old ∷ []) l.heard_is in (
      ap (wants_after c (entries trace) d) (ap (take (length (log trace d) + 1 - 1)) same ∙ take_all (log trace d) l.old) ∙ after_log,
      again (length (log trace d)) (length (answers c (entries trace) d)) (ap length same ∙ length-append (log trace d) (l.old ∷ [])),
    ))
