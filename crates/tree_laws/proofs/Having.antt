-- What a call asks, it asks of what it has; and what it is answered by an open is granted to it, and it hasn't had it.
use Rattle.std.proofs.Common.{◌≡◌, ℕ, ◌-◌, ◌==◌, Bool, true, false, cond, ◌&&◌, List, [], ◌∷◌, ◌++◌, take, Option, Some, None, refl, sym, ◌∙◌, ap, subst, ◌⊎◌, inl, inr, append-nil, append_assoc}
use Rattle.the_run.proofs.of_plain_facts.Options.{some_same}
use Rattle.the_run.proofs.of_plain_facts.Tests.{true_false}
use Rattle.locus_ids.specs.declared.config.Config.{Config}
use Rattle.locus_ids.specs.declared.ids.CallId.{CallId}
use Rattle.locus_ids.specs.declared.ids.Serial.{Serial}
use Rattle.trace_book.specs.Same.{same_call}
use Rattle.trace_book.specs.declared.call.Call.{Call}
use Rattle.trace_book.specs.declared.descriptor.Beginning.{Beginning}
use Rattle.trace_book.specs.declared.record.Record.{Record}
use Rattle.trace_book.specs.declared.record.Record.TheVariants as says
use Rattle.call_rules.specs.declared.answer.Answer.{Answer}
use Rattle.call_rules.specs.declared.want.Want.{Want}
use Rattle.call_rules.specs.Scripts.{wants}
use Rattle.the_run.specs.of_role_steps.Views.{Told, Shown, Takes, LooksAgain}
use Rattle.the_run.specs.Worlds.{Line}
use Rattle.lawful_trace.specs.of_tree_model.declared.accepted.Waiting.{Waiting}
use Rattle.lawful_trace.specs.of_tree_model.Calls.{call_named, accepted_as, waiting}
use Rattle.lawful_trace.specs.of_tree_model.Folds.{Trace}
use Rattle.lawful_trace.specs.CallRows.{is_this}
use Rattle.lawful_trace.specs.Lawful.{MayCome}
use Rattle.lawful_trace.specs.Progress.{Answers, answers_after, is_packed_in}
use Rattle.lawful_trace.specs.Tables.{begun, begins_now}
use Rattle.tree_laws.specs.Printed.{entries, onto_entries}
use Rattle.tree_laws.specs.Calls.{log, heard, script, script_as}
use Rattle.tree_laws.specs.Following.{MayTell, IsFollowed, IsWaiting}
use Rattle.tree_laws.specs.Holding.{Instances, begun_with, with_begun, had_after, has_taken, has_instances}
use Rattle.tree_laws.specs.Serials.{asked_now}
use Rattle.tree_laws.proofs.Asking.{StepRecord, heard_record, not_longer}
use Rattle.tree_laws.proofs.Boots.{found_every}
use Rattle.tree_laws.proofs.Fresh.{IsNamed, next_is_new, numbered, calls_are_low}
use Rattle.tree_laws.proofs.Holding.{Safe, IsNew, safe_more, safe_same}
use Rattle.tree_laws.proofs.HoldingCalls.{wants_safe}
use Rattle.tree_laws.proofs.Names.{same_call_eq, same_call_own}
use Rattle.tree_laws.proofs.Scripts.{begun_stays, named_stays, script_stays}
use Rattle.tree_laws.proofs.Waiting.{accepted}

abbrev With : ℕ → Told → List Line → List Line
With n x older = record { number = n; told = x } ∷ older

-- ---- a call takes nothing before it is accepted ----

-- it has taken nothing, and was answered nothing
pub record Untaken (c : Config) (t : List Line) (d : CallId) : Type 0 where
  pub log_is : log t d ≡ []
  pub heard_is : heard c t d ≡ []
  pub has_is : (first : Instances) (i : Serial) → has_taken c t d first i ≡ first i

-- a step is of a call that was accepted
step_named : (c : Config) (before : Trace) (r : Record) (d : CallId) → MayCome c before r → StepRecord before r d → IsNamed before d
step_named c before (says.Look e call request f w result) d may step = subst (IsNamed before) step (may.step.accepted, may.step.named)
step_named c before (says.Grant e call request i m f stamp ss) d may step = subst (IsNamed before) step (may.opens.step.accepted, may.opens.step.named)
step_named c before (says.Refuse e call request i m f why) d may step = subst (IsNamed before) step (may.opens.step.accepted, may.opens.step.named)
step_named c before (says.Act e i n o result) d may step = subst (IsNamed before) (some_same may.step.call d (sym may.step.owned ∙ step)) (may.step.step.accepted, may.step.step.named)
step_named c before (says.Release e i f stamp) d may step = subst (IsNamed before) (some_same may.step.call d (sym may.step.owned ∙ step)) (may.step.step.accepted, may.step.step.named)
step_named c before _ d may step = absurd step

pub waiting_named : (c : Config) (t : List Line) (s : ℕ) (d : CallId) → IsFollowed c t → IsWaiting t s d → IsNamed (entries t) d
waiting_named c t s d h k = over (found_every (λ (w : Waiting). call_named (entries t) w.call ≡ Some w) (is_this s k.process d) (waiting (entries t)) k.caller k.found (accepted c t h).waits)
  where
    third : (p q b : Bool) → (p && q && b) ≡ true → b ≡ true
    third p q true t = refl
    third true true false t = absurd (true_false (sym t))
    third true false false t = absurd (true_false (sym t))
    third false q false t = absurd (true_false (sym t))

    over : (call_named (entries t) k.caller.call ≡ Some k.caller) × (is_this s k.process d k.caller ≡ true) → IsNamed (entries t) d
    over f = (k.caller, ap (call_named (entries t)) (sym (same_call_eq k.caller.call d (third (k.caller.site == s) (k.caller.process == k.process) (same_call k.caller.call d) f.1))) ∙ f.0)

pub named_or_untaken : (c : Config) (t : List Line) → IsFollowed c t → (d : CallId) → IsNamed (entries t) d ⊎ Untaken c t d
named_or_untaken c [] h d = inr (record { log_is = refl; heard_is = refl; has_is = λ first i. refl })
named_or_untaken c (x ∷ older) h d = over x.told h.0 (named_or_untaken c older h.1 d)
  where
    stays : (y : Told) → MayTell c older y → IsNamed (entries older) d → IsNamed (onto_entries x.number y (entries older)) d
    stays y may named = (named.0, named_stays c x.number y older d h.1 may named ∙ named.1)

    takes : (s : ℕ) (it : CallId) (request times : ℕ) (a : Answer) → MayTell c older (Takes s it request times a) → Untaken c older d → (b : Bool) → same_call it d ≡ b → IsNamed (entries older) d ⊎ Untaken c (With x.number (Takes s it request times a) older) d
    takes s it request times a may u true e = inl (subst (IsNamed (entries older)) (same_call_eq it d e) (waiting_named c older s it h.1 may.waits_for))
    takes s it request times a may u false e = inr (record {
      log_is = ap (λ (b : Bool). cond b (log older d ++ a ∷ []) (log older d)) e ∙ u.log_is;
      heard_is = u.heard_is;
      has_is = λ first i. ap (λ (b : Bool). cond b (had_after (asked_now c older it) a (has_taken c older d first) i) (has_taken c older d first i)) e ∙ u.has_is first i;
    })

    again : (s : ℕ) (it : CallId) (request times : ℕ) → MayTell c older (LooksAgain s it request times) → Untaken c older d → (b : Bool) → same_call it d ≡ b → IsNamed (entries older) d ⊎ Untaken c (With x.number (LooksAgain s it request times) older) d
    again s it request times may u true e = inl (subst (IsNamed (entries older)) (same_call_eq it d e) (waiting_named c older s it h.1 may.waits_for))
    again s it request times may u false e = inr (record { log_is = u.log_is; heard_is = ap (λ (b : Bool). cond b (take (request - 1) (heard c older d)) (heard c older d)) e ∙ u.heard_is; has_is = u.has_is })

    shown : (r : Record) → MayTell c older (Shown r) → Untaken c older d → (answers_after r c (entries older) d (heard c older d) ≡ heard c older d) ⊎ StepRecord (entries older) r d → IsNamed (entries (With x.number (Shown r) older)) d ⊎ Untaken c (With x.number (Shown r) older) d
    shown r may u (inl same) = inr (record { log_is = u.log_is; heard_is = same ∙ u.heard_is; has_is = u.has_is })
    shown r may u (inr step) = inl (stays (Shown r) may (step_named c (entries older) r d may.row step))

    over : (y : Told) → MayTell c older y → IsNamed (entries older) d ⊎ Untaken c older d → IsNamed (onto_entries x.number y (entries older)) d ⊎ Untaken c (With x.number y older) d
    over y may (inl named) = inl (stays y may named)
    over (Takes s it request times a) may (inr u) = takes s it request times a may u (same_call it d) refl
    over (LooksAgain s it request times) may (inr u) = again s it request times may u (same_call it d) refl
    over (Shown r) may (inr u) = shown r may u (heard_record c r (entries older) d (heard c older d))
    over _ may (inr u) = inr (record { log_is = u.log_is; heard_is = u.heard_is; has_is = u.has_is })

-- ---- what a call has stays but for its takes ----

pub has_stays : (c : Config) (n : ℕ) (x : Told) (older : List Line) → IsFollowed c older → MayTell c older x → (d : CallId) → IsNamed (entries older) d → log (With n x older) d ≡ log older d → (i : Serial) → has_instances c (With n x older) d i ≡ has_instances c older d i
has_stays c n x older h may d named same i = ap (λ (o : Option Beginning). has_taken c (With n x older) d (with_begun o) i) (begun_stays c n x older d h may named) ∙ over x same
  where
    longer : (a : Answer) → log older d ++ a ∷ [] ≡ log older d → ⊥
    longer a e = not_longer (log older d) (log older d) a refl (sym e)

    takes : (s : ℕ) (it : CallId) (request times : ℕ) (a : Answer) (b : Bool) → cond b (log older d ++ a ∷ []) (log older d) ≡ log older d → cond b (had_after (asked_now c older it) a (has_taken c older d (with_begun (begun (entries older) d))) i) (has_instances c older d i) ≡ has_instances c older d i
    takes s it request times a true e = absurd (longer a e)
    takes s it request times a false e = refl

    over : (y : Told) → log (With n y older) d ≡ log older d → has_taken c (With n y older) d (with_begun (begun (entries older) d)) i ≡ has_instances c older d i
    over (Takes s it request times a) e = takes s it request times a (same_call it d) e
    over (Shown r) e = refl
    over _ e = refl

-- ---- what is asked is asked of what the call has ----

abbrev pub IsSafe : Config → List Line → CallId → Type 0
IsSafe c t d = (xs : Answers) → Safe (λ ys. script c (entries t) d None (log t d ++ ys)) (has_instances c t d) xs

-- what comes of a line at which the call takes nothing
pub safe_still : (c : Config) (n : ℕ) (x : Told) (older : List Line) → IsFollowed c older → MayTell c older x → (d : CallId) → IsNamed (entries older) d → log (With n x older) d ≡ log older d → IsSafe c older d → IsSafe c (With n x older) d
safe_still c n x older h may d named same k xs = safe_more (λ ys. script c (onto_entries n x (entries older)) d None (log (With n x older) d ++ ys)) (has_instances c older d) (has_instances c (With n x older) d) xs
    (λ i e. has_stays c n x older h may d named same i ∙ e)
    (safe_same (λ ys. script c (entries older) d None (log older d ++ ys)) (λ ys. script c (onto_entries n x (entries older)) d None (log (With n x older) d ++ ys)) (has_instances c older d) xs
    (λ ys. sym (ap (λ (zs : Answers). script c (onto_entries n x (entries older)) d None (zs ++ ys)) same ∙ script_stays c n x older d None (log older d ++ ys) h may named)) (k xs))

pub safe_take : (c : Config) (n s : ℕ) (it : CallId) (request times : ℕ) (a : Answer) (older : List Line) → IsFollowed c older → MayTell c older (Takes s it request times a) → IsNamed (entries older) it → IsNew a (has_instances c older it) → IsSafe c older it → IsSafe c (With n (Takes s it request times a) older) it
safe_take c n s it request times a older h may named new k xs = safe_more (λ ys. script c (entries older) it None (log (With n (Takes s it request times a) older) it ++ ys)) (had_after (asked_now c older it) a (has_instances c older it)) (has_instances c (With n (Takes s it request times a) older) it) xs
    (λ i e. own i ∙ e)
    (safe_same (λ ys. script c (entries older) it None (log older it ++ (a ∷ ys))) (λ ys. script c (entries older) it None (log (With n (Takes s it request times a) older) it ++ ys)) (had_after (asked_now c older it) a (has_instances c older it)) xs
    (λ ys. ap (script c (entries older) it None) (longer ys))
    (subst (λ (w : Want). Safe (λ ys. script c (entries older) it None (log older it ++ (a ∷ ys))) (had_after w a (has_instances c older it)) xs) (ap (script c (entries older) it None) (append-nil (log older it))) (k (a ∷ xs) new)))
  where
    own : (i : Serial) → has_instances c (With n (Takes s it request times a) older) it i ≡ had_after (asked_now c older it) a (has_instances c older it) i
    own i = ap (λ (b : Bool). cond b (had_after (asked_now c older it) a (has_instances c older it) i) (has_instances c older it i)) (same_call_own it)

    longer : (ys : Answers) → log older it ++ (a ∷ ys) ≡ log (With n (Takes s it request times a) older) it ++ ys
    longer ys = sym (append_assoc (log older it) (a ∷ []) ys) ∙ ap (λ (b : Bool). cond b (log older it ++ a ∷ []) (log older it) ++ ys) (sym (same_call_own it))

pub safe_accept : (c : Config) (n s process : ℕ) (new : CallId) (words : Call) (older : List Line) → IsFollowed c older → MayTell c older (Shown (says.Accept s process new words)) → IsSafe c (With n (Shown (says.Accept s process new words)) older) new
safe_accept c n s process new words older h may xs = over (named_or_untaken c older h new)
  where
    x : Told
    x = Shown (says.Accept s process new words)

    it : Waiting
    it = accepted_as (entries older) s process new words

    begins : Beginning
    begins = begins_now (entries older) s process new words

    before : Answers → Want
    before ys = wants c.mounts (is_packed_in c (entries (With n x older)) it.epoch) None words begins ys

    is_script : (ys : Answers) → before ys ≡ script c (entries (With n x older)) new None ys
    is_script ys = sym (ap (λ (b : Bool). script_as c (entries (With n x older)) (cond b (Some it) (call_named (entries older) new)) (begun (entries (With n x older)) new) None ys) (same_call_own new)
        ∙ ap (λ (b : Bool). script_as c (entries (With n x older)) (Some it) (cond b (Some begins) (begun (entries older) new)) None ys) (same_call_own new))

    over : IsNamed (entries older) new ⊎ Untaken c older new → Safe (λ ys. script c (entries (With n x older)) new None (log older new ++ ys)) (has_instances c (With n x older) new) xs
    over (inl named) = absurd (next_is_new (entries older) s new (calls_are_low c older h new named) (numbered c (entries older) s process new words may.row))
    over (inr u) = safe_more (λ ys. script c (entries (With n x older)) new None (log older new ++ ys)) (begun_with begins) (has_instances c (With n x older) new) xs
        (λ i e. u.has_is (with_begun (begun (entries (With n x older)) new)) i ∙ (ap (λ (b : Bool). with_begun (cond b (Some begins) (begun (entries older) new)) i) (same_call_own new) ∙ e))
        (safe_same before (λ ys. script c (entries (With n x older)) new None (log older new ++ ys)) (begun_with begins) xs
        (λ ys. is_script ys ∙ ap (λ (zs : Answers). script c (entries (With n x older)) new None (zs ++ ys)) (sym u.log_is)) (wants_safe c.mounts (is_packed_in c (entries (With n x older)) it.epoch) None words begins xs))
