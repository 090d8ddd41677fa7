-- An answer waits for a request alone; an open that is answered was granted to its call, which hasn't had the instance; and
-- what a call has was granted to it, or is its descriptor's.
use Rattle.std.proofs.Common.{◌≡◌, ℕ, ◌+◌, ◌-◌, Bool, true, false, cond, not, ◌&&◌, ◌||◌, List, [], ◌∷◌, ◌++◌, length, take, Option, Some, None, refl, sym, ◌∙◌, ap, subst, ◌⊎◌, inl, inr}
use Rattle.the_run.proofs.of_plain_facts.Options.{some_same}
use Rattle.the_run.proofs.of_plain_facts.Tests.{true_false}
use Rattle.lawful_trace.specs.of_tree_model.declared.accepted.Waiting.{Waiting}
use Rattle.locus_ids.specs.declared.config.Config.{Config}
use Rattle.locus_ids.specs.declared.ids.CallId.{CallId}
use Rattle.locus_ids.specs.declared.ids.EpochId.{EpochId}
use Rattle.locus_ids.specs.declared.ids.FileId.{FileId}
use Rattle.locus_ids.specs.declared.ids.Mode.{Mode}
use Rattle.locus_ids.specs.declared.ids.Mode.TheVariants as mode
use Rattle.locus_ids.specs.declared.ids.Serial.{Serial}
use Rattle.locus_ids.specs.declared.ids.Stamp.{Stamp}
use Rattle.locus_ids.specs.declared.refusal.Refusal.TheVariants as refusal
use Rattle.commit_graph.specs.Versions.{content_of}
use Rattle.trace_book.specs.Same.{same_call, same_epoch, same_serial}
use Rattle.trace_book.specs.declared.call.Call.{Call}
use Rattle.trace_book.specs.declared.descriptor.Beginning.{Beginning}
use Rattle.trace_book.specs.declared.descriptor.Beginning.TheVariants as begins
use Rattle.trace_book.specs.declared.operation.Outcome.{Outcome}
use Rattle.trace_book.specs.declared.operation.Outcome.TheVariants as outcome
use Rattle.trace_book.specs.declared.operation.Served.{Served}
use Rattle.trace_book.specs.declared.operation.Served.TheVariants as served
use Rattle.trace_book.specs.declared.operation.What.{What}
use Rattle.trace_book.specs.declared.operation.What.TheVariants as what
use Rattle.trace_book.specs.declared.record.Record.{Record}
use Rattle.trace_book.specs.declared.record.Record.TheVariants as says
use Rattle.call_rules.specs.declared.answer.Answer.{Answer}
use Rattle.call_rules.specs.declared.answer.Answer.TheVariants as answer
use Rattle.call_rules.specs.declared.want.Want.{Want}
use Rattle.call_rules.specs.declared.want.Want.TheVariants as want
use Rattle.lawful_trace.specs.of_dir_format.declared.looking.LookResult.{LookResult}
use Rattle.lawful_trace.specs.of_dir_format.declared.looking.LookResult.TheVariants as looked
use Rattle.lawful_trace.specs.of_dir_format.Contents.{entries_of}
use Rattle.lawful_trace.specs.of_dir_format.Lookups.{lookup}
use Rattle.the_run.specs.of_role_steps.Views.{Told, Shown, Promises, Takes, LooksAgain, Begins, Shuts, Reserves}
use Rattle.the_run.specs.Worlds.{Line}
use Rattle.lawful_trace.specs.of_tree_model.declared.instance.Instance.{Instance}
use Rattle.lawful_trace.specs.of_tree_model.Calls.{granted_to, call_named, accepted_as}
use Rattle.lawful_trace.specs.of_tree_model.Folds.{Trace}
use Rattle.lawful_trace.specs.of_tree_model.Histories.{history}
use Rattle.lawful_trace.specs.of_tree_model.State.{instance_in}
use Rattle.lawful_trace.specs.of_tree_model.Tree.{tree_of, kept_in}
use Rattle.lawful_trace.specs.Progress.{Answers, entered, look_answer, granted_answer, close_answer, outcome_answer}
use Rattle.lawful_trace.specs.Tables.{begun, begins_now, is_call, call_of_act, call_of_release, uses_by}
use Rattle.lawful_trace.specs.TreeRows.{IsCallIn}
use Rattle.tree_laws.specs.Printed.{entries, onto_entries}
use Rattle.tree_laws.specs.Calls.{log, heard, is_request, Waits}
use Rattle.tree_laws.specs.Following.{MayTell, IsFollowed}
use Rattle.tree_laws.specs.Holding.{Instances, begun_with, with_begun, closed_by, had_after, has_instances}
use Rattle.tree_laws.specs.Serials.{asked_now, is_open_want}
use Rattle.tree_laws.proofs.Alone.{asking}
use Rattle.tree_laws.proofs.Asking.{StepRecord, StepOf, Turns, Same, same_told, not_longer}
use Rattle.tree_laws.proofs.CarriedLooks.{one_epoch}
use Rattle.tree_laws.proofs.Counting.{asked_same}
use Rattle.tree_laws.proofs.Descriptors.{IsUser, user_stays, user_accepted}
use Rattle.tree_laws.proofs.Fresh.{IsNamed, next_is_new, numbered, calls_are_low}
use Rattle.tree_laws.proofs.Having.{Untaken, named_or_untaken, has_stays}
use Rattle.tree_laws.proofs.Hearing.{take_all}
use Rattle.tree_laws.proofs.Names.{same_call_eq, same_call_own, same_epoch_own, same_serial_eq, same_serial_own}
use Rattle.tree_laws.proofs.Owners.{granted_named, granted_same}
use Rattle.tree_laws.proofs.Serials.{asks_opens}
use Rattle.tree_laws.proofs.Scripts.{in_stays}

abbrev With : ℕ → Told → List Line → List Line
With n x older = record { number = n; told = x } ∷ older

-- ---- which answer opens ----

abbrev pub OpensIt : Answer → Serial → Type 0
OpensIt (answer.Opened inst ino) i = inst ≡ i
OpensIt (answer.Reading inst version) i = inst ≡ i
OpensIt (answer.Merging inst kept) i = inst ≡ i
OpensIt _ i = ⊥

pub look_opens : (c : Config) (before : Trace) (f : FileId) (w : What) (result : Served) (i : Serial) → OpensIt (look_answer c before f w result) i → ⊥
look_opens c before f w (served.No why) i k = k
look_opens c before f (what.Name component) (served.At stamp) i k = over (lookup (entries_of (content_of (history c before) f stamp)) component) k
  where
    over : (r : LookResult) → OpensIt (entered component r) i → ⊥
    over (looked.Found ino kind) m = m
    over looked.Absent m = m
    over (looked.Ambiguous a b) m = m
look_opens c before f what.List (served.At stamp) i k = k
look_opens c before f what.Stat (served.At stamp) i k = k
look_opens c before f (what.Whole asked) (served.At stamp) i k = k

pub outcome_opens : (o : Outcome) (i : Serial) → OpensIt (outcome_answer o) i → ⊥
outcome_opens (outcome.No why) i k = k
outcome_opens outcome.Done i k = k
outcome_opens (outcome.Found ino kind) i k = k
outcome_opens (outcome.Data bytes) i k = k
outcome_opens (outcome.Committed stamp) i k = k

pub close_opens : (stamp : Option Stamp) (x : Option Instance) (i : Serial) → OpensIt (close_answer stamp x) i → ⊥
close_opens stamp None i k = k
close_opens stamp (Some x) i k = over x.work.owes k
  where
    over : (b : Bool) → OpensIt (cond b (answer.Refused refusal.Spent) (answer.Ended (cond x.work.fresh stamp None))) i → ⊥
    over true m = m
    over false m = m

pub grant_opens : (m : Mode) (inst : Serial) (f : FileId) (stamp : Option Stamp) (kept : List Stamp) (i : Serial) → OpensIt (granted_answer m inst f stamp kept) i → inst ≡ i
grant_opens mode.Mend inst f stamp kept i k = k
grant_opens mode.Read inst f (Some at) kept i k = k
grant_opens mode.Read inst f None kept i k = k
grant_opens mode.Write inst f stamp kept i k = k
grant_opens mode.Resolve inst f stamp kept i k = k
grant_opens mode.Make inst f stamp kept i k = k

-- the last of a list
pub last_same : (xs ys : Answers) (a b : Answer) → xs ++ a ∷ [] ≡ ys ++ b ∷ [] → a ≡ b
last_same [] [] a b e = cc
last_same [] (y ∷ ys) a b e = absurd (empty ys b (tails a y [] (ys ++ b ∷ []) e))
  where
    tails : (x y : Answer) (ps qs : Answers) → x ∷ ps ≡ y ∷ qs → ps ≡ qs
    tails x y ps qs k = cc

    empty : (qs : Answers) (q : Answer) → [] ≡ qs ++ q ∷ [] → ⊥
    empty [] q k = cc
    empty (x ∷ qs) q k = cc
last_same (x ∷ xs) [] a b e = absurd (empty xs a (tails x b (xs ++ a ∷ []) [] e))
  where
    tails : (x y : Answer) (ps qs : Answers) → x ∷ ps ≡ y ∷ qs → ps ≡ qs
    tails x y ps qs k = cc

    empty : (qs : Answers) (q : Answer) → qs ++ q ∷ [] ≡ [] → ⊥
    empty [] q k = cc
    empty (x ∷ qs) q k = cc
last_same (x ∷ xs) (y ∷ ys) a b e = last_same xs ys a b (tails x y (xs ++ a ∷ []) (ys ++ b ∷ []) e)
  where
    tails : (x y : Answer) (ps qs : Answers) → x ∷ ps ≡ y ∷ qs → ps ≡ qs
    tails x y ps qs k = cc

-- ---- what a call has ----

-- the instance was granted to the call, or is that of its descriptor
pub record IsHeldBy (t : List Line) (d : CallId) (i : Serial) : Type 0 where
  pub epoch : EpochId
  pub inside : IsCallIn (entries t) epoch d
  pub held : (granted_to (entries t) epoch i ≡ Some d) ⊎ IsUser (entries t) epoch i d

-- the answer waits for a request of the call; what it opens was granted to the call, which hasn't had it
pub record Awaits (c : Config) (t : List Line) (d : CallId) (a : Answer) : Type 0 where
  pub asked : is_request (asked_now c t d) ≡ true
  pub opens : (i : Serial) → OpensIt a i → is_open_want (asked_now c t d) ≡ true
  pub opened : (i : Serial) → OpensIt a i → (e : EpochId) × IsCallIn (entries t) e d × (granted_to (entries t) e i ≡ Some d) × (has_instances c t d i ≡ false)

pub record AllHave (c : Config) (t : List Line) : Type 0 where
  pub held : (d : CallId) (i : Serial) → IsNamed (entries t) d → has_instances c t d i ≡ true → IsHeldBy t d i
  pub awaits : (d : CallId) (a : Answer) → IsNamed (entries t) d → Waits c t d a → Awaits c t d a

granted_stays : (c : Config) (n : ℕ) (x : Told) (older : List Line) (e : EpochId) (i : Serial) (d : CallId) → MayTell c older x → granted_to (entries older) e i ≡ Some d → granted_to (onto_entries n x (entries older)) e i ≡ Some d
granted_stays c n (Shown r) older e i d may g = granted_same c older n r e i d may g
granted_stays c n _ older e i d may g = g

users_stay : (c : Config) (n : ℕ) (x : Told) (older : List Line) (e : EpochId) (i : Serial) (d : CallId) → IsFollowed c older → MayTell c older x → IsUser (entries older) e i d → IsUser (onto_entries n x (entries older)) e i d
users_stay c n (Shown r) older e i d h may u = user_stays c older n r e i d h may u
users_stay c n _ older e i d h may u = u

pub held_stays : (c : Config) (n : ℕ) (x : Told) (older : List Line) (d : CallId) (i : Serial) → IsFollowed c older → MayTell c older x → IsHeldBy older d i → IsHeldBy (With n x older) d i
held_stays c n x older d i h may k = record { epoch = k.epoch; inside = in_stays c n x older k.epoch d h may k.inside; held = over k.held }
  where
    over : (granted_to (entries older) k.epoch i ≡ Some d) ⊎ IsUser (entries older) k.epoch i d → (granted_to (onto_entries n x (entries older)) k.epoch i ≡ Some d) ⊎ IsUser (onto_entries n x (entries older)) k.epoch i d
    over (inl g) = inl (granted_stays c n x older k.epoch i d may g)
    over (inr u) = inr (users_stay c n x older k.epoch i d h may u)

-- what is held was named
pub held_named : (t : List Line) (d : CallId) (i : Serial) (e : EpochId) → IsHeldBy t d i → IsCallIn (entries t) e d → (g : CallId) × (granted_to (entries t) e i ≡ Some g)
held_named t d i e k inside = subst (λ (y : EpochId). (g : CallId) × (granted_to (entries t) y i ≡ Some g)) (one_epoch t k.epoch e d k.inside inside) (over k.held)
  where
    over : (granted_to (entries t) k.epoch i ≡ Some d) ⊎ IsUser (entries t) k.epoch i d → (g : CallId) × (granted_to (entries t) k.epoch i ≡ Some g)
    over (inl g) = (d, g)
    over (inr u) = (u.for.granted, u.for.is_granted)

-- ---- an answer that waits ----

-- a line that is no step of the call
awaits_same : (c : Config) (n : ℕ) (x : Told) (older : List Line) (d : CallId) (a : Answer) → IsFollowed c older → MayTell c older x → IsNamed (entries older) d → Same c older n x d → AllHave c older → Waits c (With n x older) d a → Awaits c (With n x older) d a
awaits_same c n x older d a h may named s k waits = record {
  asked = ap is_request (asked_same c older n x d h may named s.log_same) ∙ was.asked;
  opens = λ i o. ap is_open_want (asked_same c older n x d h may named s.log_same) ∙ was.opens i o;
  opened = λ i o. (let g : (e : EpochId) × IsCallIn (entries older) e d × (granted_to (entries older) e i ≡ Some d) × (has_instances c older d i ≡ false) = was.opened i o in
      (g.0, in_stays c n x older g.0 d h may g.1, granted_stays c n x older g.0 i d may g.2, has_stays c n x older h may d named s.log_same i ∙ g.3));
}
  where
    was : Awaits c older d a
    was = k.awaits d a named (sym s.heard_same ∙ (waits ∙ ap (λ (xs : Answers). xs ++ a ∷ []) s.log_same))

-- the answer is what a step of the call was answered
step_answer : (c : Config) (n : ℕ) (r : Record) (older : List Line) (d : CallId) (a b : Answer) (xs : Answers) → IsFollowed c older → MayTell c older (Shown r) → IsNamed (entries older) d → is_request (asked_now c older d) ≡ true → heard c (With n (Shown r) older) d ≡ xs ++ b ∷ [] → ((i : Serial) → OpensIt b i → ⊥) →
    Waits c (With n (Shown r) older) d a → Awaits c (With n (Shown r) older) d a
step_answer c n r older d a b xs h may named asked is none waits = record {
  asked = ap is_request (asked_same c older n (Shown r) d h may named refl) ∙ asked;
  opens = λ i o. absurd (no i o);
  opened = λ i o. absurd (no i o);
}
  where
    no : (i : Serial) → OpensIt a i → ⊥
    no i o = none i (subst (λ (y : Answer). OpensIt y i) (last_same (log older d) xs a b (sym waits ∙ is)) o)

pub by_own : (call d : CallId) (new old : Answers) → call ≡ d → cond (same_call call d) new old ≡ new
by_own call d new old e = ap (λ (b : Bool). cond b new old) (subst (λ (y : CallId). same_call call y ≡ true) e (same_call_own call))

pub by_owner : (o : Option CallId) (d : CallId) (new old : Answers) → o ≡ Some d → cond (is_call o d) new old ≡ new
by_owner o d new old e = ap (λ (p : Option CallId). cond (is_call p d) new old) e ∙ ap (λ (b : Bool). cond b new old) (same_call_own d)

awaits_step : (c : Config) (n : ℕ) (r : Record) (older : List Line) (d : CallId) (a : Answer) → IsFollowed c older → MayTell c older (Shown r) → IsNamed (entries older) d → StepRecord (entries older) r d → AllHave c older → Waits c (With n (Shown r) older) d a → Awaits c (With n (Shown r) older) d a
awaits_step c n (says.Look e call request f w result) older d a h may named step k waits = step_answer c n (says.Look e call request f w result) older d a (look_answer c (entries older) f w result) (take (request - 1) (heard c older d)) h may named
    (subst (λ (y : CallId). is_request (asked_now c older y) ≡ true) step (asking c older call (want.Look f w) may.in_time.asks)) (by_own call d _ (heard c older d) step) (look_opens c (entries older) f w result) waits
awaits_step c n (says.Refuse e call request i m f why) older d a h may named step k waits = step_answer c n (says.Refuse e call request i m f why) older d a (answer.Refused why) (heard c older d) h may named
    (subst (λ (y : CallId). is_request (asked_now c older y) ≡ true) step (asking c older call may.in_time.opens.asks.wanted may.in_time.opens.asks.asks)) (by_own call d _ (heard c older d) step) (λ j o. o) waits
awaits_step c n (says.Act e i number o result) older d a h may named step k waits = step_answer c n (says.Act e i number o result) older d a (outcome_answer result) (heard c older d) h may named
    (subst (λ (y : CallId). is_request (asked_now c older y) ≡ true) (some_same may.in_time.call d (sym may.in_time.owner ∙ step)) (asking c older may.in_time.call (want.Do i o) may.in_time.asks)) (by_owner (call_of_act (entries older) e i number) d _ (heard c older d) step) (outcome_opens result) waits
awaits_step c n (says.Release e i f stamp) older d a h may named step k waits = step_answer c n (says.Release e i f stamp) older d a (close_answer stamp (instance_in (tree_of c e f.group (entries older)) i)) (heard c older d) h may named
    (subst (λ (y : CallId). is_request (asked_now c older y) ≡ true) (some_same may.in_time.call d (sym may.in_time.owner ∙ step)) (asking c older may.in_time.call (want.Close i) may.in_time.asks)) (by_owner (call_of_release (entries older) e i) d _ (heard c older d) step) (close_opens stamp (instance_in (tree_of c e f.group (entries older)) i)) waits
awaits_step c n (says.Grant e call request inst m f stamp ss) older d a h may named step k waits = record {
  asked = ap is_request (asked_same c older n x d h may named refl) ∙ subst (λ (y : CallId). is_request (asked_now c older y) ≡ true) step (asking c older call may.in_time.opens.asks.wanted may.in_time.opens.asks.asks);
  opens = λ i o. ap is_open_want (asked_same c older n x d h may named refl) ∙ subst (λ (y : CallId). is_open_want (asked_now c older y) ≡ true) step (asks_opens c older e call request inst.serial may.in_time.opens.asked may.in_time.opens.it may.in_time.opens.asks);
  opened = λ i o. opened i (grant_opens m inst f stamp (kept_in c (entries older) e f) i (subst (λ (y : Answer). OpensIt y i) is o));
}
  where
    x : Told
    x = Shown (says.Grant e call request inst m f stamp ss)

    is : a ≡ granted_answer m inst f stamp (kept_in c (entries older) e f)
    is = last_same (log older d) (heard c older d) a (granted_answer m inst f stamp (kept_in c (entries older) e f)) (sym waits ∙ by_own call d (heard c older d ++ granted_answer m inst f stamp (kept_in c (entries older) e f) ∷ []) (heard c older d) step)

    inside : IsCallIn (entries older) e d
    inside = subst (IsCallIn (entries older) e) step may.row.opens.step

    granted : granted_to (entries (With n x older)) e inst ≡ Some d
    granted = ap (λ (b : Bool). cond (b && same_serial inst inst) (Some call) (granted_to (entries older) e inst)) (same_epoch_own e) ∙ (ap (λ (b : Bool). cond b (Some call) (granted_to (entries older) e inst)) (same_serial_own inst) ∙ ap Some step)

    new : (b : Bool) → has_instances c older d inst ≡ b → has_instances c older d inst ≡ false
    new true t = (let g : (g : CallId) × (granted_to (entries older) e inst ≡ Some g) = held_named older d inst e (k.held d inst named t) inside in absurd (may.in_time.new (granted_named older e inst g.0 g.1)))
    new false t = t

    opened : (i : Serial) → inst ≡ i → (y : EpochId) × IsCallIn (entries (With n x older)) y d × (granted_to (entries (With n x older)) y i ≡ Some d) × (has_instances c (With n x older) d i ≡ false)
    opened i same = subst (λ (j : Serial). (y : EpochId) × IsCallIn (entries (With n x older)) y d × (granted_to (entries (With n x older)) y j ≡ Some d) × (has_instances c (With n x older) d j ≡ false)) same
        (e, in_stays c n x older e d h may inside, granted, has_stays c n x older h may d named refl inst ∙ new (has_instances c older d inst) refl)
awaits_step c n _ older d a h may named step k waits = absurd step

-- nothing waits after a turn
pub turn_clear : (c : Config) (n : ℕ) (x : Told) (older : List Line) (d : CallId) → MayTell c older x → Turns x d → heard c (With n x older) d ≡ log (With n x older) d
turn_clear c n (Takes s it request times a) older d may e = subst (λ (y : CallId). heard c older y ≡ log older y ++ a ∷ []) e may.answer ∙ sym (by_own it d (log older d ++ a ∷ []) (log older d) e)
turn_clear c n (LooksAgain s it request times) older d may e = by_own it d (take (request - 1) (heard c older d)) (heard c older d) e
    ∙ (ap (λ (m : ℕ). take (m - 1) (heard c older d)) (may.request_is ∙ ap (λ (y : CallId). length (log older y) + 1) e)
    ∙ (ap (take (length (log older d) + 1 - 1)) (subst (λ (y : CallId). heard c older y ≡ log older y ++ may.old ∷ []) e may.answer) ∙ take_all (log older d) may.old))
turn_clear c n (Shown r) older d may e = absurd e
turn_clear c n (Promises s id reach) older d may e = absurd e
turn_clear c n (Begins s at i f) older d may e = absurd e
turn_clear c n (Shuts s at i) older d may e = absurd e
turn_clear c n (Reserves s at i f) older d may e = absurd e

awaits_old : (c : Config) (n : ℕ) (x : Told) (older : List Line) (d : CallId) (a : Answer) → IsFollowed c older → MayTell c older x → IsNamed (entries older) d → AllHave c older → Waits c (With n x older) d a → Awaits c (With n x older) d a
awaits_old c n x older d a h may named k waits = over x may waits (same_told c older n x d)
  where
    over : (y : Told) → MayTell c older y → Waits c (With n y older) d a → Same c older n y d ⊎ (StepOf older y d ⊎ Turns y d) → Awaits c (With n y older) d a
    over y m w (inl s) = awaits_same c n y older d a h m named s k w
    over (Shown r) m w (inr (inl step)) = awaits_step c n r older d a h m named step k w
    over y m w (inr (inr turn)) = absurd (not_longer (heard c (With n y older) d) (log (With n y older) d) a (turn_clear c n y older d m turn) w)
    over _ m w (inr (inl step)) = absurd step

-- ---- what a call has ----

opened_or_old : (inst : Serial) (own : Instances) (i : Serial) → (same_serial inst i || own i) ≡ true → (inst ≡ i) ⊎ (own i ≡ true)
opened_or_old inst own i h = over (same_serial inst i) refl h
  where
    over : (b : Bool) → same_serial inst i ≡ b → (b || own i) ≡ true → (inst ≡ i) ⊎ (own i ≡ true)
    over true e k = inl (same_serial_eq inst i e)
    over false e k = inr k

-- what is had after an answer is what it opened, or was had before
pub had_from : (w : Want) (a : Answer) (own : Instances) (i : Serial) → had_after w a own i ≡ true → OpensIt a i ⊎ (own i ≡ true)
had_from w (answer.Opened inst ino) own i h = opened_or_old inst own i h
had_from w (answer.Reading inst version) own i h = opened_or_old inst own i h
had_from w (answer.Merging inst kept) own i h = opened_or_old inst own i h
had_from w _ own i h = inr (closed_from w own i h)
  where
    closed_from : (w : Want) (own : Instances) (i : Serial) → closed_by w own i ≡ true → own i ≡ true
    closed_from (want.Close inst) own i h = over (not (same_serial inst i)) h
      where
        over : (b : Bool) → (b && own i) ≡ true → own i ≡ true
        over true k = k
        over false k = absurd (true_false (sym k))
    closed_from _ own i h = h

held_take : (c : Config) (n s : ℕ) (it : CallId) (request times : ℕ) (a : Answer) (older : List Line) (d : CallId) (i : Serial) → IsFollowed c older → MayTell c older (Takes s it request times a) → IsNamed (entries older) d → AllHave c older → has_instances c (With n (Takes s it request times a) older) d i ≡ true → IsHeldBy (With n (Takes s it request times a) older) d i
held_take c n s it request times a older d i h may named k has = held_stays c n (Takes s it request times a) older d i h may (over (same_call it d) refl has)
  where
    taken : it ≡ d → OpensIt a i ⊎ (has_instances c older d i ≡ true) → IsHeldBy older d i
    taken same (inl opens) = (let g : (e : EpochId) × IsCallIn (entries older) e d × (granted_to (entries older) e i ≡ Some d) × (has_instances c older d i ≡ false) = (k.awaits d a named (subst (λ (y : CallId). Waits c older y a) same may.answer)).opened i opens in
        record { epoch = g.0; inside = g.1; held = inl g.2 })
    taken same (inr was) = k.held d i named was

    over : (b : Bool) → same_call it d ≡ b → cond b (had_after (asked_now c older it) a (has_instances c older d) i) (has_instances c older d i) ≡ true → IsHeldBy older d i
    over true e t = taken (same_call_eq it d e) (had_from (asked_now c older it) a (has_instances c older d) i t)
    over false e t = k.held d i named t

held_old : (c : Config) (n : ℕ) (x : Told) (older : List Line) (d : CallId) (i : Serial) → IsFollowed c older → MayTell c older x → IsNamed (entries older) d → AllHave c older → has_instances c (With n x older) d i ≡ true → IsHeldBy (With n x older) d i
held_old c n (Takes s it request times a) older d i h may named k has = held_take c n s it request times a older d i h may named k has
held_old c n (Shown r) older d i h may named k has = held_stays c n (Shown r) older d i h may (k.held d i named (sym (has_stays c n (Shown r) older h may d named refl i) ∙ has))
held_old c n x older d i h may named k has = held_stays c n x older d i h may (k.held d i named (sym (has_stays c n x older h may d named refl i) ∙ has))

-- a call that is accepted has what it begins with
pub new_has : (c : Config) (n s process : ℕ) (new : CallId) (words : Call) (older : List Line) (i : Serial) → Untaken c older new → has_instances c (With n (Shown (says.Accept s process new words)) older) new i ≡ begun_with (begins_now (entries older) s process new words) i
new_has c n s process new words older i u = u.has_is (with_begun (begun (entries (With n (Shown (says.Accept s process new words)) older)) new)) i ∙ ap (λ (b : Bool). with_begun (cond b (Some (begins_now (entries older) s process new words)) (begun (entries older) new)) i) (same_call_own new)

-- what it begins with is the instance of its descriptor
pub begun_uses : (b : Beginning) (i : Serial) → begun_with b i ≡ true → (e : EpochId) × (uses_by b e i ≡ true)
begun_uses (begins.Uses e inst) i t = (e, both (same_epoch e e) (same_serial inst i) (same_epoch_own e) t)
  where
    both : (a b : Bool) → a ≡ true → b ≡ true → a && b ≡ true
    both true true p q = refl
    both true false p q = q
    both false b p q = p
begun_uses (begins.Denied why) i t = absurd (true_false (sym t))
begun_uses (begins.Walks id) i t = absurd (true_false (sym t))
begun_uses (begins.Reopens version last) i t = absurd (true_false (sym t))
begun_uses begins.Frees i t = absurd (true_false (sym t))

held_new : (c : Config) (n s process : ℕ) (new : CallId) (words : Call) (older : List Line) (i : Serial) → IsFollowed c older → MayTell c older (Shown (says.Accept s process new words)) → Untaken c older new → has_instances c (With n (Shown (says.Accept s process new words)) older) new i ≡ true → IsHeldBy (With n (Shown (says.Accept s process new words)) older) new i
held_new c n s process new words older i h may u has = record { epoch = b.0; inside = user.inside; held = inr user }
  where
    b : (e : EpochId) × (uses_by (begins_now (entries older) s process new words) e i ≡ true)
    b = begun_uses (begins_now (entries older) s process new words) i (sym (new_has c n s process new words older i u) ∙ has)

    user : IsUser (entries (With n (Shown (says.Accept s process new words)) older)) b.0 i new
    user = user_accepted c older n s process new words b.0 i h may b.1

-- ---- line by line ----

-- it was named before, or the line accepts it
pub named_before : (c : Config) (n : ℕ) (x : Told) (older : List Line) (d : CallId) (P : Type 0) → MayTell c older x → ((s process : ℕ) (words : Call) → x ≡ Shown (says.Accept s process d words) → P) → (IsNamed (entries older) d → P) → IsNamed (onto_entries n x (entries older)) d → P
named_before c n (Shown (says.Accept s process new words)) older d P may mine was named = over (same_call new d) refl named.1
  where
    over : (b : Bool) → same_call new d ≡ b → cond b (Some (accepted_as (entries older) s process new words)) (call_named (entries older) d) ≡ Some named.0 → P
    over true e k = mine s process words (ap (λ (y : CallId). Shown (says.Accept s process y words)) (same_call_eq new d e))
    over false e k = was (named.0, k)
named_before c n (Shown r) older d P may mine was named = was named
named_before c n _ older d P may mine was named = was named

have_told : (c : Config) (n : ℕ) (x : Told) (older : List Line) → IsFollowed c older → MayTell c older x → AllHave c older → AllHave c (With n x older)
have_told c n x older h may k = record {
  held = λ d i named has. named_before c n x older d (IsHeldBy (With n x older) d i) may (λ s process words is. new s process d words i is has) (λ was. held_old c n x older d i h may was k has) named;
  awaits = λ d a named waits. named_before c n x older d (Awaits c (With n x older) d a) may (λ s process words is. none s process d words a is waits) (λ was. awaits_old c n x older d a h may was k waits) named;
}
  where
    untaken : (s process : ℕ) (d : CallId) (words : Call) → x ≡ Shown (says.Accept s process d words) → Untaken c older d
    untaken s process d words is = over (named_or_untaken c older h d)
      where
        row : MayTell c older (Shown (says.Accept s process d words))
        row = subst (MayTell c older) is may

        over : IsNamed (entries older) d ⊎ Untaken c older d → Untaken c older d
        over (inl named) = absurd (next_is_new (entries older) s d (calls_are_low c older h d named) (numbered c (entries older) s process d words row.row))
        over (inr u) = u

    new : (s process : ℕ) (d : CallId) (words : Call) (i : Serial) → x ≡ Shown (says.Accept s process d words) → has_instances c (With n x older) d i ≡ true → IsHeldBy (With n x older) d i
    new s process d words i is has = subst (λ (y : Told). IsHeldBy (With n y older) d i) (sym is) (held_new c n s process d words older i h (subst (MayTell c older) is may) (untaken s process d words is) (subst (λ (y : Told). has_instances c (With n y older) d i ≡ true) is has))

    none : (s process : ℕ) (d : CallId) (words : Call) (a : Answer) → x ≡ Shown (says.Accept s process d words) → Waits c (With n x older) d a → Awaits c (With n x older) d a
    none s process d words a is waits = absurd (empty (log older d) (sym (untaken s process d words is).heard_is ∙ subst (λ (y : Told). Waits c (With n y older) d a) is waits))
      where
        empty : (xs : Answers) → [] ≡ xs ++ a ∷ [] → ⊥
        empty [] e = cc
        empty (x ∷ xs) e = cc

pub all_have : (c : Config) (trace : List Line) → IsFollowed c trace → AllHave c trace
all_have c [] h = record { held = λ d i named. absurd (none named.0 named.1); awaits = λ d a named. absurd (none named.0 named.1) }
  where
    none : (w : Waiting) → ◌≡◌ {A = Option Waiting} None (Some w) → ⊥
    none w e = cc
all_have c (x ∷ older) h = have_told c x.number x.told older h.1 h.0 (all_have c older h.1)
