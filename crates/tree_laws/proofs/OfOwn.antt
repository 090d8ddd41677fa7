-- What a call asks, it asks of what it has.
use Rattle.std.proofs.Common.{◌≡◌, ℕ, Bool, true, false, cond, List, [], ◌∷◌, ◌++◌, Option, Some, None, refl, sym, ap, subst, append-nil}
use Rattle.lawful_trace.specs.of_tree_model.declared.accepted.Waiting.{Waiting}
use Rattle.locus_ids.specs.declared.config.Config.{Config}
use Rattle.locus_ids.specs.declared.ids.CallId.{CallId}
use Rattle.locus_ids.specs.declared.ids.Serial.{Serial}
use Rattle.trace_book.specs.Same.{same_call}
use Rattle.trace_book.specs.declared.call.Call.{Call}
use Rattle.trace_book.specs.declared.record.Record.TheVariants as says
use Rattle.call_rules.specs.declared.answer.Answer.{Answer}
use Rattle.call_rules.specs.declared.answer.Answer.TheVariants as answer
use Rattle.the_run.specs.of_role_steps.Views.{Told, Shown, Takes}
use Rattle.the_run.specs.Worlds.{Line}
use Rattle.lawful_trace.specs.Progress.{Answers}
use Rattle.tree_laws.specs.Printed.{entries}
use Rattle.tree_laws.specs.Calls.{log, script}
use Rattle.tree_laws.specs.Following.{MayTell, IsFollowed}
use Rattle.tree_laws.specs.Holding.{Instances, has_instances, IsOf}
use Rattle.tree_laws.specs.Serials.{asked_now}
use Rattle.tree_laws.proofs.Fresh.{IsNamed}
use Rattle.tree_laws.proofs.Having.{IsSafe, safe_still, safe_take, safe_accept}
use Rattle.tree_laws.proofs.Holding.{IsNew}
use Rattle.tree_laws.proofs.Names.{same_call_eq}
use Rattle.tree_laws.proofs.Awaiting.{OpensIt, all_have, named_before}

abbrev With : ℕ → Told → List Line → List Line
With n x older = record { number = n; told = x } ∷ older

new_answer : (a : Answer) (own : Instances) → ((i : Serial) → OpensIt a i → own i ≡ false) → IsNew a own
new_answer (answer.Opened inst ino) own h = h inst refl
new_answer (answer.Reading inst version) own h = h inst refl
new_answer (answer.Merging inst kept) own h = h inst refl
new_answer _ own h = tt

safe_told : (c : Config) (n : ℕ) (x : Told) (older : List Line) (d : CallId) → IsFollowed c older → MayTell c older x → IsNamed (entries older) d → IsSafe c older d → IsSafe c (With n x older) d
safe_told c n (Takes s it request times a) older d h may named k = over (same_call it d) refl
  where
    taken : it ≡ d → IsSafe c (With n (Takes s it request times a) older) d
    taken same = subst (IsSafe c (With n (Takes s it request times a) older)) same (safe_take c n s it request times a older h may (subst (IsNamed (entries older)) (sym same) named)
        (new_answer a (has_instances c older it) (λ i o. (((all_have c older h).awaits it a (subst (IsNamed (entries older)) (sym same) named) may.answer).opened i o).3)) (subst (IsSafe c older) (sym same) k))

    over : (b : Bool) → same_call it d ≡ b → IsSafe c (With n (Takes s it request times a) older) d
    over true e = taken (same_call_eq it d e)
    over false e = safe_still c n (Takes s it request times a) older h may d named (ap (λ (b : Bool). cond b (log older d ++ a ∷ []) (log older d)) e) k
safe_told c n x older d h may named k = safe_still c n x older h may d named refl k

all_safe : (c : Config) (trace : List Line) → IsFollowed c trace → (d : CallId) → IsNamed (entries trace) d → IsSafe c trace d
all_safe c [] h d named = absurd (none named.0 named.1)
  where
    none : (w : Waiting) → ◌≡◌ {A = Option Waiting} None (Some w) → ⊥
    none w e = cc
all_safe c (x ∷ older) h d named = named_before c x.number x.told older d (IsSafe c (x ∷ older) d) h.0 new (λ was. safe_told c x.number x.told older d h.1 h.0 was (all_safe c older h.1 d was)) named
  where
    new : (s process : ℕ) (words : Call) → x.told ≡ Shown (says.Accept s process d words) → IsSafe c (x ∷ older) d
    new s process words is = subst (λ (y : Told). IsSafe c (With x.number y older) d) (sym is) (safe_accept c x.number s process d words older h.1 (subst (MayTell c older) is h.0))

-- what a call asks now is asked of what it has
pub asks_of_own : (c : Config) (trace : List Line) (d : CallId) → IsFollowed c trace → IsNamed (entries trace) d → IsOf (has_instances c trace d) (asked_now c trace d)
asks_of_own c trace d h named = subst (λ (xs : Answers). IsOf (has_instances c trace d) (script c (entries trace) d None xs)) (append-nil (log trace d)) (all_safe c trace h d named [])
