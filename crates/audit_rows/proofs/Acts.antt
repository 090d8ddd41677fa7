-- Whether an operation may come next, by the open instance that is found of its name and by the call whose step it is.
use Rattle.std.proofs.Common.{◌≡◌, ℕ, ◌+◌, ◌≤◌, ◌==◌, Bool, true, false, ◌&&◌, cond, length, filter, Option, None, Some, refl, sym, ap, subst, ◌∙◌}
use Rattle.std.specs.List.{find}
use Rattle.std.specs.Option.{option_map}
use Rattle.locus_ids.specs.declared.config.Config.{Config}
use Rattle.locus_ids.specs.declared.ids.CallId.{CallId}
use Rattle.locus_ids.specs.declared.ids.EpochId.{EpochId}
use Rattle.locus_ids.specs.declared.ids.Serial.{Serial}
use Rattle.trace_book.specs.declared.operation.Op.{Op}
use Rattle.trace_book.specs.declared.operation.Outcome.{Outcome}
use Rattle.call_rules.specs.declared.want.Want.TheVariants as want
use Rattle.tree_model.specs.Epochs.{is_in}
use Rattle.tree_model.specs.Same.{is_given}
use Rattle.promises.specs.Past.{CallSoFar, Epoch, Instance, Past, acts, asks, epoch_at, is_named, is_number}
use Rattle.promises.specs.After.{is_actor, is_epoch}
use Rattle.promises.specs.Rows.{is_asked, may_act}
use Rattle.promises.specs.Same.{same_request}
use Rattle.promises.specs.Tree.{result_on}
use Rattle.past_laws.proofs.Changing.{find_same, found_passes}
use Rattle.past_laws.proofs.Names.{both_parts, epoch_eq, none_some, number_eq, some_same}
use Rattle.past_laws.proofs.TreesLists.{any_one}
use Rattle.audit_row_parts.proofs.Homes.{any_found, any_nowhere}
use Rattle.audit_told_calls.specs.of_audit_past.Writing.{IsActor, IsOpen}
use Rattle.audit_told_calls.specs.Once.{OneEach}
use Rattle.audit_rows.specs.Acts.{MayAct, actor_of}
use Rattle.audit_rows.specs.Steps.{ActOnce}
use Rattle.audit_rows.proofs.Found.{found_at, unformed_at}

-- the instance that is found is open
abbrev pub open_at : (p : Past) (e : EpochId) (i : Serial) (t : Epoch) (x : Instance) → OneEach p → Some t ≡ find (is_epoch e) p.epochs → length (filter (is_named i) t.opened) ≤ 1 → Some x ≡ find (is_named i) t.opened → IsOpen p e i
open_at p e i t x each found one named = record { epoch = t; once = each.epochs e; there = sym found; instance = x; single = one; named = sym named }

-- three tests and a fourth that all must pass, of which some are known
not_first : (a b d : Bool) → false ≡ (a && b) → (a && (b && d)) ≡ false
not_first true true d h = cc
not_first true false d h = refl
not_first false b d h = refl

not_last : (a b g d : Bool) → d ≡ false → (a && (b && (g && d))) ≡ false
not_last true true true d h = h
not_last true true false d h = refl
not_last true false g d h = refl
not_last false b g d h = refl

by_third : (a b g d : Bool) → (a && b) ≡ true → d ≡ true → (a && (b && (g && d))) ≡ g
by_third true true true d h k = k
by_third true true false d h k = refl
by_third true false g d h k = cc
by_third false b g d h k = cc

-- the name of the call that asks it, where one does
pub unless_asked : (b : Bool) (id : Option CallId) → false ≡ b → None ≡ cond b id None
unless_asked true id h = cc
unless_asked false id h = refl

pub where_asked : (b : Bool) (id v : Option CallId) → true ≡ b → v ≡ id → v ≡ cond b id None
where_asked true id v h e = e
where_asked false id v h e = cc

module _ (c : Config) (p : Past) (e : EpochId) (i : Serial) (n : ℕ) (o : Op) where
  abbrev is_step_asked : Epoch → Instance → Bool
  is_step_asked t x = is_asked c p t (acts t.id x n) (want.Do i o)

  -- what the row asks of an open instance beside its name
  abbrev acts_so : Epoch → Outcome → Instance → Bool
  acts_so t result x = (n == x.work.ops + 1) && (is_number t.joined x.grant.ss && (is_given (result_on p t o x) result && is_asked c p t (acts t.id x n) (want.Do i o)))

  -- there is no such epoch, or none of its open instances has the name
  pub not_there : None ≡ find (is_epoch e) p.epochs → MayAct c p e i n o None
  not_there none = λ result. sym (ap (λ (t : Epoch). may_act c p t i n o result) (unformed_at p e none))

  pub not_open : (t : Epoch) → Some t ≡ find (is_epoch e) p.epochs → None ≡ find (is_named i) t.opened → MayAct c p e i n o None
  not_open t found none = λ result. sym (any_nowhere (is_named i) (acts_so t result) t.opened none ∙ ap (λ (u : Epoch). may_act c p u i n o result) (found_at p e t found))

  -- else the row is asked of the one that is found
  judged_by : (it : IsOpen p e i) (result : Outcome) → may_act c p (epoch_at p e) i n o result ≡ acts_so it.epoch result it.instance
  judged_by it result = sym (any_found (is_named i) (acts_so it.epoch result) it.epoch.opened it.instance it.single (sym it.named) ∙ ap (λ (u : Epoch). may_act c p u i n o result) (found_at p e it.epoch (sym it.there)))

  -- its next is another, or its storage site was never there
  pub not_ready : (it : IsOpen p e i) → false ≡ ((n == it.instance.work.ops + 1) && is_number it.epoch.joined it.instance.grant.ss) → MayAct c p e i n o None
  not_ready it failed = λ result. judged_by it result ∙ not_first (n == it.instance.work.ops + 1) (is_number it.epoch.joined it.instance.grant.ss) _ failed

  -- no call asks it
  unasked : (t : Epoch) (x : Instance) → None ≡ cond (is_step_asked t x) (actor_of p t.id x n) None → is_step_asked t x ≡ false
  unasked t x h = at (is_step_asked t x) (find (acts t.id x n) p.calls) refl refl h
    where
      at : (b : Bool) (k : Option CallSoFar) → is_step_asked t x ≡ b → find (acts t.id x n) p.calls ≡ k → None ≡ cond b (option_map (λ (l : CallSoFar). l.id) k) None → is_step_asked t x ≡ false
      at true None g f m = sym (any_nowhere (acts t.id x n) (λ (k : CallSoFar). is_in k.epoch t.id && same_request (asks c p k) (want.Do i o)) p.calls (sym f))
      at true (Some k) g f m = none_some k.id m
      at false k g f m = g

  pub not_asked : (it : IsOpen p e i) → None ≡ cond (is_step_asked it.epoch it.instance) (actor_of p it.epoch.id it.instance n) None → MayAct c p e i n o None
  not_asked it none = λ result. judged_by it result ∙ not_last (n == it.instance.work.ops + 1) (is_number it.epoch.joined it.instance.grant.ss) (is_given (result_on p it.epoch o it.instance) result) _ (unasked it.epoch it.instance none)

  -- a call asks it
  asked_yes : (b : Bool) (id : CallId) (found : Option CallId) → Some id ≡ cond b found None → b ≡ true
  asked_yes true id found h = refl
  asked_yes false id found h = none_some id (sym h)

  pub judged : (it : IsOpen p e i) (id : CallId) → true ≡ ((n == it.instance.work.ops + 1) && is_number it.epoch.joined it.instance.grant.ss)
      → Some id ≡ cond (is_step_asked it.epoch it.instance) (actor_of p it.epoch.id it.instance n) None
      → (result : Outcome) → may_act c p (epoch_at p e) i n o result ≡ is_given (result_on p it.epoch o it.instance) result
  judged it id ready actor result =
      judged_by it result
      ∙ by_third (n == it.instance.work.ops + 1) (is_number it.epoch.joined it.instance.grant.ss) (is_given (result_on p it.epoch o it.instance) result) _ (sym ready) (asked_yes (is_step_asked it.epoch it.instance) id (actor_of p it.epoch.id it.instance n) actor)

  pub next : (it : IsOpen p e i) → true ≡ ((n == it.instance.work.ops + 1) && is_number it.epoch.joined it.instance.grant.ss) → n ≡ it.instance.work.ops + 1
  next it ready = number_eq n (it.instance.work.ops + 1) (both_parts (n == it.instance.work.ops + 1) (is_number it.epoch.joined it.instance.grant.ss) (sym ready)).0

-- The one call whose step the operation is.

same_epoch_id : (p : Past) (e : EpochId) (i : Serial) (it : IsOpen p e i) → it.epoch.id ≡ e
same_epoch_id p e i it = epoch_eq it.epoch.id e (found_passes (is_epoch e) p.epochs it.epoch it.there)

pub act_few : (p : Past) (e : EpochId) (i : Serial) (n : ℕ) (it : IsOpen p e i) → ActOnce p e i n → (id : EpochId) → id ≡ it.epoch.id → length (filter (acts id it.instance n) p.calls) ≤ 1
act_few p e i n it once id own =
    subst (λ (d : EpochId). length (filter (acts d it.instance n) p.calls) ≤ 1) (sym (own ∙ same_epoch_id p e i it))
    (once it.instance (subst (λ (t : Epoch). find (is_named i) t.opened ≡ Some it.instance) (found_at p e it.epoch (sym it.there)) it.named))

pub actor_step : (p : Past) (e : EpochId) (i : Serial) (n : ℕ) (it : IsOpen p e i) (asked : Bool) (id : CallId) → OneEach p → ActOnce p e i n → Some id ≡ cond asked (actor_of p it.epoch.id it.instance n) None → IsActor p e i n id
actor_step p e i n it asked id each once h = at asked (find (acts it.epoch.id it.instance n) p.calls) refl h
  where
    same : (k : CallSoFar) → is_actor (epoch_at p e) i n k ≡ acts it.epoch.id it.instance n k
    same k = ap (λ (t : Epoch). is_actor t i n k) (sym (found_at p e it.epoch (sym it.there))) ∙ any_one (is_named i) (λ (y : Instance). acts it.epoch.id y n k) it.epoch.opened it.instance it.single it.named

    step : (k : CallSoFar) → find (acts it.epoch.id it.instance n) p.calls ≡ Some k → k.id ≡ id → IsActor p e i n id
    step k found own = record {
      call = k;
      found = find_same (is_actor (epoch_at p e) i n) (acts it.epoch.id it.instance n) same p.calls ∙ found;
      alone = subst (λ (q : CallSoFar → Bool). length (filter q p.calls) ≤ 1) (λ j l. sym (same l) j) (act_few p e i n it once it.epoch.id refl);
      own = own;
      once = each.calls id;
    }

    at : (b : Bool) (k : Option CallSoFar) → find (acts it.epoch.id it.instance n) p.calls ≡ k → Some id ≡ cond b (option_map (λ (l : CallSoFar). l.id) k) None → IsActor p e i n id
    at true None f m = none_some id (sym m)
    at true (Some k) f m = step k f (sym (some_same id k.id m))
    at false k f m = none_some id (sym m)
