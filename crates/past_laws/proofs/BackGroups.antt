-- The group of an instance's grant, by the folds and by the open instance: along a trace an epoch grants a name once.
use Rattle.std.proofs.Common.{◌≡◌, ℕ, ◌+◌, ◌==◌, ◌≤◌, Bool, true, false, cond, ◌&&◌, ◌++◌, List, [], ◌∷◌, filter, length, reverse, Option, Some, None, refl, sym, ap, subst, ◌∙◌, arith}
use Rattle.std.specs.List.{find, list_any}
use Rattle.std.specs.Option.{option_or}
use Rattle.std.proofs.lemmas.List.{length-append, reverse-append}
use Rattle.std.proofs.lemmas.List.Elements.{filter-append}
use Rattle.locus_ids.specs.declared.config.Config.{Config}
use Rattle.locus_ids.specs.declared.ids.EpochId.{EpochId}
use Rattle.locus_ids.specs.declared.ids.Serial.{Serial}
use Rattle.trace_book.specs.Same.{same_epoch, same_serial}
use Rattle.trace_book.specs.declared.record.Record.{Record}
use Rattle.trace_book.specs.declared.record.Record.TheVariants as says
use Rattle.tree_model.specs.declared.instance.Granted.{Granted}
use Rattle.tree_model.specs.Folds.{Trace}
use Rattle.tree_model.specs.Histories.{history}
use Rattle.tree_model.specs.Lists.{latest}
use Rattle.tree_model.specs.State as state
use Rattle.tree_model.specs.Tree.{tree_of, next, joined, left}
use Rattle.promises.specs.of_lawful_trace.TreeRows.{granted_group, granted_group_after}
use Rattle.promises.specs.Past.{Past, Instance as OpenInstance, epoch_at, is_named}
use Rattle.promises.specs.After.{after}
use Rattle.past_laws.specs.Agreement.{Agrees, past}
use Rattle.past_laws.specs.Along.{EachComesSo, IsNamed}
use Rattle.past_laws.proofs.Agreeing.{all_agrees}
use Rattle.past_laws.proofs.Names.{false_true, number_eq, serial_eq}
use Rattle.past_laws.proofs.TreesFolds.{epoch_is, latest_added}
use Rattle.past_laws.proofs.TreesLists.{any_reverse, missed, none_of, of_none}
use Rattle.past_laws.proofs.TreesNamed.{Grows, Still, Adds, Ends, grows}
use Rattle.past_laws.proofs.TreesOpened.{found_here, grant_at}

-- By the tree.

abbrev group_or : Option Granted → ℕ
group_or None = 0
group_or (Some g) = g.file.group

groups_are : (c : Config) (e : EpochId) (group : ℕ) (before : Trace) (i : Serial) → group_or (latest (state.is_grant_of i) (tree_of c e group before).grants) ≡ granted_group before e i
groups_are c e group [] i = refl
groups_are c e group (r ∷ before) i = over r.what (groups_are c e group before i)
  where
    t : state.TreeState
    t = tree_of c e group before

    at_group : List Granted → ℕ
    at_group gs = group_or (latest (state.is_grant_of i) gs)

    either : (b : Bool) (u v : state.TreeState) → u.grants ≡ t.grants → v.grants ≡ t.grants → (cond b u v).grants ≡ t.grants
    either true u v x y = x
    either false u v x y = y

    granted : (b : Bool) (u : state.TreeState) (g : Granted) → u.grants ≡ t.grants ++ g ∷ [] → at_group t.grants ≡ granted_group before e i → at_group (cond b u t).grants ≡ cond (b && same_serial g.inst i) g.file.group (granted_group before e i)
    granted false u g same h = h
    granted true u g same h = ap at_group same ∙ (ap group_or (latest_added (state.is_grant_of i) t.grants g) ∙ at (same_serial g.inst i))
      where
        at : (b : Bool) → group_or (cond b (Some g) (latest (state.is_grant_of i) t.grants)) ≡ cond b g.file.group (granted_group before e i)
        at true = refl
        at false = h

    over : (x : Record) → at_group t.grants ≡ granted_group before e i → at_group (next (history c before) x t).grants ≡ granted_group_after x e i (granted_group before e i)
    over (says.Grant a id n inst m f stamp ss) h = granted (same_epoch a t.epoch) _ (record { inst = inst; call = id; process = state.process_of (state.call_in t.calls id); mode = m; file = f; ss = ss }) refl h
        ∙ ap (λ y. cond (same_epoch a y && same_serial inst i) f.group (granted_group before e i)) (epoch_is c e group before)
    over (says.Join s a m) h = ap at_group (either (same_epoch a t.epoch) (joined s m t) (left s t) refl refl) ∙ h
    over (says.Start a g copies) h = ap at_group (either (same_epoch a t.epoch && (g == t.group)) _ t refl refl) ∙ h
    over (says.Refuse a id n inst m f why) h = ap at_group (either (same_epoch a t.epoch && ((f.group == t.group) && state.is_make m)) _ t refl refl) ∙ h
    over (says.Act a inst n o result) h = ap at_group (either (same_epoch a t.epoch && state.is_granted_here t inst) _ t refl refl) ∙ h
    over (says.Release a inst f stamp) h = ap at_group (either (same_epoch a t.epoch && (f.group == t.group)) _ t refl refl) ∙ h
    over _ h = h

-- A name is granted once.

abbrev GrantedOnce : Past → Type 0
GrantedOnce p = (e : EpochId) (i : Serial) → length (filter (state.is_grant_of i) (epoch_at p e).granted) ≤ 1

once_step : (c : Config) (r : Record) (before : Trace) (p : Past) (e : EpochId) → Grows c before p r e → ((i : Serial) → length (filter (state.is_grant_of i) (epoch_at p e).granted) ≤ 1) → (i : Serial) → length (filter (state.is_grant_of i) (epoch_at (after c r p) e).granted) ≤ 1
once_step c r before p e (Still same gs) h i = subst (λ xs. length (filter (state.is_grant_of i) xs) ≤ 1) (sym gs) (h i)
once_step c r before p e (Ends j same gs) h i = subst (λ xs. length (filter (state.is_grant_of i) xs) ≤ 1) (sym gs) (h i)
once_step c r before p e (Adds g same gs none call) h i = subst (λ xs. length (filter (state.is_grant_of i) xs) ≤ 1) (sym gs) (at (state.is_grant_of i g) refl)
  where
    old : List Granted
    old = (epoch_at p e).granted

    at : (b : Bool) → state.is_grant_of i g ≡ b → length (cond b (g ∷ filter (state.is_grant_of i) old) (filter (state.is_grant_of i) old)) ≤ 1
    at false k = h i
    at true k = subst (λ xs. length (g ∷ xs) ≤ 1) (sym (of_none (state.is_grant_of i) old (sym (any_reverse (state.is_grant_of i) old) ∙ (ap (λ j. list_any (state.is_grant_of j) (reverse old)) (sym (serial_eq g.inst i k)) ∙ none)))) (omega arith)

granted_once : (c : Config) → IsNamed c → (trace : Trace) → EachComesSo c trace → GrantedOnce (past c trace)
granted_once c named [] k e i = omega arith
granted_once c named (r ∷ before) k e i = once_step c r.what before (past c before) e (grows c r.what before (past c before) k.0.row (all_agrees c named before k.1) e) (granted_once c named before k.1 e) i

-- where one passes at most the latest is the first
latest_one : {X : Type 0} (q : X → Bool) (xs : List X) → length (filter q xs) ≤ 1 → latest q xs ≡ find q xs
latest_one q [] h = refl
latest_one {X} q (x ∷ xs) h = at (latest_one q xs) (q x) refl
  where
    at : (length (filter q xs) ≤ 1 → latest q xs ≡ find q xs) → (b : Bool) → q x ≡ b → option_or (latest q xs) (cond b (Some x) None) ≡ cond b (Some x) (find q xs)
    at later true e = ap (λ o. option_or o (Some x)) (later (less (rw e at h)) ∙ missed q xs (none_of q xs (away (rw e at h))))
      where
        less : length (x ∷ filter q xs) ≤ 1 → length (filter q xs) ≤ 1
        less k = omega arith

        away : length (x ∷ filter q xs) ≤ 1 → length (filter q xs) ≡ 0
        away k = omega arith
    at later false e = none_or (latest q xs) ∙ later (rw e at h)
      where
        none_or : (o : Option X) → option_or o None ≡ o
        none_or None = refl
        none_or (Some y) = refl

count_reverse : {X : Type 0} (q : X → Bool) (xs : List X) → length (filter q (reverse xs)) ≡ length (filter q xs)
count_reverse q [] = refl
count_reverse {X} q (x ∷ xs) = ap (λ ys. length (filter q ys)) (reverse-append (x ∷ []) xs) ∙ (ap length (filter-append q (reverse xs) (x ∷ [])) ∙ (length-append (filter q (reverse xs)) (filter q (x ∷ [])) ∙ (ap (λ n. n + length (filter q (x ∷ []))) (count_reverse q xs) ∙ at (q x))))
  where
    at : (b : Bool) → length (filter q xs) + length (cond b (x ∷ []) []) ≡ length (cond b (x ∷ filter q xs) (filter q xs))
    at true = omega arith
    at false = omega arith

-- an open instance is of the group in which its name was granted
pub group_stands : (c : Config) → IsNamed c → (before : Trace) → EachComesSo c before → (e : EpochId) (i : Serial) (x : OpenInstance) → find (is_named i) (epoch_at (past c before) e).opened ≡ Some x → x.grant.file.group ≡ granted_group before e i
group_stands c named before k e i x found = at (grant_at p e i) refl (found_here (grant_at p e) i (epoch_at p e).opened x (a.trees.was_granted e) found)
  where
    p : Past
    p = past c before

    a : Agrees c before p
    a = all_agrees c named before k

    first : latest (state.is_grant_of i) (tree_of c e 0 before).grants ≡ grant_at p e i
    first = ap (latest (state.is_grant_of i)) (sym (a.trees.granted e 0)) ∙ latest_one (state.is_grant_of i) (reverse (epoch_at p e).granted) (subst (λ n. n ≤ 1) (sym (count_reverse (state.is_grant_of i) (epoch_at p e).granted)) (granted_once c named before k e i))

    at : (o : Option Granted) → grant_at p e i ≡ o → state.is_group_of o x.grant.file.group ≡ true → x.grant.file.group ≡ granted_group before e i
    at None f h = false_true h
    at (Some g) f h = sym (number_eq g.file.group x.grant.file.group h) ∙ (sym (ap group_or (first ∙ f)) ∙ groups_are c e 0 before i)
