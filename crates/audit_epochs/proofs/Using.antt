-- Which open instance a call uses.
use Rattle.std.proofs.Common.{◌≡◌, ℕ, ◌+◌, ◌≤◌, Bool, true, false, not, ◌&&◌, cond, List, length, filter, Option, Some, None, refl, sym, ap, ◌∙◌, arith}
use Rattle.std.specs.Prelude.{sum_by}
use Rattle.std.specs.List.{find}
use Rattle.locus_ids.specs.declared.ids.EpochId.{EpochId}
use Rattle.locus_ids.specs.declared.ids.Serial.{Serial}
use Rattle.trace_book.specs.Same.{same_epoch, same_serial}
use Rattle.trace_book.specs.declared.call.Call.{Call}
use Rattle.trace_book.specs.declared.descriptor.Beginning.{Beginning}
use Rattle.trace_book.specs.declared.descriptor.Beginning.TheVariants as begins
use Rattle.promises.specs.Past.{Epoch, Instance, is_close, is_named}
use Rattle.promises.specs.After.{change, uses}
use Rattle.audit_copies.proofs.of_past_laws.Names.{none_some, some_same, same_value, serial_eq, serial_test}
use Rattle.audit_copies.proofs.of_past_laws.Changing.{only_one, find_filter}
use Rattle.audit_copies.proofs.of_past_laws.TreesLists.{filter_same}
use Rattle.audit_instances.specs.Rows.{used_once}
use Rattle.audit_epochs.specs.Changes.{accepts, next_use, turn_in, used_by}
use Rattle.audit_epochs.proofs.Lists.{change_same, change_never, filter_never}

pub serial_turned : (a b : Serial) → same_serial a b ≡ same_serial b a
serial_turned a b = same_value (same_serial a b) (same_serial b a) (λ h. serial_test b a (sym (serial_eq a b h))) (λ h. serial_test a b (sym (serial_eq b a h)))

turned : (a b c : Bool) → (a && b) && c ≡ cond (a && c) b false
turned true true true = refl
turned true true false = refl
turned true false true = refl
turned true false false = refl
turned false b c = refl

some_none : {X A : Type 0} (x : X) → ◌≡◌ {A = Option X} (Some x) None → A
some_none x e = none_some x (sym e)

-- the calls that use the one instance
pub used_some : (b : Beginning) (words : Call) (e : EpochId) (i : Serial) → used_by b words e ≡ Some i → (x : Instance) → uses b words e x ≡ is_named i x
used_some (begins.Uses epoch inst) words e i h x =
    turned (same_epoch epoch e) (same_serial inst x.grant.inst) (not (is_close words)) ∙ at (same_epoch epoch e && not (is_close words)) h
  where
    at : (b : Bool) → cond b (Some inst) None ≡ Some i → cond b (same_serial inst x.grant.inst) false ≡ same_serial x.grant.inst i
    at true g = serial_turned inst x.grant.inst ∙ ap (same_serial x.grant.inst) (some_same inst i g)
    at false g = none_some i g
used_some (begins.Denied why) words e i h x = none_some i h
used_some (begins.Walks id) words e i h x = none_some i h
used_some (begins.Reopens version last) words e i h x = none_some i h
used_some begins.Frees words e i h x = none_some i h

pub used_none : (b : Beginning) (words : Call) (e : EpochId) → used_by b words e ≡ None → (x : Instance) → uses b words e x ≡ false
used_none (begins.Uses epoch inst) words e h x =
    turned (same_epoch epoch e) (same_serial inst x.grant.inst) (not (is_close words)) ∙ at (same_epoch epoch e && not (is_close words)) h
  where
    at : (b : Bool) → ◌≡◌ {A = Option Serial} (cond b (Some inst) None) None → cond b (same_serial inst x.grant.inst) false ≡ false
    at true g = some_none inst g
    at false g = refl
used_none (begins.Denied why) words e h x = refl
used_none (begins.Walks id) words e h x = refl
used_none (begins.Reopens version last) words e h x = refl
used_none begins.Frees words e h x = refl

-- The same of an epoch as it is shown.

pub accepts_one : (b : Beginning) (words : Call) (t now : Epoch) (i : Serial) (opened : List Instance) → t ≡ now → Some i ≡ used_by b words t.id → opened ≡ change (is_named i) used_once t.opened → record t { opened = opened } ≡ accepts b words now
accepts_one b words t now i opened view h e =
    ap (λ (xs : List Instance). record t { opened = xs }) (e ∙ sym (change_same (uses b words t.id) (is_named i) used_once (used_some b words t.id i (sym h)) t.opened))
    ∙ ap (accepts b words) view

pub accepts_none : (b : Beginning) (words : Call) (t now : Epoch) → t ≡ now → None ≡ used_by b words t.id → now ≡ accepts b words now
accepts_none b words t now view h =
    sym view ∙ (ap (λ (xs : List Instance). record t { opened = xs }) (sym (change_never (uses b words t.id) used_once (used_none b words t.id (sym h)) t.opened)) ∙ ap (accepts b words) view)

pub turn_one : (b : Beginning) (words : Call) (t now : Epoch) (i : Serial) → t ≡ now → Some i ≡ used_by b words t.id → next_use i now ≡ turn_in b words now
turn_one b words t now i view h =
    ap (next_use i) (sym view)
    ∙ (ap (sum_by (λ (x : Instance). x.uses + 1)) (sym (filter_same (uses b words t.id) (is_named i) (used_some b words t.id i (sym h)) t.opened)) ∙ ap (turn_in b words) view)

pub turn_none : (b : Beginning) (words : Call) (t now : Epoch) → t ≡ now → None ≡ used_by b words t.id → 0 ≡ turn_in b words now
turn_none b words t now view h = ap (sum_by (λ (x : Instance). x.uses + 1)) (sym (filter_never (uses b words t.id) (used_none b words t.id (sym h)) t.opened)) ∙ ap (turn_in b words) view

none_before : (n : ℕ) → n ≡ 0 + n
none_before n = omega arith

pub next_one : (t now : Epoch) (i : Serial) (x : Instance) → t ≡ now → Some x ≡ find (is_named i) t.opened → length (filter (is_named i) t.opened) ≤ 1 → x.uses + 1 ≡ next_use i now
next_one t now i x view h one = none_before (x.uses + 1) ∙ (ap (sum_by (λ (x : Instance). x.uses + 1)) (sym (only_one (is_named i) t.opened x one (sym h))) ∙ ap (next_use i) view)

pub next_none : (t now : Epoch) (i : Serial) → t ≡ now → None ≡ find (is_named i) t.opened → 0 ≡ next_use i now
next_none t now i view h = ap (sum_by (λ (x : Instance). x.uses + 1)) (sym (find_filter (is_named i) t.opened (sym h))) ∙ ap (next_use i) view
