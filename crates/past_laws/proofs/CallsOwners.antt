-- To which call a step on an open instance belongs: the same by the value and by the folds.
use Rattle.std.proofs.Common.{◌≡◌, ℕ, ◌==◌, Bool, true, false, not, cond, ◌&&◌, List, [], ◌∷◌, filter, Option, Some, None, refl, sym, ◌∙◌, ap, arith}
use Rattle.std.specs.List.{find, list_any, AllByRecursion}
use Rattle.locus_ids.specs.declared.config.Config.{Config}
use Rattle.locus_ids.specs.declared.ids.CallId.{CallId}
use Rattle.locus_ids.specs.declared.ids.EpochId.{EpochId}
use Rattle.locus_ids.specs.declared.ids.FileId.{FileId}
use Rattle.locus_ids.specs.declared.ids.Serial.{Serial}
use Rattle.locus_ids.specs.declared.ids.Stamp.{Stamp}
use Rattle.trace_book.specs.Same.{same_call}
use Rattle.trace_book.specs.declared.operation.Op.{Op}
use Rattle.trace_book.specs.declared.operation.Outcome.{Outcome}
use Rattle.trace_book.specs.declared.record.Record.TheVariants as says
use Rattle.tree_model.specs.declared.instance.Instance.{Instance as TreeInstance}
use Rattle.tree_model.specs.Calls.{granted_to}
use Rattle.tree_model.specs.Folds.{Trace}
use Rattle.tree_model.specs.Given.{instance_gives, instance_ends}
use Rattle.tree_model.specs.Histories.{history}
use Rattle.tree_model.specs.State.{instance_in, is_named as is_tree_named}
use Rattle.tree_model.specs.Tree.{tree_of}
use Rattle.promises.specs.of_lawful_trace.Lawful.{MayCome}
use Rattle.promises.specs.of_lawful_trace.Tables.{uses_of, use_number, close_of, has_named, is_call, unless_named, call_of_act, call_of_release}
use Rattle.promises.specs.of_lawful_trace.TreeRows.{granted_group}
use Rattle.promises.specs.Past.{Past, Epoch, CallSoFar, Instance, acts, ends, first_or, epoch_at, unformed, is_on, is_close, is_named}
use Rattle.promises.specs.After.{is_id, is_epoch, is_actor, is_ender}
use Rattle.past_laws.specs.Agreement.{Agrees, instance_of}
use Rattle.past_laws.specs.Standing.{CallStands, HasTurn, InstanceStands, EpochStands, is_use}
use Rattle.past_laws.proofs.Names.{number_eq, false_true, none_some, both_parts, call_turned, epoch_eq, serial_eq}
use Rattle.past_laws.proofs.Changing.{found_any}
use Rattle.past_laws.proofs.CallsLists.{each_more, each_found, any_value, FoundMapped, found_mapped, one_passes}

-- ---- the epoch of an id ----

pub record EpochAt (trace : Trace) (calls : List CallSoFar) (e : EpochId) (t : Epoch) : Type 0 where
  pub stands : EpochStands trace calls t
  pub id_is : t.id ≡ e

pub epoch_stands : (trace : Trace) (calls : List CallSoFar) (e : EpochId) (p : Past) → AllByRecursion (EpochStands trace calls) p.epochs → EpochAt trace calls e (epoch_at p e)
epoch_stands trace calls e p k = at p.epochs k
  where
    none : EpochAt trace calls e (unformed e)
    none = record { stands = record { instances = tt; single = λ i. omega arith }; id_is = refl }

    at : (ts : List Epoch) → AllByRecursion (EpochStands trace calls) ts → EpochAt trace calls e (first_or (unformed e) (is_epoch e) ts)
    at [] k = none
    at (t ∷ ts) k = over (is_epoch e t) refl (at ts k.1)
      where
        over : (b : Bool) → is_epoch e t ≡ b → EpochAt trace calls e (first_or (unformed e) (is_epoch e) ts) → EpochAt trace calls e (cond b t (first_or (unformed e) (is_epoch e) ts))
        over true h later = record { stands = k.0; id_is = epoch_eq t.id e h }
        over false h later = later

-- ---- the owner ----

-- a step that has an owner belongs to the user of an instance that a descriptor has named, or else to the call that it was granted to
owner_same : (trace : Trace) (calls : List CallSoFar) (e : EpochId) (x : Instance) → InstanceStands trace calls e x → (user : Option CallId) (d : CallId) (k : CallSoFar) (used : Bool) → unless_named trace user (granted_to trace e x.grant.inst) ≡ Some d
    → used ≡ is_call user k.id → (x.named ≡ false → user ≡ None) → cond x.named used (same_call k.id x.grant.call) ≡ is_call (unless_named trace user (granted_to trace e x.grant.inst)) k.id
owner_same trace calls e x st user d k used owned same unused = over x.named (has_named trace x.grant.call) refl refl (sym is ∙ owned) ∙ ap (λ (o : Option CallId). is_call o k.id) (sym is)
  where
    is : unless_named trace user (granted_to trace e x.grant.inst) ≡ cond (has_named trace x.grant.call) user (Some x.grant.call)
    is = ap (unless_named trace user) st.granted

    over : (a b : Bool) → x.named ≡ a → has_named trace x.grant.call ≡ b → cond (has_named trace x.grant.call) user (Some x.grant.call) ≡ Some d → cond a used (same_call k.id x.grant.call) ≡ is_call (cond (has_named trace x.grant.call) user (Some x.grant.call)) k.id
    over true b f g h = rw (st.named f) same
    over false true f g h = none_some d (sym (unused f) ∙ (rw g at h))
    over false false f g h = rw g (call_turned k.id x.grant.call)

-- who carries an operation out: the user, where a descriptor has named the instance
pub acts_as : (e : EpochId) (x : Instance) (n : ℕ) (k : CallSoFar) → acts e x n k ≡ cond x.named (is_use e x n k) (same_call k.id x.grant.call)
acts_as e x n k = turned x.named (x.again && (n == 1))
  where
    turned : (a b : Bool) → cond (a && not b) (is_on k.begins e x.grant.inst && (not (is_close k.words) && (k.turn == n))) (same_call k.id x.grant.call) ≡ cond a (cond b (same_call k.id x.grant.call) (is_on k.begins e x.grant.inst && (not (is_close k.words) && (k.turn == n)))) (same_call k.id x.grant.call)
    turned true true = refl
    turned true false = refl
    turned false b = refl

actor_same : (trace : Trace) (calls : List CallSoFar) (e : EpochId) (i : Serial) (n : ℕ) (d : CallId) (t : Epoch) (k : CallSoFar) → EpochAt trace calls e t → find (is_id k.id) calls ≡ Some k → list_any (is_named i) t.opened ≡ true → call_of_act trace e i n ≡ Some d
    → is_actor t i n k ≡ is_call (call_of_act trace e i n) k.id
actor_same trace calls e i n d t k at found there owned = any_value (is_named i) (λ (x : Instance). acts t.id x n k) (is_call (call_of_act trace e i n) k.id) t.opened (each_more (InstanceStands trace calls t.id) (λ (x : Instance). is_named i x ≡ true → acts t.id x n k ≡ is_call (call_of_act trace e i n) k.id) one t.opened at.stands.instances)
    ∙ ap (λ (b : Bool). b && is_call (call_of_act trace e i n) k.id) there
  where
    unused : (x : Instance) → InstanceStands trace calls t.id x → x.named ≡ false → use_number (uses_of trace t.id x.grant.inst) n ≡ None
    unused x st h = ap (λ (us : List CallId). use_number us n) (st.unnamed h).unused

    moved : (x : Instance) → is_named i x ≡ true → call_of_act trace t.id x.grant.inst n ≡ call_of_act trace e i n
    moved x h = ap (λ (z : EpochId). call_of_act trace z x.grant.inst n) at.id_is ∙ ap (λ (j : Serial). call_of_act trace e j n) (serial_eq x.grant.inst i h)

    one : (x : Instance) → InstanceStands trace calls t.id x → is_named i x ≡ true → acts t.id x n k ≡ is_call (call_of_act trace e i n) k.id
    one x st h = acts_as t.id x n k ∙ owner_same trace calls t.id x st (use_number (uses_of trace t.id x.grant.inst) n) d k (is_use t.id x n k) (moved x h ∙ owned) ((each_found (HasTurn trace t.id x) (is_id k.id) calls k found st.turns).0 n) (unused x st) ∙ ap (λ (o : Option CallId). is_call o k.id) (moved x h)

ender_same : (trace : Trace) (calls : List CallSoFar) (e : EpochId) (i : Serial) (d : CallId) (t : Epoch) (k : CallSoFar) → EpochAt trace calls e t → CallStands trace k → list_any (is_named i) t.opened ≡ true → call_of_release trace e i ≡ Some d
    → is_ender t i k ≡ is_call (call_of_release trace e i) k.id
ender_same trace calls e i d t k at stands there owned = any_value (is_named i) (λ (x : Instance). ends t.id x k) (is_call (call_of_release trace e i) k.id) t.opened (each_more (InstanceStands trace calls t.id) (λ (x : Instance). is_named i x ≡ true → ends t.id x k ≡ is_call (call_of_release trace e i) k.id) one t.opened at.stands.instances)
    ∙ ap (λ (b : Bool). b && is_call (call_of_release trace e i) k.id) there
  where
    moved : (x : Instance) → is_named i x ≡ true → call_of_release trace t.id x.grant.inst ≡ call_of_release trace e i
    moved x h = ap (λ (z : EpochId). call_of_release trace z x.grant.inst) at.id_is ∙ ap (call_of_release trace e) (serial_eq x.grant.inst i h)

    one : (x : Instance) → InstanceStands trace calls t.id x → is_named i x ≡ true → ends t.id x k ≡ is_call (call_of_release trace e i) k.id
    one x st h = owner_same trace calls t.id x st (close_of trace t.id x.grant.inst) d k (is_on k.begins t.id x.grant.inst && is_close k.words) (moved x h ∙ owned) (stands.closes t.id x.grant.inst) (λ f. (st.unnamed f).unclosed) ∙ ap (λ (o : Option CallId). is_call o k.id) (moved x h)

-- ---- the instance of an operation or a release ----

pub record IsOpen (p : Past) (e : EpochId) (group : ℕ) (i : Serial) (y : TreeInstance) : Type 0 where
  pub one : Instance
  pub only : filter (is_named i) (epoch_at p e).opened ≡ one ∷ []
  pub there : list_any (is_named i) (epoch_at p e).opened ≡ true
  pub is : instance_of one ≡ y
  pub of_group : one.grant.file.group ≡ group

pub is_open_in : (c : Config) (before : Trace) (p : Past) → Agrees c before p → (e : EpochId) (group : ℕ) (i : Serial) (y : TreeInstance) → instance_in (tree_of c e group before) i ≡ Some y → IsOpen p e group i y
is_open_in c before p a e group i y h = at (found_mapped (λ (x : Instance). x.grant.file.group == group) instance_of (is_tree_named i) (epoch_at p e).opened y (ap (find (is_tree_named i)) (a.trees.opened e group) ∙ h))
  where
    at : FoundMapped (λ (x : Instance). x.grant.file.group == group) instance_of (is_tree_named i) (epoch_at p e).opened y → IsOpen p e group i y
    at f = (let passes = both_parts (f.one.grant.file.group == group) (is_named i f.one) (each_found (λ (x : Instance). Unit {0}) (λ (x : Instance). (x.grant.file.group == group) && is_named i x) (epoch_at p e).opened f.one f.found (units (epoch_at p e).opened)).1 in record {
      one = f.one;
      only = one_passes (is_named i) (λ (x : Instance). (x.grant.file.group == group) && is_named i x) (epoch_at p e).opened f.one ((epoch_stands before p.calls e p a.calls.instances).stands.single i) f.found passes.1;
      there = found_any (λ (x : Instance). (x.grant.file.group == group) && is_named i x) (is_named i) (epoch_at p e).opened f.one f.found passes.1;
      is = f.is;
      of_group = number_eq f.one.grant.file.group group passes.0;
    })
      where
        units : (xs : List Instance) → AllByRecursion (λ (x : Instance). Unit {0}) xs
        units [] = tt
        units (x ∷ xs) = (tt, units xs)

-- an operation that may come is one of an open instance
pub acts_open : (c : Config) (before : Trace) (p : Past) (e : EpochId) (i : Serial) (n : ℕ) (o : Op) (result : Outcome) → MayCome c before (says.Act e i n o result) → Agrees c before p → (y : TreeInstance) × IsOpen p e (granted_group before e i) i y
acts_open c before p e i n o result may a = over (instance_in (tree_of c e (granted_group before e i) before) i) refl may.gives
  where
    over : (x : Option TreeInstance) → instance_in (tree_of c e (granted_group before e i) before) i ≡ x → instance_gives (history c before) (tree_of c e (granted_group before e i) before) n o result x ≡ true → (y : TreeInstance) × IsOpen p e (granted_group before e i) i y
    over None h k = false_true k
    over (Some y) h k = (y, is_open_in c before p a e (granted_group before e i) i y h)

pub record Releases (c : Config) (before : Trace) (p : Past) (e : EpochId) (i : Serial) (f : FileId) : Type 0 where
  pub tree_has : TreeInstance
  pub found : instance_in (tree_of c e f.group before) i ≡ Some tree_has
  pub opened : IsOpen p e f.group i tree_has

pub releases_open : (c : Config) (before : Trace) (p : Past) (e : EpochId) (i : Serial) (f : FileId) (stamp : Option Stamp) → MayCome c before (says.Release e i f stamp) → Agrees c before p → Releases c before p e i f
releases_open c before p e i f stamp may a = over (instance_in (tree_of c e f.group before) i) refl may.gives
  where
    over : (x : Option TreeInstance) → instance_in (tree_of c e f.group before) i ≡ x → instance_ends (history c before) (tree_of c e f.group before) f stamp x ≡ true → Releases c before p e i f
    over None h k = false_true k
    over (Some y) h k = record { tree_has = y; found = h; opened = is_open_in c before p a e f.group i y h }

-- ---- by both ----

pub actor_is : (c : Config) (before : Trace) (p : Past) (e : EpochId) (i : Serial) (n : ℕ) (o : Op) (result : Outcome) → MayCome c before (says.Act e i n o result) → Agrees c before p → (k : CallSoFar) → find (is_id k.id) p.calls ≡ Some k → is_actor (epoch_at p e) i n k ≡ is_call (call_of_act before e i n) k.id
actor_is c before p e i n o result may a k found = actor_same before p.calls e i n may.step.call (epoch_at p e) k (epoch_stands before p.calls e p a.calls.instances) found (acts_open c before p e i n o result may a).1.there may.step.owned

pub ender_is : (c : Config) (before : Trace) (p : Past) (e : EpochId) (i : Serial) (f : FileId) (stamp : Option Stamp) → MayCome c before (says.Release e i f stamp) → Agrees c before p → (k : CallSoFar) → find (is_id k.id) p.calls ≡ Some k → is_ender (epoch_at p e) i k ≡ is_call (call_of_release before e i) k.id
ender_is c before p e i f stamp may a k found = ender_same before p.calls e i may.step.call (epoch_at p e) k (epoch_stands before p.calls e p a.calls.instances) (each_found (CallStands before) (is_id k.id) p.calls k found a.calls.stand).0 (releases_open c before p e i f stamp may a).opened.there may.step.owned
