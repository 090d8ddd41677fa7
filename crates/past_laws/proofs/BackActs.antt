-- The converse for operations and releases: one that may follow what the records so far tell comes by its row of the lawful
-- trace.
use Rattle.std.proofs.Common.{◌≡◌, ℕ, ◌+◌, ◌==◌, Bool, true, false, not, cond, ◌&&◌, ◌||◌, ◌⊎◌, inl, inr, List, Option, Some, None, refl, sym, ap, subst, ◌∙◌}
use Rattle.std.specs.List.{find, list_any}
use Rattle.std.specs.Option.{is_some, option_map}
use Rattle.std.specs.Str.{bytes_eq}
use Rattle.std.proofs.lemmas.Slice.Eq.{bytes_eq-Decides}
use Rattle.locus_ids.specs.declared.config.Config.{Config}
use Rattle.locus_ids.specs.declared.ids.CallId.{CallId}
use Rattle.locus_ids.specs.declared.ids.EpochId.{EpochId}
use Rattle.locus_ids.specs.declared.ids.FileId.{FileId}
use Rattle.locus_ids.specs.declared.ids.Kind.{Kind}
use Rattle.locus_ids.specs.declared.ids.Kind.TheVariants as kind
use Rattle.locus_ids.specs.declared.ids.Serial.{Serial}
use Rattle.locus_ids.specs.declared.ids.Stamp.{Stamp}
use Rattle.commit_graph.specs.Versions.{same_file}
use Rattle.trace_book.specs.Same.{same_call, same_serial}
use Rattle.trace_book.specs.declared.operation.Op.{Op}
use Rattle.trace_book.specs.declared.operation.Op.TheVariants as op
use Rattle.trace_book.specs.declared.operation.Outcome.{Outcome}
use Rattle.trace_book.specs.declared.record.Record.TheVariants as says
use Rattle.call_rules.specs.declared.want.Want.{Want}
use Rattle.call_rules.specs.declared.want.Want.TheVariants as want
use Rattle.tree_model.specs.Calls.{granted_to}
use Rattle.tree_model.specs.Epochs.{is_in}
use Rattle.tree_model.specs.Folds.{Trace}
use Rattle.tree_model.specs.Given.{instance_ends, instance_gives}
use Rattle.tree_model.specs.Histories.{history}
use Rattle.tree_model.specs.Same.{is_given, same_kind, same_version}
use Rattle.tree_model.specs.State as state
use Rattle.tree_model.specs.Tree.{tree_of}
use Rattle.tree_model.specs.Working as working
use Rattle.promises.specs.of_lawful_trace.Progress.{wants_next}
use Rattle.promises.specs.of_lawful_trace.Tables.{call_of_act, call_of_release, close_of, has_named, is_call, unless_named, use_number, uses_of}
use Rattle.promises.specs.of_lawful_trace.TreeRows.{MayAct, MayRelease, granted_group, is_stored_within}
use Rattle.promises.specs.Past.{Past, Epoch, CallSoFar, Instance as OpenInstance, acts, asks, ends, epoch_at, is_close, is_named, is_number, is_on}
use Rattle.promises.specs.After.{is_id}
use Rattle.promises.specs.Rows.{is_asked, is_synced, may_follow}
use Rattle.promises.specs.Same.{same_op, same_request}
use Rattle.promises.specs.Tree as new
use Rattle.past_laws.specs.Agreement.{Agrees, instance_of}
use Rattle.past_laws.specs.Standing.{CallStands, HasTurn, InstanceStands, is_use}
use Rattle.past_laws.proofs.BackOpens.{asks_back, call_in}
use Rattle.past_laws.proofs.CallsAsks.{is_request}
use Rattle.past_laws.proofs.CallsLists.{each_found}
use Rattle.past_laws.proofs.CallsOwners.{EpochAt, acts_as, epoch_stands}
use Rattle.past_laws.proofs.Names.{both, both_parts, call_eq, call_own, false_true, number_eq, serial_eq}
use Rattle.past_laws.proofs.RowsServed.{synced_as}
use Rattle.past_laws.proofs.TreesAt.{id_at}
use Rattle.past_laws.proofs.TreesFolds.{group_is}
use Rattle.past_laws.proofs.TreesLists.{any_found, find_both, find_same, found_passes, found_wider, number_test}
use Rattle.past_laws.proofs.TreesMakes.{found_both}
use Rattle.past_laws.proofs.TreesOpened.{instance_is, is_in_group}
use Rattle.past_laws.proofs.TreesPages.{tree_is}
use Rattle.past_laws.proofs.TreesWorking.{result_is, spent_is}

-- What the folds say besides, along a lawful trace: a call that a descriptor has answered asks nothing more.
abbrev pub AnsweredAskNothing : Config → Trace → Type 0
AnsweredAskNothing c before = (d : CallId) → has_named before d ≡ true → is_request (wants_next c before d) ≡ true → ⊥

-- Requests that test as the same are the same.

pub kind_back : (a b : Kind) → same_kind a b ≡ true → a ≡ b
kind_back kind.File kind.File h = refl
kind_back kind.Dir kind.Dir h = refl
kind_back kind.File kind.Dir h = false_true h
kind_back kind.Dir kind.File h = false_true h

op_back : (a b : Op) → same_op a b ≡ true → a ≡ b
op_back (op.Probe x) (op.Probe y) h = ap (λ z. op.Probe z) ((bytes_eq-Decides x y).0 h)
op_back (op.Find x) (op.Find y) h = ap (λ z. op.Find z) ((bytes_eq-Decides x y).0 h)
op_back (op.Insert x i k) (op.Insert y j l) h = (let parts : (bytes_eq x y ≡ true) × (((i == j) && same_kind k l) ≡ true) = both_parts (bytes_eq x y) ((i == j) && same_kind k l) h
    in let rest : ((i == j) ≡ true) × (same_kind k l ≡ true) = both_parts (i == j) (same_kind k l) parts.1
    in ap (λ z. op.Insert z i k) ((bytes_eq-Decides x y).0 parts.0) ∙ (ap (λ z. op.Insert y z k) (number_eq i j rest.0) ∙ ap (op.Insert y j) (kind_back k l rest.1)))
op_back (op.Remove x i) (op.Remove y j) h = (let parts : (bytes_eq x y ≡ true) × ((i == j) ≡ true) = both_parts (bytes_eq x y) (i == j) h
    in ap (λ z. op.Remove z i) ((bytes_eq-Decides x y).0 parts.0) ∙ ap (op.Remove y) (number_eq i j parts.1))
op_back (op.Rename x a) (op.Rename y b) h = (let parts : (bytes_eq x y ≡ true) × (bytes_eq a b ≡ true) = both_parts (bytes_eq x y) (bytes_eq a b) h
    in ap (λ z. op.Rename z a) ((bytes_eq-Decides x y).0 parts.0) ∙ ap (op.Rename y) ((bytes_eq-Decides a b).0 parts.1))
op_back op.Empty op.Empty h = refl
op_back (op.Read i n) (op.Read j m) h = (let parts : ((i == j) ≡ true) × ((n == m) ≡ true) = both_parts (i == j) (n == m) h
    in ap (λ z. op.Read z n) (number_eq i j parts.0) ∙ ap (op.Read j) (number_eq n m parts.1))
op_back (op.Write i x) (op.Write j y) h = (let parts : ((i == j) ≡ true) × (bytes_eq x y ≡ true) = both_parts (i == j) (bytes_eq x y) h
    in ap (λ z. op.Write z x) (number_eq i j parts.0) ∙ ap (op.Write j) ((bytes_eq-Decides x y).0 parts.1))
op_back (op.Cut n) (op.Cut m) h = ap (λ z. op.Cut z) (number_eq n m h)
op_back op.Commit op.Commit h = refl
op_back op.Abort op.Abort h = refl
op_back op.Mend op.Mend h = refl
op_back _ _ h = false_true h

do_back : (w : Want) (i : Serial) (o : Op) → same_request w (want.Do i o) ≡ true → w ≡ want.Do i o
do_back (want.Do j q) i o h = (let parts : (same_serial j i ≡ true) × (same_op q o ≡ true) = both_parts (same_serial j i) (same_op q o) h
    in ap (λ z. want.Do z q) (serial_eq j i parts.0) ∙ ap (want.Do i) (op_back q o parts.1))
do_back _ i o h = false_true h

close_back : (w : Want) (i : Serial) → same_request w (want.Close i) ≡ true → w ≡ want.Close i
close_back (want.Close j) i h = ap (λ z. want.Close z) (serial_eq j i h)
close_back _ i h = false_true h

-- The call that asks.

record Asker (p : Past) (e : EpochId) (which : CallSoFar → Bool) (passes : CallSoFar → Bool) : Type 0 where
  pub call : CallSoFar
  pub found : find (is_id call.id) p.calls ≡ Some call
  pub which_so : which call ≡ true
  pub inside : is_in call.epoch (epoch_at p e).id ≡ true
  pub so : passes call ≡ true

asker : (c : Config) (before : Trace) (p : Past) → Agrees c before p → (e : EpochId) (which passes : CallSoFar → Bool) → list_any (λ (k : CallSoFar). which k && (is_in k.epoch (epoch_at p e).id && passes k)) p.calls ≡ true → Asker p e which passes
asker c before p a e which passes h = at (find all p.calls) refl
  where
    all : CallSoFar → Bool
    all k = which k && (is_in k.epoch (epoch_at p e).id && passes k)

    flip : (x y : Bool) → (x && y) ≡ (y && x)
    flip true true = refl
    flip true false = refl
    flip false true = refl
    flip false false = refl

    at : (o : Option CallSoFar) → find all p.calls ≡ o → Asker p e which passes
    at None f = false_true (sym (ap is_some f) ∙ (sym (any_found all p.calls) ∙ h))
    at (Some k) f = (let one : (which k ≡ true) × ((is_in k.epoch (epoch_at p e).id && passes k) ≡ true) = both_parts (which k) (is_in k.epoch (epoch_at p e).id && passes k) (found_passes all p.calls k f)
        in let two : (is_in k.epoch (epoch_at p e).id ≡ true) × (passes k ≡ true) = both_parts (is_in k.epoch (epoch_at p e).id) (passes k) one.1
        in record { call = k; found = found_wider (is_id k.id) all p.calls k (a.calls.once k.id) (find_same (λ x. is_id k.id x && all x) (λ x. all x && is_id k.id x) (λ x. flip (is_id k.id x) (all x)) p.calls ∙ found_both all (is_id k.id) p.calls k f (call_own k.id)); which_so = one.0; inside = two.0; so = two.1 })

-- The owner of a step.

owner_back : (trace : Trace) (calls : List CallSoFar) (e : EpochId) (x : OpenInstance) → InstanceStands trace calls e x → (user : Option CallId) (k : CallSoFar) (used : Bool) → used ≡ is_call user k.id → (has_named trace k.id ≡ true → ⊥) ⊎ (x.named ≡ true) → cond x.named used (same_call k.id x.grant.call) ≡ true → unless_named trace user (granted_to trace e x.grant.inst) ≡ Some k.id
owner_back trace calls e x st user k used same unnamed h = ap (unless_named trace user) st.granted ∙ over x.named (has_named trace x.grant.call) refl refl unnamed h
  where
    is_user : (o : Option CallId) → is_call o k.id ≡ true → o ≡ Some k.id
    is_user None g = false_true g
    is_user (Some d) g = ap (λ z. Some z) (call_eq d k.id g)

    over : (a b : Bool) → x.named ≡ a → has_named trace x.grant.call ≡ b → (has_named trace k.id ≡ true → ⊥) ⊎ (x.named ≡ true) → cond a used (same_call k.id x.grant.call) ≡ true → cond (has_named trace x.grant.call) user (Some x.grant.call) ≡ Some k.id
    over true b f g u j = rw (st.named f) (is_user user (sym same ∙ j))
    over false false f g u j = rw g (ap (λ z. Some z) (sym (call_eq k.id x.grant.call j)))
    over false true f g (inl u) j = absurd (u (ap (has_named trace) (call_eq k.id x.grant.call j) ∙ g))
    over false true f g (inr u) j = false_true (sym f ∙ u)

-- The open instance, where it is found in the tree.

in_tree : (c : Config) (before : Trace) (p : Past) → Agrees c before p → (e : EpochId) (group : ℕ) (i : Serial) (x : OpenInstance) → find (is_named i) (epoch_at p e).opened ≡ Some x → x.grant.file.group ≡ group → state.instance_in (tree_of c e group before) i ≡ Some (instance_of x)
in_tree c before p a e group i x found here = instance_is c before p a e group i ∙ (ap (option_map instance_of) (find_both (is_named i) (is_in_group group) (epoch_at p e).opened) ∙ ap (option_map instance_of) (found_both (is_named i) (is_in_group group) (epoch_at p e).opened x found (number_test x.grant.file.group group here)))

record Named (p : Past) (e : EpochId) (i : Serial) (passes : OpenInstance → Bool) : Type 0 where
  pub one : OpenInstance
  pub found : find (is_named i) (epoch_at p e).opened ≡ Some one
  pub so : passes one ≡ true

named : (c : Config) (before : Trace) (p : Past) → Agrees c before p → (e : EpochId) (i : Serial) (passes : OpenInstance → Bool) → list_any (λ x. is_named i x && passes x) (epoch_at p e).opened ≡ true → Named p e i passes
named c before p a e i passes h = at (find (λ x. is_named i x && passes x) (epoch_at p e).opened) refl
  where
    at : (o : Option OpenInstance) → find (λ x. is_named i x && passes x) (epoch_at p e).opened ≡ o → Named p e i passes
    at None f = false_true (sym (ap is_some f) ∙ (sym (any_found (λ x. is_named i x && passes x) (epoch_at p e).opened) ∙ h))
    at (Some x) f = record { one = x; found = found_wider (is_named i) passes (epoch_at p e).opened x (a.trees.one_named e i) f; so = (both_parts (is_named i x) (passes x) (found_passes (λ y. is_named i y && passes y) (epoch_at p e).opened x f)).1 }

stands : (c : Config) (before : Trace) (p : Past) → Agrees c before p → (e : EpochId) (i : Serial) (x : OpenInstance) → find (is_named i) (epoch_at p e).opened ≡ Some x → InstanceStands before p.calls e x
stands c before p a e i x found = subst (λ z. InstanceStands before p.calls z x) at.id_is (each_found (InstanceStands before p.calls (epoch_at p e).id) (is_named i) (epoch_at p e).opened x found at.stands.instances).0
  where
    at : EpochAt before p.calls e (epoch_at p e)
    at = epoch_stands before p.calls e p a.calls.instances

-- Operations.

pub back_act : (c : Config) (before : Trace) (p : Past) (e : EpochId) (i : Serial) (n : ℕ) (o : Op) (result : Outcome) → Agrees c before p → AnsweredAskNothing c before → ((x : OpenInstance) → find (is_named i) (epoch_at p e).opened ≡ Some x → x.grant.file.group ≡ granted_group before e i) → may_follow c p (says.Act e i n o result) ≡ true → MayAct c before e i n o result
back_act c before p e i n o result a silent groups h = record {
  gives = ap (instance_gives (history c before) t n o result) there ∙ both (n == it.one.work.ops + 1) (is_given (working.result_on (history c before) t o (instance_of it.one)) result) numbered.0
      (ap (λ r. is_given r result) (sym (result_is (history c before) t p u (tree_is c before p a e group) o it.one (here ∙ sym (group_is c e group before)))) ∙ given.0);
  there = ap (is_stored_within before e) there ∙ (sym (a.epochs.joined e it.one.grant.ss) ∙ joined.0);
  step = record { call = by.call.id; owned = owned; step = call_in c before p a e by.call.id by.call by.found by.inside; asked = asks_back c before p a by.call.id by.call by.found (want.Do i o) asked refl };
}
  where
    u : Epoch
    u = epoch_at p e

    group : ℕ
    group = granted_group before e i

    t : state.TreeState
    t = tree_of c e group before

    asks_it : OpenInstance → Bool
    asks_it x = is_asked c p u (acts u.id x n) (want.Do i o)

    it : Named p e i (λ x. (n == x.work.ops + 1) && (is_number u.joined x.grant.ss && (is_given (new.result_on p u o x) result && asks_it x)))
    it = named c before p a e i (λ x. (n == x.work.ops + 1) && (is_number u.joined x.grant.ss && (is_given (new.result_on p u o x) result && asks_it x))) h

    here : it.one.grant.file.group ≡ group
    here = groups it.one it.found

    there : state.instance_in t i ≡ Some (instance_of it.one)
    there = in_tree c before p a e group i it.one it.found here

    numbered : ((n == it.one.work.ops + 1) ≡ true) × ((is_number u.joined it.one.grant.ss && (is_given (new.result_on p u o it.one) result && asks_it it.one)) ≡ true)
    numbered = both_parts (n == it.one.work.ops + 1) (is_number u.joined it.one.grant.ss && (is_given (new.result_on p u o it.one) result && asks_it it.one)) it.so

    joined : (is_number u.joined it.one.grant.ss ≡ true) × ((is_given (new.result_on p u o it.one) result && asks_it it.one) ≡ true)
    joined = both_parts (is_number u.joined it.one.grant.ss) (is_given (new.result_on p u o it.one) result && asks_it it.one) numbered.1

    given : (is_given (new.result_on p u o it.one) result ≡ true) × (asks_it it.one ≡ true)
    given = both_parts (is_given (new.result_on p u o it.one) result) (asks_it it.one) joined.1

    by : Asker p e (acts u.id it.one n) (λ k. same_request (asks c p k) (want.Do i o))
    by = asker c before p a e (acts u.id it.one n) (λ k. same_request (asks c p k) (want.Do i o)) given.1

    asked : asks c p by.call ≡ want.Do i o
    asked = do_back (asks c p by.call) i o by.so

    quiet : has_named before by.call.id ≡ true → ⊥
    quiet g = silent by.call.id g (ap is_request (asks_back c before p a by.call.id by.call by.found (want.Do i o) asked refl))

    st : InstanceStands before p.calls e it.one
    st = stands c before p a e i it.one it.found

    inst_is : it.one.grant.inst ≡ i
    inst_is = serial_eq it.one.grant.inst i (found_passes (is_named i) u.opened it.one it.found)

    owned : call_of_act before e i n ≡ Some by.call.id
    owned = ap (λ j. call_of_act before e j n) (sym inst_is) ∙ owner_back before p.calls e it.one st (use_number (uses_of before e it.one.grant.inst) n) by.call (is_use e it.one n by.call)
        ((each_found (HasTurn before e it.one) (is_id by.call.id) p.calls by.call by.found st.turns).0 n) (inl quiet)
        (sym (acts_as e it.one n by.call) ∙ (ap (λ z. acts z it.one n by.call) (sym (id_at p e)) ∙ by.which_so))

-- Releases.

pub back_release : (c : Config) (before : Trace) (p : Past) (e : EpochId) (i : Serial) (f : FileId) (stamp : Option Stamp) → Agrees c before p → AnsweredAskNothing c before → may_follow c p (says.Release e i f stamp) ≡ true → MayRelease c before e i f stamp
back_release c before p e i f stamp a silent h = record {
  gives = ap (instance_ends (history c before) t f stamp) there ∙ both (same_file it.one.grant.file f) (same_version stamp it.one.work.committed && (not it.one.work.owes || working.is_spent (history c before) t (instance_of it.one))) file.0
      (both (same_version stamp it.one.work.committed) (not it.one.work.owes || working.is_spent (history c before) t (instance_of it.one)) version.0
      (ap (λ b. not it.one.work.owes || b) (sym (spent_is (history c before) t p u (tree_is c before p a e f.group) it.one (here ∙ sym (group_is c e f.group before)))) ∙ free.0));
  served = synced_as c before p e f.group a ∙ served.0;
  step = record { call = by.call.id; owned = owned; step = call_in c before p a e by.call.id by.call by.found by.inside; asked = asks_back c before p a by.call.id by.call by.found (want.Close i) asked refl };
}
  where
    u : Epoch
    u = epoch_at p e

    t : state.TreeState
    t = tree_of c e f.group before

    asks_it : OpenInstance → Bool
    asks_it x = is_asked c p u (ends u.id x) (want.Close i)

    is_free : OpenInstance → Bool
    is_free x = not x.work.owes || new.is_spent p u x

    passes : OpenInstance → Bool
    passes x = same_file x.grant.file f && (same_version stamp x.work.committed && (is_free x && asks_it x))

    served : (is_synced c u f.group ≡ true) × (list_any (λ x. is_named i x && passes x) u.opened ≡ true)
    served = both_parts (is_synced c u f.group) (list_any (λ x. is_named i x && passes x) u.opened) h

    it : Named p e i passes
    it = named c before p a e i passes served.1

    file : (same_file it.one.grant.file f ≡ true) × ((same_version stamp it.one.work.committed && (is_free it.one && asks_it it.one)) ≡ true)
    file = both_parts (same_file it.one.grant.file f) (same_version stamp it.one.work.committed && (is_free it.one && asks_it it.one)) it.so

    version : (same_version stamp it.one.work.committed ≡ true) × ((is_free it.one && asks_it it.one) ≡ true)
    version = both_parts (same_version stamp it.one.work.committed) (is_free it.one && asks_it it.one) file.1

    free : (is_free it.one ≡ true) × (asks_it it.one ≡ true)
    free = both_parts (is_free it.one) (asks_it it.one) version.1

    here : it.one.grant.file.group ≡ f.group
    here = number_eq it.one.grant.file.group f.group (both_parts (it.one.grant.file.group == f.group) (it.one.grant.file.ino == f.ino) file.0).0

    there : state.instance_in t i ≡ Some (instance_of it.one)
    there = in_tree c before p a e f.group i it.one it.found here

    by : Asker p e (ends u.id it.one) (λ k. same_request (asks c p k) (want.Close i))
    by = asker c before p a e (ends u.id it.one) (λ k. same_request (asks c p k) (want.Close i)) free.1

    asked : asks c p by.call ≡ want.Close i
    asked = close_back (asks c p by.call) i by.so

    quiet : has_named before by.call.id ≡ true → ⊥
    quiet g = silent by.call.id g (ap is_request (asks_back c before p a by.call.id by.call by.found (want.Close i) asked refl))

    st : InstanceStands before p.calls e it.one
    st = stands c before p a e i it.one it.found

    inst_is : it.one.grant.inst ≡ i
    inst_is = serial_eq it.one.grant.inst i (found_passes (is_named i) u.opened it.one it.found)

    owned : call_of_release before e i ≡ Some by.call.id
    owned = ap (call_of_release before e) (sym inst_is) ∙ owner_back before p.calls e it.one st (close_of before e it.one.grant.inst) by.call (is_on by.call.begins e it.one.grant.inst && is_close by.call.words)
        ((each_found (CallStands before) (is_id by.call.id) p.calls by.call by.found a.calls.stand).0.closes e it.one.grant.inst) (inl quiet)
        (ap (λ z. ends z it.one by.call) (sym (id_at p e)) ∙ by.which_so)
