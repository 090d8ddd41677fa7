-- The rows of opens, of operations and of releases: a record that comes by the rows of the lawful trace may follow what the
-- records so far tell.
use Rattle.std.proofs.Common.{◌≡◌, ℕ, ◌+◌, ◌==◌, ◌≤◌, Bool, true, false, not, cond, ◌&&◌, ◌||◌, List, [], ◌∷◌, length, Option, Some, None, refl, sym, ap, subst, ◌∙◌, arith}
use Rattle.std.specs.Prelude.{nat_le}
use Rattle.std.specs.List.{find, list_any}
use Rattle.std.specs.Option.{option_map, is_none}
use Rattle.std.proofs.lemmas.Bool.{leb-true}
use Rattle.locus_ids.specs.Sizes.{sites_max}
use Rattle.locus_ids.specs.declared.config.Config.{Config}
use Rattle.locus_ids.specs.declared.ids.CallId.{CallId}
use Rattle.locus_ids.specs.declared.ids.EpochId.{EpochId}
use Rattle.locus_ids.specs.declared.ids.FileId.{FileId}
use Rattle.locus_ids.specs.declared.ids.Kind.{Kind}
use Rattle.locus_ids.specs.declared.ids.Kind.TheVariants as kind
use Rattle.locus_ids.specs.declared.ids.Mode.{Mode}
use Rattle.locus_ids.specs.declared.ids.Mode.TheVariants as mode
use Rattle.locus_ids.specs.declared.ids.Stamp.{Stamp}
use Rattle.locus_ids.specs.declared.refusal.Refusal.{Refusal}
use Rattle.locus_ids.specs.declared.refusal.Refusal.TheVariants.{NoInode}
use Rattle.commit_graph.specs.Versions.{same_file}
use Rattle.tree_model.specs.declared.instance.Granted.{Granted}
use Rattle.tree_model.specs.declared.instance.Instance.{Instance}
use Rattle.tree_model.specs.Folds.{Trace}
use Rattle.tree_model.specs.Histories.{history}
use Rattle.tree_model.specs.Opening as old
use Rattle.tree_model.specs.Same.{same_version, same_refusal, is_no_inode}
use Rattle.tree_model.specs.State as state
use Rattle.tree_model.specs.Tree.{tree_of}
use Rattle.tree_model.specs.Working.{list_of}
use Rattle.promises.specs.Past.{Past, Epoch, CallSoFar, Instance as OpenInstance, epoch_at, is_number}
use Rattle.promises.specs.Tree as new
use Rattle.promises.specs.After.{is_id}
use Rattle.past_laws.specs.Agreement.{Agrees, instance_of, waiting_as}
use Rattle.past_laws.proofs.Names.{number_eq, number_own, false_true, both, both_parts, none_some, some_same, call_eq}
use Rattle.past_laws.proofs.TreesFolds.{group_is}
use Rattle.past_laws.proofs.TreesLists.{found_wider, found_then, any_one, number_test, found_passes}
use Rattle.past_laws.proofs.TreesPages.{tree_is}
use Rattle.std.specs.Str.{bytes_eq}
use Rattle.locus_ids.specs.declared.ids.Serial.{Serial}
use Rattle.trace_book.specs.Same.{same_serial}
use Rattle.trace_book.specs.declared.operation.Op.{Op}
use Rattle.trace_book.specs.declared.operation.Op.TheVariants as op
use Rattle.trace_book.specs.declared.operation.Outcome.{Outcome}
use Rattle.trace_book.specs.declared.record.Record.TheVariants as says
use Rattle.call_rules.specs.declared.want.Want.{Want}
use Rattle.call_rules.specs.declared.want.Want.TheVariants as want
use Rattle.tree_model.specs.declared.accepted.Waiting.{Waiting}
use Rattle.tree_model.specs.Epochs.{is_in, has_joined}
use Rattle.tree_model.specs.Given.{instance_gives, instance_ends, refuses, is_unnumbered}
use Rattle.tree_model.specs.Same.{same_kind, is_given}
use Rattle.tree_model.specs.Working as working
use Rattle.promises.specs.of_lawful_trace.Lawful.{MayCome}
use Rattle.promises.specs.of_lawful_trace.Progress.{answers, wants_after, wants_next}
use Rattle.promises.specs.of_lawful_trace.Tables.{is_call}
use Rattle.promises.specs.of_lawful_trace.TreeRows.{IsCallIn, MayOpen, granted_group, is_open_of, is_stored_within}
use Rattle.promises.specs.Past.{acts, asks, ends, is_named}
use Rattle.promises.specs.Same.{same_op, same_request}
use Rattle.promises.specs.Rows.{may_follow, is_asked, is_step_of, is_refused, is_synced, asks_open}
use Rattle.past_laws.specs.Agreement.{is_of_cluster}
use Rattle.past_laws.proofs.CallsAsks.{request_as, is_request}
use Rattle.past_laws.proofs.CallsOwners.{actor_is, ender_is}
use Rattle.past_laws.proofs.Names.{call_test, epoch_own, serial_own}
use Rattle.past_laws.proofs.RowsServed.{synced_as}
use Rattle.past_laws.proofs.TreesAt.{id_at}
use Rattle.past_laws.proofs.TreesLists.{any_reverse, all_found, find_both}
use Rattle.past_laws.proofs.TreesNumbers.{lacks_are, placed_so}
use Rattle.past_laws.proofs.TreesOpened.{instance_is, is_in_group}
use Rattle.past_laws.proofs.TreesOpening.{place_is, refusal_is}
use Rattle.past_laws.proofs.TreesWorking.{result_is, spent_is}

-- An accepted call.

pub record Accepted (before : Trace) (p : Past) (e : EpochId) (id : CallId) : Type 0 where
  pub call : CallSoFar
  pub found : find (is_id id) p.calls ≡ Some call
  pub inside : is_in call.epoch e ≡ true

pub accepted : (c : Config) (before : Trace) (p : Past) → Agrees c before p → (e : EpochId) (id : CallId) → IsCallIn before e id → Accepted before p e id
accepted c before p a e id k = at (find (is_id id) p.calls) refl
  where
    at : (o : Option CallSoFar) → find (is_id id) p.calls ≡ o → Accepted before p e id
    at None h = none_some k.accepted (ap (option_map waiting_as) (sym h) ∙ (a.calls.named id ∙ k.named))
    at (Some x) h = record {
      call = x;
      found = h;
      inside = ap (λ o. is_in o e) (ap (λ (w : Waiting). w.epoch) (some_same (waiting_as x) k.accepted (ap (option_map waiting_as) (sym h) ∙ (a.calls.named id ∙ k.named))) ∙ k.made_in) ∙ epoch_own e;
    }

pub own_call : (p : Past) (id : CallId) (k : CallSoFar) → find (is_id id) p.calls ≡ Some k → k.id ≡ id
own_call p id k h = call_eq k.id id (found_passes (is_id id) p.calls k h)

-- what the folds say that it asks, it asks
pub asks_so : (c : Config) (before : Trace) (p : Past) → Agrees c before p → (id : CallId) (k : CallSoFar) → find (is_id id) p.calls ≡ Some k → (w : Want) → wants_next c before id ≡ w → is_request w ≡ true → asks c p k ≡ w
asks_so c before p a id k found w h r = request_as c before p a k own_found k.answers w (ap (wants_after c before k.id) (a.calls.answers k own_found) ∙ (ap (λ d. wants_next c before d) (own_call p id k found) ∙ h)) r
  where
    own_found : find (is_id k.id) p.calls ≡ Some k
    own_found = ap (λ d. find (is_id d) p.calls) (own_call p id k found) ∙ found

pub answered_as : (c : Config) (before : Trace) (p : Past) → Agrees c before p → (id : CallId) (k : CallSoFar) → find (is_id id) p.calls ≡ Some k → k.answers ≡ answers c before id
answered_as c before p a id k found = a.calls.answers k (ap (λ d. find (is_id d) p.calls) (own_call p id k found) ∙ found) ∙ ap (answers c before) (own_call p id k found)

-- Requests are the same as themselves.

bytes_own : (bs : List ℕ) → bytes_eq bs bs ≡ true
bytes_own [] = refl
bytes_own (b ∷ bs) = both (b == b) (bytes_eq bs bs) (number_own b) (bytes_own bs)

kind_own : (k : Kind) → same_kind k k ≡ true
kind_own kind.File = refl
kind_own kind.Dir = refl

op_own : (o : Op) → same_op o o ≡ true
op_own (op.Probe name) = bytes_own name
op_own (op.Find name) = bytes_own name
op_own (op.Insert name ino k) = both (bytes_eq name name) ((ino == ino) && same_kind k k) (bytes_own name) (both (ino == ino) (same_kind k k) (number_own ino) (kind_own k))
op_own (op.Remove name ino) = both (bytes_eq name name) (ino == ino) (bytes_own name) (number_own ino)
op_own (op.Rename a b) = both (bytes_eq a a) (bytes_eq b b) (bytes_own a) (bytes_own b)
op_own op.Empty = refl
op_own (op.Read at len) = both (at == at) (len == len) (number_own at) (number_own len)
op_own (op.Write at bytes) = both (at == at) (bytes_eq bytes bytes) (number_own at) (bytes_own bytes)
op_own (op.Cut len) = number_own len
op_own op.Commit = refl
op_own op.Abort = refl
op_own op.Mend = refl

-- Some call of the epoch asks it.
asked_so : (c : Config) (before : Trace) (p : Past) → Agrees c before p → (e : EpochId) (id : CallId) → IsCallIn before e id → (which : CallSoFar → Bool) (w : Want) → ((k : CallSoFar) → find (is_id id) p.calls ≡ Some k → which k ≡ true) → wants_next c before id ≡ w → is_request w ≡ true → same_request w w ≡ true → is_asked c p (epoch_at p e) which w ≡ true
asked_so c before p a e id step which w owned h r same = found_then (is_id id) (λ (k : CallSoFar). which k && (is_in k.epoch (epoch_at p e).id && same_request (asks c p k) w)) p.calls it.call it.found
    (both (which it.call) (is_in it.call.epoch (epoch_at p e).id && same_request (asks c p it.call) w) (owned it.call it.found)
    (both (is_in it.call.epoch (epoch_at p e).id) (same_request (asks c p it.call) w) (ap (is_in it.call.epoch) (id_at p e) ∙ it.inside)
    (ap (λ x. same_request x w) (asks_so c before p a id it.call it.found w h r) ∙ same)))
  where
    it : Accepted before p e id
    it = accepted c before p a e id step

-- The open instance of a name.

pub record Opened (p : Past) (e : EpochId) (group : ℕ) (i : Serial) (y : Instance) : Type 0 where
  pub one : OpenInstance
  pub found : find (is_named i) (epoch_at p e).opened ≡ Some one
  pub is : instance_of one ≡ y
  pub here : one.grant.file.group ≡ group

pub opened : (c : Config) (before : Trace) (p : Past) → Agrees c before p → (e : EpochId) (group : ℕ) (i : Serial) (y : Instance) → state.instance_in (tree_of c e group before) i ≡ Some y → Opened p e group i y
opened c before p a e group i y h = at (find (λ x. is_named i x && is_in_group group x) xs) refl
  where
    xs : List OpenInstance
    xs = (epoch_at p e).opened

    tree : option_map instance_of (find (λ x. is_named i x && is_in_group group x) xs) ≡ Some y
    tree = ap (option_map instance_of) (sym (find_both (is_named i) (is_in_group group) xs)) ∙ (sym (instance_is c before p a e group i) ∙ h)

    at : (o : Option OpenInstance) → find (λ x. is_named i x && is_in_group group x) xs ≡ o → Opened p e group i y
    at None f = none_some y (sym (ap (option_map instance_of) f) ∙ tree)
    at (Some x) f = (let parts : (is_named i x ≡ true) × (is_in_group group x ≡ true) = both_parts (is_named i x) (is_in_group group x) (found_passes (λ z. is_named i z && is_in_group group z) xs x f)
        in record { one = x; found = found_wider (is_named i) (is_in_group group) xs x (a.trees.one_named e i) f; is = some_same (instance_of x) y (sym (ap (option_map instance_of) f) ∙ tree); here = number_eq x.grant.file.group group parts.1 })

-- Operations.

pub row_act : (c : Config) (before : Trace) (p : Past) (e : EpochId) (i : Serial) (n : ℕ) (o : Op) (result : Outcome) → MayCome c before (says.Act e i n o result) → Agrees c before p → may_follow c p (says.Act e i n o result) ≡ true
row_act c before p e i n o result may a = at (state.instance_in t i) refl may.gives may.there
  where
    group : ℕ
    group = granted_group before e i

    t : state.TreeState
    t = tree_of c e group before

    u : Epoch
    u = epoch_at p e

    owned : (x : OpenInstance) → find (is_named i) u.opened ≡ Some x → (k : CallSoFar) → find (is_id may.step.call) p.calls ≡ Some k → acts u.id x n k ≡ true
    owned x found k here = sym (any_one (is_named i) (λ y. acts u.id y n k) u.opened x (a.trees.one_named e i) found)
        ∙ (actor_is c before p e i n o result may a k (ap (λ d. find (is_id d) p.calls) (own_call p may.step.call k here) ∙ here)
        ∙ (ap (λ x. is_call x k.id) may.step.owned ∙ call_test may.step.call k.id (sym (own_call p may.step.call k here))))

    at : (y : Option Instance) → state.instance_in t i ≡ y → instance_gives (history c before) t n o result y ≡ true → is_stored_within before e y ≡ true → may_follow c p (says.Act e i n o result) ≡ true
    at None h g s = false_true g
    at (Some y) h g s = found_then (is_named i) (λ x. is_named i x && ((n == x.work.ops + 1) && (is_number u.joined x.grant.ss && (is_given (new.result_on p u o x) result && is_asked c p u (acts u.id x n) (want.Do i o))))) u.opened it.one it.found
        (both (is_named i it.one) ((n == it.one.work.ops + 1) && (is_number u.joined it.one.grant.ss && (is_given (new.result_on p u o it.one) result && is_asked c p u (acts u.id it.one n) (want.Do i o)))) (found_passes (is_named i) u.opened it.one it.found)
        (both (n == it.one.work.ops + 1) (is_number u.joined it.one.grant.ss && (is_given (new.result_on p u o it.one) result && is_asked c p u (acts u.id it.one n) (want.Do i o))) (ap (λ (z : Instance). n == z.work.ops + 1) it.is ∙ parts.0)
        (both (is_number u.joined it.one.grant.ss) (is_given (new.result_on p u o it.one) result && is_asked c p u (acts u.id it.one n) (want.Do i o)) (a.epochs.joined e it.one.grant.ss ∙ (ap (λ (z : Instance). has_joined before z.grant.ss e) it.is ∙ s))
        (both (is_given (new.result_on p u o it.one) result) (is_asked c p u (acts u.id it.one n) (want.Do i o))
        (ap (λ r. is_given r result) (result_is (history c before) t p u (tree_is c before p a e group) o it.one (it.here ∙ sym (group_is c e group before)) ∙ ap (working.result_on (history c before) t o) it.is) ∙ parts.1)
        (asked_so c before p a e may.step.call may.step.step (acts u.id it.one n) (want.Do i o) (owned it.one it.found) may.step.asked refl (both (same_serial i i) (same_op o o) (serial_own i) (op_own o)))))))
      where
        it : Opened p e group i y
        it = opened c before p a e group i y h

        parts : ((n == y.work.ops + 1) ≡ true) × (is_given (working.result_on (history c before) t o y) result ≡ true)
        parts = both_parts (n == y.work.ops + 1) (is_given (working.result_on (history c before) t o y) result) g

-- Releases.

pub row_release : (c : Config) (before : Trace) (p : Past) (e : EpochId) (i : Serial) (f : FileId) (stamp : Option Stamp) → MayCome c before (says.Release e i f stamp) → Agrees c before p → may_follow c p (says.Release e i f stamp) ≡ true
row_release c before p e i f stamp may a = both (is_synced c u f.group) (list_any passes u.opened) (sym (synced_as c before p e f.group a) ∙ may.served) (at (state.instance_in t i) refl may.gives)
  where
    t : state.TreeState
    t = tree_of c e f.group before

    u : Epoch
    u = epoch_at p e

    asked : OpenInstance → Bool
    asked x = is_asked c p u (ends u.id x) (want.Close i)

    free : OpenInstance → Bool
    free x = not x.work.owes || new.is_spent p u x

    passes : OpenInstance → Bool
    passes x = is_named i x && (same_file x.grant.file f && (same_version stamp x.work.committed && (free x && asked x)))

    owned : (x : OpenInstance) → find (is_named i) u.opened ≡ Some x → (k : CallSoFar) → find (is_id may.step.call) p.calls ≡ Some k → ends u.id x k ≡ true
    owned x found k here = sym (any_one (is_named i) (λ y. ends u.id y k) u.opened x (a.trees.one_named e i) found)
        ∙ (ender_is c before p e i f stamp may a k (ap (λ d. find (is_id d) p.calls) (own_call p may.step.call k here) ∙ here)
        ∙ (ap (λ x. is_call x k.id) may.step.owned ∙ call_test may.step.call k.id (sym (own_call p may.step.call k here))))

    at : (y : Option Instance) → state.instance_in t i ≡ y → instance_ends (history c before) t f stamp y ≡ true → list_any passes u.opened ≡ true
    at None h g = false_true g
    at (Some y) h g = found_then (is_named i) passes u.opened it.one it.found
        (both (is_named i it.one) (same_file it.one.grant.file f && (same_version stamp it.one.work.committed && (free it.one && asked it.one))) (found_passes (is_named i) u.opened it.one it.found)
        (both (same_file it.one.grant.file f) (same_version stamp it.one.work.committed && (free it.one && asked it.one)) (ap (λ (z : Instance). same_file z.grant.file f) it.is ∙ outer.0)
        (both (same_version stamp it.one.work.committed) (free it.one && asked it.one) (ap (λ (z : Instance). same_version stamp z.work.committed) it.is ∙ parts.0)
        (both (free it.one) (asked it.one) (ap (λ b. not it.one.work.owes || b) (spent_is (history c before) t p u (tree_is c before p a e f.group) it.one (it.here ∙ sym (group_is c e f.group before))) ∙ (ap (λ (z : Instance). not z.work.owes || working.is_spent (history c before) t z) it.is ∙ parts.1))
        (asked_so c before p a e may.step.call may.step.step (ends u.id it.one) (want.Close i) (owned it.one it.found) may.step.asked refl (serial_own i))))))
      where
        it : Opened p e f.group i y
        it = opened c before p a e f.group i y h

        outer : (same_file y.grant.file f ≡ true) × ((same_version stamp y.work.committed && (not y.work.owes || working.is_spent (history c before) t y)) ≡ true)
        outer = both_parts (same_file y.grant.file f) (same_version stamp y.work.committed && (not y.work.owes || working.is_spent (history c before) t y)) g

        parts : (same_version stamp y.work.committed ≡ true) × ((not y.work.owes || working.is_spent (history c before) t y) ≡ true)
        parts = both_parts (same_version stamp y.work.committed) (not y.work.owes || working.is_spent (history c before) t y) outer.1

-- Opens.

pub open_request : (m : Mode) (f : FileId) (w : Want) → is_open_of m f w ≡ true → is_request w ≡ true
open_request mode.Read f (want.Give r) h = h
open_request mode.Write f (want.Give r) h = h
open_request mode.Resolve f (want.Give r) h = h
open_request mode.Mend f (want.Give r) h = h
open_request mode.Make f (want.Give r) h = h
open_request mode.Read f want.Never h = h
open_request mode.Write f want.Never h = h
open_request mode.Resolve f want.Never h = h
open_request mode.Mend f want.Never h = h
open_request mode.Make f want.Never h = h
open_request m f w h = refl

-- an open is the call's next request
open_so : (c : Config) (before : Trace) (p : Past) → Agrees c before p → (e : EpochId) (id : CallId) (request : ℕ) (m : Mode) (f : FileId) → MayOpen c before e id request m f → (passes : CallSoFar → Bool) → ((k : CallSoFar) → find (is_id id) p.calls ≡ Some k → passes k ≡ true) → is_step_of p (epoch_at p e) id (λ k. asks_open c p request m f k && passes k) ≡ true
open_so c before p a e id request m f may passes h = found_then (is_id id) (λ (k : CallSoFar). is_id id k && (is_in k.epoch (epoch_at p e).id && (asks_open c p request m f k && passes k))) p.calls it.call it.found
    (both (is_id id it.call) (is_in it.call.epoch (epoch_at p e).id && (asks_open c p request m f it.call && passes it.call)) (found_passes (is_id id) p.calls it.call it.found)
    (both (is_in it.call.epoch (epoch_at p e).id) (asks_open c p request m f it.call && passes it.call) (ap (is_in it.call.epoch) (id_at p e) ∙ it.inside)
    (both (asks_open c p request m f it.call) (passes it.call)
    (both (request == length it.call.answers + 1) (is_open_of m f (asks c p it.call)) (number_test request (length it.call.answers + 1) (may.numbered ∙ ap (λ xs. length xs + 1) (sym (answered_as c before p a id it.call it.found))))
    (ap (is_open_of m f) (asks_so c before p a id it.call it.found (wants_next c before id) refl (open_request m f (wants_next c before id) may.asked)) ∙ may.asked))
    (h it.call it.found))))
  where
    it : Accepted before p e id
    it = accepted c before p a e id may.step

-- the site of a call is one of those that there may be
pub record Within (site : ℕ) : Type 0 where
  pub low : 1 ≤ site
  pub high : site ≤ sites_max

pub site_of : (c : Config) (before : Trace) (p : Past) → c.sites ≤ sites_max → Agrees c before p → (id : CallId) (k : CallSoFar) → find (is_id id) p.calls ≡ Some k → Within id.site
site_of c before p few a id k found = (let parts : (nat_le 1 k.id.site ≡ true) × (nat_le k.id.site c.sites ≡ true) = both_parts (nat_le 1 k.id.site) (nat_le k.id.site c.sites) (all_found (λ (x : CallSoFar). is_of_cluster c x.id.site) (is_id id) p.calls k a.trees.callers found)
    in subst (λ (d : CallId). Within d.site) (own_call p id k found) (record { low = leb-true 1 k.id.site parts.0; high = up k.id.site c.sites few (leb-true k.id.site c.sites parts.1) }))
  where
    up : (x y : ℕ) → y ≤ sites_max → x ≤ y → x ≤ sites_max
    up x y h k = omega arith

pub row_grant : (c : Config) (before : Trace) (p : Past) (e : EpochId) (id : CallId) (request : ℕ) (i : Serial) (m : Mode) (f : FileId) (stamp : Option Stamp) (ss : ℕ) → c.sites ≤ sites_max → MayCome c before (says.Grant e id request i m f stamp ss) → Agrees c before p → may_follow c p (says.Grant e id request i m f stamp ss) ≡ true
row_grant c before p e id request i m f stamp ss few may a =
    both (is_number u.started f.group) (is_synced c u f.group && (is_number u.joined ss && ((i.us == id.site) && (fresh && stepped)))) (a.trees.started e f.group ∙ g1.0)
    (both (is_synced c u f.group) (is_number u.joined ss && ((i.us == id.site) && (fresh && stepped))) (sym (synced_as c before p e f.group a) ∙ may.opens.served)
    (both (is_number u.joined ss) ((i.us == id.site) && (fresh && stepped)) (a.epochs.joined e ss ∙ may.there)
    (both (i.us == id.site) (fresh && stepped) g3.0
    (both fresh stepped (ap not (sym (any_reverse (λ (g : Granted). same_serial g.inst i) u.granted) ∙ ap (list_any (λ (g : Granted). same_serial g.inst i)) (a.trees.granted e f.group)) ∙ g4.0)
    (open_so c before p a e id request m f may.opens (λ k. is_none (new.open_refusal c p u k m f) && new.is_placed c p u k m f stamp ss) passes)))))
  where
    t : state.TreeState
    t = tree_of c e f.group before

    u : Epoch
    u = epoch_at p e

    fresh : Bool
    fresh = not (list_any (λ (g : Granted). same_serial g.inst i) u.granted)

    stepped : Bool
    stepped = is_step_of p u id (λ k. asks_open c p request m f k && (is_none (new.open_refusal c p u k m f) && new.is_placed c p u k m f stamp ss))

    g1 : (t.started ≡ true) × ((is_none (old.open_refusal (history c before) t m id f) && ((i.us == id.site) && (not (state.is_granted t i) && old.is_placed (history c before) t id m f stamp ss))) ≡ true)
    g1 = both_parts t.started (is_none (old.open_refusal (history c before) t m id f) && ((i.us == id.site) && (not (state.is_granted t i) && old.is_placed (history c before) t id m f stamp ss))) may.gives

    g2 : (is_none (old.open_refusal (history c before) t m id f) ≡ true) × (((i.us == id.site) && (not (state.is_granted t i) && old.is_placed (history c before) t id m f stamp ss)) ≡ true)
    g2 = both_parts (is_none (old.open_refusal (history c before) t m id f)) ((i.us == id.site) && (not (state.is_granted t i) && old.is_placed (history c before) t id m f stamp ss)) g1.1

    g3 : ((i.us == id.site) ≡ true) × ((not (state.is_granted t i) && old.is_placed (history c before) t id m f stamp ss) ≡ true)
    g3 = both_parts (i.us == id.site) (not (state.is_granted t i) && old.is_placed (history c before) t id m f stamp ss) g2.1

    g4 : (not (state.is_granted t i) ≡ true) × (old.is_placed (history c before) t id m f stamp ss ≡ true)
    g4 = both_parts (not (state.is_granted t i)) (old.is_placed (history c before) t id m f stamp ss) g3.1

    passes : (k : CallSoFar) → find (is_id id) p.calls ≡ Some k → (is_none (new.open_refusal c p u k m f) && new.is_placed c p u k m f stamp ss) ≡ true
    passes k found = (let site : Within id.site = site_of c before p few a id k found
        in both (is_none (new.open_refusal c p u k m f)) (new.is_placed c p u k m f stamp ss) (ap is_none (refusal_is c before p a e m f id k found site.low site.high) ∙ g2.0) (placed_so c before p a e id k found m f stamp ss g4.1))

inode_is : (why : Refusal) → same_refusal why NoInode ≡ is_no_inode why
inode_is NoInode = refl
inode_is why = refl

-- what refuses an open, by both
pub refused_is : (c : Config) (before : Trace) (p : Past) → Agrees c before p → (e : EpochId) (m : Mode) (f : FileId) (why : Refusal) (id : CallId) (k : CallSoFar) → find (is_id id) p.calls ≡ Some k → Within id.site → is_refused c p (epoch_at p e) m f why k ≡ refuses (history c before) (tree_of c e f.group before) id m f why (old.open_refusal (history c before) (tree_of c e f.group before) m id f)
refused_is c before p a e m f why id k found site = by_refusal (new.open_refusal c p u k m f) refl ∙ ap (refuses (history c before) t id m f why) (refusal_is c before p a e m f id k found site.low site.high)
  where
    t : state.TreeState
    t = tree_of c e f.group before

    u : Epoch
    u = epoch_at p e

    lacks : list_any (new.lacks_numbers c p u f.group) (new.place_for c u f.group k) ≡ old.lacks_numbers t (old.making_site t id)
    lacks = ap (list_any (new.lacks_numbers c p u f.group)) (place_is c before p a e f.group id k found) ∙ lacks_are c before p a e f.group (old.making_site t id)

    by_refusal : (o : Option Refusal) → new.open_refusal c p u k m f ≡ o → is_refused c p u m f why k ≡ refuses (history c before) t id m f why (new.open_refusal c p u k m f)
    by_refusal None h = rw (h, is_refused) (ap (λ b. state.is_make m && (b && list_any (new.lacks_numbers c p u f.group) (new.place_for c u f.group k))) (inode_is why) ∙ ap (λ b. state.is_make m && (is_no_inode why && b)) lacks)
    by_refusal (Some r) h = rw (h, is_refused) refl

pub row_refuse : (c : Config) (before : Trace) (p : Past) (e : EpochId) (id : CallId) (request : ℕ) (i : Serial) (m : Mode) (f : FileId) (why : Refusal) → c.sites ≤ sites_max → MayCome c before (says.Refuse e id request i m f why) → Agrees c before p → may_follow c p (says.Refuse e id request i m f why) ≡ true
row_refuse c before p e id request i m f why few may a =
    both (is_number u.started f.group) (is_synced c u f.group && (unnumbered && stepped)) (a.trees.started e f.group ∙ g1.0)
    (both (is_synced c u f.group) (unnumbered && stepped) (sym (synced_as c before p e f.group a) ∙ may.opens.served)
    (both unnumbered stepped (or_cond (state.is_make m) (f.ino == 0) ∙ g2.0) (open_so c before p a e id request m f may.opens (is_refused c p u m f why) passes)))
  where
    t : state.TreeState
    t = tree_of c e f.group before

    u : Epoch
    u = epoch_at p e

    unnumbered : Bool
    unnumbered = not (state.is_make m) || (f.ino == 0)

    stepped : Bool
    stepped = is_step_of p u id (λ k. asks_open c p request m f k && is_refused c p u m f why k)

    or_cond : (b d : Bool) → (not b || d) ≡ cond b d true
    or_cond true d = refl
    or_cond false d = refl

    g1 : (t.started ≡ true) × ((is_unnumbered m f && refuses (history c before) t id m f why (old.open_refusal (history c before) t m id f)) ≡ true)
    g1 = both_parts t.started (is_unnumbered m f && refuses (history c before) t id m f why (old.open_refusal (history c before) t m id f)) may.gives

    g2 : (is_unnumbered m f ≡ true) × (refuses (history c before) t id m f why (old.open_refusal (history c before) t m id f) ≡ true)
    g2 = both_parts (is_unnumbered m f) (refuses (history c before) t id m f why (old.open_refusal (history c before) t m id f)) g1.1

    passes : (k : CallSoFar) → find (is_id id) p.calls ≡ Some k → is_refused c p u m f why k ≡ true
    passes k found = (let site : Within id.site = site_of c before p few a id k found
        in refused_is c before p a e m f why id k found site ∙ g2.1)
