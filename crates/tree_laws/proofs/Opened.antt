-- An open instance stays open, where it was granted, until it is released; its work goes on by its own operations and commits.
use Rattle.std.proofs.Common.{◌≡◌, ℕ, ◌==◌, Bool, true, false, cond, ◌&&◌, List, [], ◌∷◌, ◌++◌, Option, Some, None, refl, sym, ◌∙◌, ap, subst, ◌⊎◌, inl, inr, ⊎_elim}
use Rattle.std.specs.List.{find}
use Rattle.the_run.proofs.of_plain_facts.Options.{some_same}
use Rattle.the_run.proofs.of_plain_facts.Tests.{true_false}
use Rattle.locus_ids.specs.declared.ids.CallId.{CallId}
use Rattle.locus_ids.specs.declared.ids.EpochId.{EpochId}
use Rattle.locus_ids.specs.declared.ids.FileId.{FileId}
use Rattle.locus_ids.specs.declared.sites.Members.{Members}
use Rattle.locus_ids.specs.declared.ids.Mode.{Mode}
use Rattle.locus_ids.specs.declared.ids.Serial.{Serial}
use Rattle.locus_ids.specs.declared.ids.Stamp.{Stamp}
use Rattle.commit_graph.specs.declared.history.Version.{Version}
use Rattle.trace_book.specs.Same.{same_epoch, same_serial}
use Rattle.trace_book.specs.declared.operation.Op.{Op}
use Rattle.trace_book.specs.declared.operation.Outcome.{Outcome}
use Rattle.trace_book.specs.declared.record.Record.{Record}
use Rattle.trace_book.specs.declared.record.Record.TheVariants as says
use Rattle.lawful_trace.specs.of_tree_model.declared.instance.Instance.{Instance}
use Rattle.lawful_trace.specs.of_tree_model.declared.instance.Granted.{Granted}
use Rattle.lawful_trace.specs.of_tree_model.Lists.{change_first}
use Rattle.lawful_trace.specs.of_tree_model.State.{TreeState, instance_in, is_named, is_writer, is_inside, is_granted_here, is_make}
use Rattle.lawful_trace.specs.of_tree_model.Tree.{next, joined, left, grant_of, opened, once_committed, once_acted, without_make}
use Rattle.tree_laws.proofs.Finds.{IsChanged, find_changed, find_added, find_without}
use Rattle.tree_laws.proofs.Names.{true_or_false, same_serial_eq, same_epoch_eq}

-- ---- what a record does to the instance with this serial number, in a tree ----

-- the record names the instance of the epoch
abbrev pub OnInstance : EpochId → Serial → EpochId → Serial → Type 0
OnInstance e i at inst = (at ≡ e) × (inst ≡ i)

abbrev pub GrantsIt : EpochId → Serial → Record → Type 0
GrantsIt e i (says.Grant at call request inst m f stamp ss) = OnInstance e i at inst
GrantsIt e i _ = ⊥

abbrev pub EndsIt : EpochId → Serial → Record → Type 0
EndsIt e i (says.Release at inst f stamp) = OnInstance e i at inst
EndsIt e i _ = ⊥

-- it was that instance, and has done its next operation
abbrev pub ActsOn : List Version → TreeState → EpochId → Serial → Instance → Instance → Record → Type 0
ActsOn h t e i old new (says.Act at inst n o result) = OnInstance e i at inst × (new ≡ once_acted h t o result old)
ActsOn h t e i old new _ = ⊥

-- or the instance was committed, as the first of its file that writes at the site
abbrev pub CommitsOn : TreeState → Instance → Instance → Record → Type 0
CommitsOn t old new (says.Commit f s stamp parents content) = (is_inside t s ≡ true) × (is_writer f s old ≡ true) × (new ≡ once_committed stamp old)
CommitsOn t old new _ = ⊥

-- how an instance that was found goes on by a record
abbrev pub GoesOn : List Version → TreeState → EpochId → Serial → Instance → Instance → Record → Type 0
GoesOn h t e i old new r = (new ≡ old) ⊎ (ActsOn h t e i old new r ⊎ CommitsOn t old new r)

pub record Found (h : List Version) (t : TreeState) (i : Serial) (old : Instance) (r : Record) : Type 0 where
  pub new : Instance
  pub found : instance_in (next h r t) i ≡ Some new
  pub grant_same : new.grant ≡ old.grant
  pub goes : GoesOn h t t.epoch i old new r

same_found : (h : List Version) (t : TreeState) (i : Serial) (old : Instance) (r : Record) → instance_in (next h r t) i ≡ instance_in t i → instance_in t i ≡ Some old → Found h t i old r
same_found h t i old r e f = record { new = old; found = e ∙ f; grant_same = refl; goes = inl refl }

-- ---- record by record ----

join_found : (h : List Version) (t : TreeState) (i : Serial) (old : Instance) (s : ℕ) (e : EpochId) (m : Members) → instance_in t i ≡ Some old → Found h t i old (says.Join s e m)
join_found h t i old s e m f = same_found h t i old (says.Join s e m) (over (same_epoch e t.epoch)) f
  where
    over : (b : Bool) → find (is_named i) (cond b (joined s m t) (left s t)).instances ≡ find (is_named i) t.instances
    over true = refl
    over false = refl

grant_found : (h : List Version) (t : TreeState) (i : Serial) (old : Instance) (e : EpochId) (call : CallId) (request : ℕ) (inst : Serial) (m : Mode) (f : FileId) (stamp : Option Stamp) (ss : ℕ) →
    instance_in t i ≡ Some old → Found h t i old (says.Grant e call request inst m f stamp ss)
grant_found h t i old e call request inst m f stamp ss k = record { new = old; found = over (same_epoch e t.epoch) (f.group == t.group); grant_same = refl; goes = inl refl }
  where
    g : Granted
    g = grant_of t call inst m f ss

    over : (a b : Bool) → find (is_named i) (cond a (record t { grants = t.grants ++ g ∷ []; instances = cond b (t.instances ++ opened h g stamp ∷ []) t.instances }) t).instances ≡ Some old
    over true true = find_added (is_named i) t.instances (opened h g stamp ∷ []) old k
    over true false = k
    over false b = k

refuse_found : (h : List Version) (t : TreeState) (i : Serial) (old : Instance) (r : Record) (b : Bool) (u : TreeState) → next h r t ≡ cond b u t → u.instances ≡ t.instances → instance_in t i ≡ Some old → Found h t i old r
refuse_found h t i old r b u e same f = same_found h t i old r (ap (λ (x : TreeState). find (is_named i) x.instances) e ∙ over b) f
  where
    over : (b : Bool) → find (is_named i) (cond b u t).instances ≡ find (is_named i) t.instances
    over true = ap (find (is_named i)) same
    over false = refl

-- what is found has the name
pub found_named : (i : Serial) (xs : List Instance) (x : Instance) → find (is_named i) xs ≡ Some x → x.grant.inst ≡ i
found_named i [] x e = absurd (none e)
  where
    none : ◌≡◌ {A = Option Instance} None (Some x) → ⊥
    none e = cc
found_named i (y ∷ xs) x e = at (found_named i xs x) (is_named i y) refl
  where
    at : (find (is_named i) xs ≡ Some x → x.grant.inst ≡ i) → (b : Bool) → is_named i y ≡ b → x.grant.inst ≡ i
    at later true f = ap (λ (z : Instance). z.grant.inst) (sym (some_same y x (rw f at e))) ∙ same_serial_eq y.grant.inst i f
    at later false f = later (rw f at e)

act_found : (h : List Version) (t : TreeState) (i : Serial) (old : Instance) (e : EpochId) (inst : Serial) (n : ℕ) (o : Op) (result : Outcome) → instance_in t i ≡ Some old → Found h t i old (says.Act e inst n o result)
act_found h t i old e inst n o result k = over (same_epoch e t.epoch && is_granted_here t inst) refl
  where
    both : (a b : Bool) → a && b ≡ true → a ≡ true
    both true b f = refl
    both false b f = absurd (true_false (sym f))

    named : (old.grant.inst ≡ i) → is_named inst old ≡ true → inst ≡ i
    named mine e = sym (same_serial_eq old.grant.inst inst e) ∙ mine

    changed : same_epoch e t.epoch && is_granted_here t inst ≡ true → (find (is_named i) (change_first (is_named inst) (once_acted h t o result) t.instances) ≡ find (is_named i) t.instances) ⊎ IsChanged (is_named i) (is_named inst) (once_acted h t o result) t.instances →
        Found h t i old (says.Act e inst n o result)
    changed b (inl f) = same_found h t i old (says.Act e inst n o result) (rw b f) k
    changed b (inr c) = (let it : c.old ≡ old = some_same c.old old (sym c.was ∙ k) in record {
      new = once_acted h t o result old;
      found = rw b (c.is ∙ ap (λ (x : Instance). Some (once_acted h t o result x)) it);
      grant_same = refl;
      goes = inr (inl ((same_epoch_eq e t.epoch (both (same_epoch e t.epoch) (is_granted_here t inst) b), named (found_named i t.instances old k) (subst (λ (x : Instance). is_named inst x ≡ true) it c.passes)), refl));
    })

    over : (b : Bool) → same_epoch e t.epoch && is_granted_here t inst ≡ b → Found h t i old (says.Act e inst n o result)
    over true b = changed b (find_changed (is_named i) (is_named inst) (once_acted h t o result) (λ x. refl) t.instances)
    over false b = same_found h t i old (says.Act e inst n o result) (rw b refl) k

commit_found : (h : List Version) (t : TreeState) (i : Serial) (old : Instance) (f : FileId) (s : ℕ) (stamp : Stamp) (parents : List Stamp) (content : List ℕ) → instance_in t i ≡ Some old → Found h t i old (says.Commit f s stamp parents content)
commit_found h t i old f s stamp parents content k = over (is_inside t s) refl
  where
    changed : is_inside t s ≡ true → (find (is_named i) (change_first (is_writer f s) (once_committed stamp) t.instances) ≡ find (is_named i) t.instances) ⊎ IsChanged (is_named i) (is_writer f s) (once_committed stamp) t.instances →
        Found h t i old (says.Commit f s stamp parents content)
    changed b (inl e) = same_found h t i old (says.Commit f s stamp parents content) (rw b e) k
    changed b (inr c) = (let it : c.old ≡ old = some_same c.old old (sym c.was ∙ k) in record {
      new = once_committed stamp old;
      found = rw b (c.is ∙ ap (λ (x : Instance). Some (once_committed stamp x)) it);
      grant_same = refl;
      goes = inr (inr (b, subst (λ (x : Instance). is_writer f s x ≡ true) it c.passes, refl));
    })

    over : (b : Bool) → is_inside t s ≡ b → Found h t i old (says.Commit f s stamp parents content)
    over true b = changed b (find_changed (is_named i) (is_writer f s) (once_committed stamp) (λ x. refl) t.instances)
    over false b = same_found h t i old (says.Commit f s stamp parents content) (rw b refl) k

release_found : (h : List Version) (t : TreeState) (i : Serial) (old : Instance) (e : EpochId) (inst : Serial) (f : FileId) (stamp : Option Stamp) → instance_in t i ≡ Some old → Found h t i old (says.Release e inst f stamp) ⊎ OnInstance t.epoch i e inst
release_found h t i old e inst f stamp k = over (same_epoch e t.epoch && (f.group == t.group)) (same_serial inst i) refl refl
  where
    both : (a b : Bool) → a && b ≡ true → a ≡ true
    both true b f = refl
    both false b f = absurd (true_false (sym f))

    apart : same_serial inst i ≡ false → (x : Instance) → is_named inst x ≡ true → is_named i x ≡ false
    apart ne x p = ⊎_elim (λ (q : is_named i x ≡ true). absurd (true_false (sym (subst (λ (y : Serial). same_serial y i ≡ true) (same_serial_eq x.grant.inst inst p) q) ∙ ne))) (λ (q : is_named i x ≡ false). q) (true_or_false (is_named i x))

    over : (b a : Bool) → same_epoch e t.epoch && (f.group == t.group) ≡ b → same_serial inst i ≡ a → Found h t i old (says.Release e inst f stamp) ⊎ OnInstance t.epoch i e inst
    over true true b a = inr (same_epoch_eq e t.epoch (both (same_epoch e t.epoch) (f.group == t.group) b), same_serial_eq inst i a)
    over true false b a = inl (same_found h t i old (says.Release e inst f stamp) (rw b (find_without (is_named i) (is_named inst) (apart a) t.instances)) k)
    over false a b c = inl (same_found h t i old (says.Release e inst f stamp) (rw b refl) k)

-- an instance that is found is found after any record but its release
pub next_found : (h : List Version) (t : TreeState) (i : Serial) (old : Instance) (r : Record) → instance_in t i ≡ Some old → Found h t i old r ⊎ EndsIt t.epoch i r
next_found h t i old (says.Join s e m) k = inl (join_found h t i old s e m k)
next_found h t i old (says.Start e group copies) k = inl (refuse_found h t i old (says.Start e group copies) (same_epoch e t.epoch && (group == t.group)) (record t { started = true }) refl refl k)
next_found h t i old (says.Grant e call request inst m f stamp ss) k = inl (grant_found h t i old e call request inst m f stamp ss k)
next_found h t i old (says.Refuse e call request inst m f why) k = inl (refuse_found h t i old (says.Refuse e call request inst m f why) (same_epoch e t.epoch && ((f.group == t.group) && is_make m)) (record t { makes = without_make call t.makes }) refl refl k)
next_found h t i old (says.Act e inst n o result) k = inl (act_found h t i old e inst n o result k)
next_found h t i old (says.Commit f s stamp parents content) k = inl (commit_found h t i old f s stamp parents content k)
next_found h t i old (says.Release e inst f stamp) k = release_found h t i old e inst f stamp k
next_found h t i old r k = inl (same_found h t i old r refl k)
