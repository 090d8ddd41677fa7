-- What is open was granted: its open was named.
use Rattle.std.proofs.Common.{◌≡◌, ℕ, ◌==◌, Bool, true, false, cond, ◌&&◌, List, [], ◌∷◌, ◌++◌, Option, Some, None, refl, sym, ◌∙◌, subst, ◌⊎◌, inl, inr}
use Rattle.std.specs.List.{find}
use Rattle.locus_ids.specs.declared.config.Config.{Config}
use Rattle.locus_ids.specs.declared.ids.EpochId.{EpochId}
use Rattle.locus_ids.specs.declared.ids.Serial.{Serial}
use Rattle.commit_graph.specs.declared.history.Version.{Version}
use Rattle.trace_book.specs.Same.{same_epoch}
use Rattle.trace_book.specs.declared.record.Record.{Record}
use Rattle.trace_book.specs.declared.record.Record.TheVariants as says
use Rattle.the_run.specs.of_role_steps.Views.{Told, Shown}
use Rattle.the_run.specs.Worlds.{Line}
use Rattle.lawful_trace.specs.of_tree_model.declared.instance.Granted.{Granted}
use Rattle.lawful_trace.specs.of_tree_model.declared.instance.Instance.{Instance}
use Rattle.lawful_trace.specs.of_tree_model.Histories.{history}
use Rattle.lawful_trace.specs.of_tree_model.Lists.{change_first}
use Rattle.lawful_trace.specs.of_tree_model.State.{TreeState, instance_in, is_named, is_writer, is_inside, is_granted_here, is_make}
use Rattle.lawful_trace.specs.of_tree_model.Tree.{next, tree_of, joined, left, grant_of, opened, once_committed, once_acted, without_make, with_make, is_passed_probe, released}
use Rattle.lawful_trace.specs.TreeRows.{granted_group}
use Rattle.tree_laws.specs.Printed.{entries, onto_entries}
use Rattle.tree_laws.specs.Instances.{instance_now}
use Rattle.tree_laws.specs.Past.{WasNamed, NamingRecord}
use Rattle.tree_laws.proofs.Finds.{IsChanged, find_changed, find_in_added, found_within}
use Rattle.tree_laws.proofs.Names.{same_epoch_eq, same_serial_eq}
use Rattle.tree_laws.proofs.Opened.{GrantsIt}
use Rattle.tree_laws.proofs.Kinship.{tree_epoch_is}

-- there was an instance of this name
abbrev pub Had : Serial → List Instance → Type 0
Had i xs = (y : Instance) × (find (is_named i) xs ≡ Some y)

changed_had : (i : Serial) (q : Instance → Bool) (change : Instance → Instance) (xs : List Instance) (x : Instance) → find (is_named i) (change_first q change xs) ≡ Some x →
    (find (is_named i) (change_first q change xs) ≡ find (is_named i) xs) ⊎ IsChanged (is_named i) q change xs → Had i xs
changed_had i q change xs x e (inl h) = (x, sym h ∙ e)
changed_had i q change xs x e (inr h) = (h.old, h.was)

-- what is found after a record was found before it, or the record grants it
pub before_record : (h : List Version) (t : TreeState) (i : Serial) (x : Instance) (r : Record) → instance_in (next h r t) i ≡ Some x → Had i t.instances ⊎ GrantsIt t.epoch i r
before_record h t i x (says.Join s e m) k = inl (over (same_epoch e t.epoch) k)
  where
    over : (b : Bool) → find (is_named i) (cond b (joined s m t) (left s t)).instances ≡ Some x → Had i t.instances
    over true k = (x, k)
    over false k = (x, k)
before_record h t i x (says.Start e group copies) k = inl (over (same_epoch e t.epoch && (group == t.group)) k)
  where
    over : (b : Bool) → find (is_named i) (cond b (record t { started = true }) t).instances ≡ Some x → Had i t.instances
    over true k = (x, k)
    over false k = (x, k)
before_record h t i x (says.Refuse e call request inst m f why) k = inl (over (same_epoch e t.epoch && ((f.group == t.group) && is_make m)) k)
  where
    over : (b : Bool) → find (is_named i) (cond b (record t { makes = without_make call t.makes }) t).instances ≡ Some x → Had i t.instances
    over true k = (x, k)
    over false k = (x, k)
before_record h t i x (says.Grant e call request inst m f stamp ss) k = over (same_epoch e t.epoch) (f.group == t.group) refl k
  where
    g : Granted
    g = grant_of t call inst m f ss

    added : same_epoch e t.epoch ≡ true → (find (is_named i) t.instances ≡ Some x) ⊎ (is_named i (opened h g stamp) ≡ true) → Had i t.instances ⊎ GrantsIt t.epoch i (says.Grant e call request inst m f stamp ss)
    added a (inl p) = inl (x, p)
    added a (inr p) = inr (same_epoch_eq e t.epoch a, same_serial_eq inst i p)

    over : (a b : Bool) → same_epoch e t.epoch ≡ a → find (is_named i) (cond a (record t { grants = t.grants ++ g ∷ []; instances = cond b (t.instances ++ opened h g stamp ∷ []) t.instances }) t).instances ≡ Some x →
        Had i t.instances ⊎ GrantsIt t.epoch i (says.Grant e call request inst m f stamp ss)
    over true true a k = added a (find_in_added (is_named i) t.instances (opened h g stamp) x k)
    over true false a k = inl (x, k)
    over false b a k = inl (x, k)
before_record h t i x (says.Act e inst n o result) k = inl (over (same_epoch e t.epoch && is_granted_here t inst) k)
  where
    over : (b : Bool) → find (is_named i) (cond b (record t { instances = change_first (is_named inst) (once_acted h t o result) t.instances; makes = cond (is_passed_probe o result) (with_make (instance_in t inst) t.makes) t.makes }) t).instances ≡ Some x → Had i t.instances
    over true k = changed_had i (is_named inst) (once_acted h t o result) t.instances x k (find_changed (is_named i) (is_named inst) (once_acted h t o result) (λ y. refl) t.instances)
    over false k = (x, k)
before_record h t i x (says.Commit f s stamp parents content) k = inl (over (is_inside t s) k)
  where
    over : (b : Bool) → find (is_named i) (cond b (change_first (is_writer f s) (once_committed stamp) t.instances) t.instances) ≡ Some x → Had i t.instances
    over true k = changed_had i (is_writer f s) (once_committed stamp) t.instances x k (find_changed (is_named i) (is_writer f s) (once_committed stamp) (λ y. refl) t.instances)
    over false k = (x, k)
before_record h t i x (says.Release e inst f stamp) k = inl (over (same_epoch e t.epoch && (f.group == t.group)) k)
  where
    over : (b : Bool) → find (is_named i) (cond b (released inst f stamp t) t).instances ≡ Some x → Had i t.instances
    over true k = found_within (is_named i) (is_named inst) t.instances x k
    over false k = (x, k)
before_record h t i x _ k = inl (x, k)

grant_names : (e : EpochId) (i : Serial) (older : List Line) (r : Record) → GrantsIt e i r → NamingRecord e i older r
grant_names e i older (says.Grant at call request inst m f stamp ss) g = record { epoch_is = g.0; serial_is = g.1 }
grant_names e i older _ g = absurd g

pub in_tree_named : (c : Config) (e : EpochId) (g : ℕ) (i : Serial) (trace : List Line) (x : Instance) → instance_in (tree_of c e g (entries trace)) i ≡ Some x → WasNamed trace e i
in_tree_named c e g i [] x k = absurd (none k)
  where
    none : ◌≡◌ {A = Option Instance} None (Some x) → ⊥
    none k = cc
in_tree_named c e g i (y ∷ older) x k = over (λ z. in_tree_named c e g i older z) y.told k
  where
    granted_or : ((z : Instance) → instance_in (tree_of c e g (entries older)) i ≡ Some z → WasNamed older e i) → (r : Record) → Had i (tree_of c e g (entries older)).instances ⊎ GrantsIt (tree_of c e g (entries older)).epoch i r →
        WasNamed (record { number = y.number; told = Shown r } ∷ older) e i
    granted_or later r (inl h) = inr (later h.0 h.1)
    granted_or later r (inr p) = inl (grant_names e i older r (subst (λ (at : EpochId). GrantsIt at i r) (tree_epoch_is c e g (entries older)) p))

    over : ((z : Instance) → instance_in (tree_of c e g (entries older)) i ≡ Some z → WasNamed older e i) → (z : Told) → instance_in (tree_of c e g (onto_entries y.number z (entries older))) i ≡ Some x → WasNamed (record { number = y.number; told = z } ∷ older) e i
    over later (Shown r) k = granted_or later r (before_record (history c (entries older)) (tree_of c e g (entries older)) i x r k)
    over later _ k = inr (later x k)

pub open_named : (c : Config) (trace : List Line) (e : EpochId) (i : Serial) (x : Instance) → instance_now c trace e i ≡ Some x → WasNamed trace e i
open_named c trace e i x k = in_tree_named c e (granted_group (entries trace) e i) i trace x k
