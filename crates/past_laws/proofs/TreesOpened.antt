-- The open instances of a group when one of the epoch is changed or ends, and where an instance of a name is.
use Rattle.std.proofs.Common.{◌≡◌, ℕ, ◌==◌, ◌≤◌, Bool, true, false, not, cond, ◌&&◌, List, [], ◌∷◌, length, filter, map, reverse, Option, Some, None, refl, sym, ap, ◌∙◌, arith}
use Rattle.std.specs.List.{find, list_any, list_all}
use Rattle.std.specs.Option.{is_some, option_map}
use Rattle.locus_ids.specs.declared.config.Config.{Config}
use Rattle.locus_ids.specs.declared.ids.EpochId.{EpochId}
use Rattle.locus_ids.specs.declared.ids.Serial.{Serial}
use Rattle.tree_model.specs.declared.instance.Granted.{Granted}
use Rattle.tree_model.specs.declared.instance.Instance.{Instance}
use Rattle.tree_model.specs.Folds.{Trace}
use Rattle.tree_model.specs.Lists.{change_first, without_first}
use Rattle.tree_model.specs.State as state
use Rattle.tree_model.specs.Tree.{tree_of}
use Rattle.promises.specs.Past.{Past, Epoch, Instance as OpenInstance, epoch_at, is_named}
use Rattle.promises.specs.After.{change}
use Rattle.past_laws.specs.Agreement.{Agrees, opened_in, instance_of}
use Rattle.past_laws.proofs.Names.{false_true, serial_eq, number_eq, both_parts}
use Rattle.past_laws.proofs.Changing.{filter_changed, map_changed}
use Rattle.past_laws.proofs.TreesAt.{is_formed, formed_by}
use Rattle.past_laws.proofs.TreesFolds.{group_is}
use Rattle.past_laws.proofs.TreesLists.{all_but, change_one, without_one, filter_less, filter_both, filter_same, all_found, found_passes, find_map}
use Rattle.past_laws.proofs.Changing.{change_none}

abbrev pub is_in_group : ℕ → OpenInstance → Bool
is_in_group group x = x.grant.file.group == group

-- the instances of the group among these
abbrev pub seen : ℕ → List OpenInstance → List Instance
seen group xs = map instance_of (filter (is_in_group group) xs)

-- Changes.

pub seen_kept : (group : ℕ) (q : OpenInstance → Bool) (f : OpenInstance → OpenInstance) → ((x : OpenInstance) → instance_of (f x) ≡ instance_of x) → (xs : List OpenInstance) → seen group (change q f xs) ≡ seen group xs
seen_kept group q f same xs = ap (map instance_of) (filter_changed (is_in_group group) q f (λ x h. ap (λ (y : Instance). y.grant.file.group == group) (same x)) xs) ∙ map_changed instance_of q f (λ x h. same x) (filter (is_in_group group) xs)

first_of_part : (group : ℕ) (q : OpenInstance → Bool) (r : Instance → Bool) (f : OpenInstance → OpenInstance) (k : Instance → Instance) → ((x : OpenInstance) → r (instance_of x) ≡ q x) → ((x : OpenInstance) → is_in_group group x ≡ true → instance_of (f x) ≡ k (instance_of x)) → (xs : List OpenInstance) → map instance_of (change_first q f (filter (is_in_group group) xs)) ≡ change_first r k (seen group xs)
first_of_part group q r f k same new [] = refl
first_of_part group q r f k same new (x ∷ xs) = at (first_of_part group q r f k same new xs) (is_in_group group x) (q x) refl refl
  where
    part : List OpenInstance
    part = filter (is_in_group group) xs

    at : map instance_of (change_first q f part) ≡ change_first r k (map instance_of part) → (b d : Bool) → is_in_group group x ≡ b → q x ≡ d → map instance_of (change_first q f (cond b (x ∷ part) part)) ≡ change_first r k (map instance_of (cond b (x ∷ part) part))
    at later false d e h = later
    at later true true e h = rw h (rw (same x) (rw h (ap (λ y. y ∷ map instance_of part) (new x e))))
    at later true false e h = rw h (rw (same x) (rw h (ap (λ ys. instance_of x ∷ ys) later)))

pub seen_change : (group : ℕ) (q : OpenInstance → Bool) (r : Instance → Bool) (f : OpenInstance → OpenInstance) (k : Instance → Instance) → ((x : OpenInstance) → r (instance_of x) ≡ q x) → ((x : OpenInstance) → (f x).grant ≡ x.grant) → ((x : OpenInstance) → is_in_group group x ≡ true → instance_of (f x) ≡ k (instance_of x)) → (xs : List OpenInstance) → length (filter q xs) ≤ 1 → seen group (change q f xs) ≡ change_first r k (seen group xs)
seen_change group q r f k same grant new xs one = ap (map instance_of) (filter_changed (is_in_group group) q f (λ x h. ap (λ (g : Granted). g.file.group == group) (grant x)) xs)
    ∙ (ap (map instance_of) (change_one q f (filter (is_in_group group) xs) (omega (arith, filter_less q (is_in_group group) xs)))
    ∙ first_of_part group q r f k same new xs)

pub seen_unchanged : (group : ℕ) (q : OpenInstance → Bool) (f : OpenInstance → OpenInstance) → ((x : OpenInstance) → (f x).grant ≡ x.grant) → (xs : List OpenInstance) → list_any q (filter (is_in_group group) xs) ≡ false → seen group (change q f xs) ≡ seen group xs
seen_unchanged group q f grant xs none = ap (map instance_of) (filter_changed (is_in_group group) q f (λ x h. ap (λ (g : Granted). g.file.group == group) (grant x)) xs ∙ change_none q f (filter (is_in_group group) xs) none)

without_of : (q : OpenInstance → Bool) (r : Instance → Bool) → ((x : OpenInstance) → r (instance_of x) ≡ q x) → (xs : List OpenInstance) → map instance_of (without_first q xs) ≡ without_first r (map instance_of xs)
without_of q r same [] = refl
without_of q r same (x ∷ xs) = at (without_of q r same xs) (q x) refl
  where
    at : map instance_of (without_first q xs) ≡ without_first r (map instance_of xs) → (b : Bool) → q x ≡ b → map instance_of (without_first q (x ∷ xs)) ≡ without_first r (map instance_of (x ∷ xs))
    at later true e = rw e (rw (same x) (rw e refl))
    at later false e = rw e (rw (same x) (rw e (ap (λ ys. instance_of x ∷ ys) later)))

part_turned : (a b : OpenInstance → Bool) (xs : List OpenInstance) → filter a (filter b xs) ≡ filter b (filter a xs)
part_turned a b xs = filter_both a b xs ∙ (filter_same (λ x. a x && b x) (λ x. b x && a x) (λ x. turned (a x) (b x)) xs ∙ sym (filter_both b a xs))
  where
    turned : (c d : Bool) → (c && d) ≡ (d && c)
    turned true true = refl
    turned true false = refl
    turned false true = refl
    turned false false = refl

pub seen_without : (group : ℕ) (q : OpenInstance → Bool) (r : Instance → Bool) → ((x : OpenInstance) → r (instance_of x) ≡ q x) → (xs : List OpenInstance) → length (filter q xs) ≤ 1 → seen group (filter (λ x. not (q x)) xs) ≡ without_first r (seen group xs)
seen_without group q r same xs one = ap (map instance_of) (part_turned (is_in_group group) (λ x. not (q x)) xs ∙ without_one q (filter (is_in_group group) xs) (omega (arith, filter_less q (is_in_group group) xs))) ∙ without_of q r same (filter (is_in_group group) xs)

pub seen_with_all : (group : ℕ) (q : OpenInstance → Bool) (xs : List OpenInstance) → list_any q (filter (is_in_group group) xs) ≡ false → seen group (filter (λ x. not (q x)) xs) ≡ seen group xs
seen_with_all group q xs none = ap (map instance_of) (part_turned (is_in_group group) (λ x. not (q x)) xs ∙ all_but q (filter (is_in_group group) xs) none)

-- Where an instance of a name is.

-- each of these was granted in its group
abbrev pub are_granted : (Serial → Option Granted) → List OpenInstance → Bool
are_granted of xs = list_all (λ (x : OpenInstance). state.is_group_of (of x.grant.inst) x.grant.file.group) xs

pub group_one : (o : Option Granted) (n m : ℕ) → state.is_group_of o n ≡ true → state.is_group_of o m ≡ true → n ≡ m
group_one None n m h j = false_true h
group_one (Some g) n m h j = sym (number_eq g.file.group n h) ∙ number_eq g.file.group m j

pub found_here : (of : Serial → Option Granted) (i : Serial) (xs : List OpenInstance) (x : OpenInstance) → are_granted of xs ≡ true → find (is_named i) xs ≡ Some x → state.is_group_of (of i) x.grant.file.group ≡ true
found_here of i xs x all h = ap (λ j. state.is_group_of (of j) x.grant.file.group) (sym (serial_eq x.grant.inst i (found_passes (is_named i) xs x h))) ∙ all_found (λ (y : OpenInstance). state.is_group_of (of y.grant.inst) y.grant.file.group) (is_named i) xs x all h

pub none_here : (of : Serial → Option Granted) (i : Serial) (group : ℕ) (xs : List OpenInstance) → are_granted of xs ≡ true → state.is_group_of (of i) group ≡ false → list_any (is_named i) (filter (is_in_group group) xs) ≡ false
none_here of i group [] all h = refl
none_here of i group (x ∷ xs) all h = at (none_here of i group xs parts.1 h) (is_in_group group x) (is_named i x) refl refl
  where
    parts : (state.is_group_of (of x.grant.inst) x.grant.file.group ≡ true) × (are_granted of xs ≡ true)
    parts = both_parts (state.is_group_of (of x.grant.inst) x.grant.file.group) (are_granted of xs) all

    at : list_any (is_named i) (filter (is_in_group group) xs) ≡ false → (b d : Bool) → is_in_group group x ≡ b → is_named i x ≡ d → list_any (is_named i) (cond b (x ∷ filter (is_in_group group) xs) (filter (is_in_group group) xs)) ≡ false
    at later false d e k = later
    at later true false e k = rw k later
    at later true true e k = false_true (sym h ∙ (ap (λ j. state.is_group_of (of j) group) (sym (serial_eq x.grant.inst i k)) ∙ (ap (state.is_group_of (of x.grant.inst)) (sym (number_eq x.grant.file.group group e)) ∙ parts.0)))

-- the open instance of the tree, in the epoch
pub instance_is : (c : Config) (before : Trace) (p : Past) → Agrees c before p → (e : EpochId) (group : ℕ) (i : Serial) → state.instance_in (tree_of c e group before) i ≡ option_map instance_of (find (is_named i) (filter (is_in_group group) (epoch_at p e).opened))
instance_is c before p k e group i = ap (find (state.is_named i)) (sym (k.trees.opened e group)) ∙ find_map (state.is_named i) instance_of (filter (is_in_group group) (epoch_at p e).opened)

pub formed_open : (c : Config) (before : Trace) (p : Past) → Agrees c before p → (e : EpochId) (group : ℕ) (i : Serial) → is_some (state.instance_in (tree_of c e group before) i) ≡ true → is_formed p e ≡ true
formed_open c before p k e group i h = formed_by p e (λ (u : Epoch). is_some (find (state.is_named i) (opened_in u group))) refl (ap (λ xs. is_some (find (state.is_named i) xs)) (k.trees.opened e group) ∙ h)

-- the grant of the epoch that names the instance
abbrev pub grant_at : Past → EpochId → Serial → Option Granted
grant_at p e i = find (state.is_grant_of i) (reverse (epoch_at p e).granted)

pub here_is : (c : Config) (before : Trace) (p : Past) → Agrees c before p → (e : EpochId) (group : ℕ) (i : Serial) → state.is_granted_here (tree_of c e group before) i ≡ state.is_group_of (grant_at p e i) group
here_is c before p k e group i = ap (λ gs. state.is_group_of (find (state.is_grant_of i) gs) (tree_of c e group before).group) (sym (k.trees.granted e group)) ∙ ap (state.is_group_of (grant_at p e i)) (group_is c e group before)
