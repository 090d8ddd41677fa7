-- Lists of instances and of stamps, of which something is so of all.
use Rattle.std.proofs.Common.{◌≡◌, Bool, true, false, ◌||◌, cond, List, [], ◌∷◌, filter, Some, refl, sym, ap, ◌∙◌, subst, ◌⊎◌, inl, inr}
use Rattle.std.specs.List.{AllByRecursion, find}
use Rattle.tree_laws.proofs.of_plain_facts.Options.{none_some, some_same}
use Rattle.tree_laws.proofs.of_plain_facts.Tests.{or_second, true_false}
use Rattle.locus_ids.specs.declared.ids.FileId.{FileId}
use Rattle.locus_ids.specs.declared.ids.Stamp.{Stamp}
use Rattle.commit_graph.specs.declared.history.Version.{Version}
use Rattle.commit_graph.specs.Versions.{kept, same_stamp}
use Rattle.commit_graph.proofs.Names.{same_stamp_refl}
use Rattle.tree_model.specs.declared.instance.Instance.{Instance}
use Rattle.tree_model.specs.Lists.{without_first}
use Rattle.tree_model.specs.State.{has_stamp}
use Rattle.tree_laws.specs.Orders.Alone.{AreAlone, MayStandBy}
use Rattle.tree_laws.proofs.Orders.Lists.{all_found, all_then}

-- ---- lists ----

pub all_both : {X : Type 0} (P Q R : X → Type 0) → ((x : X) → P x → Q x → R x) → (xs : List X) → AllByRecursion P xs → AllByRecursion Q xs → AllByRecursion R xs
all_both P Q R then [] p q = tt
all_both P Q R then (x ∷ xs) p q = (then x p.0 q.0, all_both P Q R then xs p.1 q.1)

-- beside the one that is found
pub beside_found : (q : Instance → Bool) (xs : List Instance) (y : Instance) → AreAlone xs → find q xs ≡ Some y → AllByRecursion (λ (x : Instance). MayStandBy x y ⊎ MayStandBy y x) (without_first q xs)
beside_found q [] y alone e = absurd (none_some y e)
beside_found q (x ∷ xs) y alone e = at (q x) e (beside_found q xs y alone.1)
  where
    at : (b : Bool) → cond b (Some x) (find q xs) ≡ Some y → (find q xs ≡ Some y → AllByRecursion (λ (w : Instance). MayStandBy w y ⊎ MayStandBy y w) (without_first q xs)) → AllByRecursion (λ (w : Instance). MayStandBy w y ⊎ MayStandBy y w) (cond b xs (x ∷ without_first q xs))
    at true e later = all_then (MayStandBy x) (λ (w : Instance). MayStandBy w y ⊎ MayStandBy y w) (λ w k. inr (subst (λ (z : Instance). MayStandBy z w) (some_same x y e) k)) xs alone.0
    at false e later = (inl (all_found (MayStandBy x) q xs y alone.0 e), later e)

-- who passes is the one of the filter
pub only_one : {X : Type 0} (q : X → Bool) (xs : List X) (y : X) → filter q xs ≡ y ∷ [] → AllByRecursion (λ (x : X). q x ≡ true → x ≡ y) xs
only_one {X} q [] y e = tt
only_one {X} q (x ∷ xs) y e = at (q x) refl e (only_one q xs y)
  where
    head : ◌≡◌ {A = List X} (x ∷ filter q xs) (y ∷ []) → x ≡ y
    head k = cc

    tail : ◌≡◌ {A = List X} (x ∷ filter q xs) (y ∷ []) → filter q xs ≡ []
    tail k = cc

    none : (ys : List X) → filter q ys ≡ [] → AllByRecursion (λ (z : X). q z ≡ true → z ≡ y) ys
    none [] k = tt
    none (z ∷ zs) k = over (q z) refl k (none zs)
      where
        full : ◌≡◌ {A = List X} (z ∷ filter q zs) [] → ⊥
        full k = cc

        over : (b : Bool) → q z ≡ b → cond b (z ∷ filter q zs) (filter q zs) ≡ [] → (filter q zs ≡ [] → AllByRecursion (λ (w : X). q w ≡ true → w ≡ y) zs) → (q z ≡ true → z ≡ y) × AllByRecursion (λ (w : X). q w ≡ true → w ≡ y) zs
        over true p k later = absurd (full k)
        over false p k later = ((λ u. absurd (true_false (sym u ∙ p))), later k)

    at : (b : Bool) → q x ≡ b → cond b (x ∷ filter q xs) (filter q xs) ≡ y ∷ [] → (filter q xs ≡ y ∷ [] → AllByRecursion (λ (z : X). q z ≡ true → z ≡ y) xs) → (q x ≡ true → x ≡ y) × AllByRecursion (λ (z : X). q z ≡ true → z ≡ y) xs
    at true p k later = ((λ u. head k), none xs (tail k))
    at false p k later = ((λ u. absurd (true_false (sym u ∙ p))), later k)

-- each of a list is among it
pub all_among : (xs : List Stamp) → AllByRecursion (λ (s : Stamp). has_stamp xs s ≡ true) xs
all_among [] = tt
all_among (x ∷ xs) = (ap (λ (b : Bool). b || has_stamp xs x) (same_stamp_refl x), all_then (λ (s : Stamp). has_stamp xs s ≡ true) (λ (s : Stamp). has_stamp (x ∷ xs) s ≡ true) (λ s k. or_second (same_stamp x s) (has_stamp xs s) k) xs (all_among xs))

pub all_unit : (xs : List Stamp) → AllByRecursion (λ (a : Stamp). Unit {0}) xs
all_unit [] = tt
all_unit (x ∷ xs) = (tt, all_unit xs)

-- nothing known, nothing kept
pub none_kept : (h : List Version) (f : FileId) (ss : List Stamp) → ((s : Stamp) → has_stamp ss s ≡ true → ⊥) → kept h f ss ≡ []
none_kept h f [] none = refl
none_kept h f (s ∷ ss) none = absurd (none s (ap (λ (b : Bool). b || has_stamp ss s) (same_stamp_refl s)))
