-- Rows of tables that ascend: what is there once one of them is put in.
use Rattle.std.proofs.Common.{◌≡◌, ℕ, ◌==◌, Bool, true, false, cond, ◌||◌, List, [], ◌∷◌, filter, map, Some, refl, sym, ap, ◌∙◌, subst, ◌⊎◌, inl, inr}
use Rattle.std.specs.Prelude.{nat_lt}
use Rattle.std.specs.List.{list_any}
use Rattle.role_steps.proofs.of_plain_facts.Numbers.{equal, equal_self}
use Rattle.role_steps.proofs.of_plain_facts.Tests.{or_second, true_false}
use Rattle.locus_ids.specs.declared.ids.Stamp.{Stamp}
use Rattle.commit_graph.specs.Versions.{same_stamp}
use Rattle.commit_graph.proofs.Names.{same_stamp_refl}
use Rattle.role_steps.specs.Own.{Every}
use Rattle.role_steps.specs.Tables.{row, with_row}
use Rattle.role_steps.specs.Versions.{row_ino, version_key}
use Rattle.role_steps.specs.Views.{stamp_key}
use Rattle.role_steps.specs.declared.synchronizing.FileRow.{FileRow}
use Rattle.role_steps.specs.declared.synchronizing.VersionRow.{VersionRow}
use Rattle.the_run.specs.Kept.{Among}
use Rattle.tree_model.specs.State.{has_stamp}
use Rattle.tree_laws.specs.Stores.{Ascends}
use Rattle.tree_laws.specs.Tables.{AreRising, row_stamp}
use Rattle.store_laws.proofs.of_tree_laws.Orders.Standing.{same_stamp_eq}
use Rattle.store_laws.proofs.Tabled.{ascends_row}

-- another row is there still
pub among_other : {A : Type 0} (key : A → ℕ) (x y : A) (xs : List A) → (key y ≡ key x → ⊥) → Among y xs → Among y (with_row key x xs)
among_other key x y [] apart m = absurd m
among_other {A} key x y (z ∷ zs) apart m = at (nat_lt (key z) (key x)) (key z == key x) refl m (among_other key x y zs apart)
  where
    at : (a b : Bool) → (key z == key x) ≡ b → (y ≡ z) ⊎ Among y zs → (Among y zs → Among y (with_row key x zs)) → Among y (elim a [ true ↦ z ∷ with_row key x zs | false ↦ elim b [ true ↦ x ∷ zs | false ↦ x ∷ z ∷ zs ] ])
    at true b t (inl e) later = inl e
    at true b t (inr q) later = inr (later q)
    at false true t (inl e) later = absurd (apart (ap key e ∙ equal (key z) (key x) t))
    at false true t (inr q) later = inr q
    at false false t (inl e) later = inr (inl e)
    at false false t (inr q) later = inr (inr q)

-- ---- files ----

ascending : (rs : List FileRow) → AreRising rs → Ascends row_ino rs
ascending [] h = tt
ascending (r ∷ rs) h = (h.0, ascending rs h.1)

rising : (rs : List FileRow) → Ascends row_ino rs → AreRising rs
rising [] h = tt
rising (r ∷ rs) h = (h.0, rising rs h.1)

pub rising_row : (q : FileRow) (rs : List FileRow) → AreRising rs → AreRising (with_row row_ino q rs)
rising_row q rs h = rising (with_row row_ino q rs) (ascends_row row_ino q rs (ascending rs h))

-- ---- versions ----

-- a version whose stamp stands in the table is found by the key of the stamp
pub version_there : (stamp : Stamp) (vs : List VersionRow) → has_stamp (map row_stamp vs) stamp ≡ true → (v : VersionRow) × (row version_key (stamp_key stamp) vs ≡ Some v)
version_there stamp [] h = absurd (true_false (sym h))
version_there stamp (v ∷ vs) h = at (λ m. version_there stamp vs m) (version_key v == stamp_key stamp) refl
  where
    later : (a : Bool) → same_stamp v.stamp stamp ≡ a → (version_key v == stamp_key stamp) ≡ false → a || has_stamp (map row_stamp vs) stamp ≡ true → has_stamp (map row_stamp vs) stamp ≡ true
    later true e t k = absurd (true_false (sym (subst (λ (s : Stamp). (version_key v == stamp_key s) ≡ true) (same_stamp_eq v.stamp stamp e) (equal_self (version_key v))) ∙ t))
    later false e t k = k

    at : (has_stamp (map row_stamp vs) stamp ≡ true → (w : VersionRow) × (row version_key (stamp_key stamp) vs ≡ Some w)) → (b : Bool) → (version_key v == stamp_key stamp) ≡ b → (w : VersionRow) × (elim b [ true ↦ Some v | false ↦ row version_key (stamp_key stamp) vs ] ≡ Some w)
    at rest true t = (v, refl)
    at rest false t = rest (later (same_stamp v.stamp stamp) refl t h)

-- ---- stamps ----

pub filtered_passes : (p : Stamp → Bool) (ss : List Stamp) (s : Stamp) → has_stamp (filter p ss) s ≡ true → p s ≡ true
filtered_passes p [] s h = absurd (true_false (sym h))
filtered_passes p (x ∷ xs) s h = at (λ m. filtered_passes p xs s m) (p x) refl h
  where
    first : (has_stamp (filter p xs) s ≡ true → p s ≡ true) → p x ≡ true → (a : Bool) → same_stamp x s ≡ a → a || has_stamp (filter p xs) s ≡ true → p s ≡ true
    first rest e true t k = subst (λ (y : Stamp). p y ≡ true) (same_stamp_eq x s t) e
    first rest e false t k = rest k

    at : (has_stamp (filter p xs) s ≡ true → p s ≡ true) → (b : Bool) → p x ≡ b → has_stamp (cond b (x ∷ filter p xs) (filter p xs)) s ≡ true → p s ≡ true
    at rest true e k = first rest e (same_stamp x s) refl k
    at rest false e k = rest k

pub any_passes : (p : Stamp → Bool) (ss : List Stamp) (s : Stamp) → has_stamp ss s ≡ true → p s ≡ true → list_any p ss ≡ true
any_passes p [] s h e = absurd (true_false (sym h))
any_passes p (x ∷ xs) s h e = at (λ m. any_passes p xs s m e) (same_stamp x s) refl h
  where
    later : (a : Bool) → list_any p xs ≡ true → a || list_any p xs ≡ true
    later true k = refl
    later false k = k

    at : (has_stamp xs s ≡ true → list_any p xs ≡ true) → (b : Bool) → same_stamp x s ≡ b → b || has_stamp xs s ≡ true → p x || list_any p xs ≡ true
    at rest true t k = ap (λ (b : Bool). b || list_any p xs) (subst (λ (y : Stamp). p y ≡ true) (sym (same_stamp_eq x s t)) e)
    at rest false t k = later (p x) (rest k)

pub each_member : (vs : List VersionRow) → Every (λ (v : VersionRow). has_stamp (map row_stamp vs) v.stamp ≡ true) vs
each_member [] = tt
each_member (v ∷ vs) = (ap (λ (b : Bool). b || has_stamp (map row_stamp vs) v.stamp) (same_stamp_refl v.stamp), more vs (each_member vs))
  where
    more : (xs : List VersionRow) → Every (λ (x : VersionRow). has_stamp (map row_stamp vs) x.stamp ≡ true) xs → Every (λ (x : VersionRow). has_stamp (map row_stamp (v ∷ vs)) x.stamp ≡ true) xs
    more [] h = tt
    more (x ∷ xs) h = (or_second (same_stamp v.stamp x.stamp) (has_stamp (map row_stamp vs) x.stamp) h.0, more xs h.1)
