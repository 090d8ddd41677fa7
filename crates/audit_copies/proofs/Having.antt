-- Whether a list in order has a version, by what stands at its place.
use Rattle.std.proofs.Common.{◌≡◌, ℕ, zero, suc, ◌<◌, ◌≤◌, Bool, true, false, List, [], ◌∷◌, length, get_or, refl, sym, ap, ◌∙◌, arith}
use Rattle.std.specs.Prelude.{nat_lt}
use Rattle.std.specs.List.{list_any, list_all}
use Rattle.std.proofs.lemmas.Bool.{ltb-true, ltb-false}
use Rattle.commit_graph.specs.Versions.{same_file, same_stamp}
use Rattle.past_laws.specs.of_promises.Past.{Copy}
use Rattle.past_laws.specs.of_promises.After.{is_copy_below}
use Rattle.past_laws.specs.Agreement.{ascends}
use Rattle.past_laws.proofs.Names.{false_true, both, both_parts, file_eq, file_own, stamp_eq, stamp_own}
use Rattle.past_laws.proofs.TreesSorted.{copies}
use Rattle.row_lists.proofs.ByPlace.{none_by_place, any_at}
use Rattle.audit_copies.specs.Below.{IsSplit, is_version_of, stands_at}
use Rattle.audit_copies.proofs.Splitting.{all_at}
use Rattle.audit_copies.proofs.Noting.{stands, stands_not}

version_is : (v w : Copy) → is_version_of v w ≡ true → w ≡ v
version_is v w h =
    let parts : (same_file w.file v.file ≡ true) × (same_stamp w.stamp v.stamp ≡ true) = both_parts (same_file w.file v.file) (same_stamp w.stamp v.stamp) h in
    λ i. record { file = file_eq w.file v.file parts.0 i; stamp = stamp_eq w.stamp v.stamp parts.1 i }

version_own : (v w : Copy) → w ≡ v → is_version_of v w ≡ true
version_own v w e = ap (is_version_of v) e ∙ both (same_file v.file v.file) (same_stamp v.stamp v.stamp) (file_own v.file) (stamp_own v.stamp)

differs : (v w : Copy) → (w ≡ v → ⊥) → is_version_of v w ≡ false
differs v w h = at (is_version_of v w) refl
  where
    at : (b : Bool) → is_version_of v w ≡ b → is_version_of v w ≡ false
    at false e = e
    at true e = absurd (h (version_is v w e))

-- one that is below isn't it
below_differs : (v w : Copy) → is_copy_below w v ≡ true → is_version_of v w ≡ false
below_differs v w h = differs v w (λ e. false_true (sym (copies.never v) ∙ (ap (λ (x : Copy). is_copy_below x v) (sym e) ∙ h)))

above_differs : (v w : Copy) → is_copy_below v w ≡ true → is_version_of v w ≡ false
above_differs v w h = differs v w (λ e. false_true (sym (copies.never v) ∙ (ap (is_copy_below v) (sym e) ∙ h)))

-- of two places the later has the greater
later_above : (xs : List Copy) (i j : ℕ) (d : Copy) → i < j → j < length xs → ascends is_copy_below xs ≡ true → is_copy_below (get_or xs i d) (get_or xs j d) ≡ true
later_above [] i j d h l up = absurd (omega (arith, l))
later_above (x ∷ xs) zero zero d h l up = absurd (omega (arith, h))
later_above (x ∷ xs) zero (suc j) d h l up = all_at (is_copy_below x) xs j d (omega (arith, l)) (both_parts (list_all (is_copy_below x) xs) (ascends is_copy_below xs) up).0
later_above (x ∷ xs) (suc i) zero d h l up = absurd (omega (arith, h))
later_above (x ∷ xs) (suc i) (suc j) d h l up = later_above xs i j d (omega (arith, h)) (omega (arith, l)) (both_parts (list_all (is_copy_below x) xs) (ascends is_copy_below xs) up).1

pub has_there : (v : Copy) (xs : List Copy) (k : ℕ) → ascends is_copy_below xs ≡ true → IsSplit (λ w. is_copy_below w v) xs k → stands_at xs k v ≡ list_any (is_version_of v) xs
has_there v xs k up split = at (stands_at xs k v) refl
  where
    at : (b : Bool) → stands_at xs k v ≡ b → b ≡ list_any (is_version_of v) xs
    at true h =
        let there = stands xs k v h in
        let same : get_or xs k v ≡ v = copies.apart (get_or xs k v) v (split.other k v (omega arith) there.0) (there.1 v) in
        sym (any_at (is_version_of v) xs v k there.0 (version_own v (get_or xs k v) same))
    at false h = sym (none_by_place (is_version_of v) xs v each)
      where
        beyond : (j : ℕ) → k ≤ j → j < length xs → (b : Bool) → nat_lt k j ≡ b → is_copy_below v (get_or xs j v) ≡ true
        beyond j m l true e =
            let more : k < j = ltb-true k j e in
            let l2 : k < length xs = omega (arith, more, l) in
            copies.through v (get_or xs k v) (get_or xs j v) (stands_not xs k v h v l2) (later_above xs k j v more l up)
        beyond j m l false e =
            let same : j ≡ k = omega (arith, m, ltb-false k j e) in
            let l2 : k < length xs = omega (arith, same, l) in
            ap (λ i. is_copy_below v (get_or xs i v)) same ∙ stands_not xs k v h v l2

        each : (j : ℕ) → j < length xs → is_version_of v (get_or xs j v) ≡ false
        each j l = by (nat_lt j k) refl
          where
            by : (b : Bool) → nat_lt j k ≡ b → is_version_of v (get_or xs j v) ≡ false
            by true e = below_differs v (get_or xs j v) (split.first j v (ltb-true j k e))
            by false e = above_differs v (get_or xs j v) (beyond j (ltb-false j k e) l (nat_lt k j) refl)
