-- Lists that ascend by stamp.
use Rattle.std.proofs.Common.{◌≡◌, ℕ, ◌+◌, ◌<◌, Bool, true, false, List, [], ◌∷◌, refl, sym, ◌∙◌, ap, ⊎_elim, drop, get_or, length}
use Rattle.std.specs.List.{filter}
use Rattle.std.proofs.lemmas.List.{drop_more}
use Rattle.locus_ids.specs.declared.ids.Stamp.{Stamp}
use Rattle.commit_graph.specs.Versions.{same_stamp, is_stamp_below, with_stamp}
use Rattle.conflict_flags.specs.declared.held.Held.{Held}
use Rattle.conflict_flags.specs.Copies.{with_held, by_stamp, stamps_of}
use Rattle.conflict_flags.proofs.Ancestors.{true_or_false}

-- a copy comes to the place of its stamp
pub stamps_of_with : (c : Held) (ds : List Held) → stamps_of (with_held c ds) ≡ with_stamp c.stamp (stamps_of ds)
stamps_of_with c [] = refl
stamps_of_with c (d ∷ ds) = ⊎_elim
    (λ (e : is_stamp_below c.stamp d.stamp ≡ true). rw e refl)
    (λ (e : is_stamp_below c.stamp d.stamp ≡ false). ⊎_elim
    (λ (f : same_stamp c.stamp d.stamp ≡ true). rw (e, f) refl)
    (λ (f : same_stamp c.stamp d.stamp ≡ false). rw (e, f) (ap (λ (ss : List Stamp). d.stamp ∷ ss) (stamps_of_with c ds)))
    (true_or_false (same_stamp c.stamp d.stamp)))
    (true_or_false (is_stamp_below c.stamp d.stamp))

-- one more of the chosen copies, from the end of the list
pub stamps_more : (p : Held → Bool) (all : List Held) (left i : ℕ) (c : Held) → left ≡ i + 1 → i < length all → c ≡ get_or all i c → p c ≡ true →
    with_stamp c.stamp (stamps_of (by_stamp (filter p (drop left all)))) ≡ stamps_of (by_stamp (filter p (drop i all)))
stamps_more p all left i c e h is chosen =
    let more : drop i all ≡ c ∷ drop left all = drop_more all i c h ∙ (ap (λ (x : Held). x ∷ drop (i + 1) all) (sym is) ∙ ap (λ (n : ℕ). c ∷ drop n all) (sym e)) in
    rw (more, chosen) (sym (stamps_of_with c (by_stamp (filter p (drop left all)))))
