-- Who has the only kept version at least has it, or a writer there is ahead.
use Rattle.std.proofs.Common.{◌≡◌, ℕ, Bool, true, false, ◌||◌, List, [], ◌∷◌, Some, refl, sym, ◌∙◌, ap, subst, ◌⊎◌, inl, inr}
use Rattle.locus_ids.specs.declared.config.Config.{Config}
use Rattle.locus_ids.specs.declared.ids.EpochId.{EpochId}
use Rattle.locus_ids.specs.declared.ids.FileId.{FileId}
use Rattle.locus_ids.specs.declared.ids.Stamp.{Stamp}
use Rattle.commit_graph.specs.Versions.{is_ancestor, same_stamp}
use Rattle.tree_laws.specs.of_the_run.Worlds.{Line}
use Rattle.tree_model.specs.Histories.{history}
use Rattle.tree_model.specs.State.{has_stamp}
use Rattle.tree_model.specs.Tree.{kept_in}
use Rattle.tree_laws.specs.Following.{IsFollowed}
use Rattle.tree_laws.specs.Instances.{HasAtLeast, held_in}
use Rattle.tree_laws.specs.Printed.{entries}
use Rattle.tree_laws.specs.Tables.{IsAhead}
use Rattle.tree_laws.proofs.Rows.{followed_rows}
use Rattle.tree_laws.proofs.Orders.Standing.{same_stamp_eq}
use Rattle.store_laws.specs.Holdings.Below.{LawsBelow}
use Rattle.store_laws.specs.Holdings.Held.{IsBelowKept, IsKnownOrAhead}
use Rattle.store_laws.specs.Holdings.Order.{AncestorsAreAnOrder}
use Rattle.store_laws.proofs.Holdings.Ancestors.{ancestors_ordered}
use Rattle.store_laws.proofs.Holdings.Below.{commits_new, packs_hold}
use Rattle.store_laws.proofs.Holdings.Holding.{below_kept, known_or_ahead}
use Rattle.store_laws.proofs.Holdings.Made.{CommitsAreNew, held_stand, rows_made}

in_one : (v s : Stamp) → has_stamp (v ∷ []) s ≡ true → v ≡ s
in_one v s e = over (same_stamp v s) refl e
  where
    over : (b : Bool) → same_stamp v s ≡ b → (b || has_stamp [] s) ≡ true → v ≡ s
    over true k m = same_stamp_eq v s k
    over false k m = absurd cc

pub only_had : (c : Config) (t : List Line) (e : EpochId) (f : FileId) (site : ℕ) (v : Stamp) → IsFollowed c t → LawsBelow c t → kept_in c (entries t) e f ≡ v ∷ [] → HasAtLeast c t e site f v → (held_in c (entries t) e site f ≡ Some v) ⊎ IsAhead c t e site f
only_had c t e f site v h laws only k = over (known_or_ahead c t h (packs_hold c t laws.packed) e site f k.now k.held)
  where
    new : CommitsAreNew c (entries t)
    new = commits_new c t h laws.once

    order : AncestorsAreAnOrder (history c (entries t))
    order = ancestors_ordered (history c (entries t)) (rows_made c (entries t) (followed_rows c t h) new)

    only_one : IsBelowKept c (entries t) e f k.now → k.now ≡ v
    only_one w = sym (order.one f v k.now (held_stand c (entries t) (followed_rows c t h) e f site k.now k.held) k.above
        (subst (λ (y : Stamp). is_ancestor (history c (entries t)) f k.now y ≡ true) (sym (in_one v w.top (subst (λ (ks : List Stamp). has_stamp ks w.top ≡ true) only w.is_kept))) w.above))

    over : IsKnownOrAhead c t e site f k.now → (held_in c (entries t) e site f ≡ Some v) ⊎ IsAhead c t e site f
    over (inl known) = inl (k.held ∙ ap Some (only_one (below_kept c (entries t) (followed_rows c t h) new e f k.now known)))
    over (inr ahead) = inr ahead
