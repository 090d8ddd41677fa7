-- Each known version has the only kept one above it, and vectors tell it.
use Rattle.std.proofs.lemmas.Bool.Decides.{nat_tests}
use Rattle.std.proofs.Common.{◌≡◌, Bool, true, false, not, ◌&&◌, ◌||◌, ◌⊎◌, List, [], ◌∷◌, refl, sym, ◌∙◌, ap, subst, inl, inr, arith}
use Rattle.role_steps.proofs.of_plain_facts.Tests.{true_false}
use Rattle.locus_ids.specs.declared.config.Config.{Config}
use Rattle.locus_ids.specs.declared.ids.FileId.{FileId}
use Rattle.locus_ids.specs.declared.ids.Stamp.{Stamp}
use Rattle.commit_graph.specs.Versions.{same_stamp, is_ancestor}
use Rattle.commit_graph.proofs.Names.{same_stamp_eq}
use Rattle.role_steps.specs.Versions.{is_below}
use Rattle.the_run.specs.Worlds.{Line}
use Rattle.tree_model.specs.Histories.{history}
use Rattle.tree_model.specs.State.{has_stamp}
use Rattle.tree_laws.specs.Following.{RowsAreLawful}
use Rattle.tree_laws.specs.Instances.{IsKnown, Stands}
use Rattle.tree_laws.specs.Printed.{entries}
use Rattle.tree_laws.proofs.Rows.{followed_rows}
use Rattle.store_laws.specs.Holdings.Held.{IsBelowKept}
use Rattle.store_laws.proofs.Holdings.Below.{commits_new}
use Rattle.store_laws.proofs.Holdings.Holding.{below_kept}
use Rattle.store_laws.proofs.Holdings.Made.{CommitsAreNew}
use Rattle.store_laws.proofs.Holdings.Rising.{known_stands}
use Rattle.store_laws.specs.OneTree.Rest.{Past}
use Rattle.store_laws.proofs.OneTree.Staying.{rest_below}
use Rattle.store_laws.proofs.of_tree_laws.Syncs.Notices.{kept_is_known}
use Rattle.store_laws.proofs.OneTree.ToldVectorTelling.{vectors_tell_newer}
use Rattle.calm_laws.specs.Pulls.Known.{written, KnownAreUnder}

-- an ancestor is the version itself, or has a lower vector
pub ancestor_under : (c : Config) (t : List Line) → Past c t → (f : FileId) (a b : Stamp) → Stands c t f a → Stands c t f b → is_ancestor (history c (entries t)) f a b ≡ true → (a ≡ b) ⊎ (is_below (written c t f a) (written c t f b) ≡ true)
ancestor_under c t past f a b sa sb above = by_same (same_stamp a b) refl
  where
    by_same : (x : Bool) → same_stamp a b ≡ x → (a ≡ b) ⊎ (is_below (written c t f a) (written c t f b) ≡ true)
    by_same true e = inl (same_stamp_eq a b e)
    by_same false e = inr (sym (vectors_tell_newer c t past f a b sa sb) ∙ (ap (λ (y : Bool). not y && is_ancestor (history c (entries t)) f a b) e ∙ above))

in_one : (v s : Stamp) → has_stamp (v ∷ []) s ≡ true → v ≡ s
in_one v s e = over (same_stamp v s) refl e
  where
    over : (b : Bool) → same_stamp v s ≡ b → (b || has_stamp [] s) ≡ true → v ≡ s
    over true k m = same_stamp_eq v s k
    over false k m = absurd (true_false (sym m))

pub known_under : (c : Config) (t : List Line) → Past c t → KnownAreUnder c t
known_under c t past e f only known one k = ancestor_under c t past f known only (known_stands c (entries t) rows e f known k) (known_stands c (entries t) rows e f only kept_known) above
  where
    rows : RowsAreLawful c (entries t)
    rows = followed_rows c t past.followed

    new : CommitsAreNew c (entries t)
    new = commits_new c t past.followed (rest_below c t past.rest).once

    own : (s : Stamp) → same_stamp s s ≡ true
    own s = grind (arith, nat_tests)

    kept_known : IsKnown c t e f only
    kept_known = kept_is_known c t (record { config = c; me = 0; boot = 0; epoch = e; members = record { boot = [] } }) f only (ap (λ (ss : List Stamp). has_stamp ss only) one ∙ ap (λ (b : Bool). b || false) (own only))

    b : IsBelowKept c (entries t) e f known
    b = below_kept c (entries t) rows new e f known k

    is_top : only ≡ b.top
    is_top = in_one only b.top (subst (λ (ks : List Stamp). has_stamp ks b.top ≡ true) one b.is_kept)

    above : is_ancestor (history c (entries t)) f known only ≡ true
    above = subst (λ (y : Stamp). is_ancestor (history c (entries t)) f known y ≡ true) (sym is_top) b.above
