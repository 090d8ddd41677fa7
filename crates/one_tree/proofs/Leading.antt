-- The tree after a record that doesn't differ is that of the trace with it.
use Rattle.std.proofs.Common.{◌≡◌, ℕ, Bool, true, false, not, ◌&&◌, cond, List, ◌∷◌, refl, ap, ◌∙◌}
use Rattle.locus_ids.specs.declared.config.Config.{Config}
use Rattle.locus_ids.specs.declared.ids.EpochId.{EpochId}
use Rattle.commit_graph.specs.declared.history.Version.{Version}
use Rattle.trace_book.specs.declared.record.Record.{Record}
use Rattle.tree_model.specs.Folds.{Trace}
use Rattle.tree_model.specs.Given.{concerns, gives}
use Rattle.tree_model.specs.Histories.{history}
use Rattle.tree_model.specs.State.{TreeState}
use Rattle.tree_model.specs.Tree.{next, tree_of}
use Rattle.one_tree.specs.Following.{applied, told_of, tree_after}
use Rattle.one_tree.specs.declared.applied.Applied.{Applied}
use Rattle.one_tree.specs.declared.applied.Applied.TheVariants.{Differs, Other}

goes_on : (told : Applied) (old after : TreeState) (a b : Bool) → told ≡ cond a (told_of b) Other → (told ≡ Differs → ⊥) → cond (a && not b) old after ≡ after
goes_on told old after true true e given = refl
goes_on told old after true false e given = absurd (given e)
goes_on told old after false b e given = refl

pub leads : (h : List Version) (t new : TreeState) (r : Record) (told : Applied) → told ≡ applied h t r → new ≡ tree_after h t r
    → (c : Config) (e : EpochId) (group : ℕ) (before : Trace) (line : ℕ) → t ≡ tree_of c e group before → h ≡ history c before → (told ≡ Differs → ⊥)
    → new ≡ tree_of c e group (record { line = line; what = r } ∷ before)
leads h t new r told says after c e group before line tree versions given =
    after ∙ goes_on told t (next h r t) (concerns t r) (gives h t r) says given
    ∙ ap (λ (vs : List Version). next vs r t) versions ∙ ap (next (history c before) r) tree
