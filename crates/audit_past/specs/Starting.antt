-- The versions that the format made, group by group.
use Rattle.std.specs.Prelude.{ℕ, cond, nat_lt, List, ◌∷◌}
use Rattle.locus_ids.specs.declared.config.Config.{Config}
use Rattle.commit_graph.specs.declared.history.Version.{Version}
use Rattle.tree_model.specs.Histories.{format_version}
use Rattle.tree_model.specs.Packs.{packs_of}

-- with the root of a group, where it has packs
abbrev pub formatted : Config → ℕ → List Version → List Version
formatted c group older = cond (nat_lt 0 (packs_of c group).0) (format_version group ∷ older) older
