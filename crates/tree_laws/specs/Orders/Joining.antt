-- Packs come to an epoch before their group starts in it.
use Rattle.std.specs.Prelude.{ℕ, ◌≡◌, ◌<◌, true, false}
use Rattle.locus_ids.specs.declared.config.Config.{Config}
use Rattle.locus_ids.specs.declared.ids.EpochId.{EpochId}
use Rattle.locus_ids.specs.declared.sites.Members.{Members}
use Rattle.locus_ids.specs.Sizes.{set_span}
use Rattle.tree_model.specs.Folds.{Trace}
use Rattle.tree_model.specs.Packs.{has_pack, packs_of}
use Rattle.tree_model.specs.Tree.{tree_of}
use Rattle.lawful_trace.specs.SiteRows.{MayJoin}

-- the packs of each group are at some of sites 1 to 16
abbrev pub PacksAreOfSites : Config → Type 0
PacksAreOfSites c = (group : ℕ) → (packs_of c group).0 < set_span

-- a site that may still join an epoch in which the group has started has no pack of the group
abbrev pub NoPackComes : Config → Trace → Type 0
NoPackComes c before = (e : EpochId) (group site : ℕ) (members : Members) → (tree_of c e group before).started ≡ true → MayJoin c before site e members → has_pack c group site ≡ false
