use Rattle.std.proofs.Common.{◌≡◌, ◌-◌, ◌+◌}
use Rattle.std.specs.List.{find}
use Rattle.locus_ids.specs.Sizes.{sites_max}
use Rattle.commit_graph.specs.Vectors.{numbers_from}
use Rattle.tree_model.specs.Packs.{is_place, least_site}
use Rattle.tree_tables.proofs.sites.least_place.Given as goal

abbrev pub invariant-loop-site : goal.invariant-loop-site
invariant-loop-site l = find (is_place l.members l.set) (numbers_from l.site ((sites_max + 1) - l.site)) ≡ least_site (is_place l.members l.set)
