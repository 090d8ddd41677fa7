use Rattle.std.proofs.Common.{◌≡◌, ◌-◌, ◌||◌, not, ◌+◌}
use Rattle.std.specs.List.{list_all}
use Rattle.locus_ids.specs.Sizes.{sites_max}
use Rattle.locus_ids.specs.Sites.{has}
use Rattle.commit_graph.specs.Vectors.{numbers_from}
use Rattle.tree_model.specs.Packs.{is_within}
use Rattle.audit_tree.proofs.places.is_within.Given as goal

abbrev pub invariant-loop-site : goal.invariant-loop-site
invariant-loop-site l = list_all (λ site. not (has l.a site) || has l.b site) (numbers_from l.site ((sites_max + 1) - l.site)) ≡ is_within l.a l.b
