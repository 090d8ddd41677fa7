use Rattle.std.proofs.Common.{◌≡◌, ◌-◌, ◌++◌}
use Rattle.std.specs.Prelude.{map, filter}
use Rattle.commit_graph.specs.Vectors.{numbers_from}
use Rattle.tree_model.specs.Packs.{has_pack}
use Rattle.tree_model.specs.Histories.{format_stamp}
use Rattle.call_rules.specs.Walks.{root_of}
use Rattle.promises.specs.Past.{groups}
use Rattle.audit_sites.proofs.starting.first_copies.Given as goal

abbrev pub invariant-loop-group : goal.invariant-loop-group
invariant-loop-group l =
    l.made.items ++ map (λ group. record { file = root_of group; stamp = format_stamp }) (filter (λ group. has_pack l.config group l.site) (numbers_from l.group (4 - l.group)))
    ≡ map (λ group. record { file = root_of group; stamp = format_stamp }) (filter (λ group. has_pack l.config group l.site) groups)
