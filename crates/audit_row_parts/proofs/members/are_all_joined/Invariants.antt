use Rattle.std.proofs.Common.{◌≡◌, ◌-◌, ◌&&◌}
use Rattle.std.specs.Prelude.{filter}
use Rattle.std.specs.List.{list_all}
use Rattle.commit_graph.specs.Vectors.{numbers_from}
use Rattle.tree_model.specs.Packs.{has_pack, is_member}
use Rattle.promises.specs.Past.{is_number}
use Rattle.audit_row_parts.specs.Parts.{are_joined_among}
use Rattle.audit_row_parts.proofs.members.are_all_joined.Given as goal

abbrev pub invariant-loop-site : goal.invariant-loop-site
invariant-loop-site l =
    list_all (is_number l.joined) (filter (λ site. is_member l.members site && has_pack l.config l.group site) (numbers_from l.site (17 - l.site)))
    ≡ are_joined_among l.config l.members l.joined l.group
