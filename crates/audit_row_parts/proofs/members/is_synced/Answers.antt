use Rattle.std.proofs.Common.{◌∙◌, ◌&&◌}
use Rattle.tree_model.specs.Packs.{all_sites, has_pack, is_member}
use Rattle.promises.specs.Past.{is_number}
use Rattle.audit_row_parts.proofs.Syncing.{first_found, first_nowhere}
use Rattle.audit_row_parts.proofs.members.is_synced.Goals as goal

pub returns-in-Some : goal.returns-in-Some
returns-in-Some c =
    c.is_number.ensures ∙ first_found (is_number c.args.joined.now) (λ site. is_member c.args.members.now site && has_pack c.args.config.now c.args.group site) all_sites c.in-Some.site c.in-Some.ensures

pub returns-in-None : goal.returns-in-None
returns-in-None c =
    first_nowhere (is_number c.args.joined.now) (λ site. is_member c.args.members.now site && has_pack c.args.config.now c.args.group site) all_sites c.in-None.ensures
