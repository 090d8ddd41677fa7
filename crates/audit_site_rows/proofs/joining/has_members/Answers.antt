use Rattle.std.proofs.Common.{ap, ◌∙◌}
use Rattle.std.specs.Str.{bytes_eq}
use Rattle.locus_ids.specs.declared.sites.Members.{Members}
use Rattle.promises.specs.Past.{Epoch}
use Rattle.promises.specs.After.{is_epoch}
use Rattle.audit_row_parts.proofs.Homes.{all_found, all_nowhere}
use Rattle.audit_site_rows.proofs.joining.has_members.Goals as goal

pub returns-in-Some : goal.returns-in-Some
returns-in-Some c =
    c.same_members.ensures ∙ ap (λ (m : Members). bytes_eq m.boot c.args.members.now.boot) c.members.ensures
    ∙ all_found (is_epoch c.args.epoch) (λ (t : Epoch). bytes_eq t.members.boot c.args.members.now.boot) c.args.epochs.now c.in-Some.row.now c.requires.once c.in-Some.ensures.found

pub returns-in-None : goal.returns-in-None
returns-in-None c = all_nowhere (is_epoch c.args.epoch) (λ (t : Epoch). bytes_eq t.members.boot c.args.members.now.boot) c.args.epochs.now c.in-None.ensures.found
