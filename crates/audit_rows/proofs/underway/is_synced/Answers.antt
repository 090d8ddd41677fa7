use Rattle.std.proofs.Common.{ℕ, List, ap, ◌∙◌}
use Rattle.locus_ids.specs.declared.sites.Members.{Members}
use Rattle.audit_row_parts.specs.Parts.{is_synced_among}
use Rattle.audit_rows.proofs.underway.is_synced.Goals as goal

pub returns : goal.returns
returns c =
    c.is_synced.ensures
    ∙ ap (λ (m : Members). is_synced_among c.args.config.now m c.joined.result.now c.args.group) c.members.ensures
    ∙ ap (λ (sites : List ℕ). is_synced_among c.args.config.now c.args.t.now.members sites c.args.group) c.joined.ensures
