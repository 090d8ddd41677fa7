use Rattle.std.proofs.Common.{ℕ, List, ap, ◌∙◌}
use Rattle.promises.specs.Past.{is_number}
use Rattle.audit_rows.proofs.calling.is_syncing.Goals as goal

pub returns : goal.returns
returns c = c.is_it.ensures ∙ ap (λ (sites : List ℕ). is_number sites c.args.site) c.sync_of.ensures
