use Rattle.std.proofs.Common.{◌∙◌}
use Rattle.audit_copies.proofs.Having.{has_there}
use Rattle.audit_copies.proofs.file_rows.has_copy.Goals as goal

pub returns : goal.returns
returns c = c.is_there.ensures ∙ has_there c.args.copy c.args.rows.now c.place_of.result c.requires (c.place_of.ensures.split c.requires)
