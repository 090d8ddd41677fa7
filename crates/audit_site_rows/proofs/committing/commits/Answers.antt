use Rattle.std.proofs.Common.{List, ap, ◌∙◌}
use Rattle.std.specs.Prelude.{filter}
use Rattle.promises.specs.Past.{Instance}
use Rattle.promises.specs.Rows.{is_writing}
use Rattle.audit_row_parts.specs.Parts.{only_of}
use Rattle.audit_site_rows.proofs.OnlyOne.{none_passes}
use Rattle.audit_site_rows.proofs.committing.commits.Goals as goal

pub returns-in-None : goal.returns-in-None
returns-in-None c = none_passes _ _ (c.in-None.ensures ∙ ap (λ (xs : List Instance). only_of (filter (is_writing c.args.file) xs)) c.opened.ensures)
