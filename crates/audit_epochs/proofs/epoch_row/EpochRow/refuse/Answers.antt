use Rattle.std.proofs.Common.{sym, ◌∙◌}
use Rattle.audit_epochs.proofs.Making.{refuses_no_make}
use Rattle.audit_epochs.proofs.epoch_row.EpochRow.refuse.Goals as goal

pub returns-else-is_make-clause-ok : goal.returns-else-is_make-clause-ok
returns-else-is_make-clause-ok c = refuses_no_make c.args.self.now c.args.call c.args.mode c.args.file (sym c.is_make.ensures ∙ c.if-is_make.false)
