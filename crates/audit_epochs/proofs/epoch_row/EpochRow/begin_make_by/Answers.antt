use Rattle.std.proofs.Common.{sym, ◌∙◌}
use Rattle.audit_epochs.proofs.Making.{begins_not_passed}
use Rattle.audit_epochs.proofs.epoch_row.EpochRow.begin_make_by.Goals as goal

pub returns-clause-ok : goal.returns-clause-ok
returns-clause-ok c = begins_not_passed c.args.self.now c.args.inst c.args.op.now c.args.outcome.now (sym c.is_passed_probe.ensures ∙ c.if-is_passed_probe.false)
