use Rattle.std.proofs.Common.{◌+◌, ℕ, ap, ◌∙◌}
use Rattle.audit_epochs.proofs.Using.{next_one, next_none}
use Rattle.audit_epochs.proofs.epoch_row.EpochRow.next_use.Goals as goal

pub returns-in-Some-checked_add : goal.returns-in-Some-checked_add
returns-in-Some-checked_add c =
    c.in-Some-checked_add.ensures.1 ∙ (ap (λ (n : ℕ). n + 1) c.uses.ensures ∙ next_one _ c.args.self.now c.args.inst c.in-Some.row.now c.self.view_is c.in-Some.ensures.found c.in-Some.ensures.one)

pub returns-in-None : goal.returns-in-None
returns-in-None c = next_none _ c.args.self.now c.args.inst c.self.view_is c.in-None.ensures.found
