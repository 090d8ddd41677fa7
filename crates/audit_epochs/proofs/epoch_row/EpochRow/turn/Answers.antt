use Rattle.std.proofs.Common.{◌≡◌, ℕ, IfOk, subst}
use Rattle.audit_epochs.proofs.Using.{turn_none, turn_one}
use Rattle.audit_epochs.proofs.epoch_row.EpochRow.turn.Goals as goal

pub returns-in-Some : goal.returns-in-Some
returns-in-Some c =
    subst (λ (n : ℕ). IfOk c.next_use.result (λ turn. turn ≡ n))
    (turn_one c.args.begins.now c.args.words.now _ c.args.self.now c.in-Some.inst c.self.view_is c.in-Some.ensures)
    c.next_use.ensures

pub returns-in-None : goal.returns-in-None
returns-in-None c = turn_none c.args.begins.now c.args.words.now _ c.args.self.now c.self.view_is c.in-None.ensures
