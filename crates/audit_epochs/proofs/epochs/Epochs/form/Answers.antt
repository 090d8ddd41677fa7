use Rattle.std.proofs.Common.{◌∷◌, [], ◌++◌, sym, ap, ◌∙◌}
use Rattle.std.specs.Option.{is_some}
use Rattle.promises.specs.Past.{Epoch}
use Rattle.audit_epochs.proofs.Placing.{formed_before, formed_now}
use Rattle.audit_epochs.proofs.epochs.Epochs.form.Goals as goal

pub returns-then-is_some : goal.returns-then-is_some
returns-then-is_some c = formed_before c.args.epoch c.args.self.now _ (ap is_some (sym c.place.ensures) ∙ (sym c.is_some.ensures ∙ c.if-is_some.true))

pub returns-in-Ok : goal.returns-in-Ok
returns-in-Ok c = formed_now c.args.epoch c.args.self.now c.self.inside.rows.items c.push.new.self.items _ c.self.view_is (ap is_some (sym c.place.ensures) ∙ (sym c.is_some.ensures ∙ c.if-is_some.false))
    (c.in_ok-push.ensures.items ∙ ap (λ (t : Epoch). c.self.inside.rows.items ++ t ∷ []) c.formed.ensures)
