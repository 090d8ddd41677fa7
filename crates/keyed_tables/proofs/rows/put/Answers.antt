use Rattle.std.proofs.Common.{sym, ◌∙◌, ap, set}
use Rattle.std.specs.List.{insert}
use Rattle.role_steps.specs.Tables.{with_row}
use Rattle.keyed_tables.proofs.Searched.{put_rising, rising_along}
use Rattle.keyed_tables.proofs.rows.put.Goals as goal

pub returns-in-Ok-clause-rising : goal.returns-in-Ok-clause-rising
returns-in-Ok-clause-rising g c =
    rising_along g.T.Keyed.key (with_row g.T.Keyed.key c.args.row c.args.rows.now.items) _
    (ap (λ xs. with_row g.T.Keyed.key c.args.row xs) (sym c.deref.ensures.value) ∙ (c.in-Ok.ensures.with c.args.row (sym c.key.ensures) ∙ ap (λ xs. set xs c.in-Ok.i c.args.row) c.deref.ensures.value))
    (put_rising g.T.Keyed.key c.args.row c.args.rows.now.items c.requires)

pub returns-in_ok-insert-in-Err-clause-rising : goal.returns-in_ok-insert-in-Err-clause-rising
returns-in_ok-insert-in-Err-clause-rising g c =
    rising_along g.T.Keyed.key (with_row g.T.Keyed.key c.args.row c.args.rows.now.items) _
    (ap (λ xs. with_row g.T.Keyed.key c.args.row xs) (sym c.deref.ensures.value) ∙ (c.in-Err.ensures.with c.args.row (sym c.key.ensures) ∙ (ap (λ xs. insert xs c.in-Err.i c.args.row) c.deref.ensures.value ∙ sym c.in_ok-insert-in-Err.ensures.items)))
    (put_rising g.T.Keyed.key c.args.row c.args.rows.now.items c.requires)
