use Rattle.std.proofs.Common.{sym, ◌∙◌, ap}
use Rattle.std.specs.List.{remove}
use Rattle.role_steps.specs.Tables.{without_row}
use Rattle.keyed_tables.proofs.Searched.{without_rising, rising_along, row_removed}
use Rattle.keyed_tables.proofs.sorted.SortedTable.remove.Goals as goal

pub invariant_of-self : goal.invariant_of-self
invariant_of-self g c =
    rising_along g.T.Keyed.key (without_row g.T.Keyed.key c.args.key c.self.inside.rows.items) _
    (ap (without_row g.T.Keyed.key c.args.key) (sym c.as_slice.ensures.value) ∙ (c.in-Ok.ensures.without ∙ (ap (λ xs. remove xs c.in-Ok.place) c.as_slice.ensures.value ∙ sym c.remove.ensures.items)))
    (without_rising g.T.Keyed.key c.args.key c.self.inside.rows.items c.self.invariant)

pub returns-in-Ok-clause-removed : goal.returns-in-Ok-clause-removed
returns-in-Ok-clause-removed g c = rw (← c.self.view_is) (row_removed g.T.Keyed.key c.args.key c.as_slice.result.now c.self.inside.rows.items c.in-Ok.place c.remove.result c.as_slice.ensures.value c.in-Ok.ensures.row.0 c.in-Ok.ensures.row.1 c.remove.ensures.value)
