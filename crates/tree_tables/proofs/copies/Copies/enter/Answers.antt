use Rattle.std.proofs.Common.{◌<◌, length, set, ap, ◌∙◌, subst}
use Rattle.tree_model.specs.Tree.{entered}
use Rattle.tree_tables.proofs.RowLists.{map-step}
use Rattle.tree_tables.proofs.copies.Copies.enter.Goals as goal

pub loop-row-preserved : goal.loop-row-preserved
loop-row-preserved c =
    let whole = c.deref_mut-row-items.ensures.value ∙ c.self.view_is in
    let below : c.loop-row.row-index < length c.args.self.now = subst (λ xs. c.loop-row.row-index < length xs) whole c.loop-row-test.true in
    ap (λ row. set c.loop-row.row-items c.loop-row.row-index row) c.entered.ensures
    ∙ map-step (entered c.args.site) c.args.self.now c.loop-row.row-items c.loop-row.row-index _ below c.loop-row.invariant
