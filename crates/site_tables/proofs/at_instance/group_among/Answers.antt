use Rattle.std.proofs.Common.{◌∙◌, ap, sym, Some}
use Rattle.the_run.specs.Steps.{is_opened_in}
use Rattle.site_tables.specs.Tables.{group_in}
use Rattle.site_tables.proofs.Back.{first_here, first_later}
use Rattle.site_tables.proofs.at_instance.group_among.Goals as goal

pub returns-then-is_opened : goal.returns-then-is_opened
returns-then-is_opened c = ap (λ g. Some g) c.group.ensures ∙ ap group_in (first_here (is_opened_in c.args.inst) c.args.tables.now c.loop-table.table-index c.table-item.result c.loop-table-test.true c.table-item.is (sym c.is_opened.ensures ∙ c.if-is_opened.true) c.loop-table.invariant)

pub loop-table-preserved : goal.loop-table-preserved
loop-table-preserved c = first_later (is_opened_in c.args.inst) c.args.tables.now c.loop-table.table-index c.table-item.result c.loop-table-test.true c.table-item.is (sym c.is_opened.ensures ∙ c.if-is_opened.false) c.loop-table.invariant
