use Rattle.std.proofs.Common.{◌∙◌, ap, refl, sym}
use Rattle.role_steps.specs.Tables.{with_row}
use Rattle.role_steps.specs.Adoption.{table_group}
use Rattle.role_steps.specs.Reports.{on_have}
use Rattle.site_tables.proofs.Back.{view_at, view_quiet}
use Rattle.site_tables.proofs.Groups.{on_have_keeps}
use Rattle.site_tables.proofs.at_group.on_have.Goals as goal

pub returns-in_default : goal.returns-in_default
returns-in_default c = view_quiet (on_have c.args.from c.args.file c.args.stamp) c.args.file.group c.args.tables.now c.take_table.new.tables (sym c.in_default.ensures.table) c.take_table.ensures.left

pub returns : goal.returns
returns c = view_at (on_have c.args.from c.args.file c.args.stamp) c.args.file.group c.args.tables.now c.put.new.self c.in-Some.table c.on_have.new.self c.in-Some.ensures.rising (sym c.in-Some.ensures.table) (on_have_keeps c.args.from c.args.file c.args.stamp c.in-Some.table) refl refl c.in_ok-on_have.ensures (c.in_ok-put.ensures.ok ∙ ap (with_row table_group c.on_have.new.self) c.in-Some.ensures.left)
