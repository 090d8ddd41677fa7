use Rattle.std.proofs.Common.{◌∙◌, ap, sym}
use Rattle.role_steps.specs.Tables.{with_row}
use Rattle.role_steps.specs.Adoption.{table_group}
use Rattle.role_steps.specs.Reports.{on_report}
use Rattle.site_tables.proofs.Back.{given_at, given_quiet}
use Rattle.site_tables.proofs.Groups.{on_report_keeps}
use Rattle.site_tables.proofs.at_group.on_report.Goals as goal

pub returns-in_default : goal.returns-in_default
returns-in_default c = given_quiet (on_report c.args.frame.now c.args.from c.args.copies.now) c.args.group c.args.tables.now c.take_table.new.tables c.args.out.now (sym c.in_default.ensures.table) c.take_table.ensures.left

pub returns : goal.returns
returns c = given_at (on_report c.args.frame.now c.args.from c.args.copies.now) c.args.group c.args.tables.now c.put.new.self c.in-Some.table c.on_report.new.self c.args.out.now c.on_report.new.out c.in-Some.ensures.rising (sym c.in-Some.ensures.table) (on_report_keeps c.args.frame.now c.args.from c.args.copies.now c.in-Some.table) c.in_ok-on_report.ensures.view c.in_ok-on_report.ensures.packets c.in_ok-on_report.ensures.records (c.in_ok-put.ensures.ok ∙ ap (with_row table_group c.on_report.new.self) c.in-Some.ensures.left)
