use Rattle.std.proofs.Common.{◌∙◌, ap, sym}
use Rattle.role_steps.specs.Tables.{with_row}
use Rattle.role_steps.specs.Adoption.{table_group}
use Rattle.role_steps.specs.Opens.{on_opened}
use Rattle.site_tables.proofs.Back.{given_at, given_quiet, with_at, with_none}
use Rattle.site_tables.proofs.Groups.{on_opened_keeps}
use Rattle.site_tables.proofs.at_instance.on_opened.Goals as goal

pub returns-in_default : goal.returns-in_default
returns-in_default c = with_none (on_opened c.args.frame.now c.args.inst c.args.answer) c.args.inst c.args.tables.now c.args.out.now c.in_default.ensures.group

pub returns-in_default-take_table : goal.returns-in_default-take_table
returns-in_default-take_table c = with_at (on_opened c.args.frame.now c.args.inst c.args.answer) c.args.inst c.in-Some.group c.args.tables.now c.take_table.new.tables c.args.out.now c.args.out.now c.in-Some.ensures.rising c.in-Some.ensures.group
    (given_quiet (on_opened c.args.frame.now c.args.inst c.args.answer) c.in-Some.group c.args.tables.now c.take_table.new.tables c.args.out.now (sym c.in_default-take_table.ensures.table) c.take_table.ensures.left)

pub returns : goal.returns
returns c = with_at (on_opened c.args.frame.now c.args.inst c.args.answer) c.args.inst c.in-Some.group c.args.tables.now c.put.new.self c.args.out.now c.on_opened.new.out c.in-Some.ensures.rising c.in-Some.ensures.group
    (given_at (on_opened c.args.frame.now c.args.inst c.args.answer) c.in-Some.group c.args.tables.now c.put.new.self c.in-Some-take_table.table c.on_opened.new.self c.args.out.now c.on_opened.new.out c.in-Some-take_table.ensures.rising (sym c.in-Some-take_table.ensures.table) (on_opened_keeps c.args.frame.now c.args.inst c.args.answer c.in-Some-take_table.table) c.in_ok-on_opened.ensures.view c.in_ok-on_opened.ensures.packets c.in_ok-on_opened.ensures.records (c.in_ok-put.ensures.ok ∙ ap (with_row table_group c.on_opened.new.self) c.in-Some-take_table.ensures.left))
