use Rattle.std.proofs.Common.{◌∙◌, ap, sym}
use Rattle.role_steps.specs.Tables.{with_row}
use Rattle.role_steps.specs.Adoption.{table_group}
use Rattle.role_steps.specs.Versions.{file_row}
use Rattle.site_tables.proofs.Back.{noted_at, noted_none}
use Rattle.site_tables.proofs.Groups.{have_keeps}
use Rattle.site_tables.proofs.at_group.notes_own.Goals as goal

pub returns-in_default : goal.returns-in_default
returns-in_default c = noted_none c.args.me c.args.file c.args.stamp c.args.tables.now c.take_table.new.tables (sym c.in_default.ensures.table) c.take_table.ensures.left

pub returns : goal.returns
returns c = noted_at c.args.me c.args.file c.args.stamp c.args.tables.now c.put.new.self c.in-Some.table c.notes_own.new.self c.in-Some.ensures.rising (sym c.in-Some.ensures.table) (have_keeps c.args.me c.args.stamp (file_row c.in-Some.table c.args.file.ino) c.in-Some.table) c.in_ok-notes_own.ensures (c.in_ok-put.ensures.ok ∙ ap (with_row table_group c.notes_own.new.self) c.in-Some.ensures.left)
