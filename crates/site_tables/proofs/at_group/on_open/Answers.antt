use Rattle.std.proofs.Common.{◌∙◌, ap, subst, sym}
use Rattle.role_steps.specs.Opens.{OpenRequest}
use Rattle.using_site.specs.Steps.{Gives}
use Rattle.site_tables.specs.Tables.{tables_at}
use Rattle.role_steps.specs.Tables.{with_row}
use Rattle.role_steps.specs.Adoption.{table_group}
use Rattle.role_steps.specs.Reports.{on_open}
use Rattle.site_tables.proofs.Back.{given_at, given_quiet}
use Rattle.site_tables.proofs.Groups.{on_open_keeps}
use Rattle.site_tables.proofs.at_group.on_open.Goals as goal

pub returns-in_default : goal.returns-in_default
returns-in_default c = subst (λ (o : OpenRequest). Gives (tables_at (on_open c.args.frame.now c.args.from c.args.asked.now) o.file.group c.args.tables.now) c.take_table.new.tables c.args.out.now c.args.out.now) c.asked.view_is (given_quiet (on_open c.args.frame.now c.args.from c.args.asked.now) c.asked.inside.file.group c.args.tables.now c.take_table.new.tables c.args.out.now (sym c.in_default.ensures.table) c.take_table.ensures.left)

pub returns : goal.returns
returns c = subst (λ (o : OpenRequest). Gives (tables_at (on_open c.args.frame.now c.args.from c.args.asked.now) o.file.group c.args.tables.now) c.put.new.self c.args.out.now c.on_open.new.out) c.asked.view_is (given_at (on_open c.args.frame.now c.args.from c.args.asked.now) c.asked.inside.file.group c.args.tables.now c.put.new.self c.in-Some.table c.on_open.new.self c.args.out.now c.on_open.new.out c.in-Some.ensures.rising (sym c.in-Some.ensures.table) (on_open_keeps c.args.frame.now c.args.from c.args.asked.now c.in-Some.table) c.in_ok-on_open.ensures.view c.in_ok-on_open.ensures.packets c.in_ok-on_open.ensures.records (c.in_ok-put.ensures.ok ∙ ap (with_row table_group c.on_open.new.self) c.in-Some.ensures.left))
