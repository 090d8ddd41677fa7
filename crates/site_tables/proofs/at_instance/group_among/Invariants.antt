use Rattle.std.proofs.Common.{◌≡◌, drop}
use Rattle.role_steps.specs.Tables.{first_that}
use Rattle.the_run.specs.Steps.{is_opened_in}
use Rattle.site_tables.proofs.at_instance.group_among.Given as goal

abbrev pub invariant-loop-table : goal.invariant-loop-table
invariant-loop-table l = first_that (is_opened_in l.inst) (drop l.table-index l.tables) ≡ first_that (is_opened_in l.inst) l.tables
