use Rattle.std.proofs.Common.{◌≡◌, drop}
use Rattle.role_steps.specs.Tables.{first_that}
use Rattle.role_steps.specs.Using.{asks_open_of}
use Rattle.using_site.specs.Steps.{mended_by}
use Rattle.using_site.proofs.users.UsingSite.mend_opening.Given as goal

abbrev pub invariant-loop-waiting : goal.invariant-loop-waiting
invariant-loop-waiting l = mended_by (first_that (asks_open_of l.serial) (drop l.waiting-index l.rows)) ≡ mended_by (first_that (asks_open_of l.serial) l.rows)
