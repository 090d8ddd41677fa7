use Rattle.std.proofs.Common.{◌≡◌, drop}
use Rattle.role_steps.specs.Tables.{first_that}
use Rattle.role_steps.specs.Mends.{brought_by, is_mend_in}
use Rattle.using_site.proofs.users.UsingSite.brought.Given as goal

abbrev pub invariant-loop-waiting : goal.invariant-loop-waiting
invariant-loop-waiting l = brought_by (first_that (is_mend_in l.group) (drop l.waiting-index l.rows)) ≡ brought_by (first_that (is_mend_in l.group) l.rows)
