use Rattle.std.proofs.Common.{◌≡◌, drop}
use Rattle.role_steps.specs.Tables.{first_that}
use Rattle.role_steps.specs.Using.{asks_open_of}
use Rattle.waiting_calls.specs.Rows.{key_of}
use Rattle.waiting_calls.proofs.checking.open_asker.Given as goal

abbrev pub invariant-loop-waiting : goal.invariant-loop-waiting
invariant-loop-waiting l = key_of (first_that (asks_open_of l.serial) (drop l.waiting-index l.rows)) ≡ key_of (first_that (asks_open_of l.serial) l.rows)
