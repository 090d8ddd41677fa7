use Rattle.std.proofs.Common.{◌≡◌, drop}
use Rattle.role_steps.specs.Tables.{first_that}
use Rattle.role_steps.specs.Using.{asks_held_number}
use Rattle.waiting_calls.specs.Rows.{key_of}
use Rattle.waiting_calls.proofs.checking.held_asker.Given as goal

abbrev pub invariant-loop-waiting : goal.invariant-loop-waiting
invariant-loop-waiting l = key_of (first_that (asks_held_number l.serial l.number) (drop l.waiting-index l.rows)) ≡ key_of (first_that (asks_held_number l.serial l.number) l.rows)
