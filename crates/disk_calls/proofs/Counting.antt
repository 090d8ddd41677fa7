-- How many calls a version takes, and when its gates are switched.
use Rattle.std.proofs.Common.{◌≡◌, ◌≤◌, ◌<◌, ℕ, ◌+◌, Bool, true, false, arith}
use Rattle.std.proofs.lemmas.Bool.Decides.{nat_tests}
use Rattle.disk_calls.specs.Gates.{Cut}
use Rattle.disk_calls.specs.Versions.{Writing, blocks, calls_of, calls_of_writing, new_gate, old_gate}

pub least_calls : (n : ℕ) (older : Bool) → 4 ≤ calls_of n older
least_calls n older = omega arith

pub at_least_four : (w : Writing) → 4 ≤ calls_of_writing w
at_least_four w = least_calls (blocks w) w.older

module _ (blocks : ℕ) (how : Cut) (passed : ℕ) where
  pub shut_before : passed < blocks + 2 → new_gate blocks how passed ≡ false
  shut_before lt = grind (arith, nat_tests)

  pub open_after : blocks + 4 ≤ passed → new_gate blocks how passed ≡ true
  open_after le = grind (arith, nat_tests)

  pub older_until : passed < blocks + 4 → old_gate blocks how passed ≡ true
  older_until lt = grind (arith, nat_tests)
