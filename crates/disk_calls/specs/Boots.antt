-- The calls of a boot.
use Rattle.std.specs.Prelude.{ℕ, zero, suc, ◌+◌, Bool, true, false, cond, [], ◌-◌, ◌&&◌, nat_lt}
use Rattle.disk_calls.specs.Gates.{Cut, gate_left}
use Rattle.disk_calls.specs.Versions.{Writing, are_left_open}

-- a boot closes the losing half of the label where both are open, and switches the label as a slot is switched that has no
-- blocks and an older one
abbrev pub label_writing : Writing
label_writing = record { pages = []; tables = []; older = true }

abbrev pub calls_of_label : Bool → ℕ
calls_of_label halves = cond halves 8 6

-- and it closes the losing slot where both of a file are open
abbrev pub calls_of_boot : Bool → Bool → ℕ
calls_of_boot halves slots = calls_of_label halves + cond slots 2 0

-- a losing gate is closed by a write and a sync: it is still open where the call of this number is cut off, 0 for one before
abbrev pub is_loser_open : Cut → ℕ → Bool
is_loser_open how zero = true
is_loser_open how (suc zero) = gate_left how true true false
is_loser_open how (suc (suc zero)) = gate_left how false true false
is_loser_open how (suc (suc (suc n))) = false

-- both halves are open where so many calls of a boot have passed before the one that was cut off
abbrev pub are_halves_open : Bool → Cut → ℕ → Bool
are_halves_open halves how passed = cond (halves && nat_lt passed 2) (is_loser_open how (passed + 1)) (are_left_open label_writing how (passed - cond halves 2 0))

-- both slots of a file are still open
abbrev pub are_slots_open : Bool → Bool → Cut → ℕ → Bool
are_slots_open halves slots how passed = slots && is_loser_open how (passed + 1 - calls_of_label halves)
