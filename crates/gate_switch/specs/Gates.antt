-- Which gates are open after a switch that was cut off.
use Rattle.std.specs.Prelude.{ℕ, ◌+◌, ◌==◌, Bool, true, false, cond, nat_lt}
use Rattle.disk_model.specs.declared.script.Leave.{Leave}
use Rattle.disk_model.specs.declared.script.Leave.TheVariants.{Old, New, Byte}
use Rattle.disk_model.specs.Cut.{Cut, Stops, Fails}

-- whether a gate is open after its write was cut off, or the sync after it: where it was open or not, and was to be so
abbrev pub left_open : Bool → Bool → Leave → Bool
left_open was to Old = was
left_open was to New = to
left_open was to (Byte byte) = byte == 165

-- `writing` tells the write from its sync
abbrev pub gate_left : Cut → Bool → Bool → Bool → Bool
gate_left (Stops leave) writing was to = left_open was to leave
gate_left Fails writing was to = cond writing was to

-- The new gate is open where so many calls have passed before the one that was cut off. What stands behind the gate and the
-- blocks that it names, which `pages` counts (data pages, and tables too), are written and synced first.
abbrev pub new_gate : ℕ → Cut → ℕ → Bool
new_gate pages how passed =
    cond (nat_lt passed (pages + 2)) false (cond (nat_lt passed (pages + 4)) (gate_left how (passed == pages + 2) false true) true)

-- and so is the old one, which was
abbrev pub old_gate : ℕ → Cut → ℕ → Bool
old_gate pages how passed = cond (nat_lt passed (pages + 4)) true (gate_left how (passed == pages + 4) true false)
