-- What a boot leaves of a label that was cut off.
use Rattle.std.specs.Prelude.{◌≡◌, ℕ, zero, suc, ◌+◌, ◌&&◌, Bool, true, false, cond, List}
use Rattle.disk_model.specs.Cut.{Cut}
use Rattle.disk_model.specs.Images.{Torn}
use Rattle.gate_switch.specs.Gates.{gate_left, new_gate, old_gate}
use Rattle.site_label.specs.Label.{label_bytes, HasBoot}
use Rattle.site_label.specs.Raising.{are_open}

-- the boot number that counts, and whether both halves are open
pub record LabelState : Type 0 where
  pub boot : ℕ
  pub both_open : Bool

-- the raised number counts once the gate of its half is open; the half of the number from before is closed then
abbrev pub raise_left : Cut → ℕ → ℕ → LabelState
raise_left how passed boot = record {
  boot = cond (new_gate 0 how passed) (boot + 1) boot;
  both_open = new_gate 0 how passed && old_gate 0 how passed;
}

-- the same after so many calls of a whole boot: where both halves are open, the losing one is closed first
abbrev pub boot_left : Bool → Cut → ℕ → ℕ → LabelState
boot_left false how passed boot = raise_left how passed boot
boot_left true how zero boot = record { boot = boot; both_open = gate_left how true true false }
boot_left true how (suc zero) boot = record { boot = boot; both_open = gate_left how false true false }
boot_left true how (suc (suc passed)) boot = raise_left how passed boot

-- the label of this site has this number, and both halves are open or not
pub record IsLabel (site : ℕ) (label : LabelState) (image : List ℕ) : Type 0 where
  pub number : HasBoot site label.boot image
  pub both : are_open image ≡ label.both_open

-- and nothing else is changed
pub record IsLeft (site : ℕ) (state : LabelState) (old new : List ℕ) : Type 0 where
  pub label : IsLabel site state new
  pub outside : Torn 0 label_bytes old new
