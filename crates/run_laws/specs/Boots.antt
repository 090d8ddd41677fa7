-- How great the boot numbers of sites are.
use Rattle.std.specs.Prelude.{ℕ, ◌≡◌, ◌≤◌, Some}
use Rattle.the_run.specs.Disks.{Disk, Booted, Whole, CutOff, boots}
use Rattle.the_run.specs.Laws.{boot_number}
use Rattle.the_run.specs.Worlds.{World, Stopped, place_at, script_of}

-- no site runs with a greater boot number, nor has one on its disk
abbrev pub BootsAreLow : World → Type 0
BootsAreLow w = (s : ℕ) → boot_number w s ≤ 134217729

-- the boot number that a boot leaves, where it was cut off or not
abbrev pub booted_number : Booted → ℕ
booted_number (Whole d a) = d.label.boot
booted_number (CutOff d how) = d.label.boot

-- nor does the next boot of a stopped site come to a greater one
abbrev pub NextBootsAreLow : World → Type 0
NextBootsAreLow w = (s : ℕ) (d : Disk) → place_at w s ≡ Some (Stopped d) → booted_number (boots (script_of w s) d) ≤ 134217730
