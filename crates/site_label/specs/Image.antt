-- The boot number of a label, as a function of the image.
use Rattle.std.specs.Prelude.{ℕ, ◌+◌, cond, max, List}
use Rattle.std.specs.Int.{w32, from_be_bytes}
use Rattle.disk_model.specs.Images.{bytes_at}
use Rattle.site_label.specs.declared.half.Half.{Half}
use Rattle.site_label.specs.declared.half.Half.TheVariants.{First, Second}
use Rattle.site_label.specs.Label.{half_at, is_open}

-- the number that a half has, where it is open
abbrev pub half_number : List ℕ → Half → ℕ
half_number image half = from_be_bytes w32 (bytes_at image (half_at half + 10) 4)

-- the number that counts: that of the open half, or the greater one of both
abbrev pub label_number : List ℕ → ℕ
label_number image =
    cond (is_open image First)
    (cond (is_open image Second) (max (half_number image First) (half_number image Second)) (half_number image First))
    (half_number image Second)
