-- The label of a disk: its first 1,024 bytes, in two halves of 512.
use Rattle.std.specs.Prelude.{◌≡◌, ◌⊎◌, ℕ, ◌^◌, ◌<◌, ◌==◌, Bool, false, List, ◌∷◌, ◌++◌, replicate, codes, slice_index}
use Rattle.std.specs.Int.{w32, to_be_bytes}
use Rattle.disk_model.specs.Images.{bytes_at}
use Rattle.site_label.specs.declared.half.Half.{Half}
use Rattle.site_label.specs.declared.half.Half.TheVariants.{First, Second}

-- the bytes of a label
abbrev pub label_bytes : ℕ
label_bytes = 1024

-- where a half begins
abbrev pub half_at : Half → ℕ
half_at First = 0
half_at Second = 512

abbrev pub other_half : Half → Half
other_half First = Second
other_half Second = First

-- the 512 bytes of an open half: its gate, `LOCUSLB1`, the site, the boot number with its greater bytes first, zeros
unfoldable pub half_bytes : ℕ → ℕ → List ℕ
half_bytes site boot = 165 ∷ (codes "LOCUSLB1" ++ site ∷ (to_be_bytes w32 boot ++ replicate 498 0))

-- the gate of a half is open
abbrev pub is_open : List ℕ → Half → Bool
is_open image half = slice_index image (half_at half) == 165

-- an open half has this boot number of the site
abbrev pub Says : ℕ → ℕ → Half → List ℕ → Type 0
Says site boot half image = bytes_at image (half_at half) 512 ≡ half_bytes site boot

-- a half is closed, or has a lesser boot number
abbrev pub IsOlder : ℕ → ℕ → Half → List ℕ → Type 0
IsOlder site boot half image = (is_open image half ≡ false) ⊎ ((lesser : ℕ) × (lesser < boot) × Says site lesser half image)

-- The label is this site's, and has this boot number: one half has it, and the other one is closed or has a lesser one.
pub record HasBoot (site boot : ℕ) (image : List ℕ) : Type 0 where
  pub half : Half
  pub fits : boot < 2 ^ 32
  pub says : Says site boot half image
  pub other : IsOlder site boot (other_half half) image

-- only this half is open
pub record IsAlone (site boot : ℕ) (half : Half) (image : List ℕ) : Type 0 where
  pub fits : boot < 2 ^ 32
  pub says : Says site boot half image
  pub shut : is_open image (other_half half) ≡ false

-- a label as a format leaves it: the first half has the boot number 1, and the second one is zeros
abbrev pub IsNew : ℕ → List ℕ → Type 0
IsNew site image = bytes_at image 0 label_bytes ≡ half_bytes site 1 ++ replicate 512 0
