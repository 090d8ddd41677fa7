-- What the halves of a label say.
use Rattle.std.specs.Prelude.{◌≡◌, ℕ, ◌^◌, ◌<◌, ◌==◌, Bool, true, false, cond, nat_lt, List, slice_index, Option, Some, None}
use Rattle.site_label.specs.declared.half.Half.{Half}
use Rattle.site_label.specs.declared.half.Half.TheVariants.{First, Second}
use Rattle.site_label.specs.declared.reading.Reading.{Reading}
use Rattle.site_label.specs.declared.reading.Reading.TheVariants.{Closed, Boot, Bad}
use Rattle.site_label.specs.declared.reading.Counted.{Counted}
use Rattle.site_label.specs.Label.{half_bytes, is_open, other_half, Says}

-- what the 512 bytes of a half say
abbrev pub IsReading : ℕ → List ℕ → Reading → Type 0
IsReading site bytes Closed = (slice_index bytes 0 == 165) ≡ false
IsReading site bytes (Boot boot) = bytes ≡ half_bytes site boot
IsReading site bytes Bad = ((slice_index bytes 0 == 165) ≡ true) × ((boot : ℕ) → boot < 2 ^ 32 → bytes ≡ half_bytes site boot → ⊥)

-- what a half of the label says
abbrev pub IsHalf : ℕ → Half → List ℕ → Reading → Type 0
IsHalf site half image Closed = is_open image half ≡ false
IsHalf site half image (Boot boot) = (boot < 2 ^ 32) × Says site boot half image
IsHalf site half image Bad = (is_open image half ≡ true) × ((boot : ℕ) → boot < 2 ^ 32 → Says site boot half image → ⊥)

-- of two halves the one with the greater boot number counts, or none where they are equal
abbrev pub greater : ℕ → ℕ → Option Counted
greater one other = cond (nat_lt other one) (Some (record { half = First; boot = one; beside = true })) (cond (nat_lt one other) (Some (record { half = Second; boot = other; beside = true })) None)

-- which half counts
abbrev pub counted_of : Reading → Reading → Option Counted
counted_of Closed Closed = None
counted_of Closed (Boot boot) = Some (record { half = Second; boot = boot; beside = false })
counted_of Closed Bad = None
counted_of (Boot boot) Closed = Some (record { half = First; boot = boot; beside = false })
counted_of (Boot one) (Boot other) = greater one other
counted_of (Boot boot) Bad = None
counted_of Bad second = None

-- the half beside the one that counts is closed, or has a lesser number
abbrev pub IsBeside : ℕ → ℕ → Half → List ℕ → Bool → Type 0
IsBeside site boot half image false = is_open image half ≡ false
IsBeside site boot half image true = (lesser : ℕ) × (lesser < boot) × Says site lesser half image

-- this half counts
pub record IsCounted (site : ℕ) (image : List ℕ) (counted : Counted) : Type 0 where
  pub fits : counted.boot < 2 ^ 32
  pub says : Says site counted.boot counted.half image
  pub beside : IsBeside site counted.boot (other_half counted.half) image counted.beside
