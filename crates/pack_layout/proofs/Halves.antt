-- The two slots of an inode.
use Rattle.std.proofs.Common.{◌≡◌, inl, inr, ◌+◌, ◌≤◌, ◌⊎◌, refl, arith}
use Rattle.pack_layout.specs.declared.half.Half.{Half}
use Rattle.pack_layout.specs.declared.half.Half.TheVariants.{First, Second}
use Rattle.pack_layout.specs.Layout.{half_number, other_half}

pub half_most : (half : Half) → half_number half ≤ 1
half_most First = omega arith
half_most Second = omega arith

-- the numbers of both
pub half_sum : (half : Half) → half_number (other_half half) + half_number half ≡ 1
half_sum First = refl
half_sum Second = refl

pub other_twice : (half : Half) → other_half (other_half half) ≡ half
other_twice First = refl
other_twice Second = refl

-- a slot is this one or the other
pub cases_half : (half one : Half) → (half ≡ one) ⊎ (half ≡ other_half one)
cases_half First First = inl refl
cases_half First Second = inr refl
cases_half Second First = inr refl
cases_half Second Second = inl refl

-- what holds of one slot and of the other holds of both
pub both_slots : (P : Half → Type 0) (half : Half) → P half → P (other_half half) → (each : Half) → P each
both_slots P First one other First = one
both_slots P First one other Second = other
both_slots P Second one other First = other
both_slots P Second one other Second = one
