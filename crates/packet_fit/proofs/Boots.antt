-- The members of an epoch are of the format, whatever their boots are.
use Rattle.std.proofs.Common.{◌≡◌, ◌≢◌, ℕ, suc, ◌+◌, ◌<◌, ◌≤◌, ◌^◌, List, [], ◌∷◌, length, get_or, Bool, true, false, nat_eq, refl, arith}
use Rattle.std.proofs.lemmas.Bool.Decides.{nat_tests}
use Rattle.locus_ids.specs.Sizes.{sites_max}
use Rattle.field_codec.specs.Codec.{pair, u8_in}
use Rattle.field_codec.specs.Lists.{AllFit}
use Rattle.wire_fields.specs.Parts.{numbers}
use Rattle.wire_fields.specs.Memberships.{Entry, entries_from, members}
use Rattle.wire_fields.proofs.Members.{in_range}

abbrev Fit : ℕ → List Entry → Type 0
Fit least es = AllFit (λ least. pair (u8_in least sites_max) numbers) (λ _ (entry : Entry). entry.0 + 1) least es

few : (s : ℕ) (bs : List ℕ) → length (entries_from s bs) ≤ length bs
few s [] = omega arith
few s (b ∷ bs) = here (nat_eq b 0) refl (few (s + 1) bs) where
  here : (t : Bool) → nat_eq b 0 ≡ t → length (entries_from (s + 1) bs) ≤ length bs → length (entries_from s (b ∷ bs)) ≤ length (b ∷ bs)
  here true e h = rw e (omega arith)
  here false e h = rw e (omega arith)

all_fit : (least s : ℕ) (bs : List ℕ) → 1 ≤ least → least ≤ s → s + length bs ≤ sites_max + 1 → ((k : ℕ) → get_or bs k 0 < 2 ^ 32) → Fit least (entries_from s bs)
all_fit least s [] o l m h = tt
all_fit least s (b ∷ bs) o l m h = here (nat_eq b 0) refl (all_fit least (s + 1) bs o (omega arith) (omega arith) (λ k. h (suc k))) (all_fit (s + 1) (s + 1) bs (omega arith) (omega arith) (omega arith) (λ k. h (suc k))) where
  here : (t : Bool) → nat_eq b 0 ≡ t → Fit least (entries_from (s + 1) bs) → Fit (s + 1) (entries_from (s + 1) bs) → Fit least (entries_from s (b ∷ bs))
  here true e f g = rw e f
  here false e f g =
      let n : b ≢ 0 = grind (arith, nat_tests) in
      let x : b < 2 ^ 32 = h 0 in
      rw e (((in_range least sites_max s l (omega arith), omega arith), (in_range 1 4294967295 b (omega arith) (omega arith), x)), g)

pub boots_fit : (bs : List ℕ) → length bs ≡ sites_max → ((k : ℕ) → get_or bs k 0 < 2 ^ 32) → members.Fits (record { boot = bs })
boots_fit bs e h = (e, ((let f = few 1 bs in omega arith), all_fit 1 1 bs (omega arith) (omega arith) (omega arith) h))
