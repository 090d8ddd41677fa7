-- A vector of 16 counters is one of the format.
use Rattle.std.proofs.Common.{◌≡◌, ℕ, suc, ◌<◌, ◌^◌, List, [], ◌∷◌, length, get_or, sym}
use Rattle.locus_ids.specs.Sizes.{sites_max}
use Rattle.field_codec.specs.Codec.{u32}
use Rattle.field_codec.specs.Lists.{AllFit}
use Rattle.wire_fields.specs.Parts.{vectors}

all_fit : (xs : List ℕ) → ((k : ℕ) → get_or xs k 0 < 2 ^ 32) → AllFit (λ (_ : Unit {0}). u32) (λ _ _. tt) tt xs
all_fit [] h = tt
all_fit (x ∷ xs) h = (h 0, all_fit xs (λ k. h (suc k)))

pub vector_fits : (xs : List ℕ) → length xs ≡ sites_max → ((k : ℕ) → get_or xs k 0 < 2 ^ 32) → vectors.Fits xs
vector_fits xs e h = ((sym e, tt), all_fit xs h)
