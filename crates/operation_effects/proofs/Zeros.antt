-- Zeros are put at the end by pages.
use Rattle.std.proofs.Common.{◌≡◌, ◌≤◌, ◌<◌, ◌+◌, ◌-◌, ◌++◌, ℕ, List, take, replicate, ap, ◌∙◌, arith}
use Rattle.std.proofs.lemmas.List.{append_assoc, replicate-append-replicate, take-replicate}
use Rattle.locus_ids.specs.Sizes.{page_bytes}

-- a page of them, and the rest
pub zeros_more : (items : List ℕ) (left : ℕ) → page_bytes < left → (items ++ replicate page_bytes 0) ++ replicate (left - page_bytes) 0 ≡ items ++ replicate left 0
zeros_more items left lt =
    append_assoc items (replicate page_bytes 0) (replicate (left - page_bytes) 0)
    ∙ ap (λ (xs : List ℕ). items ++ xs) (replicate-append-replicate page_bytes (left - page_bytes) 0 ∙ ap (λ (n : ℕ). replicate n 0) (let e : page_bytes + (left - page_bytes) ≡ left = omega arith in e))

-- the last ones
pub zeros_last : (items : List ℕ) (left : ℕ) → left ≤ page_bytes → items ++ take left (replicate page_bytes 0) ≡ items ++ replicate left 0
zeros_last items left le = ap (λ (xs : List ℕ). items ++ xs) (take-replicate left page_bytes 0 le)
