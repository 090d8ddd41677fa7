-- A page that is made of fewer bytes has zeros behind them.
use Rattle.std.proofs.Common.{◌≡◌, ℕ, List, ◌++◌, length, drop, replicate, ap}
use Rattle.std.proofs.lemmas.List.{drop-replicate}
use Rattle.locus_ids.specs.Sizes.{page_bytes}
use Rattle.page_cache.specs.Parts.{padded}

pub zeros_behind : (bytes : List ℕ) → bytes ++ drop (length bytes) (replicate page_bytes 0) ≡ padded bytes
zeros_behind bytes = ap (λ zs. bytes ++ zs) (drop-replicate (length bytes) page_bytes 0)
