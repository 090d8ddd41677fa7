-- Equal readers.
use Rattle.std.proofs.Common.{ℕ, ◌≡◌, Bool, List, refl}
use Rattle.line_reader.specs.Readers.{Reader}

pub same_reader : (a b l m : List ℕ) (n k : ℕ) (ended : Bool) → a ≡ b → l ≡ m → (let r : Reader = record { ahead = a; line = l; number = n; limit = k; ended = ended } in let s : Reader = record { ahead = b; line = m; number = n; limit = k; ended = ended } in r ≡ s)
same_reader a b l m n k ended e f = rw (e, f) refl
