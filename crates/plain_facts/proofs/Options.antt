-- What there is and what there isn't.
use Rattle.std.proofs.Common.{◌≡◌, Option, Some, None}

pub none_some : {A : Type 0} (a : A) → ◌≡◌ {A = Option A} None (Some a) → ⊥
none_some a e = cc

pub some_none : {A : Type 0} (a : A) → ◌≡◌ {A = Option A} (Some a) None → ⊥
some_none a e = cc

pub some_same : {A : Type 0} (a b : A) → ◌≡◌ {A = Option A} (Some a) (Some b) → a ≡ b
some_same a b e = cc
