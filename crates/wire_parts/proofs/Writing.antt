-- One thing written behind another.
use Rattle.std.proofs.Common.{◌≡◌, ℕ, List, ◌++◌, Result, Ok, Err, ap, ◌∙◌, append_assoc}
use Rattle.std.specs.Result.{OnOk}

pub behind : {E : Type 0} (r : Result (Unit {0}) E) (old mid new a b : List ℕ) → mid ≡ old ++ a → OnOk r (new ≡ mid ++ b) → OnOk r (new ≡ old ++ (a ++ b))
behind (Ok x) old mid new a b e h = h ∙ ap (λ (t : List ℕ). t ++ b) e ∙ append_assoc old a b
behind (Err d) old mid new a b e h = tt

pub respelled : {E : Type 0} (r : Result (Unit {0}) E) (old new a b : List ℕ) → a ≡ b → OnOk r (new ≡ old ++ a) → OnOk r (new ≡ old ++ b)
respelled (Ok x) old new a b e h = h ∙ ap (λ (t : List ℕ). old ++ t) e
respelled (Err d) old new a b e h = tt
