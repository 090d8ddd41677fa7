-- The only one of a list.
use Rattle.std.proofs.Common.{◌≡◌, Bool, false, List, [], ◌∷◌, None, Some, refl, ap}
use Rattle.plain_facts.proofs.Options.{none_some, some_none, some_same}
use Rattle.promises.specs.Rows.{is_the_one}
use Rattle.audit_row_parts.specs.Parts.{only_of}

pub one_passes : {X : Type 0} (ok : X → Bool) (xs : List X) (x : X) → Some x ≡ only_of xs → ok x ≡ is_the_one ok xs
one_passes ok [] x e = absurd (some_none x e)
one_passes ok (y ∷ []) x e = ap ok (some_same x y e)
one_passes ok (y ∷ z ∷ zs) x e = absurd (some_none x e)

pub none_passes : {X : Type 0} (ok : X → Bool) (xs : List X) → None ≡ only_of xs → false ≡ is_the_one ok xs
none_passes ok [] e = refl
none_passes ok (y ∷ []) e = absurd (none_some y e)
none_passes ok (y ∷ z ∷ zs) e = refl
