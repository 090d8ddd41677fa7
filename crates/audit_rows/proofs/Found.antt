-- The epoch that is found by its name is the one that the past has of it; where none is found, it is one that nobody has joined.
use Rattle.std.proofs.Common.{◌≡◌, Bool, true, false, ◌&&◌, None, Some, refl, ap}
use Rattle.std.specs.List.{find}
use Rattle.locus_ids.specs.declared.ids.EpochId.{EpochId}
use Rattle.promises.specs.Past.{Past, Epoch, epoch_at, unformed}
use Rattle.promises.specs.After.{is_epoch}
use Rattle.audit_row_parts.proofs.Homes.{first_else, first_there}

pub found_at : (p : Past) (e : EpochId) (t : Epoch) → Some t ≡ find (is_epoch e) p.epochs → t ≡ epoch_at p e
found_at p e t found = first_there (unformed e) (is_epoch e) p.epochs t found

pub unformed_at : (p : Past) (e : EpochId) → None ≡ find (is_epoch e) p.epochs → unformed e ≡ epoch_at p e
unformed_at p e none = first_else (unformed e) (is_epoch e) p.epochs none

-- Tests that stand beside another.

-- what holds beside what is so
pub with_true : (a b : Bool) → true ≡ a → b ≡ (a && b)
with_true a b e = ap (λ x. x && b) e

-- where nothing is open, nothing passes
pub none_opened : (a : Bool) → false ≡ (a && false)
none_opened true = refl
none_opened false = refl
