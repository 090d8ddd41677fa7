-- What holds at each moment of a run of disk calls.
use Rattle.std.specs.Prelude.{ℕ, ◌-◌, ◌≤◌, ◌<◌, ◌≡◌, ◌⊎◌, List, Result, IsOk, IsErr}
use Rattle.disk_model.specs.Disk.{Moment, Passing, Untold, All, Exactly}

-- A crash at any moment since old leaves an image that has P.
pub record LeavesOnly (old new : Moment) (P : List ℕ → Type 0) : Type 0 where
  pub later : old.now ≤ new.now
  pub each : (c : List ℕ) → new.may_have_left old.now c → P c
  -- for a run that began earlier
  pub before : (t : ℕ) (c : List ℕ) → t ≤ old.now → new.may_have_left t c → old.may_have_left t c ⊎ P c

-- a run of n calls passes where at least so many pass, and else fails at the first that doesn't
pub record TellsExactly {T E : Type 0} (n calls : ℕ) (after : Passing) (result : Result T E) : Type 0 where
  pub enough : n ≤ calls → IsOk result × (after ≡ Exactly (calls - n))
  pub too_few : calls < n → IsErr result × (after ≡ Untold)

-- the same where all pass, and where the disk doesn't tell
abbrev pub TellsMany : {T E : Type 0} → ℕ → Passing → Passing → Result T E → Type 0
TellsMany n Untold after result = Unit {0}
TellsMany n All after result = IsOk result × (after ≡ All)
TellsMany n (Exactly calls) after result = TellsExactly n calls after result
