-- A disk at a moment, and what a call does to the images that a crash may leave.
use Rattle.std.specs.Prelude.{ℕ, zero, suc, ◌+◌, ◌-◌, ◌^◌, ◌≤◌, ◌≡◌, ◌⊎◌, min, List, Result, IsOk, IsErr, OnOk, OnErr}
use Rattle.disk_model.specs.Cut.{Cut, left_by, left_in_write}

-- what a disk tells of how many more writes and syncs pass
pub data Passing : Type 0 where
  Untold : Passing
  All : Passing
  Exactly : (calls : ℕ) → Passing

-- A disk at a moment.
pub record Moment : Type 1 where
  -- what a read gives
  pub seen : List ℕ
  -- what a crash now may leave
  pub may_leave : List ℕ → Type 0
  -- the moment's number, which doesn't fall
  pub now : ℕ
  -- what a crash at some moment from that one on may have left
  pub may_have_left : ℕ → List ℕ → Type 0
  -- how often the disk has failed
  pub faults : ℕ
  -- how many more writes and syncs pass, where the disk tells
  pub passing : Passing
  -- how the first one is cut off that doesn't pass
  pub how : Cut
  -- what a disk that is cut off so and then crashed is left with, if that is now
  pub left : List ℕ

-- the image is one of these, or is made of one of these by a step
abbrev pub IsAfter : (List ℕ → List ℕ → Type 0) → (List ℕ → Type 0) → List ℕ → Type 0
IsAfter step images image = (earlier : List ℕ) × images earlier × step earlier image

-- Time goes on over a call: each image after it, and each of a crash within it, is made of one before it by a step.
pub record Goes (step : List ℕ → List ℕ → Type 0) (old new : Moment) : Type 0 where
  pub later : old.now ≤ new.now
  pub images : (c : List ℕ) → new.may_leave c → IsAfter step old.may_leave c
  pub since : (t : ℕ) (c : List ℕ) → t ≤ old.now → new.may_have_left t c → old.may_have_left t c ⊎ IsAfter step old.may_leave c

-- a crash leaves this and nothing else
abbrev pub Only : List ℕ → (List ℕ → Type 0) → Type 0
Only image images = (c : List ℕ) → images c → c ≡ image

-- nothing is pending: a crash leaves what a read gives
abbrev pub IsSettled : Moment → Type 0
IsSettled moment = Only moment.seen moment.may_leave

-- the count rose, or stands at its last value
abbrev pub Rose : ℕ → ℕ → Type 0
Rose before after = min (before + 1) (2 ^ 64 - 1) ≤ after

-- a call fails only where the disk's count of faults rose
pub record HasCause {T E : Type 0} (before after : ℕ) (result : Result T E) : Type 0 where
  pub later : before ≤ after
  pub failed : OnErr result (Rose before after)

-- a write or a sync passes where the disk told so, and lowers the number; at none left it fails and no more is told
abbrev pub Tells : {T E : Type 0} → Passing → Passing → Result T E → Type 0
Tells Untold after result = Unit {0}
Tells All after result = IsOk result × (after ≡ All)
Tells (Exactly zero) after result = IsErr result × (after ≡ Untold)
Tells (Exactly (suc calls)) after result = IsOk result × (after ≡ Exactly calls)

-- a read passes while the disk tells, and changes nothing in what it tells
abbrev pub TellsRead : {T E : Type 0} → Passing → Passing → Result T E → Type 0
TellsRead Untold after result = Unit {0}
TellsRead All after result = IsOk result × (after ≡ All)
TellsRead (Exactly calls) after result = IsOk result × (after ≡ Exactly calls)

-- a call that changes nothing in what a cut leaves
pub record KeepsCut (old new : Moment) : Type 0 where
  pub how : new.how ≡ old.how
  pub left : new.left ≡ old.left

-- What a cut leaves after a write to a settled disk: the range as the cut has it, whether the write passed or was itself cut off.
pub record CutsWrite {T E : Type 0} (at : ℕ) (bytes : List ℕ) (old new : Moment) (result : Result T E) : Type 0 where
  pub how : new.how ≡ old.how
  pub passed : IsSettled old → OnOk result (new.left ≡ left_by old.how old.seen at bytes)
  pub cut : IsSettled old → old.passing ≡ Exactly zero → new.left ≡ left_in_write old.how old.seen at bytes

-- a sync that is cut off changes nothing
pub record CutsSync (old new : Moment) : Type 0 where
  pub how : new.how ≡ old.how
  pub cut : old.passing ≡ Exactly zero → new.left ≡ old.left
