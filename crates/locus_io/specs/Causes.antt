-- What a count of faults says of an answer.
use Rattle.std.specs.Prelude.{ℕ, ◌≡◌, ◌≤◌, ◌+◌, ◌-◌, ◌^◌, min, List, ◌++◌, take, OnOk, OnErr, Result, Some, None}
use Rattle.std.specs.declared.option.Option.{Option}

-- one more, up to the last value of a count
abbrev pub one_more : ℕ → ℕ
one_more n = min (n + 1) (2 ^ 64 - 1)

-- the count rose, or stands at its last value
abbrev pub Rose : ℕ → ℕ → Type 0
Rose before now = one_more before ≤ now

-- the count never falls, keeps where a call went well, and rose where it failed
pub record HasCause {T E : Type 0} (before now : ℕ) (result : Result T E) : Type 0 where
  pub later : before ≤ now
  pub steady : OnOk result (now ≡ before)
  pub failed : OnErr result (Rose before now)

-- known bytes grow by a front of these
abbrev pub AppendsFront : Option (List ℕ) → Option (List ℕ) → List ℕ → Type 0
AppendsFront None new bytes = Unit {0}
AppendsFront (Some xs) None bytes = ⊥
AppendsFront (Some xs) (Some ys) bytes = (n : ℕ) × (ys ≡ xs ++ take n bytes)
