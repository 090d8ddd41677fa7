-- What a source or a sink in memory shows.
use Rattle.std.specs.Prelude.{ℕ, ◌==◌, List, Bool}
use Rattle.std.specs.List.{list_any}

-- a source: the bytes left, the numbers of the calls that fail, from 1, and how many calls and faults there have been
pub record Feed : Type 0 where
  pub left : List ℕ
  pub fails : List ℕ
  pub calls : ℕ
  pub faults : ℕ

-- a sink: the bytes taken, the numbers of the calls that fail, from 1, and how many calls and faults there have been
pub record Basin : Type 0 where
  pub taken : List ℕ
  pub fails : List ℕ
  pub calls : ℕ
  pub faults : ℕ

-- the call of this number is to fail
abbrev pub is_listed : List ℕ → ℕ → Bool
is_listed fails call = list_any (λ n. n == call) fails
