-- Packets under way have numbers of their own, ascending.
use Rattle.std.specs.Prelude.{ℕ, ◌+◌, ◌≤◌, List, [], ◌∷◌}
use Rattle.role_steps.specs.Own.{Every}
use Rattle.the_run.specs.Worlds.{World, Numbered}

abbrev pub IsAbove : ℕ → Numbered → Type 0
IsAbove k x = k + 1 ≤ x.number

abbrev pub IsUpTo : ℕ → Numbered → Type 0
IsUpTo k x = x.number ≤ k

abbrev pub Ascend : List Numbered → Type 0
Ascend [] = Unit {0}
Ascend (x ∷ xs) = Every (IsAbove x.number) xs × Ascend xs

pub record NumbersAscend (w : World) : Type 0 where
  pub bounded : Every (IsUpTo w.packets) w.underway
  pub ascend : Ascend w.underway
