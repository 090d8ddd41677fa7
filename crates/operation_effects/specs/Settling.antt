-- What an operation did to an open instance.
use Rattle.std.specs.Prelude.{◌≡◌, ℕ, ◌≤◌, Bool, true, List, length, Option, Some, None}
use Rattle.locus_ids.specs.Sizes.{file_bytes_max, directory_bytes_max}
use Rattle.trace_book.specs.declared.operation.Outcome.{Outcome}
use Rattle.dir_format.specs.Grammar.{dir_bytes}
use Rattle.dir_format.specs.Effects.{DirEffect}
use Rattle.file_content.specs.Pages.{pages_replaced}
use Rattle.role_steps.specs.of_file_effects.Effects.{Effect}
use Rattle.role_steps.specs.of_file_effects.Works.{result_in, operated}
use Rattle.role_steps.specs.of_file_effects.declared.work.Work.{Work}
use Rattle.operation_effects.specs.declared.settled.Settled.{Settled}

-- what an operation gave, or none where it wasn't lawful, and the instance after it
pub record Worked : Type 0 where
  pub gave : Option Outcome
  pub work : Work

abbrev pub worked_so : Option Outcome → Work → Worked
worked_so gave w = record { gave = gave; work = w }

-- an operation of this effect on an instance where so many pages are free; with no effect it does nothing
abbrev pub worked : ℕ → Work → Option Effect → Worked
worked free w None = record { gave = None; work = w }
worked free w (Some e) = record { gave = Some (result_in free w.changed e); work = operated e (result_in free w.changed e) w }

-- the content that is left, where it is another one
abbrev pub left_or : List ℕ → Option (List ℕ) → List ℕ
left_or content None = content
left_or content (Some new) = new

-- the effect of an operation that puts a whole content in the place of the old one, or keeps it
abbrev pub effect_by : List ℕ → Settled → Effect
effect_by content s = record {
  result = s.outcome;
  content = left_or content s.left;
  pages = pages_replaced content (left_or content s.left);
  counts = s.counts;
  spent = s.spent;
}

abbrev pub effects_by : List ℕ → Option Settled → Option Effect
effects_by content None = None
effects_by content (Some s) = Some (effect_by content s)

-- what is left is no longer than a file may be
abbrev pub IsShort : Option (List ℕ) → Type 0
IsShort None = Unit {0}
IsShort (Some new) = length new ≤ file_bytes_max

abbrev pub IsShortOf : Option Settled → Type 0
IsShortOf None = Unit {0}
IsShortOf (Some s) = IsShort s.left

-- an operation on a directory that counts as a change leaves one that is no longer than a file may be
abbrev pub IsBounded : DirEffect → Type 0
IsBounded e = e.counts ≡ true → length (dir_bytes e.entries) ≤ directory_bytes_max

abbrev pub AreBounded : Option DirEffect → Type 0
AreBounded None = Unit {0}
AreBounded (Some e) = IsBounded e
