-- Two calm rounds with any lines between them, and what they leave of a file that is undisturbed from the start of the first to the end of
-- the second.
use Rattle.std.specs.Prelude.{ℕ, ◌≡◌, ◌≤◌, ◌<◌, ◌⊎◌, true, List, [], ◌++◌}
use Rattle.locus_ids.specs.Sites.{has}
use Rattle.locus_ids.specs.declared.config.Config.{Config}
use Rattle.locus_ids.specs.declared.ids.FileId.{FileId}
use Rattle.locus_ids.specs.declared.sites.Sites.{Sites}
use Rattle.schedule_lines.specs.declared.line.ScheduleLine.{ScheduleLine}
use Rattle.schedule_lines.specs.declared.line.ScheduleLine.TheVariants.{Passed}
use Rattle.role_steps.specs.declared.rounds.InEpoch.{InEpoch}
use Rattle.role_steps.specs.declared.synchronizing.VersionRow.{VersionRow}
use Rattle.the_run.specs.Runs.{run_in}
use Rattle.the_run.specs.Worlds.{World, Line, place_at}
use Rattle.tree_model.specs.State.{openers}
use Rattle.tree_model.specs.Tree.{tree_of}
use Rattle.lawful_trace.specs.Places.{line_at, lines_before}
use Rattle.tree_laws.specs.Printed.{entries}
use Rattle.row_laws.specs.Orderly.Calm.{ticked}
use Rattle.calm_laws.specs.Carrying.{IsMember}
use Rattle.calm_laws.specs.Rounds.{after, IsCalm}
use Rattle.calm_laws.specs.Convergence.Copies.{IsOnlyKept, HoldsTheOnly, HasNoRoom, NobodyHasOpen}

-- ---- the moments of a round ----

-- a moment of the round of this line, which ends after k deliveries: after the ticks of some sites, or after all ticks and some
-- deliveries
abbrev pub IsMoment : Config → List ScheduleLine → ℕ → ℕ → World → Type 0
IsMoment c lines n k w = ((i : ℕ) × (w ≡ ticked c n i (run_in c (lines_before lines n)))) ⊎ ((j : ℕ) × (j ≤ k) × (w ≡ after c lines n j))

-- at no moment of the round has anybody the file open
abbrev pub IsUndisturbed : Config → List ScheduleLine → ℕ → InEpoch → ℕ → FileId → Type 0
IsUndisturbed c lines n e k file = (w : World) → IsMoment c lines n k w → NobodyHasOpen c e (place_at w) file

-- at some moment of the round the site had no room for the version
abbrev pub LackedRoom : Config → List ScheduleLine → ℕ → ℕ → ℕ → FileId → VersionRow → Type 0
LackedRoom c lines n k s file v = (w : World) × IsMoment c lines n k w × HasNoRoom (place_at w) s file v

-- ---- two of them ----

-- two calm rounds of an epoch, with any lines between them
pub record AreCalmRounds (c : Config) (lines : List ScheduleLine) (n m : ℕ) (e : InEpoch) (k l : ℕ) : Type 0 where
  pub first : IsCalm c lines n e k
  pub second : IsCalm c lines m e l
  pub order : n < m

-- the second stands directly after the first: between them are only comments and empty lines
pub record AreDirectRounds (c : Config) (lines : List ScheduleLine) (n m : ℕ) (e : InEpoch) (k l : ℕ) : Type 0 where
  pub rounds : AreCalmRounds c lines n m e k l
  pub directly : (j : ℕ) → n < j → j < m → line_at lines j ≡ Passed

-- by these lines of a trace nobody has the file open in the epoch
abbrev pub IsShut : Config → InEpoch → FileId → List Line → Type 0
IsShut c e file t = openers (tree_of c e.id file.group (entries t)) file ≡ []

-- so it is by each part of the later trace that goes on from the earlier one
abbrev pub IsShutFrom : Config → InEpoch → FileId → List Line → List Line → Type 0
IsShutFrom c e file earlier later = (more since now : List Line) → later ≡ more ++ now → now ≡ since ++ earlier → IsShut c e file now

-- at no moment from the start of the first round to the end of the second, of the lines between them neither, has anybody the file open
pub record IsUndisturbedThrough (c : Config) (lines : List ScheduleLine) (n m : ℕ) (e : InEpoch) (k l : ℕ) (file : FileId) : Type 0 where
  pub in_first : IsUndisturbed c lines n e k file
  pub between : IsShutFrom c e file (after c lines n k).trace (run_in c (lines_before lines m)).trace
  pub in_second : IsUndisturbed c lines m e l file

-- a file that is undisturbed so, and at whose end has one kept version
pub record IsAtRest (c : Config) (lines : List ScheduleLine) (n m : ℕ) (e : InEpoch) (k l : ℕ) (file : FileId) (v : VersionRow) (set : Sites) : Type 0 where
  pub rounds : AreCalmRounds c lines n m e k l
  pub undisturbed : IsUndisturbedThrough c lines n m e k l file
  pub kept : IsOnlyKept c e (place_at (after c lines m l)) file v set

-- ---- the promise ----

-- After two calm rounds, with any lines between them, in which an unflagged file is undisturbed, each member in its set holds its only
-- kept version, or had no room for it at some moment of the second. (So it is all the more after three.)
abbrev pub CopiesConverge : Config → Type 0
CopiesConverge c = (lines : List ScheduleLine) (n m : ℕ) (e : InEpoch) (k l : ℕ) (file : FileId) (v : VersionRow) (set : Sites) → IsAtRest c lines n m e k l file v set → (s : ℕ) → IsMember e s → has set s ≡ true →
    HoldsTheOnly (place_at (after c lines m l)) s file v ⊎ LackedRoom c lines m l s file v
