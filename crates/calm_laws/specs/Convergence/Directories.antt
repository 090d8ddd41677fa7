-- Directories after calm rounds: none is flagged, and none wants a rescue, but for refused mends and want of room.
use Rattle.std.specs.Prelude.{ℕ, ◌≡◌, ◌⊎◌, true, List, [], ◌∷◌}
use Rattle.std.specs.List.{list_any}
use Rattle.locus_ids.specs.declared.config.Config.{Config}
use Rattle.locus_ids.specs.declared.ids.FileId.{FileId}
use Rattle.schedule_lines.specs.declared.line.ScheduleLine.{ScheduleLine}
use Rattle.commit_graph.specs.Versions.{same_file, content_of}
use Rattle.role_steps.specs.Mends.{is_dir, wants_rescue_in}
use Rattle.role_steps.specs.Views.{SiteView}
use Rattle.role_steps.specs.declared.rounds.InEpoch.{InEpoch}
use Rattle.role_steps.specs.declared.synchronizing.FileRow.{FileRow}
use Rattle.role_steps.specs.declared.synchronizing.SyncTable.{SyncTable}
use Rattle.role_steps.specs.declared.synchronizing.VersionRow.{VersionRow}
use Rattle.the_run.specs.Worlds.{World, place_at}
use Rattle.tree_model.specs.Histories.{history}
use Rattle.tree_laws.specs.Printed.{entries}
use Rattle.calm_laws.specs.Rounds.{after, IsCalm}
use Rattle.calm_laws.specs.Convergence.Copies.{Knows}
use Rattle.calm_laws.specs.Convergence.Rounds.{LackedRoom, AreDirectRounds, IsUndisturbed}

-- several versions of the file are kept
pub record IsFlagged (r : FileRow) : Type 0 where
  pub one : VersionRow
  pub other : VersionRow
  pub others : List VersionRow
  pub kept : r.kept ≡ one ∷ other ∷ others

-- its mend was refused in the epoch: too long, without room, or with a count at its end
abbrev pub WasRefused : SiteView → FileId → Type 0
WasRefused v file = list_any (same_file file) v.users.hopeless ≡ true

-- some inode has removed entries alone in this version of the directory, and a version that none of them has seen
abbrev pub WantsRescue : Config → World → SyncTable → FileId → VersionRow → Type 0
WantsRescue c w t file v = wants_rescue_in t (content_of (history c (entries w.trace)) file v.stamp) ≡ true

-- ---- the promise ----

-- After a calm round no directory is flagged but one whose mend was refused.
abbrev pub NoDirectoryIsFlagged : Config → Type 0
NoDirectoryIsFlagged c = (lines : List ScheduleLine) (n : ℕ) (e : InEpoch) (k : ℕ) (file : FileId) (r : FileRow) → IsCalm c lines n e k → (d : Knows c e (place_at (after c lines n k)) file r) → is_dir r.kind ≡ true → IsFlagged r → WasRefused d.view file

-- After two of them of which one stands directly after the other no directory that is undisturbed in both wants a rescue but one whose mend
-- was refused, or whose only kept version had no room in the pack of the synchronization site at some moment of the second.
abbrev pub UndisturbedWantNoRescue : Config → Type 0
UndisturbedWantNoRescue c = (lines : List ScheduleLine) (n m : ℕ) (e : InEpoch) (k l : ℕ) (file : FileId) (r : FileRow) (v : VersionRow) → AreDirectRounds c lines n m e k l → IsUndisturbed c lines n e k file → IsUndisturbed c lines m e l file → (d : Knows c e (place_at (after c lines m l)) file r) → is_dir r.kind ≡ true → r.kept ≡ v ∷ [] →
    WantsRescue c (after c lines m l) d.table file v → WasRefused d.view file ⊎ LackedRoom c lines m l d.css file v

-- three calm rounds that stand directly one after another
pub record AreThreeRounds (c : Config) (lines : List ScheduleLine) (o n m : ℕ) (e : InEpoch) (j k l : ℕ) : Type 0 where
  pub first : AreDirectRounds c lines o n e j k
  pub last : AreDirectRounds c lines n m e k l

-- After three of them no directory wants a rescue but one whose mend was refused, or whose only kept version had no room in the pack of
-- the synchronization site at some moment of the third.
abbrev pub NoRescueIsWanted : Config → Type 0
NoRescueIsWanted c = (lines : List ScheduleLine) (o n m : ℕ) (e : InEpoch) (j k l : ℕ) (file : FileId) (r : FileRow) (v : VersionRow) → AreThreeRounds c lines o n m e j k l → (d : Knows c e (place_at (after c lines m l)) file r) → is_dir r.kind ≡ true → r.kept ≡ v ∷ [] →
    WantsRescue c (after c lines m l) d.table file v → WasRefused d.view file ⊎ LackedRoom c lines m l d.css file v
