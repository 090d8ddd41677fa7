-- What calm rounds leave of copies and directories: of the lines of a schedule, and of the records of its trace.
use Rattle.std.specs.Prelude.{ℕ, ◌≡◌, ◌<◌, ◌≤◌, ◌⊎◌, nat_le, true, false, List, [], ◌∷◌, length, Some}
use Rattle.locus_ids.specs.Sites.{has}
use Rattle.locus_ids.specs.declared.config.Config.{Config}
use Rattle.locus_ids.specs.declared.ids.EpochId.{EpochId}
use Rattle.locus_ids.specs.declared.ids.FileId.{FileId}
use Rattle.locus_ids.specs.declared.ids.Stamp.{Stamp}
use Rattle.locus_ids.specs.declared.sites.Members.{Members}
use Rattle.commit_graph.specs.Versions.{content_of}
use Rattle.file_content.specs.Pages.{pages_of}
use Rattle.schedule_lines.specs.Cluster.{config_of}
use Rattle.schedule_lines.specs.declared.line.ScheduleLine.{ScheduleLine}
use Rattle.schedule_lines.specs.declared.line.ScheduleLine.TheVariants.{Passed}
use Rattle.lawful_trace.specs.of_tree_model.Files.{set_of_file, kind_of_file}
use Rattle.lawful_trace.specs.of_tree_model.Folds.{Trace}
use Rattle.lawful_trace.specs.of_tree_model.Histories.{history, held}
use Rattle.lawful_trace.specs.of_tree_model.Packs.{has_pack, is_member, sync_site}
use Rattle.lawful_trace.specs.of_tree_model.State.{openers}
use Rattle.lawful_trace.specs.of_tree_model.Tree.{tree_of, kept_in}
use Rattle.lawful_trace.specs.of_tree_model.Working.{free_pages, are_several}
use Rattle.lawful_trace.specs.Calm.{IsMoment, IsCalmRound}
use Rattle.lawful_trace.specs.Places.{line_at, through_line}
use Rattle.std.specs.Option.{is_some}
use Rattle.locus_ids.specs.declared.ids.Kind.TheVariants.{Dir}
use Rattle.lawful_trace.specs.of_tree_model.Mending.{wants_rescue_in}
use Rattle.lawful_trace.specs.CallRows.{has_lost_mend}

-- at no moment from the start of one line to the end of another, of the lines between them neither, has anybody the file open in the
-- epoch
abbrev pub IsUndisturbed : Config → Trace → ℕ → ℕ → EpochId → FileId → Type 0
IsUndisturbed c trace first last e f = (n : ℕ) (now : Trace) → first ≤ n → n ≤ last → IsMoment trace n now → openers (tree_of c e f.group now) f ≡ []

-- three calm rounds of an epoch, with any lines between them
pub record AreCalmRounds (lines : List ScheduleLine) (trace : Trace) (o n m : ℕ) (e : EpochId) (members : Members) : Type 0 where
  pub first : IsCalmRound lines trace o e members
  pub second : IsCalmRound lines trace n e members
  pub third : IsCalmRound lines trace m e members
  pub early : o < n
  pub late : n < m

-- a file that is undisturbed from the start of the first to the end of the third, and has one kept version then
pub record IsAtRest (c : Config) (lines : List ScheduleLine) (trace : Trace) (o n m : ℕ) (e : EpochId) (members : Members) (f : FileId) (stamp : Stamp) : Type 0 where
  pub rounds : AreCalmRounds lines trace o n m e members
  pub undisturbed : IsUndisturbed c trace o m e f
  pub kept : kept_in c (through_line trace m) e f ≡ stamp ∷ []

-- at some moment of the line the site had fewer free pages than the version has pages
abbrev pub LackedRoom : Config → Trace → ℕ → EpochId → ℕ → FileId → Stamp → Type 0
LackedRoom c trace m e s f stamp = (now : Trace) × IsMoment trace m now × (nat_le (pages_of (length (content_of (history c (through_line trace m)) f stamp))) (free_pages (history c now) (tree_of c e f.group now) s) ≡ false)

-- Each member with a pack of the group that is in the file's set has the version by the end, as the records tell (its disk has what they
-- tell), or lacked room for it at some moment of the third.
abbrev pub CopiesConverge : List ScheduleLine → Trace → Type 0
CopiesConverge lines trace = (o n m : ℕ) (e : EpochId) (members : Members) (f : FileId) (stamp : Stamp) → IsAtRest (config_of lines) lines trace o n m e members f stamp → (s : ℕ) → is_member members s ≡ true → has_pack (config_of lines) f.group s ≡ true →
    has (set_of_file (config_of lines) (through_line trace m) f) s ≡ true → (held (config_of lines) (through_line trace m) s f ≡ Some stamp) ⊎ LackedRoom (config_of lines) trace m e s f stamp

-- Directories.

-- Two calm rounds of an epoch. The second stands directly after the first: between them are only comments and empty lines.
pub record AreDirectRounds (lines : List ScheduleLine) (trace : Trace) (n m : ℕ) (e : EpochId) (members : Members) : Type 0 where
  pub first : IsCalmRound lines trace n e members
  pub second : IsCalmRound lines trace m e members
  pub order : n < m
  pub directly : (j : ℕ) → n < j → j < m → line_at lines j ≡ Passed

-- After a calm round no directory of a group that has a member with a pack of it is flagged, but one whose mend was refused in the epoch:
-- its content or a counter would be too great, or there was no room.
abbrev pub NoDirectoryIsFlagged : List ScheduleLine → Trace → Type 0
NoDirectoryIsFlagged lines trace = (n : ℕ) (e : EpochId) (members : Members) (f : FileId) → IsCalmRound lines trace n e members → is_some (sync_site (config_of lines) f.group (Some members)) ≡ true → kind_of_file (config_of lines) (through_line trace n) f ≡ Dir →
    are_several (kept_in (config_of lines) (through_line trace n) e f) ≡ true → has_lost_mend (through_line trace n) e f ≡ true

-- A directory has one kept version, and wants a rescue: all entries of some inode are removed in it, and a version of that inode is kept
-- that these removals haven't seen. Its group has this synchronization site among the members.
pub record WantsRescue (c : Config) (now : Trace) (e : EpochId) (members : Members) (css : ℕ) (f : FileId) (stamp : Stamp) : Type 0 where
  pub synced : sync_site c f.group (Some members) ≡ Some css
  pub directory : kind_of_file c now f ≡ Dir
  pub kept : kept_in c now e f ≡ stamp ∷ []
  pub wants : wants_rescue_in (history c now) (tree_of c e f.group now) f ≡ true

-- why it isn't mended: its mend was refused in the epoch, or its synchronization site lacked room for the version at some moment of the line
abbrev pub MayWant : Config → Trace → ℕ → EpochId → ℕ → FileId → Stamp → Type 0
MayWant c trace m e css f stamp = (has_lost_mend (through_line trace m) e f ≡ true) ⊎ LackedRoom c trace m e css f stamp

-- After two calm rounds of an epoch of which one stands directly after the other, no directory that nobody has open in them wants a rescue,
-- but one that may.
abbrev pub UndisturbedWantNoRescue : List ScheduleLine → Trace → Type 0
UndisturbedWantNoRescue lines trace = (n m : ℕ) (e : EpochId) (members : Members) (css : ℕ) (f : FileId) (stamp : Stamp) → AreDirectRounds lines trace n m e members → IsUndisturbed (config_of lines) trace n m e f → WantsRescue (config_of lines) (through_line trace m) e members css f stamp →
    MayWant (config_of lines) trace m e css f stamp

-- After three that stand directly one after another no directory at all does, but one that may.
abbrev pub NoRescueIsWanted : List ScheduleLine → Trace → Type 0
NoRescueIsWanted lines trace = (o n m : ℕ) (e : EpochId) (members : Members) (css : ℕ) (f : FileId) (stamp : Stamp) → AreDirectRounds lines trace o n e members → AreDirectRounds lines trace n m e members → WantsRescue (config_of lines) (through_line trace m) e members css f stamp →
    MayWant (config_of lines) trace m e css f stamp

-- What calm rounds leave, in a run that passes no limit.
pub record Convergence (lines : List ScheduleLine) (trace : Trace) : Type 0 where
  -- after three, with any lines between them, in which nobody has an unflagged file open, each member of its set with a pack has the only
  -- kept version, or lacked room for it
  pub alike : CopiesConverge lines trace
  -- after one no directory is flagged but one whose mend was refused
  pub mended : NoDirectoryIsFlagged lines trace
  -- after two no directory that nobody has open in them wants a rescue, but one whose mend was refused, or for whose only kept version its
  -- synchronization site lacked room; after three that stand directly one behind another no other directory does either
  pub shut : UndisturbedWantNoRescue lines trace
  pub rescued : NoRescueIsWanted lines trace
