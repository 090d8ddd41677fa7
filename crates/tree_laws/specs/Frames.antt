-- What packet facts ask of the history and the tree so that they stay when a line is added: what the order of versions gives.
use Rattle.std.specs.Prelude.{ℕ, ◌≡◌, ◌⊎◌, true, List, length, Option, Some}
use Rattle.locus_ids.specs.declared.config.Config.{Config}
use Rattle.locus_ids.specs.declared.ids.CallId.{CallId}
use Rattle.locus_ids.specs.declared.ids.EpochId.{EpochId}
use Rattle.locus_ids.specs.declared.ids.FileId.{FileId}
use Rattle.locus_ids.specs.declared.ids.Kind.{Kind}
use Rattle.locus_ids.specs.declared.ids.Mode.{Mode}
use Rattle.locus_ids.specs.declared.ids.Serial.{Serial}
use Rattle.locus_ids.specs.declared.ids.Stamp.{Stamp}
use Rattle.locus_ids.specs.declared.sites.Sites.{Sites}
use Rattle.commit_graph.specs.Vectors.{vector_of}
use Rattle.commit_graph.specs.Versions.{content_of}
use Rattle.trace_book.specs.declared.operation.Op.{Op}
use Rattle.trace_book.specs.declared.record.Record.TheVariants as says
use Rattle.call_rules.specs.declared.want.Want.TheVariants as want
use Rattle.the_run.specs.of_wire_messages.declared.body.ReportedCopy.{ReportedCopy}
use Rattle.the_run.specs.of_role_steps.Views.{Told, Shown}
use Rattle.the_run.specs.Worlds.{Line}
use Rattle.lawful_trace.specs.of_tree_model.declared.instance.Instance.{Instance}
use Rattle.lawful_trace.specs.of_tree_model.Files.{kind_of_file, set_of_file}
use Rattle.lawful_trace.specs.of_tree_model.Histories.{history}
use Rattle.lawful_trace.specs.of_tree_model.State.{is_inside, is_writer}
use Rattle.lawful_trace.specs.of_tree_model.Tree.{tree_of, kept_in}
use Rattle.lawful_trace.specs.Tables.{call_of_act, call_of_release}
use Rattle.lawful_trace.specs.TreeRows.{granted_group}
use Rattle.tree_laws.specs.Printed.{entries}
use Rattle.tree_laws.specs.Calls.{Asks}
use Rattle.tree_laws.specs.Past.{WasGranted, WasBegun}
use Rattle.tree_laws.specs.Instances.{instance_now, Stands, IsKnown, HasAtLeast, IsStarted, IsUsed}
use Rattle.tree_laws.specs.Packets.{ReportFact, SeesFor, MakeOpenSs, NoNumber}

-- no commit takes a stamp of its file that stands
abbrev pub IsFresh : Config → List Line → Told → Type 0
IsFresh c old (Shown (says.Commit f site stamp parents content)) = Stands c old f stamp → ⊥
IsFresh c old _ = Unit {0}

-- A version that stands stands, and is what it was. What is known is known, what is held is above what was held, and what a
-- site reports it has until the group starts.
pub record VersionsStay (c : Config) (old new : List Line) : Type 0 where
  pub stands : (f : FileId) (s : Stamp) → Stands c old f s → Stands c new f s
  pub vectors : (f : FileId) (s : Stamp) → Stands c old f s → vector_of (history c (entries new)) f s ≡ vector_of (history c (entries old)) f s
  pub contents : (f : FileId) (s : Stamp) → Stands c old f s → content_of (history c (entries new)) f s ≡ content_of (history c (entries old)) f s
  pub kinds : (f : FileId) (s : Stamp) → Stands c old f s → kind_of_file c (entries new) f ≡ kind_of_file c (entries old) f
  pub sets : (f : FileId) (s : Stamp) → Stands c old f s → set_of_file c (entries new) f ≡ set_of_file c (entries old) f
  pub known : (e : EpochId) (f : FileId) (s : Stamp) → IsKnown c old e f s → IsKnown c new e f s
  pub have : (e : EpochId) (site : ℕ) (f : FileId) (s : Stamp) → HasAtLeast c old e site f s → HasAtLeast c new e site f s
  pub used : (e : EpochId) (site : ℕ) (f : FileId) → IsUsed c old e site f → IsUsed c new e site f
  pub reports : (e : EpochId) (site group : ℕ) (copies : List ReportedCopy) → ReportFact c old e site group copies → ReportFact c new e site group copies
  -- where one version of a file is kept in an epoch, one is
  pub single : (e : EpochId) (f : FileId) → IsStarted c old e f.group → length (kept_in c (entries old) e f) ≡ 1 → length (kept_in c (entries new) e f) ≡ 1
  -- while an instance isn't begun, what is kept of its file is what was kept at its grant
  pub kept : (e : EpochId) (d : CallId) (request : ℕ) (i : Serial) (m : Mode) (f : FileId) (stamp : Option Stamp) (ss : ℕ) (parents : List Stamp) → WasGranted old e d request i m f stamp ss →
      parents ≡ kept_in c (entries old) e f → ((site : ℕ) × WasBegun new site e i f) ⊎ (parents ≡ kept_in c (entries new) e f)

-- what is told is a commit that this instance takes, as the first that writes the file at its site
abbrev pub CommitsTold : Config → List Line → EpochId → Serial → Instance → Told → Type 0
CommitsTold c old e i x (Shown (says.Commit f s stamp parents content)) = (is_inside (tree_of c e (granted_group (entries old) e i) (entries old)) s ≡ true) × (is_writer f s x ≡ true)
CommitsTold c old e i x _ = ⊥

-- One call at a time asks something of an instance, and what a remove has seen stays while it is asked.
pub record OwnersStay (c : Config) (old new : List Line) : Type 0 where
  pub sees : (e : EpochId) (d : CallId) (i : Serial) (n : ℕ) (o : Op) (seen : List ℕ) → Asks c old d (want.Do i o) → Asks c new d (want.Do i o) → call_of_act (entries old) e i n ≡ Some d → SeesFor c old e d i o seen → SeesFor c new e d i o seen
  pub alone : (e : EpochId) (i : Serial) (n : ℕ) (d other : CallId) (o : Op) → Asks c old d (want.Do i o) → call_of_act (entries old) e i n ≡ Some d → Asks c old other (want.Close i) → call_of_release (entries old) e i ≡ Some other → ⊥

-- an open instance that a commit may be of owes it
pub record CommitsOwe (c : Config) (old : List Line) (x : Told) : Type 0 where
  pub owes : (e : EpochId) (i : Serial) (at : Instance) → instance_now c old e i ≡ Some at → CommitsTold c old e i at x → at.work.owes ≡ true

-- What is told of makes and of numbers stays: a make is asked until it is begun, or refused for good.
pub record MakesStay (c : Config) (old new : List Line) : Type 0 where
  pub opens : (e : EpochId) (ss : ℕ) (i : Serial) (group : ℕ) (set : Sites) (k : Kind) → MakeOpenSs c old e ss i group set k → MakeOpenSs c new e ss i group set k
  pub none : (e : EpochId) (ss : ℕ) (i : Serial) → NoNumber c old e ss i → NoNumber c new e ss i

-- What the order of versions has to give beside fresh stamps: that what a site has only rises, what it reports, and what is kept
-- while an instance isn't begun.
pub record OrderStays (c : Config) (old new : List Line) : Type 0 where
  pub have : (e : EpochId) (site : ℕ) (f : FileId) (s : Stamp) → HasAtLeast c old e site f s → HasAtLeast c new e site f s
  pub reports : (e : EpochId) (site group : ℕ) (copies : List ReportedCopy) → ReportFact c old e site group copies → ReportFact c new e site group copies
  pub single : (e : EpochId) (f : FileId) → IsStarted c old e f.group → length (kept_in c (entries old) e f) ≡ 1 → length (kept_in c (entries new) e f) ≡ 1
  pub kept : (e : EpochId) (d : CallId) (request : ℕ) (i : Serial) (m : Mode) (f : FileId) (stamp : Option Stamp) (ss : ℕ) (parents : List Stamp) → WasGranted old e d request i m f stamp ss →
      parents ≡ kept_in c (entries old) e f → ((site : ℕ) × WasBegun new site e i f) ⊎ (parents ≡ kept_in c (entries new) e f)

-- All that packet facts want of the order of versions, for a line that is added.
pub record AllStay (c : Config) (old new : List Line) (x : Told) : Type 0 where
  pub fresh : IsFresh c old x
  pub order : OrderStays c old new
