-- What a storage site has, by the trace alone: copies as held, instances as the one tree has them, pulls of what is known.
use Rattle.std.specs.Prelude.{ℕ, ◌≡◌, ◌⊎◌, ◌*◌, ◌≤◌, ◌<◌, true, false, List, [], ◌∷◌, length, slice_index, Option, None, Some}
use Rattle.std.specs.Option.{option_map}
use Rattle.locus_ids.specs.Sites.{has}
use Rattle.locus_ids.specs.declared.config.Config.{Config}
use Rattle.locus_ids.specs.declared.ids.CallId.{CallId}
use Rattle.locus_ids.specs.declared.ids.EpochId.{EpochId}
use Rattle.locus_ids.specs.declared.ids.FileId.{FileId}
use Rattle.locus_ids.specs.declared.ids.Mode.{Mode}
use Rattle.locus_ids.specs.declared.ids.Mode.TheVariants as mode
use Rattle.locus_ids.specs.declared.ids.Serial.{Serial}
use Rattle.locus_ids.specs.declared.ids.Stamp.{Stamp}
use Rattle.locus_ids.specs.Sizes.{inode_span, page_bytes, sites_max}
use Rattle.trace_book.specs.declared.operation.Op.{Op}
use Rattle.trace_book.specs.declared.operation.Outcome.{Outcome}
use Rattle.the_run.specs.of_wire_messages.declared.body.CloseAnswer.{CloseAnswer}
use Rattle.the_run.specs.of_wire_messages.declared.body.MadeVersion.{MadeVersion}
use Rattle.tree_model.specs.of_file_content.Pages.{page_of, pages_of}
use Rattle.lawful_trace.specs.of_file_effects.Works.{begun}
use Rattle.the_run.specs.of_role_steps.Own.{Every}
use Rattle.the_run.specs.of_role_steps.Pulling.{ascend_from, pages_got, wanted_pages}
use Rattle.the_run.specs.of_role_steps.Reports.{stamp_made}
use Rattle.the_run.specs.of_role_steps.Storage.{copy_key, copy_of, instance_key, instance_of}
use Rattle.the_run.specs.of_role_steps.Using.{close_answer}
use Rattle.the_run.specs.of_role_steps.Views.{Frame, Store}
use Rattle.the_run.specs.of_role_steps.declared.copies.FileCopy.{FileCopy}
use Rattle.the_run.specs.of_role_steps.declared.instances.Instance.{Instance}
use Rattle.the_run.specs.of_role_steps.declared.instances.Stage.{Stage}
use Rattle.the_run.specs.of_role_steps.declared.instances.Stage.TheVariants as stage
use Rattle.the_run.specs.of_role_steps.declared.pulls.Pull.{Pull}
use Rattle.the_run.specs.Worlds.{Line}
use Rattle.lawful_trace.specs.of_tree_model.declared.instance.Instance.{Instance as Open}
use Rattle.lawful_trace.specs.of_tree_model.Files.{HeldVersion, held_version, words_named, kind_made, kind_of_file, set_of_file}
use Rattle.lawful_trace.specs.of_tree_model.Histories.{history}
use Rattle.lawful_trace.specs.of_tree_model.Opening.{sites_made}
use Rattle.lawful_trace.specs.of_tree_model.Packs.{packs_of}
use Rattle.lawful_trace.specs.of_tree_model.Tree.{tree_of, kept_in}
use Rattle.lawful_trace.specs.of_tree_model.Working.{parents_of}
use Rattle.lawful_trace.specs.Progress.{close_answer as answer_of_close}
use Rattle.tree_laws.specs.Printed.{entries}
use Rattle.tree_laws.specs.Past.{WasGranted, WasNamed, WasDone, WasReleasedWith, WasBegun, WasReserved, WasShut}
use Rattle.tree_laws.specs.Instances.{IsOpenAt, HasAtLeast, Stands, IsVersion, IsKnown, IsStarted}
use Rattle.tree_laws.specs.Packets.{BegunSize, JoinsParents, MakesNow, MaybeMade, EndsNow}
use Rattle.tree_laws.specs.Deltas.{BaseFact, PullsOver, StepsFact}

-- ---- copies ----

abbrev pub copy_for : FileId → HeldVersion → FileCopy
copy_for f v = record { file = f; kind = v.kind; set = v.set; stamp = v.stamp; vector = v.vector; content = v.content }

-- each of the keys stands once
abbrev pub AreApart : {A : Type 0} → (A → ℕ) → List A → Type 0
AreApart key [] = Unit {0}
AreApart key (x ∷ xs) = Every (λ y. key y ≡ key x → ⊥) xs × AreApart key xs

-- the keys ascend
abbrev pub Ascends : {A : Type 0} → (A → ℕ) → List A → Type 0
Ascends key [] = Unit {0}
Ascends key (x ∷ xs) = Every (λ y. key x < key y) xs × Ascends key xs

-- the disk holds of each file what its site holds by the trace, and no file twice; inode numbers have 16 bits
pub record CopiesAreHeld (c : Config) (trace : List Line) (me : ℕ) (s : Store) : Type 0 where
  pub are : (f : FileId) → f.ino < inode_span → copy_of s f ≡ option_map (copy_for f) (held_version c (entries trace) me f)
  pub ascends : Ascends copy_key s.copies

-- ---- instances ----

-- the instance is the tree's: one equation for all its work, and its next version follows what the tree's follows
pub record WorksAs (c : Config) (trace : List Line) (f : Frame) (i : Instance) (x : Open) : Type 0 where
  pub open_at : IsOpenAt c trace f.epoch i.inst f.me x
  pub file_is : x.grant.file ≡ i.file
  pub mode_is : x.grant.mode ≡ i.mode
  pub work_is : x.work ≡ i.work
  pub parents_are : i.parents ≡ parents_of (history c (entries trace)) (tree_of c f.epoch i.file.group (entries trace)) x

-- begun for a make that isn't granted yet: nothing was done with it
pub record WaitsToBeGranted (c : Config) (trace : List Line) (f : Frame) (i : Instance) : Type 0 where
  pub mode_is : i.mode ≡ mode.Make
  pub fresh : i.work ≡ begun mode.Make None []
  pub no_parents : i.parents ≡ []
  pub unnamed : WasNamed trace f.epoch i.inst → ⊥

abbrev pub RunsAs : Config → List Line → Frame → Instance → Type 0
RunsAs c trace f i = ((x : Open) × WorksAs c trace f i x) ⊎ WaitsToBeGranted c trace f i

-- its close ends now: this is what it is answered, and it has no changed page
pub record EndsAs (c : Config) (trace : List Line) (f : Frame) (i : Instance) (made : Option MadeVersion) (a : CloseAnswer) : Type 0 where
  pub now : EndsNow c trace f.epoch f.me i.inst (stamp_made made)
  pub answer_is : answer_of_close (stamp_made made) (Some now.at) ≡ close_answer a
  pub unchanged : now.at.work.changed ≡ []

-- what its close has made, and what it is answered
pub record ClosesAs (c : Config) (trace : List Line) (f : Frame) (i : Instance) (made : Option MadeVersion) (a : CloseAnswer) : Type 0 where
  pub ends : WasReleasedWith c trace f.epoch i.inst (stamp_made made) (close_answer a) ⊎ EndsAs c trace f i made a
  pub version : MaybeMade c trace f.epoch f.me i.inst made

-- since its last operation nothing was committed, and where nothing is owed no page is changed
pub record IsSettled (i : Instance) : Type 0 where
  pub fresh : i.work.fresh ≡ false
  pub clean : i.work.owes ≡ false → i.work.changed ≡ []

-- it owes nothing, and has no changed page
pub record IsClean (i : Instance) : Type 0 where
  pub owes : i.work.owes ≡ false
  pub changed : i.work.changed ≡ []

abbrev pub StageFact : Config → List Line → Frame → Instance → Stage → Type 0
StageFact c trace f i stage.Running = RunsAs c trace f i × IsSettled i × (WasShut trace f.me f.epoch i.inst → ⊥)
StageFact c trace f i (stage.Closing made a) = ClosesAs c trace f i made a × IsClean i × WasShut trace f.me f.epoch i.inst
StageFact c trace f i (stage.Closed a) = ((last : Option Stamp) × WasReleasedWith c trace f.epoch i.inst last (close_answer a)) × IsClean i × WasShut trace f.me f.epoch i.inst

-- the answer kept for repeats is that of the last operation
abbrev pub AnsweredFact : List Line → Frame → Instance → Option Outcome → Type 0
AnsweredFact trace f i None = i.work.ops ≡ 0
AnsweredFact trace f i (Some result) = (o : Op) × WasDone trace f.epoch i.inst i.work.ops o result

-- the call asks the make now, which this site is to store
pub record MakesIt (c : Config) (trace : List Line) (f : Frame) (i : Instance) (d : CallId) : Type 0 where
  pub now : MakesNow c trace f.epoch f.me i.inst i.file.group i.set i.kind
  pub call_is : now.call ≡ d

-- the call that makes the file: it asks the make now, or was granted it
abbrev pub IsMaker : Config → List Line → Frame → Instance → CallId → Type 0
IsMaker c trace f i d = MakesIt c trace f i d ⊎ ((request : ℕ) × WasGranted trace f.epoch d request i.inst mode.Make i.file None f.me)

-- the sites and the kind are those of a file that stands
pub record PlainLies (c : Config) (trace : List Line) (i : Instance) : Type 0 where
  pub stamp : Stamp
  pub stands : Stands c trace i.file stamp
  pub set_is : i.set ≡ set_of_file c (entries trace) i.file
  pub kind_is : i.kind ≡ kind_of_file c (entries trace) i.file

-- the sites and the kind of the file are those that its making call gives, and its number is reserved; or they are those of the
-- file where it stands
abbrev pub LiesAs : Config → List Line → Frame → Instance → Mode → Type 0
LiesAs c trace f i mode.Make = (d : CallId) × IsMaker c trace f i d × (i.set ≡ sites_made (packs_of c i.file.group) (words_named (entries trace) (Some d))) × (i.kind ≡ kind_made (words_named (entries trace) (Some d))) × WasReserved trace f.me f.epoch i.inst i.file
LiesAs c trace f i _ = PlainLies c trace i

-- a make owes its first version, or the site has one of its file
abbrev pub HoldsMade : Config → List Line → Frame → Instance → Mode → Type 0
HoldsMade c trace f i mode.Make = ((i.work.committed ≡ None) × (i.work.owes ≡ true)) ⊎ ((stamp : Stamp) × HasAtLeast c trace f.epoch f.me i.file stamp)
HoldsMade c trace f i _ = Unit {0}

pub record InstanceFact (c : Config) (trace : List Line) (f : Frame) (i : Instance) : Type 0 where
  pub begun : WasBegun trace f.me f.epoch i.inst i.file
  pub sized : BegunSize c trace f.epoch i.inst i.size
  pub user : i.inst.us ≤ sites_max
  pub vector_is : JoinsParents c trace i.file i.parents i.vector
  pub lies : LiesAs c trace f i i.mode
  pub holds : HoldsMade c trace f i i.mode
  pub stage : StageFact c trace f i i.stage
  pub answered : AnsweredFact trace f i i.answered

pub record StoreFact (c : Config) (trace : List Line) (f : Frame) (s : Store) : Type 0 where
  pub instances : Every (InstanceFact c trace f) s.instances
  pub apart : AreApart instance_key s.instances
  -- each instance that the site has begun in the epoch is there
  pub has : (i : Serial) (file : FileId) → WasBegun trace f.me f.epoch i file → (x : Instance) × (instance_of s i ≡ Some x)
  -- what it remembers of the versions that it wrote
  pub steps : StepsFact c trace s.steps

-- ---- pulls ----

-- a known version is pulled, of a file of this site of which one version is kept; the first of the pages to pull have come, or all
pub record PullFact (c : Config) (trace : List Line) (e : EpochId) (me : ℕ) (p : Pull) : Type 0 where
  pub started : IsStarted c trace e p.file.group
  pub known : IsKnown c trace e p.file p.stamp
  pub single : length (kept_in c (entries trace) e p.file) ≡ 1
  pub version : HeldVersion
  pub is_version : IsVersion c trace p.file version
  pub stamp_is : version.stamp ≡ p.stamp
  pub kind_is : version.kind ≡ p.kind
  pub set_is : version.set ≡ p.set
  pub vector_is : version.vector ≡ p.vector
  pub size_is : length version.content ≡ p.size
  pub rising : ascend_from 0 (wanted_pages p) ≡ true
  pub inside : Every (λ (page : ℕ). page < pages_of (length version.content)) (wanted_pages p)
  pub few : pages_got p ≤ length (wanted_pages p)
  pub pages : (k : ℕ) → k < pages_got p → page_of p.content k ≡ page_of version.content (slice_index (wanted_pages p) k)
  pub even : (pages_got p ≡ length (wanted_pages p)) ⊎ (length p.content ≡ page_bytes * pages_got p)
  pub based : BaseFact c trace (held_version c (entries trace) me p.file) p p.base
  pub over : PullsOver (held_version c (entries trace) me p.file) p version
  pub wanted : has p.set me ≡ true
  pub holds : HasAtLeast c trace e p.holder p.file p.stamp
