-- What packets and views carry of versions: one record of named facts each, over what was told before.
use Rattle.std.specs.Prelude.{ℕ, ◌≡◌, List, [], ◌∷◌, Option, Some, None}
use Rattle.locus_ids.specs.declared.ids.EpochId.{EpochId}
use Rattle.locus_ids.specs.declared.ids.FileId.{FileId}
use Rattle.locus_ids.specs.declared.ids.Stamp.{Stamp}
use Rattle.locus_ids.specs.declared.ids.Mode.{Mode}
use Rattle.locus_ids.specs.declared.ids.Mode.TheVariants as mode
use Rattle.trace_book.specs.declared.record.Record.{Record}
use Rattle.trace_book.specs.declared.record.Record.TheVariants as says
use Rattle.run_laws.specs.of_wire_messages.declared.packet.Packet.{Packet}
use Rattle.run_laws.specs.of_wire_messages.declared.body.Body.{Body}
use Rattle.run_laws.specs.of_wire_messages.declared.body.Body.TheVariants as body
use Rattle.run_laws.specs.of_wire_messages.declared.body.MadeVersion.{MadeVersion}
use Rattle.run_laws.specs.of_wire_messages.declared.body.ReportedCopy.{ReportedCopy}
use Rattle.run_laws.specs.of_role_steps.Own.{Every}
use Rattle.run_laws.specs.of_role_steps.Views.{Store, SiteView, Told, Shown, DiskWrite, Outcome, serial_key}
use Rattle.run_laws.specs.of_role_steps.declared.copies.FileCopy.{FileCopy}
use Rattle.run_laws.specs.of_role_steps.declared.instances.Instance.{Instance}
use Rattle.run_laws.specs.of_role_steps.declared.instances.Stage.{Stage}
use Rattle.run_laws.specs.of_role_steps.declared.instances.Stage.TheVariants as stage
use Rattle.run_laws.specs.of_role_steps.declared.pulls.Pull.{Pull}
use Rattle.run_laws.specs.of_role_steps.declared.rounds.InEpoch.{InEpoch}
use Rattle.run_laws.specs.of_role_steps.declared.synchronizing.SyncTable.{SyncTable}
use Rattle.run_laws.specs.of_role_steps.declared.synchronizing.FileRow.{FileRow}
use Rattle.run_laws.specs.of_role_steps.declared.synchronizing.VersionRow.{VersionRow}
use Rattle.run_laws.specs.of_role_steps.declared.synchronizing.OpenRow.{OpenRow}
use Rattle.run_laws.specs.of_role_steps.declared.synchronizing.OpenStage.{OpenStage}
use Rattle.run_laws.specs.of_role_steps.declared.synchronizing.OpenStage.TheVariants as opening
use Rattle.run_laws.specs.of_role_steps.declared.synchronizing.LastLook.{LastLook}
use Rattle.run_laws.specs.of_role_steps.declared.synchronizing.Early.{Early}
use Rattle.run_laws.specs.of_the_run.Worlds.{World, Place, Running, Numbered, place_at}
use Rattle.run_laws.specs.FactWalks.Facts.{Facts, AllTold, WrittenIn}
use Rattle.site_laws.specs.Vectors.Held.{copies_on}
use Rattle.site_laws.specs.Vectors.Written.{past_of, CommitsAreNumbered, InstancesAgree, NumberedTold, CountsNone, JoinsAll, WrittenAs, WasBegun, WasGranted}
pub use Rattle.run_laws.specs.FactWalks.Facts.{onto}

abbrev pub file_in : ℕ → ℕ → FileId
file_in group ino = record { group = group; ino = ino }

-- ---- packets ----

abbrev pub ReportedFact : List Told → ℕ → ReportedCopy → Type 0
ReportedFact past group x = WrittenAs past (file_in group x.ino) x.stamp x.vector

-- the vector on which an instance's first version stands is the join of those of its parents; a make has none
abbrev pub BaseFact : List Told → FileId → Mode → List Stamp → List ℕ → Type 0
BaseFact past file mode.Make parents vector = (parents ≡ []) × CountsNone vector
BaseFact past file _ parents vector = JoinsAll (WrittenAs past file) parents vector

-- the version that an instance of this key made last is of the file on which it was begun
pub record MadeFact (past : List Told) (e : EpochId) (key : ℕ) (m : MadeVersion) : Type 0 where
  pub file : FileId
  pub begun : WasBegun past e key file
  pub written : WrittenAs past file m.stamp m.vector

abbrev pub MaybeMade : List Told → EpochId → ℕ → Option MadeVersion → Type 0
MaybeMade past e key None = Unit {0}
MaybeMade past e key (Some m) = MadeFact past e key m

abbrev pub BodyFact : List Told → EpochId → Body → Type 0
BodyFact past e (body.Report group copies) = Every (ReportedFact past group) copies
BodyFact past e (body.OpenSs inst file mode set kind base vector parents) = BaseFact past file mode parents vector
BodyFact past e (body.Closed inst made) = MaybeMade past e (serial_key inst) made
BodyFact past e (body.Notify file kind set size stamp vector holder) = WrittenAs past file stamp vector
BodyFact past e _ = Unit {0}

abbrev pub PacketFact : List Told → Packet → Type 0
PacketFact past p = BodyFact past p.epoch p.body

-- the body carries nothing of versions
abbrev pub NoFact : Body → Type 0
NoFact (body.Report group copies) = ⊥
NoFact (body.OpenSs inst file mode set kind base vector parents) = ⊥
NoFact (body.Closed inst made) = ⊥
NoFact (body.Notify file kind set size stamp vector holder) = ⊥
NoFact _ = Unit {0}

abbrev pub Factless : Packet → Type 0
Factless p = NoFact p.body

-- ---- views ----

abbrev pub CopyFact : List Told → FileCopy → Type 0
CopyFact past x = WrittenAs past x.file x.stamp x.vector

abbrev pub PullFact : List Told → Pull → Type 0
PullFact past p = WrittenAs past p.file p.stamp p.vector

abbrev pub ClosingFact : List Told → FileId → Option MadeVersion → Type 0
ClosingFact past file None = Unit {0}
ClosingFact past file (Some m) = WrittenAs past file m.stamp m.vector

abbrev pub StageFact : List Told → FileId → Stage → Type 0
StageFact past file (stage.Closing made answer) = ClosingFact past file made
StageFact past file _ = Unit {0}

abbrev pub LastMade : List Told → FileId → List ℕ → Option Stamp → Type 0
LastMade past file vector None = Unit {0}
LastMade past file vector (Some stamp) = WrittenAs past file stamp vector

pub record InstanceFact (past : List Told) (e : EpochId) (i : Instance) : Type 0 where
  pub begun : WasBegun past e (serial_key i.inst) i.file
  pub base : JoinsAll (WrittenAs past i.file) i.parents i.vector
  pub made : LastMade past i.file i.vector i.work.committed
  pub stage : StageFact past i.file i.stage

pub record StoreFact (past : List Told) (e : EpochId) (s : Store) : Type 0 where
  pub copies : Every (CopyFact past) s.copies
  pub instances : Every (InstanceFact past e) s.instances

abbrev pub VersionFact : List Told → FileId → VersionRow → Type 0
VersionFact past file v = WrittenAs past file v.stamp v.vector

pub record RowFact (past : List Told) (group : ℕ) (r : FileRow) : Type 0 where
  pub versions : Every (VersionFact past (file_in group r.ino)) r.versions
  pub kept : Every (VersionFact past (file_in group r.ino)) r.kept

-- but for a make, the grant is told as the open is taken
abbrev pub GrantFact : List Told → EpochId → OpenRow → Mode → OpenStage → Type 0
GrantFact past e r mode.Make opening.Asked = Unit {0}
GrantFact past e r _ opening.Asked = WasGranted past e (serial_key r.inst) r.file
GrantFact past e r m opening.Granted = WasGranted past e (serial_key r.inst) r.file
GrantFact past e r m _ = Unit {0}

pub record OpenFact (past : List Told) (e : EpochId) (group : ℕ) (r : OpenRow) : Type 0 where
  pub group_is : r.file.group ≡ group
  pub base : BaseFact past r.file r.mode r.parents r.vector
  pub granted : GrantFact past e r r.mode r.stage

abbrev pub LookFact : LastLook → Type 0
LookFact l = NoFact l.body

-- an open that waits for the start is of the group
abbrev pub WaitingFact : ℕ → Body → Type 0
WaitingFact group (body.Open serial call process request file how) = file.group ≡ group
WaitingFact group _ = Unit {0}

abbrev pub EarlyFact : ℕ → Early → Type 0
EarlyFact group x = WaitingFact group x.body

pub record TableFact (past : List Told) (e : EpochId) (t : SyncTable) : Type 0 where
  pub files : Every (RowFact past t.group) t.files
  pub opens : Every (OpenFact past e t.group) t.opens
  pub looks : Every LookFact t.looks
  pub early : Every (EarlyFact t.group) t.early

-- a site has instances and tables in an epoch alone
abbrev pub InEpochFact : List Told → SiteView → Option InEpoch → Type 0
InEpochFact past v None = v.store.instances ≡ []
InEpochFact past v (Some e) = Every (InstanceFact past e.id) v.store.instances × Every (TableFact past e.id) v.tables

pub record ViewFact (past : List Told) (v : SiteView) : Type 0 where
  pub copies : Every (CopyFact past) v.store.copies
  pub pulls : Every (PullFact past) v.pulls
  pub inside : InEpochFact past v v.epoch

-- ---- outcomes ----

abbrev pub NotCommitRecord : Record → Type 0
NotCommitRecord (says.Commit file s stamp parents content) = ⊥
NotCommitRecord _ = Unit {0}

-- it tells of no commit
abbrev pub NotCommit : Told → Type 0
NotCommit (Shown r) = NotCommitRecord r
NotCommit _ = Unit {0}

-- the law of facts, in a run whose instances agree; each commit that is told is numbered by what was told before it
abbrev pub versions : Facts
versions = record {
  assumes = InstancesAgree;
  carries = λ past from to e b. BodyFact past e b;
  pull = PullFact;
  view = λ past me v. ViewFact past v;
  disk = λ past copies. Every (CopyFact past) copies;
  told = NumberedTold;
  written = λ past d. NumberedTold past (Shown d.says) × CopyFact (Shown d.says ∷ past) d.copy;
}

abbrev pub NumberedAll : List Told → List Told → Type 0
NumberedAll past told = AllTold versions past told

-- the version that is written, which its record tells before all else of the event
abbrev pub DiskFact : List Told → Option DiskWrite → Type 0
DiskFact past d = WrittenIn versions past d

-- what an outcome owes, whose view has these facts
pub record Fine {V : Type 0} (F : List Told → V → Type 0) (past : List Told) (o : Outcome V) : Type 0 where
  pub view : F (onto o.told past) o.view
  pub sent : Every (PacketFact (onto o.told past)) o.sent
  pub numbered : NumberedAll past o.told
  pub disk : DiskFact past o.written

-- ---- the world ----

abbrev pub NumberedFact : List Told → Numbered → Type 0
NumberedFact past x = PacketFact past x.packet

pub record WorldFact (w : World) : Type 0 where
  pub numbered : CommitsAreNumbered (past_of w.trace)
  pub disks : (s : ℕ) (p : Place) → place_at w s ≡ Some p → Every (CopyFact (past_of w.trace)) (copies_on p)
  pub views : (s : ℕ) (v : SiteView) → place_at w s ≡ Some (Running v) → ViewFact (past_of w.trace) v
  pub packets : Every (NumberedFact (past_of w.trace)) w.sent
  pub underway : Every (NumberedFact (past_of w.trace)) w.underway

abbrev pub WhereAgreed : World → Type 0
WhereAgreed w = InstancesAgree (past_of w.trace) → WorldFact w
