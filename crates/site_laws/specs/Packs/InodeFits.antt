-- The inode numbers that sites keep and send have 16 bits.
use Rattle.std.specs.Prelude.{ℕ, ◌≡◌, ◌≤◌, ◌<◌, Some}
use Rattle.locus_ids.specs.declared.ids.FileId.{FileId}
use Rattle.locus_ids.specs.declared.ids.Mode.{Mode}
use Rattle.locus_ids.specs.declared.ids.Mode.TheVariants as mode
use Rattle.locus_ids.specs.Sizes.{inode_span, sites_max}
use Rattle.wire_messages.specs.declared.packet.Packet.{Packet}
use Rattle.wire_messages.specs.declared.body.Body.{Body}
use Rattle.wire_messages.specs.declared.body.Body.TheVariants as body
use Rattle.wire_messages.specs.declared.body.OpenedAs.{OpenedAs}
use Rattle.wire_messages.specs.declared.body.OpenedAs.TheVariants as opened
use Rattle.wire_messages.specs.declared.body.ReportedCopy.{ReportedCopy}
use Rattle.role_steps.specs.Own.{Every}
use Rattle.role_steps.specs.Views.{Store, SiteView, Outcome}
use Rattle.role_steps.specs.declared.copies.FileCopy.{FileCopy}
use Rattle.role_steps.specs.declared.instances.Instance.{Instance}
use Rattle.role_steps.specs.declared.pulls.Pull.{Pull}
use Rattle.role_steps.specs.declared.synchronizing.SyncTable.{SyncTable}
use Rattle.role_steps.specs.declared.synchronizing.FileRow.{FileRow}
use Rattle.role_steps.specs.declared.synchronizing.OpenRow.{OpenRow}
use Rattle.role_steps.specs.declared.synchronizing.OpenStage.{OpenStage}
use Rattle.role_steps.specs.declared.synchronizing.OpenStage.TheVariants as stage
use Rattle.role_steps.specs.declared.synchronizing.LastLook.{LastLook}
use Rattle.the_run.specs.Worlds.{World, Place, Running, Numbered, place_at}
use Rattle.site_laws.specs.Vectors.Held.{copies_on}
use Rattle.site_laws.specs.Vectors.Written.{past_of}
use Rattle.site_laws.specs.Vectors.HistoryCommits.{NumbersFit}

-- an inode number of 16 bits
abbrev pub Fits : ℕ → Type 0
Fits ino = ino < inode_span

-- ---- packets ----

abbrev pub ReportedFits : ReportedCopy → Type 0
ReportedFits x = Fits x.ino

-- a file that is to be made has no number yet
abbrev pub AskedFits : Mode → FileId → Type 0
AskedFits mode.Make file = Unit {0}
AskedFits _ file = Fits file.ino

abbrev pub AnswerFits : OpenedAs → Type 0
AnswerFits (opened.Open ino size) = Fits ino
AnswerFits (opened.No why) = Unit {0}

abbrev pub BodyFits : Body → Type 0
BodyFits (body.Report group copies) = Every ReportedFits copies
BodyFits (body.OpenSs inst file mode set kind base vector parents) = AskedFits mode file
BodyFits (body.Opened inst answer) = AnswerFits answer
BodyFits (body.Notify file kind set size stamp vector holder) = Fits file.ino
BodyFits _ = Unit {0}

abbrev pub PacketFits : Packet → Type 0
PacketFits p = BodyFits p.body

-- ---- views ----

abbrev pub CopyFits : FileCopy → Type 0
CopyFits x = Fits x.file.ino

abbrev pub PullFits : Pull → Type 0
PullFits p = Fits p.file.ino

abbrev pub InstanceFits : Instance → Type 0
InstanceFits i = Fits i.file.ino

pub record StoreFits (s : Store) : Type 0 where
  pub copies : Every CopyFits s.copies
  pub instances : Every InstanceFits s.instances

abbrev pub RowFits : FileRow → Type 0
RowFits r = Fits r.ino

abbrev pub StageFits : OpenRow → OpenStage → Type 0
StageFits r stage.Asked = AskedFits r.mode r.file
StageFits r stage.Granted = Fits r.file.ino
StageFits r _ = Unit {0}

abbrev pub OpenFits : OpenRow → Type 0
OpenFits r = StageFits r r.stage

abbrev pub LookFits : LastLook → Type 0
LookFits l = BodyFits l.body

pub record TableFits (t : SyncTable) : Type 0 where
  pub files : Every RowFits t.files
  pub opens : Every OpenFits t.opens
  pub looks : Every LookFits t.looks

pub record ViewFits (v : SiteView) : Type 0 where
  pub store : StoreFits v.store
  pub pulls : Every PullFits v.pulls
  pub tables : Every TableFits v.tables

-- what an outcome leaves, and what it sends
pub record OutFits {V : Type 0} (F : V → Type 0) (o : Outcome V) : Type 0 where
  pub view : F o.view
  pub sent : Every PacketFits o.sent

-- ---- the world ----

abbrev pub NumberedFits : Numbered → Type 0
NumberedFits x = PacketFits x.packet

pub record WorldFits (w : World) : Type 0 where
  pub told : NumbersFit (past_of w.trace)
  pub sites : (s : ℕ) (p : Place) → place_at w s ≡ Some p → s ≤ sites_max
  pub disks : (s : ℕ) (p : Place) → place_at w s ≡ Some p → Every CopyFits (copies_on p)
  pub views : (s : ℕ) (v : SiteView) → place_at w s ≡ Some (Running v) → ViewFits v
  pub packets : Every NumberedFits w.sent
  pub underway : Every NumberedFits w.underway
