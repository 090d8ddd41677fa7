-- What packets and views carry of packs: one record of named facts each.
use Rattle.std.specs.Prelude.{ℕ, ◌≡◌, List, Some}
use Rattle.locus_ids.specs.declared.ids.Stamp.{Stamp}
use Rattle.locus_ids.specs.declared.ids.Mode.{Mode}
use Rattle.locus_ids.specs.declared.ids.Mode.TheVariants as mode
use Rattle.locus_ids.specs.declared.config.Config.{Config}
use Rattle.wire_messages.specs.declared.packet.Packet.{Packet}
use Rattle.wire_messages.specs.declared.body.Body.{Body}
use Rattle.wire_messages.specs.declared.body.Body.TheVariants as body
use Rattle.wire_messages.specs.declared.body.ReportedCopy.{ReportedCopy}
use Rattle.role_steps.specs.Own.{Every}
use Rattle.role_steps.specs.Views.{Store, SiteView, Outcome, serial_key}
use Rattle.role_steps.specs.declared.instances.Instance.{Instance}
use Rattle.role_steps.specs.declared.pulls.Pull.{Pull}
use Rattle.role_steps.specs.declared.synchronizing.SyncTable.{SyncTable}
use Rattle.role_steps.specs.declared.synchronizing.FileRow.{FileRow}
use Rattle.role_steps.specs.declared.synchronizing.Holding.{Holding}
use Rattle.role_steps.specs.declared.synchronizing.OpenRow.{OpenRow}
use Rattle.role_steps.specs.declared.synchronizing.OpenStage.{OpenStage}
use Rattle.role_steps.specs.declared.synchronizing.OpenStage.TheVariants as stage
use Rattle.role_steps.specs.declared.synchronizing.LastLook.{LastLook}
use Rattle.the_run.specs.Worlds.{World, Place, Running, Numbered, place_at}
use Rattle.site_laws.specs.Vectors.Held.{copies_on}
use Rattle.site_laws.specs.Vectors.Facts.{EarlyFact}
use Rattle.site_laws.specs.Vectors.Written.{past_of}
use Rattle.site_laws.specs.Packs.Making.{NotEmpty, Originates}
use Rattle.site_laws.specs.Packs.Packs.{HasPack, InPacks, LiesAt, CopyPacked, ToldPacked}

-- ---- packets ----

-- but for a make, what is opened follows versions
abbrev pub Follows : Mode → List Stamp → Type 0
Follows mode.Make parents = Unit {0}
Follows _ parents = NotEmpty parents

abbrev pub ReportedPacked : Config → ℕ → ReportedCopy → Type 0
ReportedPacked c group x = InPacks c group x.set

-- by the sender and the receiver
abbrev pub BodyPacked : Config → ℕ → ℕ → Body → Type 0
BodyPacked c from to (body.Report group copies) = HasPack c group from × Every (ReportedPacked c group) copies
BodyPacked c from to (body.OpenSs inst file m set kind base vector parents) = LiesAt c to file.group set × Follows m parents
BodyPacked c from to (body.Notify file kind set size stamp vector holder) = LiesAt c to file.group set
BodyPacked c from to (body.Have file stamp) = HasPack c file.group from
BodyPacked c from to _ = Unit {0}

abbrev pub PacketPacked : Config → Packet → Type 0
PacketPacked c p = BodyPacked c p.from p.to p.body

-- the body carries nothing of packs
abbrev pub NoPack : Body → Type 0
NoPack (body.Report group copies) = ⊥
NoPack (body.OpenSs inst file m set kind base vector parents) = ⊥
NoPack (body.Notify file kind set size stamp vector holder) = ⊥
NoPack (body.Have file stamp) = ⊥
NoPack _ = Unit {0}

-- ---- the storage site ----

abbrev pub PullPacked : Config → ℕ → Pull → Type 0
PullPacked c me p = LiesAt c me p.file.group p.set

abbrev pub InstancePacked : Config → ℕ → Instance → Type 0
InstancePacked c me i = LiesAt c me i.file.group i.set × Originates me i.file.ino i.parents

pub record StorePacked (c : Config) (me : ℕ) (s : Store) : Type 0 where
  pub copies : Every (CopyPacked c me) s.copies
  pub instances : Every (InstancePacked c me) s.instances

-- ---- the synchronization site ----

abbrev pub HolderPacked : Config → ℕ → Holding → Type 0
HolderPacked c group h = HasPack c group h.site

-- what is known of a file, and that some version of it is kept
pub record RowPacked (c : Config) (group : ℕ) (r : FileRow) : Type 0 where
  pub all : InPacks c group r.set
  pub holders : Every (HolderPacked c group) r.holders
  pub kept : NotEmpty r.kept

abbrev pub StagePacked : Config → OpenRow → OpenStage → Type 0
StagePacked c r stage.Asked = LiesAt c r.ss r.file.group r.set × Follows r.mode r.parents
StagePacked c r stage.Granted = LiesAt c r.ss r.file.group r.set
StagePacked c r _ = Unit {0}

pub record OpenPacked (c : Config) (group : ℕ) (r : OpenRow) : Type 0 where
  pub group_is : r.file.group ≡ group
  pub lies : StagePacked c r r.stage

abbrev pub LookPacked : LastLook → Type 0
LookPacked l = NoPack l.body

pub record TablePacked (c : Config) (me : ℕ) (t : SyncTable) : Type 0 where
  pub here : HasPack c t.group me
  pub files : Every (RowPacked c t.group) t.files
  pub opens : Every (OpenPacked c t.group) t.opens
  pub looks : Every LookPacked t.looks
  pub early : Every (EarlyFact t.group) t.early

-- ---- a site ----

abbrev pub ReportPacked : Config → ℕ → ℕ → Type 0
ReportPacked c me group = HasPack c group me

pub record ViewPacked (c : Config) (me : ℕ) (v : SiteView) : Type 0 where
  pub store : StorePacked c me v.store
  pub pulls : Every (PullPacked c me) v.pulls
  pub tables : Every (TablePacked c me) v.tables
  pub reports : Every (ReportPacked c me) v.reports

-- who closes what was granted has a pack of the group
abbrev pub StageCloses : Config → ℕ → ℕ → ℕ → OpenRow → OpenStage → Type 0
StageCloses c from key group r stage.Granted = serial_key r.inst ≡ key → HasPack c group from
StageCloses c from key group r _ = Unit {0}

abbrev pub RowCloses : Config → ℕ → ℕ → ℕ → OpenRow → Type 0
RowCloses c from key group r = StageCloses c from key group r r.stage

abbrev pub TableCloses : Config → ℕ → ℕ → SyncTable → Type 0
TableCloses c from key t = Every (RowCloses c from key t.group) t.opens

abbrev pub BodyCloses : Config → ℕ → SiteView → Body → Type 0
BodyCloses c from v (body.Closed inst made) = Every (TableCloses c from (serial_key inst)) v.tables
BodyCloses c from v _ = Unit {0}

-- what an outcome leaves, sends and tells
pub record OutPacked {V : Type 0} (c : Config) (F : V → Type 0) (o : Outcome V) : Type 0 where
  pub view : F o.view
  pub sent : Every (PacketPacked c) o.sent
  pub told : Every (ToldPacked c) o.told

-- ---- the world ----

abbrev pub NumberedPacked : Config → Numbered → Type 0
NumberedPacked c x = PacketPacked c x.packet

pub record WorldPacked (c : Config) (w : World) : Type 0 where
  pub told : Every (ToldPacked c) (past_of w.trace)
  pub disks : (s : ℕ) (p : Place) → place_at w s ≡ Some p → Every (CopyPacked c s) (copies_on p)
  pub views : (s : ℕ) (v : SiteView) → place_at w s ≡ Some (Running v) → ViewPacked c s v
  pub packets : Every (NumberedPacked c) w.sent
  pub underway : Every (NumberedPacked c) w.underway
