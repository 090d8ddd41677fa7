-- What packets and views carry of the commits of sites: which vectors count them, one record of named facts each.
use Rattle.std.specs.Prelude.{ℕ, ◌≡◌, ◌⊎◌, ◌≤◌, ◌<◌, true, false, List, [], ◌∷◌, Option, Some, None}
use Rattle.locus_ids.specs.Sites.{has}
use Rattle.locus_ids.specs.declared.ids.EpochId.{EpochId}
use Rattle.locus_ids.specs.declared.ids.FileId.{FileId}
use Rattle.locus_ids.specs.declared.ids.Stamp.{Stamp}
use Rattle.locus_ids.specs.declared.ids.Mode.{Mode}
use Rattle.locus_ids.specs.declared.ids.Mode.TheVariants as mode
use Rattle.locus_ids.specs.declared.sites.Members.{Members}
use Rattle.locus_ids.specs.declared.config.Config.{Config}
use Rattle.locus_ids.specs.Sizes.{inode_span}
use Rattle.commit_graph.specs.Grants.{is_read}
use Rattle.trace_book.specs.declared.record.Record.{Record}
use Rattle.trace_book.specs.declared.record.Record.TheVariants as says
use Rattle.wire_messages.specs.declared.packet.Packet.{Packet}
use Rattle.wire_messages.specs.declared.body.Body.{Body}
use Rattle.wire_messages.specs.declared.body.Body.TheVariants as body
use Rattle.wire_messages.specs.declared.body.MadeVersion.{MadeVersion}
use Rattle.wire_messages.specs.declared.body.ReportedCopy.{ReportedCopy}
use Rattle.role_steps.specs.Own.{Every}
use Rattle.role_steps.specs.Tables.{row}
use Rattle.role_steps.specs.Views.{Frame, SiteView, Told, Shown, DiskWrite, Outcome, boot_in, is_member, pack_sites, serial_key, file_key, sync_site}
use Rattle.role_steps.specs.Versions.{kept, file_row, joined_vectors}
use Rattle.role_steps.specs.Epochs.{frame_in}
use Rattle.role_steps.specs.Storage.{copy_key, instance_key, max_counter}
use Rattle.role_steps.specs.declared.copies.FileCopy.{FileCopy}
use Rattle.role_steps.specs.declared.instances.Instance.{Instance}
use Rattle.role_steps.specs.declared.instances.Stage.{Stage}
use Rattle.role_steps.specs.declared.instances.Stage.TheVariants as stage
use Rattle.role_steps.specs.declared.rounds.InEpoch.{InEpoch}
use Rattle.role_steps.specs.declared.synchronizing.SyncTable.{SyncTable}
use Rattle.role_steps.specs.declared.synchronizing.OpenRow.{OpenRow}
use Rattle.role_steps.specs.declared.synchronizing.OpenStage.{OpenStage}
use Rattle.role_steps.specs.declared.synchronizing.OpenStage.TheVariants as opening
use Rattle.the_run.specs.Kept.{Among}
use Rattle.the_run.specs.Worlds.{Numbered}
use Rattle.site_laws.specs.Vectors.Facts.{LookFact, onto}
use Rattle.site_laws.specs.Vectors.HistoryCommits.{IsSite}
use Rattle.site_laws.specs.Locks.Going.{WasBegunAt, WasShutAt, WasReleased}
use Rattle.site_laws.specs.Locks.Grants.{WasGrantedAs, IsOver}
use Rattle.site_laws.specs.Locks.Joins.{WasJoined}
use Rattle.site_laws.specs.Locks.Locks.{IsOfAFile}
use Rattle.site_laws.specs.Locks.Synced.{Rising, SyncedBy}
use Rattle.site_laws.specs.Makes.Holding.{WasReserved}
use Rattle.site_laws.specs.Kept.StampCommits.{WasMade, Under, ByWriter, Counts, Here}

-- ---- a site in an epoch ----

-- the site has joined the epoch
abbrev pub HasJoined : List Told → ℕ → EpochId → Type 0
HasJoined past s e = (m : Members) × WasJoined past s e m

-- While the site is in the epoch, each commit of a file of the group that it has told is covered so, or was made under an
-- instance that was granted in the epoch, not to read.
pub record Covers (past : List Told) (s : ℕ) (e : EpochId) (group : ℕ) (Covered : FileId → ℕ → Type 0) : Type 0 where
  pub site : IsSite s
  pub joined : HasJoined past s e
  pub each : Here past s e → (file : FileId) (n : ℕ) → file.group ≡ group → WasMade past s file n → Covered file n ⊎ ByWriter past s e file n

-- ---- packets ----

-- the reported copy of the file counts the commit
abbrev pub InReport : List ReportedCopy → ℕ → FileId → ℕ → Type 0
InReport copies s file n = (x : ReportedCopy) × Among x copies × (x.ino ≡ file.ino) × Counts x.vector s n

-- the storage site is one, and runs, and the open isn't to read
abbrev pub Asks : ℕ → ℕ → Mode → Type 0
Asks boot s m = IsSite s × (is_read m ≡ false) × (boot ≡ 0 → ⊥)

-- What a plain open asks of a storage site was granted. Where it isn't to read, and the site is in the epoch, the vector
-- counts each commit of the file there but those made under this instance; or the instance is over.
pub record Opens (past : List Told) (e : EpochId) (boot s key : ℕ) (file : FileId) (m : Mode) (vector : List ℕ) : Type 0 where
  pub granted : WasGrantedAs past e key file m
  pub joined : Asks boot s m → HasJoined past s e
  pub each : Asks boot s m → Here past s e → (n : ℕ) → WasMade past s file n → Counts vector s n ⊎ (Under past s e key file n ⊎ IsOver past e key)

-- the version that an instance made last counts the commit
abbrev pub InMade : Option MadeVersion → ℕ → ℕ → Type 0
InMade None s n = ⊥
InMade (Some v) s n = Counts v.vector s n

-- the site has begun to close the instance, whose last version counts all that it made
pub record Closes (past : List Told) (s : ℕ) (e : EpochId) (key : ℕ) (made : Option MadeVersion) : Type 0 where
  pub file : FileId
  pub begun : WasBegunAt past s e key file
  pub shut : WasShutAt past s e key
  pub each : (n : ℕ) → Under past s e key file n → InMade made s n

-- by the sender, the receiver and its boot, and the epoch
abbrev pub BodyCovers : List Told → ℕ → ℕ → ℕ → EpochId → Body → Type 0
BodyCovers past from to boot e (body.Report group copies) = Covers past from e group (InReport copies from)
BodyCovers past from to boot e (body.OpenSs inst file m set kind base vector parents) = IsOfAFile m → Opens past e boot to (serial_key inst) file m vector
BodyCovers past from to boot e (body.Closed inst made) = Closes past from e (serial_key inst) made
BodyCovers past from to boot e _ = Unit {0}

abbrev pub PacketCovers : List Told → Packet → Type 0
PacketCovers past p = BodyCovers past p.from p.to p.to_boot p.epoch p.body

-- the body carries nothing of commits
abbrev pub NoCommits : Body → Type 0
NoCommits (body.Report group copies) = ⊥
NoCommits (body.OpenSs inst file m set kind base vector parents) = ⊥
NoCommits (body.Closed inst made) = ⊥
NoCommits _ = Unit {0}

abbrev pub Bare : Packet → Type 0
Bare p = NoCommits p.body

-- ---- the storage site ----

-- the file was granted under the key, or its number reserved for it
abbrev pub Holds : List Told → ℕ → EpochId → ℕ → FileId → Mode → Type 0
Holds past s e key file mode.Make = WasReserved past s e key file
Holds past s e key file m = WasGrantedAs past e key file m

-- what was committed under the instance is counted by its vector, if it has committed
abbrev pub InWork : Option Stamp → List ℕ → ℕ → ℕ → Type 0
InWork None vector s n = ⊥
InWork (Some stamp) vector s n = Counts vector s n

-- An instance that runs counts each commit of its file here, where it isn't to read, and each that was made under it; or it is
-- released.
pub record Runs (past : List Told) (s : ℕ) (e : EpochId) (i : Instance) : Type 0 where
  pub holds : Holds past s e (serial_key i.inst) i.file i.mode
  pub begun : WasBegunAt past s e (serial_key i.inst) i.file
  pub each : is_read i.mode ≡ false → (n : ℕ) → WasMade past s i.file n → Counts i.vector s n ⊎ WasReleased past e (serial_key i.inst)
  pub made : (n : ℕ) → Under past s e (serial_key i.inst) i.file n → InWork i.work.committed i.vector s n ⊎ WasReleased past e (serial_key i.inst)

abbrev pub StageRuns : List Told → ℕ → EpochId → Instance → Stage → Type 0
StageRuns past s e i stage.Running = Runs past s e i
StageRuns past s e i _ = Unit {0}

-- what is found in the table of instances
abbrev pub RunsThere : List Told → ℕ → EpochId → Option Instance → Type 0
RunsThere past s e None = Unit {0}
RunsThere past s e (Some i) = StageRuns past s e i i.stage

abbrev pub StageCloses : List Told → ℕ → EpochId → ℕ → Stage → Type 0
StageCloses past s e key (stage.Closing made answer) = Closes past s e key made
StageCloses past s e key _ = Unit {0}

abbrev pub IsClosing : List Told → ℕ → EpochId → Instance → Type 0
IsClosing past s e i = StageCloses past s e (serial_key i.inst) i.stage

pub record Instances (past : List Told) (s : ℕ) (e : EpochId) (is : List Instance) : Type 0 where
  pub run : (key : ℕ) → RunsThere past s e (row instance_key key is)
  pub close : Every (IsClosing past s e) is

-- the copy of a file counts all commits of the file here, and where there is none there are none
abbrev pub CopyCounts : List Told → ℕ → FileId → Option FileCopy → Type 0
CopyCounts past s file None = (n : ℕ) → WasMade past s file n → ⊥
CopyCounts past s file (Some x) = (x.file ≡ file) × ((n : ℕ) → WasMade past s file n → Counts x.vector s n)

abbrev pub DiskCounts : List Told → ℕ → List FileCopy → Type 0
DiskCounts past s copies = (file : FileId) → file.ino < inode_span → CopyCounts past s file (row copy_key (file_key file) copies)

-- so does a copy that is written
pub record NewCounts (past : List Told) (s : ℕ) (x : FileCopy) : Type 0 where
  pub fits : x.file.ino < inode_span
  pub each : (n : ℕ) → WasMade past s x.file n → Counts x.vector s n

-- ---- the synchronization site ----

-- the join of the kept vectors of the file counts the commit
abbrev pub InKept : SyncTable → ℕ → FileId → ℕ → Type 0
InKept t s file n = Counts (joined_vectors (kept (file_row t file.ino))) s n

abbrev pub StageOpens : List Told → Frame → OpenRow → OpenStage → Type 0
StageOpens past f r opening.Asked = IsOfAFile r.mode → Opens past f.epoch (boot_in f.members.boot r.ss) r.ss (serial_key r.inst) r.file r.mode r.vector
StageOpens past f r _ = Unit {0}

abbrev pub RowOpens : List Told → Frame → OpenRow → Type 0
RowOpens past f r = StageOpens past f r r.stage

pub record Table (past : List Told) (f : Frame) (t : SyncTable) : Type 0 where
  pub synced : sync_site f.config f.members t.group ≡ Some f.me
  -- once the group has started, all members with a pack have reported
  pub full : t.started ≡ true → (s : ℕ) → IsSite s → has (pack_sites f.config t.group) s ≡ true → is_member f.members s ≡ true → has t.reported s ≡ true
  -- the kept versions cover the commits of each site that has reported
  pub covers : (s : ℕ) → IsSite s → has t.reported s ≡ true → Covers past s f.epoch t.group (InKept t s)
  -- and count all that was made under an instance that is released
  pub released : (s key : ℕ) (file : FileId) (n : ℕ) → file.group ≡ t.group → WasReleased past f.epoch key → Under past s f.epoch key file n → InKept t s file n
  pub opens : Every (RowOpens past f) t.opens
  pub looks : Every LookFact t.looks

-- ---- a site ----

pub record Inside (past : List Told) (f : Frame) (v : SiteView) : Type 0 where
  pub joined : WasJoined past f.me f.epoch f.members
  pub instances : Instances past f.me f.epoch v.store.instances
  pub tables : Every (Table past f) v.tables
  pub rising : Rising v.tables

abbrev pub InEpochCovers : Config → List Told → ℕ → SiteView → Option InEpoch → Type 0
InEpochCovers c past me v None = (v.store.instances ≡ []) × (v.tables ≡ [])
InEpochCovers c past me v (Some e) = Inside past (frame_in c me v.boot e) v

pub record View (c : Config) (past : List Told) (me : ℕ) (v : SiteView) : Type 0 where
  pub boot : v.boot ≡ 0 → ⊥
  pub disk : DiskCounts past me v.store.copies
  pub inside : InEpochCovers c past me v v.epoch

-- ---- what is told ----

-- A commit is made under an instance that the site has begun on the file in the epoch that it is in, that was granted not to
-- read, and that is neither released nor shut.
pub record ByOpen (past : List Told) (s : ℕ) (file : FileId) : Type 0 where
  pub epoch : EpochId
  pub key : ℕ
  pub mode : Mode
  pub here : Here past s epoch
  pub begun : WasBegunAt past s epoch key file
  pub granted : WasGrantedAs past epoch key file mode
  pub writes : is_read mode ≡ false
  pub unreleased : WasReleased past epoch key → ⊥
  pub unshut : WasShutAt past s epoch key → ⊥

-- its number is above all earlier ones of the file at the site, and one that a counter may have
pub record IsNext (past : List Told) (s : ℕ) (file : FileId) (stamp : Stamp) : Type 0 where
  pub by : ByOpen past s file
  pub above : (n : ℕ) → WasMade past s file n → n < stamp.n
  pub fits : stamp.n ≤ max_counter

-- a site tells commits of its own, and releases of the groups that it synchronizes
abbrev pub GoesRecord : Config → List Told → ℕ → Record → Type 0
GoesRecord c past me (says.Commit file s stamp parents content) = (s ≡ me) × IsNext past me file stamp
GoesRecord c past me (says.Release e inst file made) = SyncedBy c past e file.group me
GoesRecord c past me _ = Unit {0}

abbrev pub Goes : Config → List Told → ℕ → Told → Type 0
Goes c past me (Shown r) = GoesRecord c past me r
Goes c past me _ = Unit {0}

abbrev pub AllGo : Config → List Told → ℕ → List Told → Type 0
AllGo c past me [] = Unit {0}
AllGo c past me (x ∷ xs) = Goes c past me x × AllGo c (x ∷ past) me xs

-- the version that is written, which its record tells before all else of the event
abbrev pub DiskGoes : Config → List Told → ℕ → Option DiskWrite → Type 0
DiskGoes c past me None = Unit {0}
DiskGoes c past me (Some d) = Goes c past me (Shown d.says) × NewCounts (Shown d.says ∷ past) me d.copy

-- what an outcome owes, whose view has these facts
pub record Fine {V : Type 0} (c : Config) (me : ℕ) (F : List Told → V → Type 0) (past : List Told) (o : Outcome V) : Type 0 where
  pub view : F (onto o.told past) o.view
  pub sent : Every (PacketCovers (onto o.told past)) o.sent
  pub goes : AllGo c past me o.told
  pub disk : DiskGoes c past me o.written

abbrev pub NumberedCovers : List Told → Numbered → Type 0
NumberedCovers past x = PacketCovers past x.packet
