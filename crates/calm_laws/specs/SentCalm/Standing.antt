-- What a synchronization site has answered stands in its tables for as long as it is in the epoch: who was told that its report has come has it
-- there, and who was told that its open was granted has it granted there, where it may be over. And that a storage site closes an instance is
-- told the synchronization site of the file on which it has begun it.
use Rattle.std.specs.Prelude.{ℕ, ◌≡◌, ◌≢◌, ◌⊎◌, true, List, Some}
use Rattle.locus_ids.specs.Sites.{has}
use Rattle.locus_ids.specs.declared.config.Config.{Config}
use Rattle.locus_ids.specs.declared.ids.EpochId.{EpochId}
use Rattle.locus_ids.specs.declared.ids.FileId.{FileId}
use Rattle.locus_ids.specs.declared.ids.Serial.{Serial}
use Rattle.wire_messages.specs.declared.body.Body.{Body}
use Rattle.wire_messages.specs.declared.body.Body.TheVariants as body
use Rattle.wire_messages.specs.declared.body.Granted.{Granted}
use Rattle.wire_messages.specs.declared.body.Granted.TheVariants as granted
use Rattle.wire_messages.specs.declared.packet.Packet.{Packet}
use Rattle.role_steps.specs.Adoption.{table_group}
use Rattle.role_steps.specs.Epochs.{own_groups}
use Rattle.role_steps.specs.Opens.{open_key}
use Rattle.role_steps.specs.Tables.{row}
use Rattle.role_steps.specs.Views.{SiteView, boot_in, serial_key, sync_site}
use Rattle.role_steps.specs.declared.rounds.InEpoch.{InEpoch}
use Rattle.role_steps.specs.declared.synchronizing.OpenRow.{OpenRow}
use Rattle.role_steps.specs.declared.synchronizing.OpenStage.{OpenStage}
use Rattle.role_steps.specs.declared.synchronizing.OpenStage.TheVariants as stage
use Rattle.role_steps.specs.declared.synchronizing.SyncTable.{SyncTable}
use Rattle.role_steps.specs.declared.users.Asking.{Asking}
use Rattle.role_steps.specs.declared.users.Asking.TheVariants as asking
use Rattle.role_steps.specs.declared.users.UserInstance.{UserInstance}
use Rattle.role_steps.specs.declared.users.WaitingCall.{WaitingCall}
use Rattle.the_run.specs.Kept.{Among, WasSent}
use Rattle.the_run.specs.Steps.{from_user}
use Rattle.the_run.specs.Worlds.{World, Running, Numbered, place_at}
use Rattle.store_laws.specs.of_site_laws.Vectors.Written.{past_of}
use Rattle.store_laws.specs.of_site_laws.Locks.Going.{WasBegunAt}
use Rattle.run_laws.specs.Epochs.Known.{Places}

-- ---- tables ----

-- the open was granted, where it may be over
abbrev pub IsGrantedStage : OpenStage → Type 0
IsGrantedStage stage.Granted = Unit {0}
IsGrantedStage stage.Ended = Unit {0}
IsGrantedStage _ = ⊥

-- the table of the group has the site's report
pub record HasReport (group site : ℕ) (ts : List SyncTable) : Type 0 where
  pub table : SyncTable
  pub found : row table_group group ts ≡ Some table
  pub reported : has table.reported site ≡ true

-- among these opens is that of the instance, and it was granted
pub record IsGrantedIn (opens : List OpenRow) (i : Serial) : Type 0 where
  pub open_row : OpenRow
  pub found : row open_key (serial_key i) opens ≡ Some open_row
  pub granted : IsGrantedStage open_row.stage

-- the table of the group has the open of the instance as granted
pub record HasGrant (group : ℕ) (i : Serial) (ts : List SyncTable) : Type 0 where
  pub table : SyncTable
  pub found : row table_group group ts ≡ Some table
  pub grant : IsGrantedIn table.opens i

-- so they are in an epoch
abbrev pub WithReport : ℕ → ℕ → InEpoch → List SyncTable → Type 0
WithReport group site e ts = HasReport group site ts

abbrev pub WithGrant : ℕ → Serial → InEpoch → List SyncTable → Type 0
WithGrant group i e ts = HasGrant group i ts

-- in the epoch the site synchronizes the group
abbrev pub IsSyncedBy : Config → ℕ → ℕ → InEpoch → List SyncTable → Type 0
IsSyncedBy c group site e ts = sync_site c e.members group ≡ Some site

-- where the site runs in this boot and is in the epoch, this holds there
abbrev pub StandsAt : Places → ℕ → ℕ → EpochId → (InEpoch → List SyncTable → Type 0) → Type 0
StandsAt at s boot id F = (v : SiteView) (e : InEpoch) → at s ≡ Some (Running v) → v.boot ≡ boot → v.epoch ≡ Some e → e.id ≡ id → F e v.tables

-- ---- packets that were sent ----

abbrev pub GrantStands : World → Packet → ℕ → Granted → Type 0
GrantStands w p serial (granted.Open ss ino size stamp vector) = (group : ℕ) × StandsAt (place_at w) p.from p.from_boot p.epoch (WithGrant group (from_user p.to serial))
GrantStands w p serial (granted.No why) = Unit {0}

-- the sender has begun the instance on a file, and tells the synchronization site of that
pub record ClosesThere (c : Config) (w : World) (p : Packet) (i : Serial) : Type 0 where
  pub file : FileId
  pub begun : WasBegunAt (past_of w.trace) p.from p.epoch (serial_key i) file
  pub to : StandsAt (place_at w) p.from p.from_boot p.epoch (IsSyncedBy c file.group p.to)

abbrev pub BodyStands : Config → World → Packet → Body → Type 0
BodyStands c w p (body.ReportOk group) = StandsAt (place_at w) p.from p.from_boot p.epoch (WithReport group p.to)
BodyStands c w p (body.OpenDone serial answer) = GrantStands w p serial answer
BodyStands c w p (body.Closed inst made) = ClosesThere c w p inst
BodyStands c w p _ = Unit {0}

-- the packet was sent, and may be under way
abbrev pub PacketsStand : Config → World → Type 0
PacketsStand c w = (x : Numbered) → WasSent w x → BodyStands c w x.packet x.packet.body

-- ---- what a site has by such answers ----

-- some member has the report of the site
pub record IsReported (at : Places) (e : InEpoch) (site group : ℕ) : Type 0 where
  pub to : ℕ
  pub member : boot_in e.members.boot to ≢ 0
  pub stands : StandsAt at to (boot_in e.members.boot to) e.id (WithReport group site)

-- some member has the open of the site's instance as granted
pub record IsGranted (at : Places) (e : InEpoch) (site serial : ℕ) : Type 0 where
  pub by : ℕ
  pub group : ℕ
  pub member : boot_in e.members.boot by ≢ 0
  pub stands : StandsAt at by (boot_in e.members.boot by) e.id (WithGrant group (from_user site serial))

-- a group of which a site in an epoch has a pack is one that it reports still, or has reported
abbrev pub ReportsStand : Config → World → Type 0
ReportsStand c w = (s : ℕ) (v : SiteView) (e : InEpoch) (group : ℕ) → place_at w s ≡ Some (Running v) → v.epoch ≡ Some e → Among group (own_groups c s) → Among group v.reports ⊎ IsReported (place_at w) e s group

-- an operation or a close is asked of an instance that was granted
abbrev pub AskedStands : Places → InEpoch → ℕ → Asking → Type 0
AskedStands at e site (asking.Op serial ss n o seen) = IsGranted at e site serial
AskedStands at e site (asking.Close serial ss) = IsGranted at e site serial
AskedStands at e site _ = Unit {0}

-- each instance that a site in an epoch has was granted, and each of which a waiting call asks something
pub record InstancesStand (w : World) : Type 0 where
  pub held : (s : ℕ) (v : SiteView) (e : InEpoch) (i : UserInstance) → place_at w s ≡ Some (Running v) → v.epoch ≡ Some e → Among i v.users.instances → IsGranted (place_at w) e s i.serial
  pub asked : (s : ℕ) (v : SiteView) (e : InEpoch) (x : WaitingCall) → place_at w s ≡ Some (Running v) → v.epoch ≡ Some e → Among x v.users.waiting → AskedStands (place_at w) e s x.asking
