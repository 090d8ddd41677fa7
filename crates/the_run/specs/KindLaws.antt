-- Laws that ask one thing of each kind of what a site makes inside an epoch, and what it is for each role to keep one.
use Rattle.std.specs.Prelude.{ℕ, ◌≡◌, Option, Some, None}
use Rattle.locus_ids.specs.declared.ids.Serial.{Serial}
use Rattle.locus_ids.specs.declared.config.Config.{Config}
use Rattle.role_steps.specs.of_trace_book.declared.record.Record.{Record}
use Rattle.role_steps.specs.of_wire_messages.declared.packet.Packet.{Packet}
use Rattle.role_steps.specs.of_wire_messages.declared.body.Body.{Body}
use Rattle.role_steps.specs.of_wire_messages.declared.body.Body.TheVariants.{ReportOk, ClosedOk}
use Rattle.role_steps.specs.Own.{Every}
use Rattle.role_steps.specs.Views.{Frame, SiteView, Told, Shown, DiskWrite, Outcome, packet, sync_site, all_groups}
use Rattle.role_steps.specs.Reports.{new_table}
use Rattle.role_steps.specs.Epochs.{frame_in}
use Rattle.role_steps.specs.declared.rounds.InEpoch.{InEpoch}
use Rattle.role_steps.specs.declared.synchronizing.SyncTable.{SyncTable}
use Rattle.role_steps.specs.declared.synchronizing.LastLook.{LastLook}
use Rattle.the_run.specs.Kinds.{IsOfTable, IsStoreRequest, IsOfStore, IsOfReader, IsStoreAnswer, IsUserRequest, IsOfUser, TellsTable, TellsStore, TellsCall, IsVersion}

-- ---- a law ----

-- what it asks of each packet, each thing told, each write, each kept answer to a look, and each table of a site
pub record Law : Type 1 where
  pub sent : Packet → Type 0
  pub told : Told → Type 0
  pub written : Option DiskWrite → Type 0
  pub look : LastLook → Type 0
  pub table : SyncTable → Type 0

-- the law looks only at what packets and kept answers say, not at whom they go to
abbrev pub body_law : (Body → Type 0) → (Told → Type 0) → (Option DiskWrite → Type 0) → Law
body_law says told written = record { sent = λ p. says p.body; told = told; written = written; look = λ l. says l.body; table = λ t. Every (λ (l : LastLook). says l.body) t.looks }

-- the law asks of a packet what all packets of a frame have, and nothing of tables
abbrev pub frame_law : (Packet → Type 0) → (Told → Type 0) → (Option DiskWrite → Type 0) → Law
frame_law sent told written = record { sent = sent; told = told; written = written; look = λ l. Unit {0}; table = λ t. Unit {0} }

-- the law asks nothing but of tables and what they keep
abbrev pub table_law : (LastLook → Type 0) → (SyncTable → Type 0) → Law
table_law look table = record { sent = λ p. Unit {0}; told = λ t. Unit {0}; written = λ w. Unit {0}; look = look; table = table }

-- ---- its premises, role by role and kind by kind ----

-- it holds of all that synchronization sites make in this frame; what they keep of looks they send again
pub record TablesKeep (law : Law) (f : Frame) : Type 0 where
  pub sends : (to : ℕ) (b : Body) → IsOfTable b → law.sent (packet f to b)
  pub tells : (t : Told) → TellsTable t → law.told t
  pub unwritten : law.written None
  pub keeps : (l : LastLook) → IsOfTable l.body → law.look l
  pub repeats : (l : LastLook) → law.look l → law.sent (packet f l.to l.body)
  pub looks : (t : SyncTable) → law.table t → Every law.look t.looks
  pub tables : (t u : SyncTable) → law.table t → u.group ≡ t.group → Every law.look u.looks → law.table u

-- of what storage sites make for looks and pulls
pub record ReadersKeep (law : Law) (f : Frame) : Type 0 where
  pub sends : (to : ℕ) (b : Body) → IsOfReader b → law.sent (packet f to b)
  pub unwritten : law.written None

-- of all that storage sites make but versions
pub record StoresKeep (law : Law) (f : Frame) : Type 0 where
  pub asks : (group to : ℕ) (b : Body) → IsStoreRequest b → sync_site f.config f.members group ≡ Some to → law.sent (packet f to b)
  pub sends : (to : ℕ) (b : Body) → IsOfStore b → law.sent (packet f to b)
  pub tells : (t : Told) → TellsStore t → law.told t
  pub reads : ReadersKeep law f
  pub unwritten : law.written None

-- of each version that is written
pub record VersionsKeep (law : Law) : Type 0 where
  pub tells : (r : Record) → IsVersion r → law.told (Shown r)
  pub writes : (d : DiskWrite) → IsVersion d.says → law.written (Some d)

-- of all that using sites make
pub record UsersKeep (law : Law) (f : Frame) : Type 0 where
  pub asks : (group to : ℕ) (b : Body) → IsUserRequest b → sync_site f.config f.members group ≡ Some to → law.sent (packet f to b)
  pub sends : (to : ℕ) (b : Body) → IsOfUser b → law.sent (packet f to b)
  pub tells : (t : Told) → TellsCall t → law.told t
  pub unwritten : law.written None

-- of all that a site makes
pub record SiteKeeps (law : Law) (f : Frame) : Type 0 where
  pub tables : TablesKeep law f
  pub stores : StoresKeep law f
  pub versions : VersionsKeep law
  pub users : UsersKeep law f

-- ---- answers to the sender of a packet ----

pub record TableAnswers (law : Law) (f : Frame) (from : ℕ) : Type 0 where
  pub reported : (t : SyncTable) → law.table t → law.sent (packet f from (ReportOk t.group))
  pub closed : (inst : Serial) → law.sent (packet f from (ClosedOk inst))

pub record SiteAnswers (law : Law) (f : Frame) (from : ℕ) : Type 0 where
  pub tables : TableAnswers law f from
  pub stores : (b : Body) → IsStoreAnswer b → law.sent (packet f from b)

-- ---- whole events ----

-- it holds of all that the site makes inside its epochs, and of the tables of an epoch that it joins
pub record EventsKeep (law : Law) (c : Config) (me : ℕ) : Type 0 where
  pub unwritten : law.written None
  pub inside : (boot : ℕ) (e : InEpoch) → SiteKeeps law (frame_in c me boot e)
  pub answers : (boot from : ℕ) (e : InEpoch) → SiteAnswers law (frame_in c me boot e) from
  pub fresh : Every (λ (g : ℕ). law.table (new_table g)) all_groups

-- ---- what keeps it ----

abbrev pub Part : {V : Type 0} → Law → Outcome V → Type 0
Part law o = Every law.sent o.sent × Every law.told o.told × law.written o.written

abbrev pub KeptLooks : Law → SyncTable → Type 0
KeptLooks law t = Every law.look t.looks

-- so does a table's outcome, and it is a table of the same group
abbrev pub TablePart : Law → SyncTable → Outcome SyncTable → Type 0
TablePart law t o = Every law.sent o.sent × Every law.told o.told × law.written o.written × KeptLooks law o.view × (o.view.group ≡ t.group)

-- the view after an event inside an epoch has all that agreement on an epoch needs as it was
pub record Leaves (v u : SiteView) : Type 0 where
  pub boot : u.boot ≡ v.boot
  pub round : u.round ≡ v.round
  pub promised : u.promised ≡ v.promised
  pub installed : u.installed ≡ v.installed
  pub installs : u.installs ≡ v.installs
  pub epoch : u.epoch ≡ v.epoch

-- so does a site's, and it leaves those
pub record Stays (law : Law) (v : SiteView) (o : Outcome SiteView) : Type 0 where
  pub leaves : Leaves v o.view
  pub tables : Every law.table o.view.tables
  pub part : Part law o
