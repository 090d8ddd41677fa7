-- What packets and views carry of instances: one record of named facts each, over what was told before. What a using site has of them
-- was granted, and a storage site has begun it.
use Rattle.std.specs.Prelude.{ℕ, ◌≡◌, true, List, [], ◌∷◌, Option, Some, None}
use Rattle.locus_ids.specs.declared.ids.EpochId.{EpochId}
use Rattle.locus_ids.specs.declared.ids.FileId.{FileId}
use Rattle.locus_ids.specs.declared.ids.Mode.{Mode}
use Rattle.locus_ids.specs.declared.ids.Mode.TheVariants as mode
use Rattle.trace_book.specs.declared.record.Record.{Record}
use Rattle.trace_book.specs.declared.record.Record.TheVariants as says
use Rattle.wire_messages.specs.declared.packet.Packet.{Packet}
use Rattle.wire_messages.specs.declared.body.Body.{Body}
use Rattle.wire_messages.specs.declared.body.Body.TheVariants as body
use Rattle.wire_messages.specs.declared.body.Granted.{Granted}
use Rattle.wire_messages.specs.declared.body.Granted.TheVariants as granted
use Rattle.wire_messages.specs.declared.body.OpenedAs.{OpenedAs}
use Rattle.wire_messages.specs.declared.body.OpenedAs.TheVariants as opened
use Rattle.role_steps.specs.Own.{Every}
use Rattle.role_steps.specs.Views.{Users, SiteView, Told, Shown, DiskWrite, Outcome, serial_key}
use Rattle.role_steps.specs.declared.instances.Instance.{Instance}
use Rattle.role_steps.specs.declared.instances.Stage.{Stage}
use Rattle.role_steps.specs.declared.instances.Stage.TheVariants as stage
use Rattle.role_steps.specs.declared.rounds.InEpoch.{InEpoch}
use Rattle.role_steps.specs.declared.synchronizing.SyncTable.{SyncTable}
use Rattle.role_steps.specs.declared.synchronizing.OpenRow.{OpenRow}
use Rattle.role_steps.specs.declared.synchronizing.OpenStage.{OpenStage}
use Rattle.role_steps.specs.declared.synchronizing.OpenStage.TheVariants as opening
use Rattle.role_steps.specs.declared.synchronizing.LastLook.{LastLook}
use Rattle.role_steps.specs.declared.users.Asking.{Asking}
use Rattle.role_steps.specs.declared.users.Asking.TheVariants as asking
use Rattle.role_steps.specs.declared.users.WaitingCall.{WaitingCall}
use Rattle.role_steps.specs.declared.users.UserInstance.{UserInstance}
use Rattle.the_run.specs.Steps.{epoch_id, from_user}
use Rattle.the_run.specs.Worlds.{World, Running, Numbered, place_at}
use Rattle.run_laws.specs.FactWalks.Facts.{Facts, AllTold, WrittenIn}
use Rattle.site_laws.specs.Vectors.Written.{past_of, WasGranted, WasTold}
use Rattle.site_laws.specs.Vectors.Facts.{onto, EarlyFact}
use Rattle.site_laws.specs.Locks.Going.{WasBegunAt, WasShutAt, WasReleased, WasStarted, IsGranted, InstanceGoesOn, InstancesGoOn}
use Rattle.site_laws.specs.Locks.Locks.{AllApart}

-- the instance was granted at this storage site
abbrev pub GrantedAtRecord : EpochId → ℕ → ℕ → Record → Type 0
GrantedAtRecord e key ss (says.Grant at call number inst mode file on place) = (at ≡ e) × (serial_key inst ≡ key) × (place ≡ ss)
GrantedAtRecord e key ss _ = ⊥

abbrev pub GrantedAt : EpochId → ℕ → ℕ → Told → Type 0
GrantedAt e key ss (Shown r) = GrantedAtRecord e key ss r
GrantedAt e key ss _ = ⊥

-- the instance was granted, at this storage site, and some storage site has begun it
pub record IsGiven (past : List Told) (e : EpochId) (key ss : ℕ) : Type 0 where
  pub granted : IsGranted past e key
  pub there : WasTold (GrantedAt e key ss) past
  pub at : ℕ
  pub file : FileId
  pub begun : WasBegunAt past at e key file

-- so it is of a row that is granted
pub record IsGivenOn (past : List Told) (e : EpochId) (key : ℕ) (on : FileId) (ss : ℕ) : Type 0 where
  pub granted : WasGranted past e key on
  pub there : WasTold (GrantedAt e key ss) past
  pub at : ℕ
  pub file : FileId
  pub begun : WasBegunAt past at e key file

-- ---- packets ----

-- the storage site that answers has begun the instance on a file of this number
abbrev pub OpenedFact : List Told → ℕ → EpochId → ℕ → OpenedAs → Type 0
OpenedFact past ss e key (opened.Open ino size) = (file : FileId) × WasBegunAt past ss e key file × (file.ino ≡ ino)
OpenedFact past ss e key (opened.No why) = Unit {0}

abbrev pub DoneFact : List Told → EpochId → ℕ → Granted → Type 0
DoneFact past e key (granted.Open ss ino size stamp vector) = IsGiven past e key ss
DoneFact past e key (granted.No why) = Unit {0}

-- by the sender, the receiver and the epoch; an open is asked of a storage site once its group has started
abbrev pub BodyFact : List Told → ℕ → ℕ → EpochId → Body → Type 0
BodyFact past from to e (body.OpenSs inst file mode set kind base vector parents) = WasStarted past e file.group
BodyFact past from to e (body.Opened inst answer) = OpenedFact past from e (serial_key inst) answer
BodyFact past from to e (body.OpenDone serial answer) = DoneFact past e (serial_key (from_user to serial)) answer
BodyFact past from to e (body.Op serial n o seen) = IsGiven past e (serial_key (from_user from serial)) to
BodyFact past from to e (body.ReadHeld serial n at len) = IsGiven past e (serial_key (from_user from serial)) to
BodyFact past from to e (body.Close serial) = IsGiven past e (serial_key (from_user from serial)) to
BodyFact past from to e (body.Closed inst made) = WasShutAt past from e (serial_key inst)
BodyFact past from to e (body.ClosedOk inst) = WasReleased past e (serial_key inst)
BodyFact past from to e _ = Unit {0}

abbrev pub PacketFact : List Told → Packet → Type 0
PacketFact past p = BodyFact past p.from p.to p.epoch p.body

-- the body carries nothing of instances
abbrev pub NoFact : Body → Type 0
NoFact (body.OpenSs inst file mode set kind base vector parents) = ⊥
NoFact (body.Opened inst answer) = ⊥
NoFact (body.OpenDone serial answer) = ⊥
NoFact (body.Op serial n o seen) = ⊥
NoFact (body.ReadHeld serial n at len) = ⊥
NoFact (body.Close serial) = ⊥
NoFact (body.Closed inst made) = ⊥
NoFact (body.ClosedOk inst) = ⊥
NoFact _ = Unit {0}

abbrev pub Factless : Packet → Type 0
Factless p = NoFact p.body

-- ---- the using site: outside of an epoch nothing is granted ----

abbrev pub GrantedIn : List Told → Option EpochId → ℕ → ℕ → Type 0
GrantedIn past None key ss = ⊥
GrantedIn past (Some e) key ss = IsGiven past e key ss

abbrev pub HeldFact : List Told → ℕ → Option EpochId → UserInstance → Type 0
HeldFact past s o i = GrantedIn past o (serial_key (from_user s i.serial)) i.ss

-- operations and closes are asked of what was granted
abbrev pub AskingFact : List Told → ℕ → Option EpochId → Asking → Type 0
AskingFact past s o (asking.Op serial ss number it seen) = GrantedIn past o (serial_key (from_user s serial)) ss
AskingFact past s o (asking.Close serial ss) = GrantedIn past o (serial_key (from_user s serial)) ss
AskingFact past s o _ = Unit {0}

abbrev pub WaitingFact : List Told → ℕ → Option EpochId → WaitingCall → Type 0
WaitingFact past s o w = AskingFact past s o w.asking

pub record UsersFact (past : List Told) (s : ℕ) (o : Option EpochId) (u : Users) : Type 0 where
  pub instances : Every (HeldFact past s o) u.instances
  pub waiting : Every (WaitingFact past s o) u.waiting

-- ---- the storage site ----

abbrev pub StageFact : List Told → ℕ → EpochId → ℕ → Stage → Type 0
StageFact past s e key stage.Running = Unit {0}
StageFact past s e key (stage.Closing made a) = WasShutAt past s e key
StageFact past s e key (stage.Closed a) = WasShutAt past s e key × WasReleased past e key

pub record InstanceFact (past : List Told) (s : ℕ) (e : EpochId) (i : Instance) : Type 0 where
  pub begun : WasBegunAt past s e (serial_key i.inst) i.file
  pub stage : StageFact past s e (serial_key i.inst) i.stage

-- ---- the synchronization site ----

-- but for a make, the grant is told as the open is taken
abbrev pub AskedFact : List Told → EpochId → ℕ → FileId → ℕ → Mode → Type 0
AskedFact past e key file ss mode.Make = Unit {0}
AskedFact past e key file ss _ = WasGranted past e key file × WasTold (GrantedAt e key ss) past

abbrev pub RowFact : List Told → EpochId → OpenRow → OpenStage → Type 0
RowFact past e r opening.Asked = AskedFact past e (serial_key r.inst) r.file r.ss r.mode
RowFact past e r opening.Granted = IsGivenOn past e (serial_key r.inst) r.file r.ss
RowFact past e r (opening.Refused why) = Unit {0}
RowFact past e r opening.Ended = WasGranted past e (serial_key r.inst) r.file × WasReleased past e (serial_key r.inst)

pub record OpenFact (past : List Told) (e : EpochId) (group : ℕ) (r : OpenRow) : Type 0 where
  pub group_is : r.file.group ≡ group
  pub started : WasStarted past e group
  pub row : RowFact past e r r.stage

abbrev pub LookFact : LastLook → Type 0
LookFact l = NoFact l.body

pub record TableFact (past : List Told) (e : EpochId) (t : SyncTable) : Type 0 where
  pub started : t.started ≡ true → WasStarted past e t.group
  pub opens : Every (OpenFact past e t.group) t.opens
  pub apart : AllApart t.opens
  pub looks : Every LookFact t.looks
  pub early : Every (EarlyFact t.group) t.early

-- ---- a site ----

-- it has instances and tables in an epoch alone
abbrev pub InEpochFact : List Told → ℕ → SiteView → Option InEpoch → Type 0
InEpochFact past s v None = (v.store.instances ≡ []) × (v.tables ≡ [])
InEpochFact past s v (Some e) = Every (InstanceFact past s e.id) v.store.instances × Every (TableFact past e.id) v.tables

pub record ViewFact (past : List Told) (s : ℕ) (v : SiteView) : Type 0 where
  pub users : UsersFact past s (epoch_id v.epoch) v.users
  pub inside : InEpochFact past s v v.epoch

-- ---- outcomes ----

-- the law of facts: all that was told of instances goes on as it must
abbrev pub locks : Facts
locks = record {
  assumes = λ past. Unit {0};
  carries = BodyFact;
  pull = λ past p. Unit {0};
  view = ViewFact;
  disk = λ past copies. Unit {0};
  told = InstanceGoesOn;
  written = λ past d. InstanceGoesOn past (Shown d.says);
}

abbrev pub AllGoOn : List Told → List Told → Type 0
AllGoOn past told = AllTold locks past told

-- the version that is written, which its record tells before all else of the event
abbrev pub DiskFact : List Told → Option DiskWrite → Type 0
DiskFact past d = WrittenIn locks past d

-- what an outcome owes, whose view has these facts
pub record Fine {V : Type 0} (F : List Told → V → Type 0) (past : List Told) (o : Outcome V) : Type 0 where
  pub view : F (onto o.told past) o.view
  pub sent : Every (PacketFact (onto o.told past)) o.sent
  pub goes : AllGoOn past o.told
  pub disk : DiskFact past o.written

-- ---- the world ----

abbrev pub NumberedFact : List Told → Numbered → Type 0
NumberedFact past x = PacketFact past x.packet

pub record WorldFact (w : World) : Type 0 where
  pub goes : InstancesGoOn (past_of w.trace)
  pub views : (s : ℕ) (v : SiteView) → place_at w s ≡ Some (Running v) → ViewFact (past_of w.trace) s v
  pub packets : Every (NumberedFact (past_of w.trace)) w.sent
  pub underway : Every (NumberedFact (past_of w.trace)) w.underway
