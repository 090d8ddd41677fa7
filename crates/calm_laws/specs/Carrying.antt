-- What carries the current request of a waiting call: a packet between two members of the epoch, or the synchronization site that
-- holds it until its group starts.
use Rattle.std.specs.Prelude.{ℕ, ◌≡◌, ◌≢◌, ◌⊎◌, true, false, List, Option, Some}
use Rattle.locus_ids.specs.Sites.{has}
use Rattle.locus_ids.specs.declared.config.Config.{Config}
use Rattle.locus_ids.specs.declared.ids.FileId.{FileId}
use Rattle.locus_ids.specs.declared.ids.Serial.{Serial}
use Rattle.locus_ids.specs.declared.ids.Stamp.{Stamp}
use Rattle.trace_book.specs.declared.operation.Op.{Op}
use Rattle.trace_book.specs.declared.operation.Op.TheVariants as op
use Rattle.trace_book.specs.declared.operation.Outcome.{Outcome as Result}
use Rattle.trace_book.specs.declared.operation.What.{What}
use Rattle.trace_book.specs.declared.operation.What.TheVariants as what
use Rattle.wire_messages.specs.declared.body.Body.{Body}
use Rattle.wire_messages.specs.declared.body.Body.TheVariants as body
use Rattle.wire_messages.specs.declared.body.CloseAnswer.{CloseAnswer}
use Rattle.wire_messages.specs.declared.body.Granted.{Granted}
use Rattle.wire_messages.specs.declared.body.LookAnswer.{LookAnswer}
use Rattle.wire_messages.specs.declared.body.MadeVersion.{MadeVersion}
use Rattle.wire_messages.specs.declared.body.OpenedAs.{OpenedAs}
use Rattle.wire_messages.specs.declared.body.Opening.{Opening}
use Rattle.wire_messages.specs.declared.body.ReportedCopy.{ReportedCopy}
use Rattle.wire_messages.specs.declared.packet.Packet.{Packet}
use Rattle.role_steps.specs.Adoption.{table_group}
use Rattle.role_steps.specs.Epochs.{frame_in}
use Rattle.role_steps.specs.Opens.{open_row, stamp_or_none}
use Rattle.role_steps.specs.Requests.{operation_body}
use Rattle.role_steps.specs.Storage.{instance_of}
use Rattle.role_steps.specs.Tables.{row, first_that}
use Rattle.role_steps.specs.Using.{answers_op, answers_what}
use Rattle.role_steps.specs.Views.{Frame, SiteView, boot_in, packet, pack_sites, sync_site}
use Rattle.role_steps.specs.declared.instances.Instance.{Instance}
use Rattle.role_steps.specs.declared.instances.Stage.{Stage}
use Rattle.role_steps.specs.declared.instances.Stage.TheVariants as running
use Rattle.role_steps.specs.declared.rounds.InEpoch.{InEpoch}
use Rattle.role_steps.specs.declared.synchronizing.Early.{Early}
use Rattle.role_steps.specs.declared.synchronizing.OpenRow.{OpenRow}
use Rattle.role_steps.specs.declared.synchronizing.OpenStage.TheVariants as stage
use Rattle.role_steps.specs.declared.synchronizing.SyncTable.{SyncTable}
use Rattle.role_steps.specs.declared.users.Asking.{Asking}
use Rattle.role_steps.specs.declared.users.Asking.TheVariants as asking
use Rattle.role_steps.specs.declared.users.WaitingCall.{WaitingCall}
use Rattle.the_run.specs.Kept.{Among}
use Rattle.the_run.specs.Steps.{is_opened_in}
use Rattle.the_run.specs.Worlds.{World, Running, Numbered, place_at}
use Rattle.run_laws.specs.Epochs.Known.{Places}

-- ---- members ----

-- the list of the epoch has the site
abbrev pub IsMember : InEpoch → ℕ → Type 0
IsMember e s = boot_in e.members.boot s ≢ 0

-- how a member sends in the epoch
abbrev pub frame_of : Config → InEpoch → ℕ → Frame
frame_of c e s = frame_in c s (boot_in e.members.boot s) e

-- the packet goes from a member to a member, with this body
pub record Goes (c : Config) (e : InEpoch) (from to : ℕ) (b : Body) (p : Packet) : Type 0 where
  pub sender : IsMember e from
  pub receiver : IsMember e to
  pub is : p ≡ packet (frame_of c e from) to b

abbrev pub own_serial : ℕ → ℕ → Serial
own_serial s serial = record { us = s; serial = serial }

-- ---- how sites stand to a request ----

abbrev pub held_request : ℕ → ℕ → Body → Early
held_request site process b = record { site = site; process = process; body = b }

-- the synchronization site hasn't started the group, and holds this request of the process
pub record Holds (at : Places) (css group site process : ℕ) (b : Body) : Type 0 where
  pub view : SiteView
  pub here : at css ≡ Some (Running view)
  pub table : SyncTable
  pub found : row table_group group view.tables ≡ Some table
  pub unstarted : table.started ≡ false
  pub held : Among (held_request site process b) table.early

-- the synchronization site has asked a storage site to open the instance, and has no answer yet: it stands in its table so
pub record IsAsked (at : Places) (css : ℕ) (inst : Serial) (r : OpenRow) : Type 0 where
  pub view : SiteView
  pub here : at css ≡ Some (Running view)
  pub table : SyncTable
  pub found : first_that (is_opened_in inst) view.tables ≡ Some table
  pub is_row : open_row table inst ≡ Some r
  pub asked : r.stage ≡ stage.Asked

-- the close isn't over
abbrev pub IsUnended : Stage → Type 0
IsUnended running.Running = Unit {0}
IsUnended (running.Closing made a) = Unit {0}
IsUnended (running.Closed a) = ⊥

-- the storage site has the instance, whose close isn't over
pub record HasUnended (at : Places) (ss : ℕ) (inst : Serial) : Type 0 where
  pub view : SiteView
  pub here : at ss ≡ Some (Running view)
  pub instance : Instance
  pub found : instance_of view.store inst ≡ Some instance
  pub unended : IsUnended instance.stage

-- ---- packets that carry a look ----

abbrev pub look_body : WaitingCall → FileId → What → ℕ → Body
look_body x file w take = body.Look x.call x.process x.request take file w

-- its holder is asked; a stat is answered without one
abbrev pub IsServedByHolders : What → Type 0
IsServedByHolders what.Stat = ⊥
IsServedByHolders _ = Unit {0}

pub record PassesLook (c : Config) (e : InEpoch) (s : ℕ) (x : WaitingCall) (file : FileId) (w : What) (take : ℕ) (p : Packet) : Type 0 where
  pub css : ℕ
  pub holder : ℕ
  pub stamp : Stamp
  pub served : IsServedByHolders w
  pub goes : Goes c e css holder (body.LookSs s x.call x.process x.request take file w stamp) p

pub record AnswersLook (c : Config) (e : InEpoch) (s : ℕ) (x : WaitingCall) (w : What) (take : ℕ) (p : Packet) : Type 0 where
  pub from : ℕ
  pub answer : LookAnswer
  pub fits : answers_what w answer ≡ true
  pub goes : Goes c e from s (body.LookDone x.call x.request take answer) p

abbrev pub CarriesLook : Config → InEpoch → ℕ → WaitingCall → FileId → What → ℕ → ℕ → Packet → Type 0
CarriesLook c e s x file w take css p = Goes c e s css (look_body x file w take) p ⊎ (PassesLook c e s x file w take p ⊎ AnswersLook c e s x w take p)

-- ---- packets that carry an open ----

abbrev pub open_body : WaitingCall → ℕ → FileId → Opening → Body
open_body x serial file how = body.Open serial x.call x.process x.request file how

-- what its storage site is asked
abbrev pub opening_body : OpenRow → Body
opening_body r = body.OpenSs r.inst r.file r.mode r.set r.kind (stamp_or_none r.stamp) r.vector r.parents

-- the storage site is asked, or answers, while the synchronization site waits for that
pub record OpensIt (c : Config) (e : InEpoch) (at : Places) (css : ℕ) (inst : Serial) (p : Packet) : Type 0 where
  pub opened : OpenRow
  pub asked : IsAsked at css inst opened
  pub way : Goes c e css opened.ss (opening_body opened) p ⊎ ((a : OpenedAs) × Goes c e opened.ss css (body.Opened inst a) p)

pub record AnswersOpen (c : Config) (e : InEpoch) (s serial css : ℕ) (p : Packet) : Type 0 where
  pub answer : Granted
  pub goes : Goes c e css s (body.OpenDone serial answer) p

abbrev pub CarriesOpen : Config → InEpoch → Places → ℕ → WaitingCall → ℕ → FileId → Opening → ℕ → Packet → Type 0
CarriesOpen c e at s x serial file how css p = Goes c e s css (open_body x serial file how) p ⊎ (OpensIt c e at css (own_serial s serial) p ⊎ AnswersOpen c e s serial css p)

-- ---- packets that carry an operation or a close ----

pub record AnswersOp (c : Config) (e : InEpoch) (s serial ss n : ℕ) (o : Op) (p : Packet) : Type 0 where
  pub result : Result
  pub fits : answers_op o result ≡ true
  pub goes : Goes c e ss s (body.OpDone serial n result) p

-- a read whose asker has the bytes may be answered by their number
pub record AnswersHeld (c : Config) (e : InEpoch) (s serial ss n : ℕ) (copied : Option (List ℕ)) (o : Op) (p : Packet) : Type 0 where
  pub bytes : List ℕ
  pub has : copied ≡ Some bytes
  pub at : ℕ
  pub len : ℕ
  pub is_read : o ≡ op.Read at len
  pub many : ℕ
  pub goes : Goes c e ss s (body.AsHeld serial n many) p

abbrev pub CarriesOp : Config → InEpoch → ℕ → ℕ → ℕ → ℕ → Option (List ℕ) → Op → List ℕ → Packet → Type 0
CarriesOp c e s serial ss n copied o seen p = Goes c e s ss (operation_body copied serial n o seen) p ⊎ (AnswersOp c e s serial ss n o p ⊎ AnswersHeld c e s serial ss n copied o p)

-- the synchronization site is told, or answers, while the storage site waits for that
pub record ClosesIt (c : Config) (e : InEpoch) (at : Places) (ss : ℕ) (inst : Serial) (p : Packet) : Type 0 where
  pub unended : HasUnended at ss inst
  pub css : ℕ
  pub way : ((made : Option MadeVersion) × Goes c e ss css (body.Closed inst made) p) ⊎ Goes c e css ss (body.ClosedOk inst) p

pub record AnswersClose (c : Config) (e : InEpoch) (s serial ss : ℕ) (p : Packet) : Type 0 where
  pub answer : CloseAnswer
  pub goes : Goes c e ss s (body.CloseDone serial answer) p

abbrev pub CarriesClose : Config → InEpoch → Places → ℕ → ℕ → ℕ → Packet → Type 0
CarriesClose c e at s serial ss p = Goes c e s ss (body.Close serial) p ⊎ (ClosesIt c e at ss (own_serial s serial) p ⊎ AnswersClose c e s serial ss p)

-- ---- the current request of a call ----

-- the packet carries what the call of the site asks
abbrev pub Carries : Config → InEpoch → Places → ℕ → WaitingCall → Asking → Packet → Type 0
Carries c e at s x (asking.Look file w take) p = (css : ℕ) × (sync_site c e.members file.group ≡ Some css) × CarriesLook c e s x file w take css p
Carries c e at s x (asking.Open serial file how) p = (css : ℕ) × (sync_site c e.members file.group ≡ Some css) × CarriesOpen c e at s x serial file how css p
Carries c e at s x (asking.Op serial ss n o seen) p = CarriesOp c e s serial ss n x.copied o seen p
Carries c e at s x (asking.Close serial ss) p = CarriesClose c e at s serial ss p

-- it is held until its group starts
abbrev pub IsHeld : Config → InEpoch → Places → ℕ → WaitingCall → Asking → Type 0
IsHeld c e at s x (asking.Look file w take) = (css : ℕ) × (sync_site c e.members file.group ≡ Some css) × Holds at css file.group s x.process (look_body x file w take)
IsHeld c e at s x (asking.Open serial file how) = (css : ℕ) × (sync_site c e.members file.group ≡ Some css) × Holds at css file.group s x.process (open_body x serial file how)
IsHeld c e at s x _ = ⊥

-- a packet that is under way carries it
pub record IsUnderWay (c : Config) (e : InEpoch) (at : Places) (under : List Numbered) (s : ℕ) (x : WaitingCall) : Type 0 where
  pub letter : Numbered
  pub there : Among letter under
  pub carries : Carries c e at s x x.asking letter.packet

abbrev pub IsCarried : Config → InEpoch → Places → List Numbered → ℕ → WaitingCall → Type 0
IsCarried c e at under s x = IsUnderWay c e at under s x ⊎ IsHeld c e at s x x.asking

-- ---- reports ----

-- the synchronization site of the group has the site's report
pub record HasReported (at : Places) (css group site : ℕ) : Type 0 where
  pub view : SiteView
  pub here : at css ≡ Some (Running view)
  pub table : SyncTable
  pub found : row table_group group view.tables ≡ Some table
  pub reported : has table.reported site ≡ true

-- or the report is under way
pub record Reports (c : Config) (e : InEpoch) (under : List Numbered) (css group site : ℕ) : Type 0 where
  pub letter : Numbered
  pub there : Among letter under
  pub copies : List ReportedCopy
  pub goes : Goes c e site css (body.Report group copies) letter.packet

-- ---- all of a world ----

-- Each waiting call of a member is carried, and so is the report of each pack of a member to the synchronization site of its group.
pub record AllCarried (c : Config) (e : InEpoch) (at : Places) (under : List Numbered) : Type 0 where
  pub calls : (s : ℕ) (v : SiteView) (x : WaitingCall) → IsMember e s → at s ≡ Some (Running v) → Among x v.users.waiting → IsCarried c e at under s x
  pub reports : (group css s : ℕ) → sync_site c e.members group ≡ Some css → IsMember e s → has (pack_sites c group) s ≡ true → HasReported at css group s ⊎ Reports c e under css group s

abbrev pub IsAllCarried : Config → InEpoch → World → Type 0
IsAllCarried c e w = AllCarried c e (place_at w) w.underway
