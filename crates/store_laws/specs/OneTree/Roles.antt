-- What each role does, as the laws of roles have to give it: its steps are fine.
use Rattle.std.specs.Prelude.{ℕ, ◌≡◌, ◌<◌, ◌==◌, true, false, List, [], length, Option, None, Some}
use Rattle.std.specs.List.{list_any}
use Rattle.locus_ids.specs.declared.config.Config.{Config}
use Rattle.locus_ids.specs.declared.ids.EpochId.{EpochId}
use Rattle.locus_ids.specs.declared.ids.FileId.{FileId}
use Rattle.locus_ids.specs.declared.ids.Serial.{Serial}
use Rattle.locus_ids.specs.declared.ids.Stamp.{Stamp}
use Rattle.locus_ids.specs.declared.sites.Members.{Members}
use Rattle.locus_ids.specs.Sizes.{inode_span}
use Rattle.trace_book.specs.declared.call.Call.{Call}
use Rattle.trace_book.specs.declared.operation.Op.{Op}
use Rattle.trace_book.specs.declared.operation.Outcome.{Outcome as Result}
use Rattle.trace_book.specs.declared.record.Record.TheVariants as says
use Rattle.schedule_lines.specs.Ranges.{fits_event}
use Rattle.schedule_lines.specs.declared.line.Line.TheVariants as line
use Rattle.wire_messages.specs.declared.body.Body.{Body}
use Rattle.wire_messages.specs.declared.body.Body.TheVariants as body
use Rattle.wire_messages.specs.declared.body.CloseAnswer.{CloseAnswer}
use Rattle.wire_messages.specs.declared.body.Granted.{Granted}
use Rattle.wire_messages.specs.declared.body.LookAnswer.{LookAnswer}
use Rattle.wire_messages.specs.declared.body.MadeVersion.{MadeVersion}
use Rattle.wire_messages.specs.declared.body.OpenedAs.{OpenedAs}
use Rattle.wire_messages.specs.declared.body.ReportedCopy.{ReportedCopy}
use Rattle.wire_messages.specs.declared.packet.Packet.{Packet}
use Rattle.role_steps.specs.Adoption.{adopts}
use Rattle.role_steps.specs.Epochs.{all_reports, joins}
use Rattle.role_steps.specs.Looks.{LookRequest}
use Rattle.role_steps.specs.Mends.{kept_stamps, mending, starts_mends}
use Rattle.role_steps.specs.Opens.{OpenRequest, on_opened}
use Rattle.role_steps.specs.Operations.{on_op, on_read_held}
use Rattle.role_steps.specs.Own.{Every}
use Rattle.role_steps.specs.Pulling.{on_notify, on_page, on_delta, pull_repeats}
use Rattle.role_steps.specs.Reports.{on_report, on_open, on_look, on_closed, on_have, sync_repeats}
use Rattle.role_steps.specs.Storage.{StoreRequest, copy_of, instance_of, on_open_ss, on_close, on_closed_ok, on_look_ss, on_pull, on_want, delta_of, pages_since, steps_of, store_repeats}
use Rattle.role_steps.specs.Using.{on_call, on_open_done, on_op_done, on_as_held, on_close_done, on_look_done, users_leave}
use Rattle.role_steps.specs.Views.{Frame, Users, Store, SiteView, Shown, Outcome, Event, Calls, Receives}
use Rattle.role_steps.specs.declared.copies.FileCopy.{FileCopy}
use Rattle.role_steps.specs.declared.pulls.Pull.{Pull}
use Rattle.role_steps.specs.declared.synchronizing.SyncTable.{SyncTable}
use Rattle.role_steps.specs.declared.users.WaitingCall.{WaitingCall}
use Rattle.the_run.specs.Steps.{group_of, call_frame}
use Rattle.the_run.specs.Worlds.{Line, formatted}
use Rattle.commit_graph.specs.Versions.{content_of as content_in}
use Rattle.file_content.specs.Pages.{pages_of}
use Rattle.tree_model.specs.Epochs.{epoch_of, is_up}
use Rattle.tree_model.specs.Histories.{history}
use Rattle.role_steps.specs.Views.{sync_site}
use Rattle.tree_laws.specs.Doing.{FrameFact, IsReceived, IsOfUsers, IsAdopted, NoWrite, WriteFact, Fine, StoreHeld, StoreFine, TableFine, PullsFact, PullsFine}
use Rattle.tree_laws.specs.Deltas.{DeltaFact, DifferIn}
use Rattle.tree_laws.specs.Instances.{Stands}
use Rattle.tree_laws.specs.Packets.{PacketFact}
use Rattle.tree_laws.specs.Printed.{entries}
use Rattle.tree_laws.specs.Stores.{CopiesAreHeld}
use Rattle.tree_laws.specs.Tables.{TableFact}
use Rattle.store_laws.specs.OneTree.Places.{InsideFact, OutsideFact, UsersOf, UsersOutside, SiteFact, SiteFine}
use Rattle.store_laws.specs.OneTree.Rest.{AllRest, Past, more}
use Rattle.store_laws.specs.OneTree.Wants.{Arrives}

-- ---- what a step stands on ----

-- all came as it may so far, and this is the frame of a site in its epoch
pub record Ready (c : Config) (trace : List Line) (f : Frame) : Type 0 where
  pub past : Past c trace
  pub frame : FrameFact c trace f

-- a packet of the epoch has come, with its fact
pub record Came (c : Config) (trace : List Line) (f : Frame) (p : Packet) (b : Body) : Type 0 where
  pub received : IsReceived f p
  pub body_is : p.body ≡ b
  pub fact : PacketFact c trace p

-- a call that a line may ask, of a process that waits for nothing
pub record MayCall (c : Config) (me process : ℕ) (words : Call) (u : Users) : Type 0 where
  pub fits : fits_event c.sites (line.Call me process words) ≡ true
  pub idle : list_any (λ (w : WaitingCall). w.process == process) u.waiting ≡ false

-- what an event brings to a site: a call that a line may ask, or a packet with its fact
abbrev pub EventFact : Config → List Line → ℕ → SiteView → Event → Type 0
EventFact c trace me v (Calls process words) = MayCall c me process words v.users
EventFact c trace me v (Receives p) = (p.to ≡ me) × Arrives c trace p v
EventFact c trace me v _ = Unit {0}

-- ---- the using site ----

-- what the using site of a site in its epoch does as it may
abbrev pub CallsFine : Config → ℕ → List Line → Frame → Outcome Users → Type 0
CallsFine c n trace f o = Fine Users c n trace (IsOfUsers f.me) (UsersOf c f) NoWrite o

pub record UsersDo (c : Config) : Type 0 where
  pub calls : (n : ℕ) (trace : List Line) (f : Frame) (process : ℕ) (words : Call) (u : Users) → Ready c trace f → UsersOf c f trace u → MayCall c f.me process words u → AllRest c n trace (on_call f (Some f.epoch) process words u).told → CallsFine c n trace f (on_call f (Some f.epoch) process words u)
  -- in no epoch a call is answered at once
  pub calls_outside : (n : ℕ) (trace : List Line) (me boot process : ℕ) (words : Call) (u : Users) → Past c trace → is_up c (entries trace) me ≡ true → epoch_of (entries trace) me ≡ None → UsersOutside c me boot trace u → MayCall c me process words u → AllRest c n trace (on_call (call_frame c me boot None) None process words u).told →
      Fine Users c n trace (IsOfUsers me) (UsersOutside c me boot) NoWrite (on_call (call_frame c me boot None) None process words u)
  pub opened : (n : ℕ) (trace : List Line) (f : Frame) (p : Packet) (serial : ℕ) (a : Granted) (v : SiteView) → Ready c trace f → InsideFact c f trace v → Came c trace f p (body.OpenDone serial a) → AllRest c n trace (on_open_done f (kept_stamps v) serial a v.users).told → CallsFine c n trace f (on_open_done f (kept_stamps v) serial a v.users)
  pub acted : (n : ℕ) (trace : List Line) (f : Frame) (p : Packet) (serial k : ℕ) (r : Result) (u : Users) → Ready c trace f → UsersOf c f trace u → Came c trace f p (body.OpDone serial k r) → AllRest c n trace (on_op_done f serial k r u).told → CallsFine c n trace f (on_op_done f serial k r u)
  pub held : (n : ℕ) (trace : List Line) (f : Frame) (p : Packet) (serial k len : ℕ) (u : Users) → Ready c trace f → UsersOf c f trace u → Came c trace f p (body.AsHeld serial k len) → AllRest c n trace (on_as_held f serial k u).told → CallsFine c n trace f (on_as_held f serial k u)
  pub closed : (n : ℕ) (trace : List Line) (f : Frame) (p : Packet) (serial : ℕ) (a : CloseAnswer) (u : Users) → Ready c trace f → UsersOf c f trace u → Came c trace f p (body.CloseDone serial a) → AllRest c n trace (on_close_done f serial a u).told → CallsFine c n trace f (on_close_done f serial a u)
  pub looked : (n : ℕ) (trace : List Line) (f : Frame) (p : Packet) (call request take : ℕ) (a : LookAnswer) (u : Users) → Ready c trace f → UsersOf c f trace u → Came c trace f p (body.LookDone call request take a) → AllRest c n trace (on_look_done f call request take a u).told → CallsFine c n trace f (on_look_done f call request take a u)
  -- its site has just left the epoch
  pub leaves : (n : ℕ) (trace : List Line) (f : Frame) (u : Users) → Ready c trace f → UsersOf c f trace u → AllRest c n (more n (Shown (says.Leave f.me f.epoch)) trace) (users_leave f.me f.boot f.epoch u).told →
      Fine Users c n (more n (Shown (says.Leave f.me f.epoch)) trace) (IsOfUsers f.me) (UsersOutside c f.me f.boot) NoWrite (users_leave f.me f.boot f.epoch u)

-- ---- the storage site ----

pub record StoreDo (c : Config) : Type 0 where
  -- a formatted disk
  pub first : (me : ℕ) → CopiesAreHeld c [] me (record { copies = formatted c me; instances = []; steps = [] })
  pub opens : (n : ℕ) (trace : List Line) (f : Frame) (p : Packet) (r : StoreRequest) (s : Store) → Ready c trace f → StoreHeld c f trace s → Came c trace f p (body.OpenSs r.inst r.file r.mode r.set r.kind r.base r.vector r.parents) → AllRest c n trace (on_open_ss f r s).told → StoreFine c n trace f s (on_open_ss f r s)
  pub acts : (n : ℕ) (trace : List Line) (f : Frame) (p : Packet) (serial k : ℕ) (o : Op) (seen : List ℕ) (v : SiteView) → Ready c trace f → InsideFact c f trace v → Came c trace f p (body.Op serial k o seen) →
      AllRest c n trace (on_op f (mending v (group_of (instance_of v.store (record { us = p.from; serial = serial })))) (record { us = p.from; serial = serial }) k o seen v.store).told → StoreFine c n trace f v.store (on_op f (mending v (group_of (instance_of v.store (record { us = p.from; serial = serial })))) (record { us = p.from; serial = serial }) k o seen v.store)
  pub reads : (n : ℕ) (trace : List Line) (f : Frame) (p : Packet) (serial k at len : ℕ) (s : Store) → Ready c trace f → StoreHeld c f trace s → Came c trace f p (body.ReadHeld serial k at len) → AllRest c n trace (on_read_held f (record { us = p.from; serial = serial }) k at len s).told → StoreFine c n trace f s (on_read_held f (record { us = p.from; serial = serial }) k at len s)
  pub closes : (n : ℕ) (trace : List Line) (f : Frame) (p : Packet) (serial : ℕ) (s : Store) → Ready c trace f → StoreHeld c f trace s → Came c trace f p (body.Close serial) → AllRest c n trace (on_close f (record { us = p.from; serial = serial }) s).told → StoreFine c n trace f s (on_close f (record { us = p.from; serial = serial }) s)
  pub ends : (n : ℕ) (trace : List Line) (f : Frame) (p : Packet) (i : Serial) (s : Store) → Ready c trace f → StoreHeld c f trace s → Came c trace f p (body.ClosedOk i) → AllRest c n trace (on_closed_ok f i s).told → StoreFine c n trace f s (on_closed_ok f i s)
  pub serves : (n : ℕ) (trace : List Line) (f : Frame) (p : Packet) (us : ℕ) (l : LookRequest) (stamp : Stamp) (s : Store) → Ready c trace f → StoreHeld c f trace s → Came c trace f p (body.LookSs us l.call l.process l.request l.take l.file l.what stamp) → AllRest c n trace (on_look_ss f us l stamp s).told → StoreFine c n trace f s (on_look_ss f us l stamp s)
  pub gives : (n : ℕ) (trace : List Line) (f : Frame) (p : Packet) (file : FileId) (stamp : Stamp) (page : ℕ) (s : Store) → Ready c trace f → StoreHeld c f trace s → Came c trace f p (body.Pull file stamp page) → AllRest c n trace (on_pull f p.from file stamp page s).told → StoreFine c n trace f s (on_pull f p.from file stamp page s)
  pub wants : (n : ℕ) (trace : List Line) (f : Frame) (p : Packet) (file : FileId) (wanted own : Stamp) (s : Store) → Ready c trace f → StoreHeld c f trace s → Came c trace f p (body.Want file wanted own) → AllRest c n trace (on_want f p.from file wanted own s).told → StoreFine c n trace f s (on_want f p.from file wanted own s)
  -- the inode numbers of files have 16 bits
  pub narrow : (trace : List Line) → Past c trace → (f : FileId) (stamp : Stamp) → Stands c trace f stamp → f.ino < inode_span
  -- what it answers to a want, by what it remembers
  pub differs : (trace : List Line) (f : Frame) (file : FileId) (wanted own : Stamp) (s : Store) → Ready c trace f → StoreHeld c f trace s → Stands c trace file wanted → Stands c trace file own → DifferIn c trace file own wanted (delta_of (pages_of (length (content_in (history c (entries trace)) file wanted))) (pages_since own wanted (steps_of file s.steps)))
  pub repeats : (trace : List Line) (f : Frame) (s : Store) → Ready c trace f → StoreHeld c f trace s → Every (PacketFact c trace) (store_repeats f s)

-- ---- the synchronization site of a group ----

-- the table of a group that the site synchronizes
pub record TableHere (c : Config) (trace : List Line) (f : Frame) (t : SyncTable) : Type 0 where
  pub synced : sync_site f.config f.members t.group ≡ Some f.me
  pub fact : TableFact c trace f t

pub record TablesDo (c : Config) : Type 0 where
  pub reports : (n : ℕ) (trace : List Line) (f : Frame) (p : Packet) (group : ℕ) (copies : List ReportedCopy) (t : SyncTable) → Ready c trace f → TableHere c trace f t → Came c trace f p (body.Report group copies) → t.group ≡ group → AllRest c n trace (on_report f p.from copies t).told → TableFine c n trace f group (on_report f p.from copies t)
  pub opens : (n : ℕ) (trace : List Line) (f : Frame) (p : Packet) (o : OpenRequest) (t : SyncTable) → Ready c trace f → TableHere c trace f t → Came c trace f p (body.Open o.serial o.call o.process o.request o.file o.how) → t.group ≡ o.file.group → AllRest c n trace (on_open f p.from o t).told → TableFine c n trace f o.file.group (on_open f p.from o t)
  pub opened : (n : ℕ) (trace : List Line) (f : Frame) (p : Packet) (i : Serial) (a : OpenedAs) (t : SyncTable) → Ready c trace f → TableHere c trace f t → Came c trace f p (body.Opened i a) → AllRest c n trace (on_opened f i a t).told → TableFine c n trace f t.group (on_opened f i a t)
  pub closed : (n : ℕ) (trace : List Line) (f : Frame) (p : Packet) (i : Serial) (made : Option MadeVersion) (t : SyncTable) → Ready c trace f → TableHere c trace f t → Came c trace f p (body.Closed i made) → AllRest c n trace (on_closed f p.from i made t).told → TableFine c n trace f t.group (on_closed f p.from i made t)
  pub looks : (n : ℕ) (trace : List Line) (f : Frame) (p : Packet) (l : LookRequest) (t : SyncTable) → Ready c trace f → TableHere c trace f t → Came c trace f p (body.Look l.call l.process l.request l.take l.file l.what) → t.group ≡ l.file.group → AllRest c n trace (on_look f p.from l t).told → TableFine c n trace f l.file.group (on_look f p.from l t)
  pub notes : (n : ℕ) (trace : List Line) (f : Frame) (p : Packet) (file : FileId) (stamp : Stamp) (t : SyncTable) → Ready c trace f → TableHere c trace f t → Came c trace f p (body.Have file stamp) → t.group ≡ file.group → AllRest c n trace (on_have p.from file stamp t).told → TableFine c n trace f file.group (on_have p.from file stamp t)
  pub repeats : (trace : List Line) (f : Frame) (t : SyncTable) → Ready c trace f → TableHere c trace f t → Every (PacketFact c trace) (sync_repeats f t)

-- ---- propagation, and mends ----

pub record PullsDo (c : Config) : Type 0 where
  pub notified : (n : ℕ) (trace : List Line) (f : Frame) (p : Packet) (pull : Pull) (s : Store) (ps : List Pull) → Ready c trace f → StoreHeld c f trace s → PullsFact c f trace ps → pull.content ≡ [] →
      Came c trace f p (body.Notify pull.file pull.kind pull.set pull.size pull.stamp pull.vector pull.holder) → PullsFine c n trace f (on_notify f p.from (copy_of s pull.file) pull ps)
  pub paged : (n : ℕ) (trace : List Line) (f : Frame) (p : Packet) (file : FileId) (stamp : Stamp) (page : ℕ) (bytes : List ℕ) (ps : List Pull) → Ready c trace f → PullsFact c f trace ps → Came c trace f p (body.Page file stamp page bytes) → PullsFine c n trace f (on_page f file stamp page bytes ps)
  pub told : (n : ℕ) (trace : List Line) (f : Frame) (p : Packet) (own : Option FileCopy) (file : FileId) (wanted : Stamp) (pages : List ℕ) (ps : List Pull) → Ready c trace f → PullsFact c f trace ps → Came c trace f p (body.Delta file wanted pages) → DeltaFact c trace f.me ps file wanted pages → PullsFine c n trace f (on_delta f own file wanted pages ps)
  pub repeats : (trace : List Line) (f : Frame) (ps : List Pull) → Ready c trace f → PullsFact c f trace ps → Every (PacketFact c trace) (pull_repeats f ps)
  -- what is pulled and ready is adopted
  pub adopts : (n : ℕ) (trace : List Line) (f : Frame) (v : SiteView) → Ready c trace f → InsideFact c f trace v → AllRest c n trace (adopts f v).told → Fine SiteView c n trace (IsAdopted f.me) (InsideFact c f) (WriteFact c n trace f.me v.store) (adopts f v)
  -- a mend that is wanted starts
  pub mends : (n : ℕ) (trace : List Line) (f : Frame) (v : SiteView) → Ready c trace f → InsideFact c f trace v → AllRest c n trace (starts_mends f v).told → Fine SiteView c n trace (IsOfUsers f.me) (InsideFact c f) NoWrite (starts_mends f v)

-- ---- epochs ----

pub record EpochsDo (c : Config) : Type 0 where
  -- a site that is in no epoch joins one
  pub joins : (n : ℕ) (trace : List Line) (me : ℕ) (e : EpochId) (members : Members) (v : SiteView) → Past c trace → OutsideFact c me trace v → AllRest c n trace (joins c me e members v).told → SiteFine c n trace me (SiteFact c me) NoWrite (joins c me e members v)
  pub reports : (trace : List Line) (f : Frame) (v : SiteView) → Ready c trace f → InsideFact c f trace v → Every (PacketFact c trace) (all_reports f v)

-- ---- all ----

pub record RolesDo (c : Config) : Type 0 where
  pub users : UsersDo c
  pub stores : StoreDo c
  pub tables : TablesDo c
  pub pulls : PullsDo c
  pub epochs : EpochsDo c
