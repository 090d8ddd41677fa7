-- The shape of a role's step: what an event tells comes as it may, line after line; what the role then has and what it sends is
-- so by the trace after all that it told; and whose line is which.
use Rattle.std.specs.Prelude.{ℕ, ◌≡◌, true, List, [], ◌∷◌, length, filter, Option, None, Some}
use Rattle.locus_ids.specs.declared.config.Config.{Config}
use Rattle.locus_ids.specs.declared.ids.EpochId.{EpochId}
use Rattle.locus_ids.specs.declared.ids.FileId.{FileId}
use Rattle.trace_book.specs.declared.record.Record.{Record}
use Rattle.trace_book.specs.declared.record.Record.TheVariants as says
use Rattle.the_run.specs.of_wire_messages.declared.packet.Packet.{Packet}
use Rattle.the_run.specs.of_role_steps.Own.{Every}
use Rattle.the_run.specs.of_role_steps.Storage.{with_version}
use Rattle.the_run.specs.of_role_steps.Views.{Frame, Store, Users, Told, Shown, Promises, Takes, LooksAgain, Begins, Shuts, Reserves, DiskWrite, Outcome, boot_in}
use Rattle.the_run.specs.of_role_steps.declared.pulls.Pull.{Pull}
use Rattle.the_run.specs.of_role_steps.declared.synchronizing.SyncTable.{SyncTable}
use Rattle.the_run.specs.Worlds.{Line, told_onto}
use Rattle.lawful_trace.specs.of_tree_model.Epochs.{boot_of, epoch_of, is_up, members_of}
use Rattle.lawful_trace.specs.of_tree_model.Folds.{Trace}
use Rattle.lawful_trace.specs.of_tree_model.Files.{committing}
use Rattle.tree_model.specs.of_file_content.Pages.{pages_of, pages_from, has_page}
use Rattle.lawful_trace.specs.Disks.{pages_held, pages_now, writing_commit}
use Rattle.tree_laws.specs.Printed.{entries}
use Rattle.tree_laws.specs.Past.{WasBegun}
use Rattle.tree_laws.specs.Following.{MayTell}
use Rattle.tree_laws.specs.Packets.{PacketFact}
use Rattle.tree_laws.specs.Users.{InsideUsers, UsersFact}
use Rattle.tree_laws.specs.Stores.{CopiesAreHeld, StoreFact, PullFact}
use Rattle.tree_laws.specs.Tables.{TableFact}

-- ---- what an event tells, of a line with this number ----

-- Each told line comes as it may after the older ones and those told before it in the event. All lines of an event have its
-- number; the trace after them is told_onto n told trace.
abbrev pub AllTold : Config → ℕ → List Line → List Told → Type 0
AllTold c n trace [] = Unit {0}
AllTold c n trace (x ∷ xs) = MayTell c trace x × AllTold c n (record { number = n; told = x } ∷ trace) xs

-- ---- the frame in which roles do so ----

-- the frame is that of a site in its epoch, by the trace
pub record FrameFact (c : Config) (trace : List Line) (f : Frame) : Type 0 where
  pub config_is : f.config ≡ c
  pub inside : epoch_of (entries trace) f.me ≡ Some f.epoch
  pub members_are : members_of (entries trace) f.epoch ≡ Some f.members
  pub up : is_up c (entries trace) f.me ≡ true
  pub boot_is : f.boot ≡ boot_of (entries trace) f.me
  pub is_member : boot_in f.members.boot f.me ≡ f.boot

-- the packet has come to the site of the frame, from a member, in the epoch
pub record IsReceived (f : Frame) (p : Packet) : Type 0 where
  pub to_is : p.to ≡ f.me
  pub to_boot_is : p.to_boot ≡ f.boot
  pub epoch_is : p.epoch ≡ f.epoch
  pub from_boot_is : boot_in f.members.boot p.from ≡ p.from_boot

-- ---- whose line it is ----

abbrev pub IsUsersRecord : ℕ → Record → Type 0
IsUsersRecord me (says.Accept site process call words) = site ≡ me
IsUsersRecord me (says.Answer site process call reply) = site ≡ me
IsUsersRecord me _ = ⊥

-- the using site of this site tells it
abbrev pub IsOfUsers : ℕ → Told → Type 0
IsOfUsers me (Shown r) = IsUsersRecord me r
IsOfUsers me (Takes site call request times a) = site ≡ me
IsOfUsers me (LooksAgain site call request times) = site ≡ me
IsOfUsers me _ = ⊥

abbrev pub IsStoreRecord : List Line → ℕ → EpochId → Record → Type 0
IsStoreRecord trace me e (says.Act at inst number o result) = (at ≡ e) × ((f : FileId) × WasBegun trace me e inst f)
IsStoreRecord trace me e (says.Commit file site stamp parents content) = site ≡ me
IsStoreRecord trace me e _ = ⊥

-- the storage site of this site tells it of its instances, in this epoch: an operation of what it has begun before the event
abbrev pub IsOfStore : List Line → ℕ → EpochId → Told → Type 0
IsOfStore trace me e (Shown r) = IsStoreRecord trace me e r
IsOfStore trace me e (Begins site at inst file) = site ≡ me
IsOfStore trace me e (Shuts site at inst) = site ≡ me
IsOfStore trace me e (Reserves site at inst file) = site ≡ me
IsOfStore trace me e _ = ⊥

abbrev pub IsAdoptedRecord : ℕ → Record → Type 0
IsAdoptedRecord me (says.Adopt file site stamp) = site ≡ me
IsAdoptedRecord me _ = ⊥

-- this site adopts a version
abbrev pub IsAdopted : ℕ → Told → Type 0
IsAdopted me (Shown r) = IsAdoptedRecord me r
IsAdopted me _ = ⊥

abbrev pub IsTableRecord : Frame → ℕ → Record → Type 0
IsTableRecord f group (says.Start at started copies) = (at ≡ f.epoch) × (started ≡ group)
IsTableRecord f group (says.Look at call request file what result) = (at ≡ f.epoch) × (file.group ≡ group)
IsTableRecord f group (says.Grant at call request inst mode file stamp ss) = (at ≡ f.epoch) × (file.group ≡ group)
IsTableRecord f group (says.Refuse at call request inst mode file why) = (at ≡ f.epoch) × (file.group ≡ group)
IsTableRecord f group (says.Release at inst file stamp) = (at ≡ f.epoch) × (file.group ≡ group)
IsTableRecord f group _ = ⊥

-- the synchronization site of the group in the frame's epoch tells it
abbrev pub IsOfTable : Frame → ℕ → Told → Type 0
IsOfTable f group (Shown r) = IsTableRecord f group r
IsOfTable f group _ = ⊥

abbrev pub IsSiteRecord : ℕ → Record → Type 0
IsSiteRecord me (says.Up site boot) = site ≡ me
IsSiteRecord me (says.Stopped site cause) = site ≡ me
IsSiteRecord me (says.Leave site epoch) = site ≡ me
IsSiteRecord me (says.Join site epoch members) = site ≡ me
IsSiteRecord me _ = ⊥

-- the site boots, stops, joins or leaves
abbrev pub IsOfSite : ℕ → Told → Type 0
IsOfSite me (Shown r) = IsSiteRecord me r
IsOfSite me _ = ⊥

-- a site promises an id
abbrev pub IsPromise : Told → Type 0
IsPromise (Promises site id reach) = Unit {0}
IsPromise x = ⊥

-- nobody's
abbrev pub IsOfNone : Told → Type 0
IsOfNone x = ⊥

-- ---- what is written ----

abbrev pub WrittenFact : (DiskWrite → Type 0) → Option DiskWrite → Type 0
WrittenFact W None = Unit {0}
WrittenFact W (Some d) = W d

-- nothing is
abbrev pub NoWrite : DiskWrite → Type 0
NoWrite d = ⊥

-- the record is of a version on this site's disk
abbrev pub IsWriteOf : ℕ → Record → Type 0
IsWriteOf me (says.Commit file site stamp parents content) = site ≡ me
IsWriteOf me (says.Adopt file site stamp) = site ≡ me
IsWriteOf me _ = ⊥

-- These are the pages that the record writes on the disk of its site, by the records before it: a commit writes those that its
-- instance changed, an adoption some of those that its version has, ascending.
abbrev pub AreWritten : Config → Trace → Record → List ℕ → Type 0
AreWritten c before (says.Commit file site stamp parents content) pages = pages ≡ (writing_commit c before file site).pages
AreWritten c before (says.Adopt file site stamp) pages = pages ≡ filter (has_page pages) (pages_from 0 (pages_held c before file (Some stamp)))
AreWritten c before _ pages = Unit {0}

-- how many pages the version of the record has, by the records before it
abbrev pub pages_told : Config → Trace → Record → ℕ
pages_told c before (says.Commit file site stamp parents content) = pages_now (committing c before file site)
pages_told c before (says.Adopt file site stamp) = pages_held c before file (Some stamp)
pages_told c before _ = 0

-- what is written may be told first of all in the event, and the copy on the disk is then what the site holds by the trace:
-- so it is left where the event is cut off after it. Its pages are those that the record writes, of so many as it tells.
pub record WriteFact (c : Config) (n : ℕ) (trace : List Line) (me : ℕ) (s : Store) (d : DiskWrite) : Type 0 where
  pub own : IsWriteOf me d.says
  pub may : MayTell c trace (Shown d.says)
  pub held : CopiesAreHeld c (record { number = n; told = Shown d.says } ∷ trace) me (with_version d.copy d.pages s)
  pub pages : AreWritten c (entries trace) d.says d.pages
  pub now : pages_of (length d.copy.content) ≡ pages_told c (entries trace) d.says

-- ---- an outcome ----

-- What an outcome of an event of line n tells comes as it may and is of one role (Own); the view has its fact (F) by the
-- trace after all that was told; each packet that is sent carries its fact then; and what is written has its fact (W).
pub record Fine (V : Type 0) (c : Config) (n : ℕ) (trace : List Line) (Own : Told → Type 0) (F : List Line → V → Type 0) (W : DiskWrite → Type 0) (o : Outcome V) : Type 0 where
  pub told : AllTold c n trace o.told
  pub own : Every Own o.told
  pub view : F (told_onto n o.told trace) o.view
  pub sent : Every (PacketFact c (told_onto n o.told trace)) o.sent
  pub written : WrittenFact W o.written

-- ---- the roles ----

-- the using site of a site in an epoch
pub record UsersInside (c : Config) (f : Frame) (trace : List Line) (u : Users) : Type 0 where
  pub always : UsersFact c trace f.me f.boot u
  pub inside : InsideUsers c trace f u

abbrev pub UsersFine : Config → ℕ → List Line → Frame → Outcome Users → Type 0
UsersFine c n trace f o = Fine Users c n trace (IsOfUsers f.me) (UsersInside c f) NoWrite o

-- its storage site, with its disk
pub record StoreHeld (c : Config) (f : Frame) (trace : List Line) (s : Store) : Type 0 where
  pub copies : CopiesAreHeld c trace f.me s
  pub instances : StoreFact c trace f s

-- what a storage site does of its store before the event
abbrev pub StoreFine : Config → ℕ → List Line → Frame → Store → Outcome Store → Type 0
StoreFine c n trace f before o = Fine Store c n trace (IsOfStore trace f.me f.epoch) (StoreHeld c f) (WriteFact c n trace f.me before) o

-- its synchronization site of a group
pub record TableOf (c : Config) (f : Frame) (group : ℕ) (trace : List Line) (t : SyncTable) : Type 0 where
  pub group_is : t.group ≡ group
  pub table : TableFact c trace f t

abbrev pub TableFine : Config → ℕ → List Line → Frame → ℕ → Outcome SyncTable → Type 0
TableFine c n trace f group o = Fine SyncTable c n trace (IsOfTable f group) (TableOf c f group) NoWrite o

-- its pulls
abbrev pub PullsFact : Config → Frame → List Line → List Pull → Type 0
PullsFact c f trace ps = Every (PullFact c trace f.epoch f.me) ps

abbrev pub PullsFine : Config → ℕ → List Line → Frame → Outcome (List Pull) → Type 0
PullsFine c n trace f o = Fine (List Pull) c n trace IsOfNone (PullsFact c f) NoWrite o
