-- The kinds of what a site makes inside an epoch: which role sends which packet, and tells what.
use Rattle.role_steps.specs.of_trace_book.declared.call.Call.{Call}
use Rattle.role_steps.specs.of_trace_book.declared.call.Call.TheVariants.{Mend}
use Rattle.role_steps.specs.of_trace_book.declared.record.Record.{Record}
use Rattle.role_steps.specs.of_trace_book.declared.record.Record.TheVariants as says
use Rattle.role_steps.specs.of_wire_messages.declared.body.Body.{Body}
use Rattle.role_steps.specs.of_wire_messages.declared.body.Body.TheVariants as body
use Rattle.role_steps.specs.Views.{Told, Shown, Promises, Takes, LooksAgain, Begins, Shuts, Reserves}

-- ---- packets ----

-- a role sends it: by none of the others sites agree on an epoch
abbrev pub IsInside : Body → Type 0
IsInside body.Poll = ⊥
IsInside (body.Promise reach) = ⊥
IsInside (body.Refuse promised) = ⊥
IsInside (body.Install members) = ⊥
IsInside body.Joined = ⊥
IsInside _ = Unit {0}

-- a synchronization site sends it to who asked, to who stores, or to whom a version is news
abbrev pub IsOfTable : Body → Type 0
IsOfTable (body.OpenSs inst file mode set kind base vector parents) = Unit {0}
IsOfTable (body.OpenDone serial answer) = Unit {0}
IsOfTable (body.LookSs us call process request take file what serve) = Unit {0}
IsOfTable (body.LookDone call request take answer) = Unit {0}
IsOfTable (body.Notify file kind set size stamp vector holder) = Unit {0}
IsOfTable _ = ⊥

-- a storage site sends it to the synchronization site of its group
abbrev pub IsStoreRequest : Body → Type 0
IsStoreRequest (body.Report group copies) = Unit {0}
IsStoreRequest (body.Opened inst answer) = Unit {0}
IsStoreRequest (body.Closed inst made) = Unit {0}
IsStoreRequest (body.Have file stamp) = Unit {0}
IsStoreRequest _ = ⊥

-- a storage site sends it to the using site of an instance
abbrev pub IsOfStore : Body → Type 0
IsOfStore (body.OpDone serial n result) = Unit {0}
IsOfStore (body.AsHeld serial n len) = Unit {0}
IsOfStore (body.CloseDone serial answer) = Unit {0}
IsOfStore _ = ⊥

-- a storage site answers a look with it, or asks the holder of a version which pages to pull, or for one of them
abbrev pub IsOfReader : Body → Type 0
IsOfReader (body.LookDone call request take answer) = Unit {0}
IsOfReader (body.Pull file stamp page) = Unit {0}
IsOfReader (body.Want file wanted own) = Unit {0}
IsOfReader _ = ⊥

-- a storage site sends it back to the sender of the packet that it answers
abbrev pub IsStoreAnswer : Body → Type 0
IsStoreAnswer (body.Page file stamp page bytes) = Unit {0}
IsStoreAnswer (body.Delta file wanted pages) = Unit {0}
IsStoreAnswer (body.Have file stamp) = Unit {0}
IsStoreAnswer _ = ⊥

-- a using site sends it to the synchronization site of a group
abbrev pub IsUserRequest : Body → Type 0
IsUserRequest (body.Open serial call process request file how) = Unit {0}
IsUserRequest (body.Look call process request take file what) = Unit {0}
IsUserRequest _ = ⊥

-- a using site sends it to the storage site of an instance
abbrev pub IsOfUser : Body → Type 0
IsOfUser (body.Op serial n o seen) = Unit {0}
IsOfUser (body.ReadHeld serial n at len) = Unit {0}
IsOfUser (body.Close serial) = Unit {0}
IsOfUser _ = ⊥

-- ---- what is told ----

-- of a group that starts, of looks, and of opens from their grant or refusal to their release
abbrev pub IsTableRecord : Record → Type 0
IsTableRecord (says.Start epoch group files) = Unit {0}
IsTableRecord (says.Look epoch id request file what result) = Unit {0}
IsTableRecord (says.Grant epoch id request inst mode file stamp ss) = Unit {0}
IsTableRecord (says.Refuse epoch id request inst mode file why) = Unit {0}
IsTableRecord (says.Release epoch inst file made) = Unit {0}
IsTableRecord _ = ⊥

abbrev pub TellsTable : Told → Type 0
TellsTable (Shown r) = IsTableRecord r
TellsTable _ = ⊥

abbrev pub IsAct : Record → Type 0
IsAct (says.Act epoch inst n o result) = Unit {0}
IsAct _ = ⊥

-- of an instance that begins, acts, and shuts
abbrev pub TellsStore : Told → Type 0
TellsStore (Shown r) = IsAct r
TellsStore (Begins site epoch inst file) = Unit {0}
TellsStore (Shuts site epoch inst) = Unit {0}
TellsStore (Reserves site epoch inst file) = Unit {0}
TellsStore _ = ⊥

abbrev pub IsMendCall : Call → Type 0
IsMendCall (Mend file) = Unit {0}
IsMendCall _ = ⊥

-- the only call that is accepted without a line of the schedule is a mend
abbrev pub IsCallRecord : Record → Type 0
IsCallRecord (says.Accept site process call words) = IsMendCall words
IsCallRecord (says.Answer site process call r) = Unit {0}
IsCallRecord _ = ⊥

-- of a call that is accepted, takes an answer, asks a look again, and is answered
abbrev pub TellsCall : Told → Type 0
TellsCall (Shown r) = IsCallRecord r
TellsCall (Takes site call request take a) = Unit {0}
TellsCall (LooksAgain site call request take) = Unit {0}
TellsCall _ = ⊥

-- of a version that is written to the disk
abbrev pub IsVersion : Record → Type 0
IsVersion (says.Commit file site stamp parents content) = Unit {0}
IsVersion (says.Adopt file site stamp) = Unit {0}
IsVersion _ = ⊥

-- it is of one of these but versions: not of how a site stands, nor of what a line of the schedule brings
abbrev pub IsPlainRecord : Record → Type 0
IsPlainRecord (says.Up site boot) = ⊥
IsPlainRecord (says.Stopped site cause) = ⊥
IsPlainRecord (says.Leave site epoch) = ⊥
IsPlainRecord (says.Join site epoch members) = ⊥
IsPlainRecord (says.Packet number from to kind) = ⊥
IsPlainRecord says.Void = ⊥
IsPlainRecord says.Budget = ⊥
IsPlainRecord (says.Commit file site stamp parents content) = ⊥
IsPlainRecord (says.Adopt file site stamp) = ⊥
IsPlainRecord (says.Accept site process call words) = IsMendCall words
IsPlainRecord _ = Unit {0}

abbrev pub TellsPlain : Told → Type 0
TellsPlain (Shown r) = IsPlainRecord r
TellsPlain (Promises site id reach) = ⊥
TellsPlain _ = Unit {0}
