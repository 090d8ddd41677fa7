-- What the roles of a site do inside an epoch: they form none, and tell nothing of their site or of lines.
use Rattle.std.specs.Prelude.{◌≡◌, ◌<◌, Option, Some, None}
use Rattle.trace_book.specs.declared.call.Call.{Call}
use Rattle.trace_book.specs.declared.call.Call.TheVariants.{Mend}
use Rattle.trace_book.specs.declared.record.Record.{Record}
use Rattle.trace_book.specs.declared.record.Record.TheVariants as says
use Rattle.wire_messages.specs.declared.packet.Packet.{Packet}
use Rattle.wire_messages.specs.declared.body.Body.{Body}
use Rattle.wire_messages.specs.declared.body.Body.TheVariants as body
use Rattle.role_steps.specs.Own.{Every}
use Rattle.role_steps.specs.Views.{SiteView, Told, Shown, Promises, DiskWrite, Outcome}
use Rattle.role_steps.specs.declared.synchronizing.SyncTable.{SyncTable}
use Rattle.role_steps.specs.declared.synchronizing.LastLook.{LastLook}
use Rattle.role_steps.specs.Requests.{waiting_span}

-- ---- packets ----

-- the packet forms no epoch
abbrev pub Inward : Body → Type 0
Inward body.Poll = ⊥
Inward (body.Promise reach) = ⊥
Inward (body.Refuse promised) = ⊥
Inward (body.Install members) = ⊥
Inward body.Joined = ⊥
Inward _ = Unit {0}

abbrev pub InwardPacket : Packet → Type 0
InwardPacket p = Inward p.body

-- ---- what is told ----

abbrev pub IsMend : Call → Type 0
IsMend (Mend file) = Unit {0}
IsMend _ = ⊥

-- the record tells neither how its site stands nor what comes of a line; a call that it accepts is a mend
abbrev pub RoleRecord : Record → Type 0
RoleRecord (says.Up site boot) = ⊥
RoleRecord (says.Stopped site cause) = ⊥
RoleRecord (says.Leave site epoch) = ⊥
RoleRecord (says.Join site epoch members) = ⊥
RoleRecord (says.Accept site process call words) = IsMend words
RoleRecord (says.Packet number from to kind) = ⊥
RoleRecord says.Void = ⊥
RoleRecord says.Budget = ⊥
RoleRecord _ = Unit {0}

abbrev pub RoleTold : Told → Type 0
RoleTold (Shown r) = RoleRecord r
RoleTold (Promises site id reach) = ⊥
RoleTold _ = Unit {0}

-- it tells of no call either, as what tables and stores tell
abbrev pub ServedRecord : Record → Type 0
ServedRecord (says.Accept site process call words) = ⊥
ServedRecord (says.Answer site process call r) = ⊥
ServedRecord r = RoleRecord r

abbrev pub ServedTold : Told → Type 0
ServedTold (Shown r) = ServedRecord r
ServedTold (Promises site id reach) = ⊥
ServedTold _ = Unit {0}

-- a version's record is such a one
abbrev pub RoleWrite : Option DiskWrite → Type 0
RoleWrite None = Unit {0}
RoleWrite (Some d) = ServedRecord d.says

-- ---- outcomes ----

abbrev pub AllServed : {V : Type 0} → Outcome V → Type 0
AllServed o = Every InwardPacket o.sent × Every ServedTold o.told × RoleWrite o.written

abbrev pub Inwardly : {V : Type 0} → Outcome V → Type 0
Inwardly o = Every InwardPacket o.sent × Every RoleTold o.told × RoleWrite o.written

-- a kept answer to a look forms no epoch
abbrev pub LookInward : LastLook → Type 0
LookInward l = Inward l.body

-- a table of a group that there may be, whose kept answers form no epoch
abbrev pub LooksInward : SyncTable → Type 0
LooksInward t = Every LookInward t.looks × (t.group < waiting_span)

-- an outcome of a site that does so, and leaves its boot, its round, its promise and its epoch
pub record Indoors (v : SiteView) (o : Outcome SiteView) : Type 0 where
  pub boot : o.view.boot ≡ v.boot
  pub round : o.view.round ≡ v.round
  pub promised : o.view.promised ≡ v.promised
  pub epoch : o.view.epoch ≡ v.epoch
  pub tables : Every LooksInward o.view.tables
  pub inwardly : Inwardly o
