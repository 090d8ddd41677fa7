-- Which packets form epochs, and what forms none: all that roles do inside an epoch.
use Rattle.std.specs.Prelude.{◌≡◌}
use Rattle.wire_messages.specs.declared.packet.Packet.{Packet}
use Rattle.wire_messages.specs.declared.body.Body.{Body}
use Rattle.wire_messages.specs.declared.body.Body.TheVariants.{Poll, Promise, Refuse, Install, Joined}
use Rattle.the_run.specs.of_role_steps.Own.{Every}
use Rattle.the_run.specs.of_role_steps.Views.{SiteView, Outcome}
use Rattle.the_run.specs.of_role_steps.declared.synchronizing.SyncTable.{SyncTable}
use Rattle.the_run.specs.of_role_steps.declared.synchronizing.LastLook.{LastLook}
use Rattle.the_run.specs.Joins.{NoJoin, NoWrite}

-- the body is none of those by which sites agree on an epoch
abbrev pub FormsNone : Body → Type 0
FormsNone Poll = ⊥
FormsNone (Promise reach) = ⊥
FormsNone (Refuse theirs) = ⊥
FormsNone (Install members) = ⊥
FormsNone Joined = ⊥
FormsNone _ = Unit {0}

abbrev pub Formless : Packet → Type 0
Formless p = FormsNone p.body

-- all that is sent is such, and nothing is joined
abbrev pub FormlessPart : {V : Type 0} → Outcome V → Type 0
FormlessPart o = Every Formless o.sent × Every NoJoin o.told × NoWrite o.written

-- so is the kept answer to a look
abbrev pub LookFormless : LastLook → Type 0
LookFormless l = FormsNone l.body

abbrev pub TableFormless : SyncTable → Type 0
TableFormless t = Every LookFormless t.looks

abbrev pub FormlessTable : Outcome SyncTable → Type 0
FormlessTable o = Every Formless o.sent × Every NoJoin o.told × NoWrite o.written × TableFormless o.view

-- an outcome that forms no epoch, and leaves what agreement on one needs
pub record FormlessSite (v : SiteView) (o : Outcome SiteView) : Type 0 where
  pub boot : o.view.boot ≡ v.boot
  pub round : o.view.round ≡ v.round
  pub promised : o.view.promised ≡ v.promised
  pub epoch : o.view.epoch ≡ v.epoch
  pub tables : Every TableFormless o.view.tables
  pub still : FormlessPart o
