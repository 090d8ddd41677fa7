-- What the using site tells is neither a commit nor a release, and what a storage site tells is no release. Two laws by kinds.
use Rattle.std.proofs.Common.{◌≡◌, ℕ, Option, Some, None, refl}
use Rattle.locus_ids.specs.declared.ids.EpochId.{EpochId}
use Rattle.trace_book.specs.declared.record.Record.{Record}
use Rattle.trace_book.specs.declared.call.Call.{Call}
use Rattle.trace_book.specs.declared.record.Record.TheVariants as says
use Rattle.role_steps.specs.Own.{Every}
use Rattle.role_steps.specs.Views.{Frame, Users, SiteView, Told, Shown, DiskWrite, Outcome}
use Rattle.role_steps.specs.Using.{on_call}
use Rattle.run_laws.specs.Walks.Kinds.{IsCallRecord, TellsCall, IsAct, TellsStore, IsVersion}
use Rattle.run_laws.specs.Walks.Laws.{Law, body_law, frame_law, ReadersKeep, UsersKeep, StoresKeep, VersionsKeep, Part}
use Rattle.run_laws.proofs.Walks.Premises.{frame_stores}
use Rattle.run_laws.proofs.Walks.RoleWalks.{on_call_walk}
use Rattle.the_run.specs.Roles.{IsForStore}
use Rattle.the_run.specs.Steps.{takes_inside}
use Rattle.the_run.proofs.Roles.{stores_by}
use Rattle.wire_messages.specs.declared.body.Body.{Body}
use Rattle.site_laws.specs.Vectors.Facts.{NoFact}
use Rattle.site_laws.proofs.Vectors.RolesSend as factless
use Rattle.site_laws.proofs.Kept.StampOutcomes.{Idle, IdleRecord}

-- it tells of no release
abbrev pub NoReleaseRecord : Record → Type 0
NoReleaseRecord (says.Release e inst file made) = ⊥
NoReleaseRecord _ = Unit {0}

abbrev pub NoRelease : Told → Type 0
NoRelease (Shown r) = NoReleaseRecord r
NoRelease _ = Unit {0}

abbrev NoReleaseWrite : Option DiskWrite → Type 0
NoReleaseWrite None = Unit {0}
NoReleaseWrite (Some d) = NoReleaseRecord d.says

-- ---- users ----

abbrev pub Idles : Outcome Users → Type 0
Idles o = Every Idle o.told × (o.written ≡ None)

call_idle : (r : Record) → IsCallRecord r → IdleRecord r
call_idle (says.Accept site process call words) h = tt
call_idle (says.Answer site process call reply) h = tt
call_idle _ h = absurd h

tells_idle : (x : Told) → TellsCall x → Idle x
tells_idle (Shown r) h = call_idle r h
tells_idle _ h = tt

abbrev IsUnwritten : Option DiskWrite → Type 0
IsUnwritten w = w ≡ None

abbrev pub idling : Law
idling = body_law NoFact Idle IsUnwritten

pub users : (f : Frame) → UsersKeep idling f
users f = record { asks = (factless.users f).asks; sends = (factless.users f).sends; tells = tells_idle; unwritten = refl }

pub readers : (f : Frame) → ReadersKeep idling f
readers f = record { sends = (factless.readers f).sends; unwritten = refl }

idles : (o : Outcome Users) → Part idling o → Idles o
idles o h = (h.1, h.2)

pub on_call_idle : (f : Frame) (now : Option EpochId) (process : ℕ) (words : Call) (u : Users) → Idles (on_call f now process words u)
on_call_idle f now process words u = idles (on_call f now process words u) (on_call_walk idling f (users f) now process words u (λ n. tt))

-- ---- the store ----

act_lasts : (r : Record) → IsAct r → NoReleaseRecord r
act_lasts (says.Release e inst file made) h = h
act_lasts _ h = tt

store_lasts : (x : Told) → TellsStore x → NoRelease x
store_lasts (Shown r) h = act_lasts r h
store_lasts _ h = tt

version_lasts : (r : Record) → IsVersion r → NoReleaseRecord r
version_lasts (says.Release e inst file made) h = h
version_lasts _ h = tt

abbrev lasting : Law
lasting = frame_law (λ p. Unit {0}) NoRelease NoReleaseWrite

stores : (f : Frame) → StoresKeep lasting f
stores f = frame_stores (λ p. Unit {0}) NoRelease NoReleaseWrite f (λ to b. tt) store_lasts tt

versions : VersionsKeep lasting
versions = record { tells = version_lasts; writes = λ d h. version_lasts d.says h }

-- whatever packet the store takes
pub lasts : (f : Frame) (from : ℕ) (v : SiteView) (x : Body) → IsForStore x → Every NoRelease (takes_inside f from x v).told
lasts f from v = stores_by (λ y o. Every NoRelease o.told) lasting f from v (stores f) versions (λ y o is part. part.1)
