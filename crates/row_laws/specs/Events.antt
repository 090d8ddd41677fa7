-- What an event of a site may tell and send of epochs and calls, by the event.
use Rattle.std.specs.Prelude.{ℕ, ◌≡◌, ◌≢◌, ◌≤◌, ◌+◌, ◌⊎◌, List, [], ◌∷◌, Option, Some, None, ◌<◌}
use Rattle.locus_ids.specs.declared.ids.EpochId.{EpochId}
use Rattle.locus_ids.specs.declared.sites.Links.{Links}
use Rattle.locus_ids.specs.declared.sites.Members.{Members}
use Rattle.locus_ids.specs.Sizes.{sites_max}
use Rattle.trace_book.specs.declared.call.Call.{Call}
use Rattle.trace_book.specs.declared.record.Record.{Record}
use Rattle.trace_book.specs.declared.record.Record.TheVariants as says
use Rattle.wire_messages.specs.declared.packet.Packet.{Packet}
use Rattle.wire_messages.specs.declared.body.Body.{Body}
use Rattle.wire_messages.specs.declared.body.Body.TheVariants.{Poll, Install}
use Rattle.role_steps.specs.Own.{Every}
use Rattle.role_steps.specs.Views.{SiteView, Told, Shown, Promises, Outcome, Event, Calls, Receives, Parts, Merges, GivesUp, boot_in}
use Rattle.role_steps.specs.declared.rounds.InEpoch.{InEpoch}
use Rattle.role_steps.specs.declared.rounds.Promise.{Promise}
use Rattle.role_steps.specs.declared.rounds.Round.{Round}
use Rattle.row_laws.specs.Inward.{IsMend, RoleRecord, RoleWrite, LooksInward}

-- ---- causes ----

abbrev pub IsPoll : Body → Type 0
IsPoll Poll = Unit {0}
IsPoll _ = ⊥

-- the event gives the site a cause to leave its epoch: a poll, or a line of its own
abbrev pub MakesLeave : Event → Type 0
MakesLeave (Receives p) = IsPoll p.body
MakesLeave Parts = Unit {0}
MakesLeave Merges = Unit {0}
MakesLeave GivesUp = Unit {0}
MakesLeave _ = ⊥

-- the site begins under this id in this boot
abbrev pub IsOwnId : ℕ → ℕ → EpochId → Type 0
IsOwnId me boot id = (id.site ≡ me) × (id.boot ≡ boot)

abbrev pub HasRound : Option Round → Type 0
HasRound None = ⊥
HasRound (Some r) = Unit {0}

-- the event gives the site a cause to promise this id: it was polled for it, it goes on with a round of its own, or it
-- begins one by a line
abbrev pub MakesPromise : ℕ → SiteView → Event → EpochId → Type 0
MakesPromise me v (Receives p) id = (IsPoll p.body × (id ≡ p.epoch)) ⊎ (HasRound v.round × IsOwnId me v.boot id)
MakesPromise me v Parts id = IsOwnId me v.boot id
MakesPromise me v Merges id = IsOwnId me v.boot id
MakesPromise me v _ id = ⊥

-- the event is this call of this process
abbrev pub MakesAccept : Event → ℕ → Call → Type 0
MakesAccept (Calls process words) p x = (p ≡ process) × (x ≡ words)
MakesAccept _ p x = ⊥

-- the list has the site with this boot, where the links of the site have it so
abbrev pub ListsItself : ℕ → ℕ → Links → Members → Type 0
ListsItself me boot links m = me ≤ sites_max → boot_in links.boot me ≡ boot → boot_in m.boot me ≡ boot

-- the list has no site beyond the sixteenth
abbrev pub IsShort : Members → Type 0
IsShort m = (t : ℕ) → sites_max < t → boot_in m.boot t ≡ 0

-- ---- what is told ----

-- the causes of an event: for a leave, for the promise of an id, for the members of a join, for a call of a process
pub record Causes : Type 1 where
  pub leave : Type 0
  pub promise : EpochId → Type 0
  pub join : Members → Type 0
  pub accept : ℕ → Call → Type 0

abbrev pub SiteRecord : ℕ → Causes → Record → Type 0
SiteRecord me k (says.Leave t id) = (t ≡ me) × k.leave
SiteRecord me k (says.Join t id members) = (t ≡ me) × k.join members
SiteRecord me k (says.Accept t process call words) = IsMend words ⊎ ((t ≡ me) × k.accept process words)
SiteRecord me k r = RoleRecord r

abbrev pub SiteTold : ℕ → Causes → Told → Type 0
SiteTold me k (Shown r) = SiteRecord me k r
SiteTold me k (Promises t id reach) = (t ≡ me) × k.promise id
SiteTold me k _ = Unit {0}

-- ---- what is sent, and the round ----

-- a site polls others for an id of its own, and installs a list of sites 1 to 16
abbrev pub FormingFact : Packet → Body → Type 0
FormingFact p Poll = (p.epoch.site ≡ p.from) × (p.from ≢ p.to)
FormingFact p (Install members) = IsShort members
FormingFact p _ = Unit {0}

abbrev pub FormingPacket : Packet → Type 0
FormingPacket p = FormingFact p p.body

-- so is the packet that comes
abbrev pub Comes : Event → Type 0
Comes (Receives p) = FormingPacket p
Comes _ = Unit {0}

-- promises of sites from this number on, ascending
abbrev pub PromisesRise : ℕ → List Promise → Type 0
PromisesRise n [] = Unit {0}
PromisesRise n (p ∷ ps) = (n ≤ p.site) × PromisesRise (p.site + 1) ps

-- an undecided round is of an id of this boot of the site, which it doesn't poll itself
abbrev pub RoundFact : ℕ → ℕ → Option Round → Type 0
RoundFact me boot None = Unit {0}
RoundFact me boot (Some r) = IsOwnId me boot r.id × (boot_in r.polled.boot me ≡ 0) × PromisesRise 0 r.promises

-- the list of the epoch that a site is in
abbrev pub ListIsShort : Option InEpoch → Type 0
ListIsShort None = Unit {0}
ListIsShort (Some e) = IsShort e.members

pub record ViewForms (me : ℕ) (v : SiteView) : Type 0 where
  pub round : RoundFact me v.boot v.round
  pub tables : Every LooksInward v.tables
  pub epoch : ListIsShort v.epoch

-- an outcome of an event with these causes
pub record Forms (me boot : ℕ) (k : Causes) (o : Outcome SiteView) : Type 0 where
  pub boot_is : o.view.boot ≡ boot
  pub view : ViewForms me o.view
  pub told : Every (SiteTold me k) o.told
  pub sent : Every FormingPacket o.sent
  pub written : RoleWrite o.written

-- the causes that an event of a site with these links gives
abbrev pub causes_of : ℕ → Links → SiteView → Event → Causes
causes_of me links v e = record { leave = MakesLeave e; promise = MakesPromise me v e; join = λ members. ListsItself me v.boot links members × IsShort members; accept = MakesAccept e }
