-- What an event does to a site without a round, and what it sends for the agreement on an epoch.
use Rattle.std.specs.Prelude.{ℕ, ◌≡◌, ◌⊎◌, true, false, Some, None}
use Rattle.locus_ids.specs.declared.sites.Sites.{Sites}
use Rattle.locus_ids.specs.declared.sites.Members.{Members}
use Rattle.locus_ids.specs.declared.sites.Links.{Links}
use Rattle.wire_messages.specs.declared.packet.Packet.{Packet}
use Rattle.wire_messages.specs.declared.body.Body.{Body}
use Rattle.wire_messages.specs.declared.body.Body.TheVariants.{Poll, Promise, Refuse, Install}
use Rattle.role_steps.specs.Own.{Every}
use Rattle.role_steps.specs.Views.{SiteView, Outcome, Event, Receives, GivesUp, boot_in}
use Rattle.role_steps.specs.Epochs.{is_epoch_below, reached}
use Rattle.role_steps.specs.declared.rounds.InEpoch.{InEpoch}

-- ---- what agreement needs of a view ----

-- the two views are alike in it
pub record SameCore (v u : SiteView) : Type 0 where
  pub boot : u.boot ≡ v.boot
  pub promised : u.promised ≡ v.promised
  pub installed : u.installed ≡ v.installed
  pub round : u.round ≡ v.round
  pub epoch : u.epoch ≡ v.epoch

-- it gives up its epoch
pub record Left (v : SiteView) (e : Event) (u : SiteView) : Type 0 where
  pub comes : e ≡ GivesUp
  pub boot : u.boot ≡ v.boot
  pub promised : u.promised ≡ v.promised
  pub installed : u.installed ≡ v.installed
  pub round : u.round ≡ None
  pub epoch : u.epoch ≡ None

-- a poll of a greater id comes: it promises that, and is in no epoch
pub record Promised (v : SiteView) (e : Event) (u : SiteView) : Type 0 where
  pub poll : Packet
  pub comes : e ≡ Receives poll
  pub is_poll : poll.body ≡ Poll
  pub to_boot : poll.to_boot ≡ v.boot
  pub greater : is_epoch_below v.promised poll.epoch ≡ true
  pub boot : u.boot ≡ v.boot
  pub promised : u.promised ≡ poll.epoch
  pub installed : u.installed ≡ false
  pub round : u.round ≡ None
  pub epoch : u.epoch ≡ None

-- an install of the promised id comes, and it joins
pub record Joined (s : ℕ) (v : SiteView) (e : Event) (u : SiteView) : Type 0 where
  pub install : Packet
  pub members : Members
  pub comes : e ≡ Receives install
  pub is_install : install.body ≡ Install members
  pub id : install.epoch ≡ v.promised
  pub waits : v.installed ≡ false
  pub listed : boot_in members.boot s ≡ v.boot
  pub boot : u.boot ≡ v.boot
  pub promised : u.promised ≡ v.promised
  pub installed : u.installed ≡ true
  pub round : u.round ≡ None
  pub epoch : u.epoch ≡ Some (record { id = v.promised; members = members })

abbrev pub Change : ℕ → SiteView → Event → SiteView → Type 0
Change s v e u = SameCore v u ⊎ (Left v e u ⊎ (Promised v e u ⊎ Joined s v e u))

-- ---- packets ----

-- a promise is an answer to a poll, of a site that has promised its id and hasn't joined it
pub record PromiseSent (s : ℕ) (links : Links) (e : Event) (u : SiteView) (reach : Sites) (q : Packet) : Type 0 where
  pub from : q.from ≡ s
  pub from_boot : q.from_boot ≡ u.boot
  pub reaches : reach ≡ reached links
  pub promised : u.promised ≡ q.epoch
  pub waits : u.installed ≡ false

-- an install is of the epoch that the site is in
pub record InstallSent (v : SiteView) (members : Members) (q : Packet) : Type 0 where
  pub epoch : InEpoch
  pub inside : v.epoch ≡ Some epoch
  pub id : q.epoch ≡ epoch.id
  pub same : members ≡ epoch.members

abbrev pub SentCase : ℕ → Links → SiteView → Event → SiteView → Packet → Body → Type 0
SentCase s links v e u q Poll = ⊥
SentCase s links v e u q (Promise reach) = PromiseSent s links e u reach q
SentCase s links v e u q (Install members) = InstallSent v members q
SentCase s links v e u q _ = Unit {0}

abbrev pub Sent : ℕ → Links → SiteView → Event → SiteView → Packet → Type 0
Sent s links v e u q = SentCase s links v e u q q.body

-- what an event does at a site without a round
pub record Roundless (s : ℕ) (links : Links) (v : SiteView) (e : Event) (o : Outcome SiteView) : Type 0 where
  pub change : Change s v e o.view
  pub sent : Every (Sent s links v e o.view) o.sent

abbrev pub IsAnswer : Body → Type 0
IsAnswer (Promise reach) = Unit {0}
IsAnswer (Refuse theirs) = Unit {0}
IsAnswer _ = ⊥

-- a promise or a refusal that answers the poll
pub record Answers (s : ℕ) (v : SiteView) (poll q : Packet) : Type 0 where
  pub answer : IsAnswer q.body
  pub epoch : q.epoch ≡ poll.epoch
  pub from : q.from ≡ s
  pub from_boot : q.from_boot ≡ v.boot
  pub to : q.to ≡ poll.from
  pub to_boot : q.to_boot ≡ poll.from_boot
