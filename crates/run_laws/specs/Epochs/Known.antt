-- Which ids of epochs are known: where a packet names one, or a site has promised it, its initiator has promised no lower one.
use Rattle.std.specs.Prelude.{ℕ, ◌≡◌, ◌≤◌, true, false, [], Option, Some, None}
use Rattle.locus_ids.specs.declared.ids.EpochId.{EpochId}
use Rattle.wire_messages.specs.declared.packet.Packet.{Packet}
use Rattle.wire_messages.specs.declared.body.Body.{Body}
use Rattle.wire_messages.specs.declared.body.Body.TheVariants.{Poll, Refuse}
use Rattle.the_run.specs.of_role_steps.Own.{Every}
use Rattle.the_run.specs.of_role_steps.Views.{SiteView, boot_in}
use Rattle.the_run.specs.of_role_steps.Epochs.{unanswered}
use Rattle.the_run.specs.of_role_steps.declared.rounds.InEpoch.{InEpoch}
use Rattle.the_run.specs.of_role_steps.declared.rounds.Round.{Round}
use Rattle.the_run.specs.Joins.{IsAtMost}
use Rattle.the_run.specs.Laws.{boot_on}
use Rattle.the_run.specs.Worlds.{World, Place, Running, Numbered, place_at}
use Rattle.run_laws.specs.Epochs.Forming.{TableFormless}

-- ---- ids ----

-- how each site stands
abbrev pub Places : Type 0
Places = ℕ → Option Place

-- the boot numbers that sites run with, or that their disks have
abbrev pub boots_on : Places → ℕ → ℕ
boots_on at s = boot_on (at s)

-- the id is of a boot that its initiator has had; where that still runs in it, it has promised no lower id
pub record IsKnown (at : Places) (id : EpochId) : Type 0 where
  pub had : id.boot ≤ boots_on at id.site
  pub risen : (v : SiteView) → at id.site ≡ Some (Running v) → v.boot ≡ id.boot → IsAtMost id v.promised

abbrev pub NamesKnown : World → Numbered → Type 0
NamesKnown w x = IsKnown (place_at w) x.packet.epoch

-- each id that a packet names, or that a running site has promised last
pub record IdsAreKnown (w : World) : Type 0 where
  pub packets : Every (NamesKnown w) w.sent
  pub promised : (s : ℕ) (v : SiteView) → place_at w s ≡ Some (Running v) → IsKnown (place_at w) v.promised

-- ---- rounds ----

-- The round is of the id that its site has promised, its own in this boot, which isn't joined. It polls others alone, in boots
-- that these have had.
pub record IsOwnRound (boots : ℕ → ℕ) (s : ℕ) (v : SiteView) (r : Round) : Type 0 where
  pub promised : r.id ≡ v.promised
  pub site : r.id.site ≡ s
  pub boot : r.id.boot ≡ v.boot
  pub joins_later : v.installed ≡ false
  pub others : boot_in r.polled.boot s ≡ 0
  pub had : (t : ℕ) → boot_in r.polled.boot t ≤ boots t

-- the round of a running site is such; the site is in no epoch, and some answer hasn't come
pub record IsWaiting (boots : ℕ → ℕ) (s : ℕ) (v : SiteView) (r : Round) : Type 0 where
  pub own : IsOwnRound boots s v r
  pub outside : v.epoch ≡ None
  pub missing : unanswered r ≡ [] → ⊥

abbrev pub RoundsWait : World → Type 0
RoundsWait w = (s : ℕ) (v : SiteView) (r : Round) → place_at w s ≡ Some (Running v) → v.round ≡ Some r → IsWaiting (boots_on (place_at w)) s v r

-- ---- packets that form an epoch ----

-- the id is of the sender and its boot, and the receiver has had the boot that is named
pub record IsPoll (boots : ℕ → ℕ) (p : Packet) : Type 0 where
  pub site : p.epoch.site ≡ p.from
  pub boot : p.epoch.boot ≡ p.from_boot
  pub had : p.to_boot ≤ boots p.to

-- a poll is such, and a refusal is by an id whose number isn't lower
abbrev pub FormFact : (ℕ → ℕ) → Packet → Body → Type 0
FormFact boots p Poll = IsPoll boots p
FormFact boots p (Refuse theirs) = p.epoch.number ≤ theirs.number
FormFact boots p _ = Unit {0}

abbrev pub NamesReceiver : World → Numbered → Type 0
NamesReceiver w x = FormFact (boots_on (place_at w)) x.packet x.packet.body

abbrev pub PollsNameTheirReceiver : World → Type 0
PollsNameTheirReceiver w = Every (NamesReceiver w) w.sent

-- ---- the invariant ----

abbrev pub PacketFact : Places → Packet → Type 0
PacketFact at p = IsKnown at p.epoch × FormFact (boots_on at) p p.body

abbrev pub NumberedFact : Places → Numbered → Type 0
NumberedFact at x = PacketFact at x.packet

pub record ViewFact (at : Places) (s : ℕ) (v : SiteView) : Type 0 where
  pub known : IsKnown at v.promised
  pub round : (r : Round) → v.round ≡ Some r → IsOwnRound (boots_on at) s v r
  pub missing : (r : Round) → v.round ≡ Some r → unanswered r ≡ [] → ⊥
  pub inside : (e : InEpoch) → v.epoch ≡ Some e → (e.id ≡ v.promised) × (v.installed ≡ true)
  pub tables : Every TableFormless v.tables
  pub booted : 1 ≤ v.boot

pub record Good (w : World) : Type 0 where
  pub packets : Every (NumberedFact (place_at w)) w.sent
  pub underway : Every (NumberedFact (place_at w)) w.underway
  pub views : (s : ℕ) (v : SiteView) → place_at w s ≡ Some (Running v) → ViewFact (place_at w) s v
