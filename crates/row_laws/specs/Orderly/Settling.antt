-- How sites that start to part or merge in one block come to agree: what stands at each moment from their lines to the end of
-- the round after them.
use Rattle.std.specs.Prelude.{ℕ, ◌≡◌, ◌≢◌, ◌≤◌, ◌+◌, ◌==◌, ◌⊎◌, Bool, false, not, ◌||◌, cond, List, [], ◌∷◌, Some, ◌<◌}
use Rattle.locus_ids.specs.declared.ids.EpochId.{EpochId}
use Rattle.locus_ids.specs.declared.sites.Links.{Links}
use Rattle.locus_ids.specs.Sizes.{sites_max}
use Rattle.wire_messages.specs.declared.packet.Packet.{Packet}
use Rattle.wire_messages.specs.declared.body.Body.{Body}
use Rattle.wire_messages.specs.declared.body.Body.TheVariants as body
use Rattle.role_steps.specs.Own.{Every}
use Rattle.role_steps.specs.Views.{SiteView, boot_in, all_sites}
use Rattle.role_steps.specs.Epochs.{reached}
use Rattle.role_steps.specs.declared.rounds.InEpoch.{InEpoch}
use Rattle.role_steps.specs.declared.rounds.Promise.{Promise}
use Rattle.role_steps.specs.declared.rounds.Round.{Round}
use Rattle.lawful_trace.specs.Orderly.{narrowed}
use Rattle.the_run.specs.Kept.{Among}
use Rattle.the_run.specs.Worlds.{World, Running, Numbered, place_at, boot_of, links_of}
use Rattle.run_laws.specs.Epochs.Known.{Places}
use Rattle.row_laws.specs.Orderly.Effects.{IsAnswer}
use Rattle.row_laws.specs.Orderly.Quiet.{IsDead, OnPoll}

-- ---- who starts, as the world stands ----

-- a site starts, and asks these sites in these boots, itself apart
abbrev pub Starts : Type 1
Starts = ℕ → Links → Type 0

abbrev pub boot_at : World → ℕ → ℕ
boot_at w s = boot_of (place_at w s)

-- the first site reaches the second one
abbrev pub reaches : World → ℕ → ℕ → Bool
reaches w s t = not (boot_in (links_of w s).boot t == 0)

-- the site itself, and those that it asks
abbrev pub is_asked : ℕ → Links → ℕ → Bool
is_asked site polled s = (s == site) || not (boot_in polled.boot s == 0)

-- the chosen set: those asked, where each in ascending order that is still there has left in it what it reaches
abbrev pub is_chosen : World → ℕ → Links → ℕ → Bool
is_chosen w site polled = narrowed (reaches w) (is_asked site polled) all_sites

-- Each of them asks what it reaches, in the boots in which it reaches it. No site is asked by two, and none of those that
-- start is asked by another.
pub record AreApart (w : World) (R : Starts) : Type 0 where
  pub linked : (s : ℕ) (P : Links) (t : ℕ) → R s P → boot_in P.boot t ≢ 0 → boot_in P.boot t ≡ boot_in (links_of w s).boot t
  pub sized : (s : ℕ) (P : Links) (t : ℕ) → R s P → sites_max < t → boot_in P.boot t ≡ 0
  pub itself : (s : ℕ) (P : Links) → R s P → boot_in (links_of w s).boot s ≢ 0
  pub others : (s : ℕ) (P : Links) (t : ℕ) (Q : Links) → R s P → R t Q → boot_in Q.boot s ≡ 0
  pub apart : (s : ℕ) (P : Links) (t : ℕ) (Q : Links) (x : ℕ) → R s P → R t Q → boot_in P.boot x ≢ 0 → boot_in Q.boot x ≢ 0 → s ≡ t
  pub one : (s : ℕ) (P Q : Links) → R s P → R s Q → P ≡ Q

-- ---- packets under way ----

abbrev pub IsPollBody : Body → Type 0
IsPollBody body.Poll = Unit {0}
IsPollBody _ = ⊥

abbrev pub IsInstallBody : Body → Type 0
IsInstallBody (body.Install members) = Unit {0}
IsInstallBody _ = ⊥

-- a packet of this kind and id, between these sites and boots, is under way
pub record Carried (under : List Numbered) (id : EpochId) (from from_boot to to_boot : ℕ) (kind : Body → Type 0) : Type 0 where
  pub letter : Numbered
  pub there : Among letter under
  pub is_kind : kind letter.packet.body
  pub epoch : letter.packet.epoch ≡ id
  pub from_is : letter.packet.from ≡ from
  pub from_boot_is : letter.packet.from_boot ≡ from_boot
  pub to_is : letter.packet.to ≡ to
  pub to_boot_is : letter.packet.to_boot ≡ to_boot

-- ---- a round that isn't decided ----

-- the site runs in this boot, has promised the id last and hasn't joined it
pub record Holds (at : Places) (site boot : ℕ) (id : EpochId) : Type 0 where
  pub view : SiteView
  pub here : at site ≡ Some (Running view)
  pub boot_is : view.boot ≡ boot
  pub promised : view.promised ≡ id
  pub waits : view.installed ≡ false

-- the site's promise is in the round
pub record Taken (r : Round) (site : ℕ) : Type 0 where
  pub promise : Promise
  pub there : Among promise r.promises
  pub of : promise.site ≡ site

-- an answer is taken or under way, or its poll is
abbrev pub Covered : List Numbered → ℕ → ℕ → Links → Round → ℕ → Type 0
Covered under site boot P r t = Taken r t ⊎ (Carried under r.id site boot t (boot_in P.boot t) IsPollBody ⊎ Carried under r.id t (boot_in P.boot t) site boot IsAnswer)

-- a promise that is taken stands, and tells what its site reaches
abbrev pub IsTrue : World → Places → Links → EpochId → Promise → Type 0
IsTrue w at P id p = (boot_in P.boot p.site ≢ 0) × Holds at p.site (boot_in P.boot p.site) id × (p.reach ≡ reached (links_of w p.site))

-- a promise of the round's id that is under way stands, where it is of a site that is asked; and no install is under way
abbrev pub OpenBody : World → Places → Links → EpochId → Packet → Body → Type 0
OpenBody w at P id p (body.Promise reach) = (p.from_boot ≢ 0) × (boot_in P.boot p.from ≡ p.from_boot → Holds at p.from p.from_boot id × (reach ≡ reached (links_of w p.from)))
OpenBody w at P id p (body.Install members) = ⊥
OpenBody w at P id p _ = Unit {0}

abbrev pub OpenFact : World → Places → Links → EpochId → Numbered → Type 0
OpenFact w at P id x = x.packet.epoch ≡ id → OpenBody w at P id x.packet x.packet.body

-- the promises of a round ascend by their sites
abbrev pub PromiseAbove : ℕ → Promise → Type 0
PromiseAbove k p = k + 1 ≤ p.site

abbrev pub PromisesAscend : List Promise → Type 0
PromisesAscend [] = Unit {0}
PromisesAscend (p ∷ ps) = Every (PromiseAbove p.site) ps × PromisesAscend ps

pub record Undecided (w : World) (at : Places) (under : List Numbered) (site : ℕ) (P : Links) (v : SiteView) (r : Round) : Type 0 where
  pub round : v.round ≡ Some r
  pub polled : (t : ℕ) → boot_in r.polled.boot t ≡ boot_in P.boot t
  pub covered : (t : ℕ) → boot_in P.boot t ≢ 0 → Covered under site v.boot P r t
  pub taken : Every (IsTrue w at P r.id) r.promises
  pub ascend : PromisesAscend r.promises
  pub packets : Every (OpenFact w at P r.id) under
  pub nobody : (t : ℕ) (u : SiteView) (e : InEpoch) → at t ≡ Some (Running u) → u.epoch ≡ Some e → e.id ≡ r.id → ⊥

-- ---- a round that is decided ----

-- the site has promised the epoch; a member is in it, or its install is under way
pub record Follows (at : Places) (under : List Numbered) (site boot : ℕ) (P : Links) (e : InEpoch) (t : ℕ) : Type 0 where
  pub view : SiteView
  pub here : at t ≡ Some (Running view)
  pub boot_is : view.boot ≡ boot_in P.boot t
  pub promised : view.promised ≡ e.id
  pub state : ((boot_in e.members.boot t ≡ boot_in P.boot t) × (view.epoch ≡ Some e)) ⊎ ((view.installed ≡ false) × (boot_in e.members.boot t ≢ 0 → (boot_in e.members.boot t ≡ boot_in P.boot t) × Carried under e.id site boot t (boot_in P.boot t) IsInstallBody))

abbrev pub DecidedBody : InEpoch → Body → Type 0
DecidedBody e (body.Install members) = members ≡ e.members
DecidedBody e _ = Unit {0}

abbrev pub DecidedFact : InEpoch → Numbered → Type 0
DecidedFact e x = x.packet.epoch ≡ e.id → DecidedBody e x.packet.body

-- the boot of a member: that of the site that started, and the asked ones for others
abbrev pub asked_boot : World → ℕ → Links → ℕ → ℕ
asked_boot w site P s = cond (s == site) (boot_at w site) (boot_in P.boot s)

pub record Decided (w : World) (at : Places) (under : List Numbered) (site : ℕ) (P : Links) (v : SiteView) (e : InEpoch) : Type 0 where
  pub epoch : v.epoch ≡ Some e
  pub own : e.id.site ≡ site
  pub exactly : (s : ℕ) → 1 ≤ s → s ≤ sites_max → boot_in e.members.boot s ≡ cond (is_chosen w site P s) (asked_boot w site P s) 0
  pub follows : (t : ℕ) → boot_in P.boot t ≢ 0 → Follows at under site v.boot P e t
  pub packets : Every (DecidedFact e) under
  pub alike : (t : ℕ) (u : SiteView) (f : InEpoch) → at t ≡ Some (Running u) → u.epoch ≡ Some f → f.id ≡ e.id → f ≡ e

-- ---- all of it ----

pub record RowState (w : World) (at : Places) (under : List Numbered) (site : ℕ) (P : Links) : Type 0 where
  pub view : SiteView
  pub here : at site ≡ Some (Running view)
  pub state : ((r : Round) × Undecided w at under site P view r) ⊎ ((e : InEpoch) × Decided w at under site P view e)

-- the poll is of a site that starts, to one that it asks
pub record IsLive (w : World) (R : Starts) (p : Packet) : Type 0 where
  pub polled : Links
  pub starts : R p.epoch.site polled
  pub asked : boot_in polled.boot p.to ≡ p.to_boot
  pub some : p.to_boot ≢ 0
  pub boot : p.epoch.boot ≡ boot_at w p.epoch.site

abbrev pub PollOk : World → Starts → Places → Numbered → Type 0
PollOk w R at x = OnPoll (IsDead at x.packet ⊎ IsLive w R x.packet) x.packet.body

-- Since the first line of the block, at which the world stood so, no circuit and no boot has changed, and nobody has
-- stopped. Each poll is dead or of a site that starts, to one that it asks; none but these have rounds.
pub record Settling (first : World) (R : Starts) (w : World) : Type 0 where
  pub boots : (t : ℕ) → boot_at w t ≡ boot_at first t
  pub circuits : w.circuits ≡ first.circuits
  pub sent : Every (PollOk first R (place_at w)) w.sent
  pub underway : Every (PollOk first R (place_at w)) w.underway
  pub rounds : (s : ℕ) (v : SiteView) (r : Round) → place_at w s ≡ Some (Running v) → v.round ≡ Some r → (P : Links) × R s P
  pub rows : (s : ℕ) (P : Links) → R s P → RowState first (place_at w) w.underway s P
