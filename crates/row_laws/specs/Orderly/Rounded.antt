-- What an event does at a site that has a round: the round stays, takes a promise or begins again, and then it is decided where
-- no answer is missing.
use Rattle.std.specs.Prelude.{ℕ, ◌≡◌, ◌≢◌, ◌+◌, ◌⊎◌, false, List, [], Some, None}
use Rattle.locus_ids.specs.declared.ids.EpochId.{EpochId}
use Rattle.locus_ids.specs.declared.sites.Sites.{Sites}
use Rattle.locus_ids.specs.declared.sites.Members.{Members}
use Rattle.locus_ids.specs.declared.sites.Links.{Links}
use Rattle.wire_messages.specs.declared.packet.Packet.{Packet}
use Rattle.wire_messages.specs.declared.body.Body.{Body}
use Rattle.wire_messages.specs.declared.body.Body.TheVariants as body
use Rattle.role_steps.specs.Own.{Every}
use Rattle.role_steps.specs.Views.{SiteView, Outcome, Event, Receives, boot_in}
use Rattle.role_steps.specs.Epochs.{new_round, poll_packet, polled_sites, round_id, with_promise, passed_over, unanswered, chosen_members, chosen_set, others_of, install_packet}
use Rattle.role_steps.specs.declared.rounds.Round.{Round}
use Rattle.the_run.specs.Kept.{Among}
use Rattle.row_laws.specs.Orderly.Effects.{IsAnswer}

-- ---- how the round moves ----

pub record RoundStays (v : SiteView) (e : Event) (r q : Round) : Type 0 where
  pub same : q ≡ r
  pub unless : (p : Packet) → e ≡ Receives p → IsAnswer p.body → p.epoch ≡ r.id → boot_in r.polled.boot p.from ≡ p.from_boot → ⊥

pub record RoundTakes (e : Event) (r q : Round) : Type 0 where
  pub letter : Packet
  pub reach : Sites
  pub comes : e ≡ Receives letter
  pub is_promise : letter.body ≡ body.Promise reach
  pub id : letter.epoch ≡ r.id
  pub of : boot_in r.polled.boot letter.from ≡ letter.from_boot
  pub same : q ≡ with_promise letter.from reach r

pub record RoundRestarts (s : ℕ) (v : SiteView) (e : Event) (r q : Round) (sent : List Packet) : Type 0 where
  pub letter : Packet
  pub theirs : EpochId
  pub comes : e ≡ Receives letter
  pub is_refusal : letter.body ≡ body.Refuse theirs
  pub id : letter.epoch ≡ r.id
  pub same : q ≡ new_round (round_id s (theirs.number + 1) v) r.polled
  pub polls : (t : ℕ) → Among t (polled_sites r.polled) → Among (poll_packet s v.boot (round_id s (theirs.number + 1) v) r.polled t) sent

abbrev pub RoundMoves : ℕ → SiteView → Event → Round → Round → List Packet → Type 0
RoundMoves s v e r q sent = RoundStays v e r q ⊎ (RoundTakes e r q ⊎ RoundRestarts s v e r q sent)

-- ---- how the event ends ----

pub record GoesOn (links : Links) (v : SiteView) (q : Round) (u : SiteView) : Type 0 where
  pub round : u.round ≡ Some (passed_over links q)
  pub boot : u.boot ≡ v.boot
  pub promised : u.promised ≡ q.id
  pub waits : u.installed ≡ false
  pub outside : u.epoch ≡ None

abbrev pub members_of : ℕ → Links → SiteView → Round → Members
members_of s links v q = chosen_members s v.boot (passed_over links q) (chosen_set s links (passed_over links q))

pub record Decides (s : ℕ) (links : Links) (v : SiteView) (q : Round) (o : Outcome SiteView) : Type 0 where
  pub answered : unanswered (passed_over links q) ≡ []
  pub boot : o.view.boot ≡ v.boot
  pub promised : o.view.promised ≡ q.id
  pub epoch : o.view.epoch ≡ Some (record { id = q.id; members = members_of s links v q })
  pub installs : (t : ℕ) → Among t (others_of s (members_of s links v q)) → Among (install_packet s v.boot q.id (members_of s links v q) t) o.sent

-- ---- packets ----

pub record OwnPoll (q : Round) (p : Packet) : Type 0 where
  pub id : p.epoch ≡ q.id
  pub asked : boot_in q.polled.boot p.to ≡ p.to_boot
  pub some : p.to_boot ≢ 0

-- polls are of the round; a promise is of the site; an install is of the epoch that the site has just decided
abbrev pub RoundSentCase : ℕ → SiteView → Round → SiteView → Packet → Body → Type 0
RoundSentCase s v q u p body.Poll = OwnPoll q p
RoundSentCase s v q u p (body.Promise reach) = (p.from ≡ s) × (p.from_boot ≡ v.boot)
RoundSentCase s v q u p (body.Install members) = (p.epoch ≡ q.id) × (u.epoch ≡ Some (record { id = q.id; members = members }))
RoundSentCase s v q u p _ = Unit {0}

abbrev pub RoundSent : ℕ → SiteView → Round → SiteView → Packet → Type 0
RoundSent s v q u p = RoundSentCase s v q u p p.body

pub record Rounded (s : ℕ) (links : Links) (v : SiteView) (e : Event) (r : Round) (o : Outcome SiteView) : Type 0 where
  pub next : Round
  pub moves : RoundMoves s v e r next o.sent
  pub ends : GoesOn links v next o.view ⊎ Decides s links v next o
  pub sent : Every (RoundSent s v next o.view) o.sent
