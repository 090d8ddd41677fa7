-- What a tick sends again.
use Rattle.std.specs.Prelude.{◌≡◌, ℕ, List, ◌++◌, Option, None, Some}
use Rattle.wire_messages.specs.Outboxes.{Outgoing}
use Rattle.wire_messages.specs.declared.packet.Packet.{Packet}
use Rattle.role_steps.specs.Views.{SiteView}
use Rattle.role_steps.specs.Epochs.{poll_repeats, install_repeats}
use Rattle.role_steps.specs.declared.rounds.InEpoch.{InEpoch}
use Rattle.site_packs.specs.Packs.{AreShown}
use Rattle.the_run.specs.Steps.{repeats}
use Rattle.site_node.specs.Views.{view_of}
use Rattle.site_node.specs.declared.node.SiteNode.{SiteNode}

-- these packets are added, and no record
pub record Adds (ps : List Packet) (before after : Outgoing) : Type 0 where
  pub packets : after.packets ≡ before.packets ++ ps
  pub records : after.records ≡ before.records

abbrev pub installs_again : ℕ → SiteView → Option InEpoch → List Packet → List Packet
installs_again me v None polls = polls
installs_again me v (Some e) polls = polls ++ install_repeats me v e

-- polls, and in an epoch installs
abbrev pub forming_repeats : ℕ → SiteView → Option InEpoch → List Packet
forming_repeats me v e = installs_again me v e (poll_repeats me v v.round)

-- the site sends again what the run repeats, and stays as it is but for its frame
pub record Repeats (old new : SiteNode) (before after : Outgoing) : Type 0 where
  pub adds : (image : List ℕ) → AreShown old.packs.packs image → Adds (repeats old.frame.config old.frame.me (view_of old image)) before after
  pub view : (image : List ℕ) → view_of new image ≡ view_of old image
  pub packs : new.packs ≡ old.packs
  pub config : new.frame.config ≡ old.frame.config
  pub me : new.frame.me ≡ old.frame.me
