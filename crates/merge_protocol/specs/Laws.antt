-- How what a site does is made of what its place in epochs does and what its other roles do.
use Rattle.std.specs.Prelude.{ℕ, ◌≡◌, [], ◌∷◌, ◌++◌, Option, None, Some}
use Rattle.locus_ids.specs.declared.ids.EpochId.{EpochId}
use Rattle.locus_ids.specs.declared.sites.Members.{Members}
use Rattle.locus_ids.specs.declared.sites.Links.{Links}
use Rattle.locus_ids.specs.declared.config.Config.{Config}
use Rattle.trace_book.specs.declared.record.Record.TheVariants as says
use Rattle.site_frame.specs.Printed.{printed}
use Rattle.role_steps.specs.Views.{SiteView, Shown, Outcome, quiet, sends, tells, and_then}
use Rattle.role_steps.specs.Epochs.{joins, decides, joined_view, joined_packet, installs_all}
use Rattle.role_steps.specs.declared.rounds.InEpoch.{InEpoch}
use Rattle.merge_protocol.specs.Parts.{epoch_part, with_part, alone, rest_leaves, rest_joins, install_answer, passed_part, decision}
use Rattle.merge_protocol.specs.declared.joining.InstallAnswer.{InstallAnswer}
use Rattle.merge_protocol.specs.declared.joining.InstallAnswer.TheVariants as install

-- the view with its place in epochs as it is after a step
abbrev pub stepped : (SiteView → Outcome SiteView) → SiteView → SiteView
stepped f v = with_part (epoch_part (f (alone (epoch_part v))).view) v

-- Where a site leaves this epoch at a step: its place in epochs steps, and then its other roles leave. The printed records come
-- in this order, and all packets are those of the place in epochs.
abbrev pub LeavesAs : ℕ → Option EpochId → SiteView → Outcome SiteView → Outcome SiteView → Type 0
LeavesAs me left v part whole =
    (whole.view ≡ (rest_leaves me left (with_part (epoch_part part.view) v)).view)
    × (whole.sent ≡ part.sent)
    × ((rest_leaves me left (with_part (epoch_part part.view) v)).sent ≡ [])
    × (printed whole.told ≡ printed part.told ++ printed (rest_leaves me left (with_part (epoch_part part.view) v)).told)
    × (whole.written ≡ None)

abbrev pub LeavesBy : ℕ → Option EpochId → SiteView → (SiteView → Outcome SiteView) → Type 0
LeavesBy me left v f = LeavesAs me left v (f (alone (epoch_part v))) (f v)

abbrev pub joins_by : Config → ℕ → EpochId → Members → SiteView → Outcome SiteView
joins_by c me id members v =
    and_then (tells (Shown (says.Join me id members) ∷ []) (with_part (epoch_part (joined_view c me id members (alone (epoch_part v)))) v)) (rest_joins c me id members)

abbrev pub installs_by : ℕ → EpochId → Members → SiteView → Outcome SiteView
installs_by me id members v = sends (installs_all me id members (alone (epoch_part v))).sent (stepped (installs_all me id members) v)

abbrev pub answered_by : Config → ℕ → ℕ → ℕ → EpochId → Members → SiteView → InstallAnswer → Outcome SiteView
answered_by c me from from_boot id members v install.Joins = and_then (joins c me id members v) (λ now. sends (joined_packet me from from_boot id (alone (epoch_part now))) now)
answered_by c me from from_boot id members v install.Again = sends (joined_packet me from from_boot id (alone (epoch_part v))) v
answered_by c me from from_boot id members v install.Nothing = quiet v

abbrev pub takes_install_by : Config → ℕ → ℕ → ℕ → EpochId → Members → SiteView → Outcome SiteView
takes_install_by c me from from_boot id members v = answered_by c me from from_boot id members v (install_answer me id members (epoch_part v))

abbrev pub decided_by : Config → ℕ → SiteView → Option InEpoch → Outcome SiteView
decided_by c me v None = quiet v
decided_by c me v (Some e) = decides c me e.id e.members v

abbrev pub passes_by : Config → ℕ → Links → SiteView → Outcome SiteView
passes_by c me links v =
    let passed : SiteView = with_part (passed_part links (epoch_part v)) v in
    decided_by c me passed (decision me links v.boot passed.round)
