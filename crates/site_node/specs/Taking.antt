-- A packet that the frame lets through, and one of the epoch that the site is in.
use Rattle.std.specs.Prelude.{◌≡◌, ℕ, Bool, true, false, Option, None, Some}
use Rattle.locus_ids.specs.declared.sites.Links.{Links}
use Rattle.locus_ids.specs.declared.config.Config.{Config}
use Rattle.wire_messages.specs.declared.packet.Packet.{Packet}
use Rattle.wire_messages.specs.declared.body.Body.{Body}
use Rattle.wire_messages.specs.declared.body.Body.TheVariants as body
use Rattle.role_steps.specs.Views.{SiteView, Outcome, quiet}
use Rattle.role_steps.specs.Epochs.{frame_in}
use Rattle.role_steps.specs.declared.rounds.InEpoch.{InEpoch}
use Rattle.the_run.specs.Steps.{takes, takes_inside}

abbrev pub taken : Config → ℕ → Links → Packet → SiteView → Outcome SiteView
taken c me links p v = takes c me links p p.body v

abbrev pub in_epoch_takes_of : Config → ℕ → ℕ → Body → Option InEpoch → SiteView → Outcome SiteView
in_epoch_takes_of c me from b None v = quiet v
in_epoch_takes_of c me from b (Some e) v = takes_inside (frame_in c me v.boot e) from b v

abbrev pub in_epoch_takes : Config → ℕ → ℕ → Body → SiteView → Outcome SiteView
in_epoch_takes c me from b v = in_epoch_takes_of c me from b v.epoch v

-- an adoption is tried at each Notify, each Page and each Delta
abbrev pub is_tried : Body → Bool
is_tried (body.Notify file kind set size stamp vector holder) = true
is_tried (body.Page file stamp page bytes) = true
is_tried (body.Delta file wanted pages) = true
is_tried _ = false

-- it refuses for an id of the greatest number
abbrev pub IsSpent : Body → Type 0
IsSpent (body.Refuse promised) = promised.number ≡ 4294967295
IsSpent _ = ⊥
