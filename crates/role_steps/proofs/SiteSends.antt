-- What a site sends is its own: from it, with its boot number; and no event changes the boot number.
use Rattle.std.proofs.Common.{◌≡◌, ℕ, ◌+◌, ◌&&◌, not, Bool, true, false, cond, List, [], ◌∷◌, map, Option, Some, None, refl}
use Rattle.locus_ids.specs.declared.ids.EpochId.{EpochId}
use Rattle.locus_ids.specs.declared.sites.Members.{Members}
use Rattle.locus_ids.specs.declared.sites.Links.{Links}
use Rattle.locus_ids.specs.declared.sites.Sites.{Sites}
use Rattle.locus_ids.specs.declared.config.Config.{Config}
use Rattle.wire_messages.specs.of_trace_book.Same.{same_epoch}
use Rattle.wire_messages.specs.declared.packet.Packet.{Packet}
use Rattle.role_steps.specs.Tables.{without_row}
use Rattle.role_steps.specs.Views.{Frame, SiteView, Outcome, Promises, quiet, sends, tells, and_then}
use Rattle.role_steps.specs.Epochs.{is_epoch_below, frame_in, leaves_of, leaves, promises, promised_view, reached, poll_packet, polled_sites, polls, round_id, begins_round, starts_merge, boots_where, merge_boot, part_boot, starts_part_of, starts_part, promise_packet, refuse_packet, on_poll, on_promise_of, on_refuse_of, report_packets, all_reports, joined_view, joins, may_install, is_in, joined_packet, on_install, on_joined, passed_over, unanswered, chosen_members, chosen_set, others_of, install_packet, installs_all, decides, decides_if, passes_over_of, passes_over, poll_repeats, install_repeats}
use Rattle.role_steps.specs.declared.rounds.InEpoch.{InEpoch}
use Rattle.role_steps.specs.declared.rounds.Round.{Round}
use Rattle.role_steps.specs.Own.{Every, IsOwn, Sends}
use Rattle.role_steps.proofs.Sending.{OfFrame, every_append, every_cond, every_map, every_flat_map, sync_sent}

pub frame_own : (c : Config) (me boot : ℕ) (v : SiteView) (e : InEpoch) → v.boot ≡ boot → OfFrame (IsOwn me boot) (frame_in c me v.boot e)
frame_own c me boot v e b = λ to x. record { site = refl; number = b }

pub and_then_sends : (me boot : ℕ) (o : Outcome SiteView) (g : SiteView → Outcome SiteView) → Sends me boot o → ((v : SiteView) → v.boot ≡ boot → Sends me boot (g v)) → Sends me boot (and_then o g)
and_then_sends me boot o g h k = record { view = (k o.view h.view).view; sent = every_append (IsOwn me boot) o.sent (g o.view).sent h.sent (k o.view h.view).sent }

pub quiet_sends : (me boot : ℕ) (v : SiteView) → v.boot ≡ boot → Sends me boot (quiet v)
quiet_sends me boot v b = record { view = b; sent = tt }

-- ---- leaving, promises, rounds ----

leaves_of_sends : (me boot : ℕ) (e : Option InEpoch) (v : SiteView) → v.boot ≡ boot → Sends me boot (leaves_of me e v)
leaves_of_sends me boot None v b = record { view = b; sent = tt }
leaves_of_sends me boot (Some e) v b = record { view = b; sent = tt }

pub leaves_sends : (me boot : ℕ) (v : SiteView) → v.boot ≡ boot → Sends me boot (leaves me v)
leaves_sends me boot v b = leaves_of_sends me boot v.epoch v b

promises_sends : (me boot : ℕ) (id : EpochId) (reach : Sites) (v : SiteView) → v.boot ≡ boot → Sends me boot (promises me id reach v)
promises_sends me boot id reach v b = and_then_sends me boot (leaves me v) (λ now. tells (Promises me id reach ∷ []) (promised_view id now)) (leaves_sends me boot v b) (λ now e. record { view = e; sent = tt })

polls_sends : (me boot : ℕ) (id : EpochId) (polled : Links) (v : SiteView) → v.boot ≡ boot → Sends me boot (polls me id polled v)
polls_sends me boot id polled v b = record { view = b; sent = every_map (IsOwn me boot) (poll_packet me v.boot id polled) (polled_sites polled) (λ s. record { site = refl; number = b }) }

begins_round_sends : (me boot : ℕ) (links : Links) (number : ℕ) (polled : Links) (v : SiteView) → v.boot ≡ boot → Sends me boot (begins_round me links number polled v)
begins_round_sends me boot links number polled v b = and_then_sends me boot (promises me (round_id me number v) (reached links) v) (polls me (round_id me number v) polled) (promises_sends me boot (round_id me number v) (reached links) v b) (λ now e. polls_sends me boot (round_id me number v) polled now e)

pub starts_merge_sends : (me boot : ℕ) (links : Links) (v : SiteView) → v.boot ≡ boot → Sends me boot (starts_merge me links v)
starts_merge_sends me boot links v b = begins_round_sends me boot links (v.promised.number + 1) (boots_where (merge_boot me links)) v b

starts_part_of_sends : (me boot : ℕ) (links : Links) (e : Option InEpoch) (v : SiteView) → v.boot ≡ boot → Sends me boot (starts_part_of me links e v)
starts_part_of_sends me boot links None v b = quiet_sends me boot v b
starts_part_of_sends me boot links (Some e) v b = begins_round_sends me boot links (v.promised.number + 1) (boots_where (part_boot me links e.members)) v b

pub starts_part_sends : (me boot : ℕ) (links : Links) (v : SiteView) → v.boot ≡ boot → Sends me boot (starts_part me links v)
starts_part_sends me boot links v b = starts_part_of_sends me boot links v.epoch v b

-- ---- what forms an epoch ----

pub on_poll_sends : (me boot : ℕ) (links : Links) (from from_boot : ℕ) (id : EpochId) (v : SiteView) → v.boot ≡ boot → Sends me boot (on_poll me links from from_boot id v)
on_poll_sends me boot links from from_boot id v b =
    elim (is_epoch_below v.promised id) as (λ t. Sends me boot (elim t [ true ↦ and_then (promises me id (reached links) v) (λ now. sends (promise_packet me links from from_boot id now) now) | false ↦ sends (cond (same_epoch id v.promised && not v.installed) (promise_packet me links from from_boot id v) (refuse_packet me from from_boot id v)) v ])) [
      | true ↦ and_then_sends me boot (promises me id (reached links) v) (λ now. sends (promise_packet me links from from_boot id now) now) (promises_sends me boot id (reached links) v b) (λ now e. record { view = e; sent = (record { site = refl; number = e }, tt) })
      | false ↦ record { view = b; sent = every_cond (IsOwn me boot) (same_epoch id v.promised && not v.installed) (promise_packet me links from from_boot id v) (refuse_packet me from from_boot id v) (record { site = refl; number = b }, tt) (record { site = refl; number = b }, tt) }
    ]

pub on_promise_of_sends : (me boot from from_boot : ℕ) (id : EpochId) (reach : Sites) (r : Option Round) (v : SiteView) → v.boot ≡ boot → Sends me boot (on_promise_of from from_boot id reach r v)
on_promise_of_sends me boot from from_boot id reach None v b = quiet_sends me boot v b
on_promise_of_sends me boot from from_boot id reach (Some r) v b = record { view = b; sent = tt }

pub on_refuse_of_sends : (me boot : ℕ) (links : Links) (id promised : EpochId) (r : Option Round) (v : SiteView) → v.boot ≡ boot → Sends me boot (on_refuse_of me links id promised r v)
on_refuse_of_sends me boot links id promised None v b = quiet_sends me boot v b
on_refuse_of_sends me boot links id promised (Some r) v b =
    elim (same_epoch r.id id) as (λ t. Sends me boot (elim t [ true ↦ begins_round me links (promised.number + 1) r.polled v | false ↦ quiet v ])) [
      | true ↦ begins_round_sends me boot links (promised.number + 1) r.polled v b
      | false ↦ quiet_sends me boot v b
    ]

all_reports_sent : (P : Packet → Type 0) (f : Frame) → OfFrame P f → (v : SiteView) → Every P (all_reports f v)
all_reports_sent P f h v = every_flat_map P (report_packets f v) v.reports (λ g. sync_sent P f h g _)

joins_sends : (c : Config) (me boot : ℕ) (id : EpochId) (members : Members) (v : SiteView) → v.boot ≡ boot → Sends me boot (joins c me id members v)
joins_sends c me boot id members v b =
    let e : InEpoch = record { id = id; members = members } in
    let now : SiteView = joined_view c me id members v in
    record { view = b; sent = all_reports_sent (IsOwn me boot) (frame_in c me now.boot e) (frame_own c me boot now e b) now }

pub on_install_sends : (c : Config) (me boot from from_boot : ℕ) (id : EpochId) (members : Members) (v : SiteView) → v.boot ≡ boot → Sends me boot (on_install c me from from_boot id members v)
on_install_sends c me boot from from_boot id members v b =
    elim (may_install me id members v) as (λ t. Sends me boot (elim t [ true ↦ and_then (joins c me id members v) (λ now. sends (joined_packet me from from_boot id now) now) | false ↦ sends (cond (is_in id v.epoch) (joined_packet me from from_boot id v) []) v ])) [
      | true ↦ and_then_sends me boot (joins c me id members v) (λ now. sends (joined_packet me from from_boot id now) now) (joins_sends c me boot id members v b) (λ now e. record { view = e; sent = (record { site = refl; number = e }, tt) })
      | false ↦ record { view = b; sent = every_cond (IsOwn me boot) (is_in id v.epoch) (joined_packet me from from_boot id v) [] (record { site = refl; number = b }, tt) tt }
    ]

boot_cond : (t : Bool) (a b : SiteView) (boot : ℕ) → a.boot ≡ boot → b.boot ≡ boot → (cond t a b).boot ≡ boot
boot_cond true a b boot h g = h
boot_cond false a b boot h g = g

pub on_joined_sends : (me boot from : ℕ) (id : EpochId) (v : SiteView) → v.boot ≡ boot → Sends me boot (on_joined from id v)
on_joined_sends me boot from id v b = record { view = boot_cond (is_in id v.epoch) (record v { installs = without_row (λ s. s) from v.installs }) v boot b b; sent = tt }

-- ---- the end of an event ----

installs_sent : (me boot : ℕ) (id : EpochId) (members : Members) (xs : List ℕ) (v : SiteView) → v.boot ≡ boot → Every (IsOwn me boot) (map (install_packet me v.boot id members) xs)
installs_sent me boot id members xs v b = every_map (IsOwn me boot) (install_packet me v.boot id members) xs (λ s. record { site = refl; number = b })

decides_sends : (c : Config) (me boot : ℕ) (id : EpochId) (members : Members) (v : SiteView) → v.boot ≡ boot → Sends me boot (decides c me id members v)
decides_sends c me boot id members v b = and_then_sends me boot (joins c me id members v) (installs_all me id members) (joins_sends c me boot id members v b) (λ now e. record { view = e; sent = installs_sent me boot id members (others_of me members) now e })

decides_if_sends : (c : Config) (me boot : ℕ) (links : Links) (r : Round) (xs : List ℕ) (v : SiteView) → v.boot ≡ boot → Sends me boot (decides_if c me links r xs v)
decides_if_sends c me boot links r [] v b = decides_sends c me boot r.id (chosen_members me v.boot r (chosen_set me links r)) v b
decides_if_sends c me boot links r (s ∷ ss) v b = record { view = b; sent = tt }

passes_over_of_sends : (c : Config) (me boot : ℕ) (links : Links) (r : Option Round) (v : SiteView) → v.boot ≡ boot → Sends me boot (passes_over_of c me links r v)
passes_over_of_sends c me boot links None v b = quiet_sends me boot v b
passes_over_of_sends c me boot links (Some r) v b = decides_if_sends c me boot links (passed_over links r) (unanswered (passed_over links r)) v b

pub passes_over_sends : (c : Config) (me boot : ℕ) (links : Links) (v : SiteView) → v.boot ≡ boot → Sends me boot (passes_over c me links v)
passes_over_sends c me boot links v b = passes_over_of_sends c me boot links v.round v b

pub poll_repeats_sent : (me boot : ℕ) (v : SiteView) (r : Option Round) → v.boot ≡ boot → Every (IsOwn me boot) (poll_repeats me v r)
poll_repeats_sent me boot v None b = tt
poll_repeats_sent me boot v (Some r) b = every_map (IsOwn me boot) (poll_packet me v.boot r.id r.polled) (unanswered r) (λ s. record { site = refl; number = b })

pub install_repeats_sent : (me boot : ℕ) (v : SiteView) (e : InEpoch) → v.boot ≡ boot → Every (IsOwn me boot) (install_repeats me v e)
install_repeats_sent me boot v e b = installs_sent me boot e.id e.members v.installs v b
