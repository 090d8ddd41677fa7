-- Each delivery of a run sends one packet for calls at most, besides the opens of mends that start.
use Rattle.std.proofs.Common.{◌≡◌, ℕ, ◌+◌, true, false, List, [], ◌++◌, map, Option, Some, None, refl, sym, ◌∙◌, ap, subst, arith}
use Rattle.locus_ids.specs.declared.config.Config.{Config}
use Rattle.schedule_lines.specs.declared.line.ScheduleLine.{ScheduleLine}
use Rattle.wire_messages.specs.declared.packet.Packet.{Packet}
use Rattle.role_steps.specs.Views.{SiteView, Told, Outcome, Receives}
use Rattle.the_run.specs.Disks.{cut_disk}
use Rattle.the_run.specs.Kept.{Kept}
use Rattle.the_run.specs.Steps.{is_dropped, step}
use Rattle.the_run.specs.Worlds.{World, Place, Running, Stopped, Numbered, place_at, links_of, happened, numbered_from, newest_onto, puts, arms, passed, stops_with, acts, happens, happens_at, first_world}
use Rattle.the_run.specs.Runs.{arrives_at, run_in}
use Rattle.the_run.proofs.Boots.{acts_cases}
use Rattle.the_run.proofs.Events.{happened_keeps}
use Rattle.the_run.proofs.Runs.{every_run}
use Rattle.row_laws.specs.Bounds.Deliveries.{SendsOne, SendsOneMore, packet_of, DeliveriesSendOne, KeptLooksOpenNone}
use Rattle.row_laws.proofs.Bounds.Counting.{newest_sent}
use Rattle.row_laws.proofs.Bounds.EachView.{KeepsViews, views_kept, views_first}
use Rattle.row_laws.proofs.Bounds.FewSites.{step_one}
use Rattle.row_laws.proofs.Bounds.KeptLooks.{TablesFine, step_keeps}

-- ---- what is kept ----

fine_views : (c : Config) → KeepsViews c TablesFine
fine_views c = record { steps = step_keeps c; booted = λ boot copies. tt }

pub looks_kept : (c : Config) → Kept c KeptLooksOpenNone
looks_kept c = views_kept c TablesFine (fine_views c)

pub looks_first : (c : Config) → KeptLooksOpenNone (first_world c)
looks_first c = views_first c TablesFine (fine_views c)

-- ---- an event ----

no_packets : SendsOne []
no_packets = record { calls = omega arith; mends = λ g. omega arith }

-- nothing is sent
sends_none : (first u : World) → u.sent ≡ first.sent → SendsOneMore first u
sends_none first u e = record { more = []; sent = e; one = no_packets }

happened_one : (n : ℕ) (ps : List Packet) (told : List Told) (change : World → World) (first w : World) → w.sent ≡ first.sent → (change w).sent ≡ first.sent → SendsOne ps → SendsOneMore first (happened n ps told change w)
happened_one n ps told change first w e f h =
    happened_keeps (SendsOneMore first) n ps told change w (sends_none first w e) (λ l. sends_none first (record w { over = Some l }) e)
    (λ k b t. (let g : (more : List Numbered) × (newest_onto (numbered_from (w.packets + 1) ps) first.sent ≡ more ++ first.sent) × SendsOne (map packet_of more) = newest_sent (w.packets + 1) ps first.sent h in
    record { more = g.0; sent = ap (newest_onto (numbered_from (w.packets + 1) ps)) f ∙ g.1; one = g.2 }))

acts_one : (n s : ℕ) (v : SiteView) (o : Outcome SiteView) (first w : World) → w.sent ≡ first.sent → SendsOne o.sent → SendsOneMore first (acts n s v o w)
acts_one n s v o first w e h =
    acts_cases (SendsOneMore first) n s v o w
    (happened_one n o.sent o.told (λ now. puts s (Running o.view) now) first w e e h)
    (λ a. happened_one n o.sent o.told (λ now. puts s (Running o.view) (arms a now)) first w e e h)
    (λ d a k. happened_one n [] _ (stops_with s (cut_disk v.boot v.store d a.how a.left)) first w e e no_packets)

-- ---- a delivery ----

pub delivery_one : (c : Config) (w : World) → KeptLooksOpenNone w → DeliveriesSendOne c w
delivery_one c w h n x other = by_place (place_at w x.packet.to) refl
  where
    taken : (v : SiteView) → place_at w x.packet.to ≡ Some (Running v) → SendsOneMore w (happens_at c n x.packet.to (Receives x.packet) (Some (Running v)) (passed x.number w))
    taken v here = acts_one n x.packet.to v (step c x.packet.to (links_of (passed x.number w) x.packet.to) v (Receives x.packet)) w (passed x.number w) refl (step_one c x.packet.to (links_of (passed x.number w) x.packet.to) v x.packet other (h x.packet.to v here))

    happening : (v : SiteView) → place_at w x.packet.to ≡ Some (Running v) → SendsOneMore w (happens c n x.packet.to (Receives x.packet) (passed x.number w))
    happening v here = subst (λ (o : Option Place). SendsOneMore w (happens_at c n x.packet.to (Receives x.packet) o (passed x.number w))) (sym here) (taken v here)

    by_place : (o : Option Place) → place_at w x.packet.to ≡ o → SendsOneMore w (arrives_at c n x.packet o (passed x.number w))
    by_place None e = sends_none w (passed x.number w) refl
    by_place (Some (Stopped d)) e = sends_none w (passed x.number w) refl
    by_place (Some (Running v)) e =
        elim (is_dropped x.packet v) as (λ b. SendsOneMore w (elim b [ true ↦ passed x.number w | false ↦ happens c n x.packet.to (Receives x.packet) (passed x.number w) ])) [
          | true ↦ sends_none w (passed x.number w) refl
          | false ↦ happening v e
        ]

pub deliveries_send_one : (c : Config) (lines : List ScheduleLine) → DeliveriesSendOne c (run_in c lines)
deliveries_send_one c lines = delivery_one c (run_in c lines) (every_run c KeptLooksOpenNone (looks_kept c) (looks_first c) lines)
