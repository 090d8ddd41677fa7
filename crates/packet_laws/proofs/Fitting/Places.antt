-- Who runs is one of sixteen sites, in a boot that isn't great.
use Rattle.std.proofs.Common.{◌≡◌, ◌≤◌, ℕ, ◌+◌, List, [], Some, None, sym, ◌∙◌, ap, subst, arith}
use Rattle.locus_ids.specs.declared.config.Config.{Config}
use Rattle.wire_messages.specs.declared.packet.Packet.{Packet}
use Rattle.role_steps.specs.Views.{SiteView, Told, Outcome, Receives, boot_in}
use Rattle.the_run.specs.Disks.{Disk, Booted, Whole, CutOff, boots, cut_disk}
use Rattle.the_run.specs.Kept.{Kept}
use Rattle.the_run.specs.Laws.{boot_on, boot_number}
use Rattle.the_run.specs.Steps.{step}
use Rattle.the_run.specs.Worlds.{World, Place, Running, Stopped, place_at, links_of, script_of, happened, disk_of, puts, arms, passed, stops_with, cut_told, acts, first_world}
use Rattle.the_run.specs.Runs.{boots_as}
use Rattle.the_run.proofs.Boots.{at_each, acts_cases}
use Rattle.the_run.proofs.Events.{happened_keeps, puts_other}
use Rattle.run_laws.specs.Epochs.Known.{Good as Known, ViewFact}
use Rattle.run_laws.proofs.Epochs.Run.{good_kept, first_good, links_had}
use Rattle.run_laws.proofs.Walks.FirstWorld.{first_places}
use Rattle.packet_laws.specs.Fitting.Fields.{IsSite, IsBoot}
use Rattle.run_laws.proofs.Boots.{Low, low_kept, first_low}

-- ---- sites ----

abbrev AreSites : World → Type 0
AreSites w = (s : ℕ) (p : Place) → place_at w s ≡ Some p → IsSite s

put_sites : (s : ℕ) (p : Place) (w : World) → IsSite s → AreSites w → AreSites (puts s p w)
put_sites s p w site h t q here = at_each s t (IsSite t) (λ e. subst IsSite e site) (λ ne. h t q (sym (puts_other s t p w ne) ∙ here))

happened_sites : (n : ℕ) (ps : List Packet) (told : List Told) (change : World → World) (w : World) → AreSites (change w) → AreSites w → AreSites (happened n ps told change w)
happened_sites n ps told change w new h = happened_keeps AreSites n ps told change w h (λ l. h) (λ k b t. new)

acts_sites : (n s : ℕ) (v : SiteView) (o : Outcome SiteView) (w : World) → place_at w s ≡ Some (Running v) → AreSites w → AreSites (acts n s v o w)
acts_sites n s v o w here h =
    acts_cases AreSites n s v o w
    (happened_sites n o.sent o.told (λ now. puts s (Running o.view) now) w (put_sites s (Running o.view) w (h s (Running v) here) h) h)
    (λ a. happened_sites n o.sent o.told (λ now. puts s (Running o.view) (arms a now)) w (put_sites s (Running o.view) (arms a w) (h s (Running v) here) h) h)
    (λ d a e. happened_sites n [] (cut_told s v.store d a.how a.left) (stops_with s (cut_disk v.boot v.store d a.how a.left)) w (put_sites s (Stopped (cut_disk v.boot v.store d a.how a.left)) w (h s (Running v) here) h) h)

boots_sites : (n s : ℕ) (d : Disk) (b : Booted) (w : World) → place_at w s ≡ Some (Stopped d) → AreSites w → AreSites (boots_as n s b w)
boots_sites n s d (Whole x None) w here h = happened_sites n [] _ _ w (put_sites s (Running _) w (h s (Stopped d) here) h) h
boots_sites n s d (Whole x (Some a)) w here h = happened_sites n [] _ _ w (put_sites s (Running _) w (h s (Stopped d) here) h) h
boots_sites n s d (CutOff x how) w here h = happened_sites n [] _ _ w (put_sites s (Stopped x) w (h s (Stopped d) here) h) h

sites_kept : (c : Config) → Kept c AreSites
sites_kept c = record {
  steps = λ n s e v w here own h. acts_sites n s v (step c s (links_of w s) v e) w here h;
  receives = λ n x v w here sent h. acts_sites n x.packet.to v (step c x.packet.to (links_of (passed x.number w) x.packet.to) v (Receives x.packet)) (passed x.number w) here h;
  passes = λ k w h. h;
  drops = λ k w h. h;
  recuts = λ xs w h. h;
  arming = λ a w h. h;
  voiding = λ n w h. happened_sites n [] _ _ w h h;
  budgets = λ n w h. happened_sites n [] _ _ w h h;
  pending = λ n w h. happened_sites n [] _ _ w h h;
  stopping = λ n s v w here h. happened_sites n [] _ _ w (put_sites s (Stopped (disk_of v)) w (h s (Running v) here) h) h;
  booting = λ n s d w here h. boots_sites n s d (boots (script_of w s) d) w here h;
}

-- ---- the first world ----

first_sites : (c : Config) → AreSites (first_world c)
first_sites c = first_places c (λ s p. IsSite s) (λ s own. own.0)

-- ---- all of it ----

pub record Placed (w : World) : Type 0 where
  pub low : Low w
  pub known : Known w
  pub sites : (s : ℕ) (p : Place) → place_at w s ≡ Some p → IsSite s

pub placed_kept : (c : Config) → Kept c Placed
placed_kept c = record {
  steps = λ n s e v w here own h. record { low = (low_kept c).steps n s e v w here own h.low; known = (good_kept c).steps n s e v w here own h.known; sites = (sites_kept c).steps n s e v w here own h.sites };
  receives = λ n x v w here sent h. record { low = (low_kept c).receives n x v w here sent h.low; known = (good_kept c).receives n x v w here sent h.known; sites = (sites_kept c).receives n x v w here sent h.sites };
  passes = λ k w h. record { low = (low_kept c).passes k w h.low; known = (good_kept c).passes k w h.known; sites = h.sites };
  drops = λ k w h. record { low = (low_kept c).drops k w h.low; known = (good_kept c).drops k w h.known; sites = h.sites };
  recuts = λ xs w h. record { low = (low_kept c).recuts xs w h.low; known = (good_kept c).recuts xs w h.known; sites = h.sites };
  arming = λ a w h. record { low = (low_kept c).arming a w h.low; known = (good_kept c).arming a w h.known; sites = h.sites };
  voiding = λ n w h. record { low = (low_kept c).voiding n w h.low; known = (good_kept c).voiding n w h.known; sites = (sites_kept c).voiding n w h.sites };
  budgets = λ n w h. record { low = (low_kept c).budgets n w h.low; known = (good_kept c).budgets n w h.known; sites = (sites_kept c).budgets n w h.sites };
  pending = λ n w h. record { low = (low_kept c).pending n w h.low; known = (good_kept c).pending n w h.known; sites = (sites_kept c).pending n w h.sites };
  stopping = λ n s v w here h. record { low = (low_kept c).stopping n s v w here h.low; known = (good_kept c).stopping n s v w here h.known; sites = (sites_kept c).stopping n s v w here h.sites };
  booting = λ n s d w here h. record { low = (low_kept c).booting n s d w here h.low; known = (good_kept c).booting n s d w here h.known; sites = (sites_kept c).booting n s d w here h.sites };
}

pub first_placed : (c : Config) → Placed (first_world c)
first_placed c = record { low = first_low c; known = first_good c; sites = first_sites c }

pub low_boot : (w : World) (s : ℕ) → Low w → boot_number w s ≤ 134217729
low_boot w s h = let k : boot_number w s ≤ w.text + 1 = h.boots s in omega (arith, k, h.room)

pub own_place : (w : World) (s : ℕ) (v : SiteView) → place_at w s ≡ Some (Running v) → Placed w → IsSite s × IsBoot v.boot
own_place w s v here h =
    let k : boot_number w s ≤ 134217729 = low_boot w s h.low in
    let e : boot_number w s ≡ v.boot = ap boot_on here in
    let view : ViewFact (place_at w) s v = h.known.views s v here in
    (h.sites s (Running v) here, (view.booted, omega (arith, k, e)))

-- the boots of the sites that one reaches
pub links_low : (w : World) (s t : ℕ) → Placed w → boot_in (links_of w s).boot t ≤ 134217730
links_low w s t h =
    let k : boot_in (links_of w s).boot t ≤ boot_number w t = links_had w s t in
    let g : boot_number w t ≤ 134217729 = low_boot w t h.low in
    omega (arith, k, g)
