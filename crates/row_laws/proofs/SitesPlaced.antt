-- In every run each site of the cluster has its place.
use Rattle.std.proofs.Common.{◌≡◌, ◌≤◌, ℕ, true, List, [], Some, None, ◌∙◌, subst, arith}
use Rattle.std.proofs.lemmas.Bool.Decides.{nat_tests}
use Rattle.locus_ids.specs.declared.config.Config.{Config}
use Rattle.locus_ids.specs.Sizes.{sites_max}
use Rattle.schedule_lines.specs.Ranges.{is_site}
use Rattle.wire_messages.specs.declared.packet.Packet.{Packet}
use Rattle.role_steps.specs.Views.{SiteView, Told, Outcome, Receives}
use Rattle.site_laws.specs.of_the_run.Disks.{Booted, Whole, CutOff}
use Rattle.site_laws.specs.of_the_run.Steps.{step}
use Rattle.site_laws.specs.of_the_run.Worlds.{World, Place, links_of, passed, place_at, happened, puts, arms, stops_with, acts, first_world}
use Rattle.site_laws.specs.of_the_run.Runs.{boots_as}
use Rattle.site_laws.specs.of_the_run.Kept.{Kept}
use Rattle.site_laws.proofs.of_the_run.Boots.{at_each}
use Rattle.site_laws.proofs.of_the_run.Events.{happened_keeps, acts_keeps, puts_other, puts_same}
use Rattle.site_laws.proofs.of_run_laws.Walks.FirstWorld.{first_there}
use Rattle.row_laws.specs.Voids.{HasPlaces}

-- ---- the first world ----

in_range : (n s : ℕ) → is_site n s ≡ true → ((1 ≤ s) × (s ≤ sites_max)) × (s ≤ n)
in_range n s h = ((grind (arith, nat_tests), grind (arith, nat_tests)), grind (arith, nat_tests))

pub first_has : (c : Config) → HasPlaces c (first_world c)
first_has c s h = (_, first_there c s (in_range c.sites s h))

-- ---- every event and change ----

puts_has : (c : Config) (s : ℕ) (p : Place) (w : World) → HasPlaces c w → HasPlaces c (puts s p w)
puts_has c s p w h t g = at_each s t ((q : Place) × (place_at (puts s p w) t ≡ Some q))
    (λ e. subst (λ (u : ℕ). (q : Place) × (place_at (puts s p w) u ≡ Some q)) e (p, puts_same s p w))
    (λ ne. (let r : (q : Place) × (place_at w t ≡ Some q) = h t g in (r.0, puts_other s t p w ne ∙ r.1)))

happened_has : (c : Config) (n : ℕ) (ps : List Packet) (told : List Told) (change : World → World) (w : World) → HasPlaces c (change w) → HasPlaces c w → HasPlaces c (happened n ps told change w)
happened_has c n ps told change w g h = happened_keeps (HasPlaces c) n ps told change w h (λ l. h) (λ k b t. g)

boots_has : (c : Config) (n s : ℕ) (b : Booted) (w : World) → HasPlaces c w → HasPlaces c (boots_as n s b w)
boots_has c n s (Whole d None) w h = happened_has c n [] _ _ w (puts_has c s _ w h) h
boots_has c n s (Whole d (Some a)) w h = happened_has c n [] _ _ w (puts_has c s _ w h) h
boots_has c n s (CutOff d how) w h = happened_has c n [] _ (stops_with s d) w (puts_has c s _ w h) h

pub places_kept : (c : Config) → Kept c (HasPlaces c)
places_kept c = record {
  steps = λ n s e v w here own h. acts_has n s v (step c s (links_of w s) v e) w h;
  receives = λ n x v w here sent h. acts_has n x.packet.to v (step c x.packet.to (links_of (passed x.number w) x.packet.to) v (Receives x.packet)) (passed x.number w) h;
  passes = λ k w h. h;
  drops = λ k w h. h;
  recuts = λ xs w h. h;
  arming = λ a w h. h;
  voiding = λ n w h. happened_has c n [] _ (λ now. now) w h h;
  budgets = λ n w h. happened_has c n [] _ (λ now. now) w h h;
  pending = λ n w h. happened_has c n [] _ (λ now. now) w h h;
  stopping = λ n s v w here h. happened_has c n [] _ _ w (puts_has c s _ w h) h;
  booting = λ n s d w here h. boots_has c n s _ w h;
}
  where
    acts_has : (n s : ℕ) (v : SiteView) (o : Outcome SiteView) (w : World) → HasPlaces c w → HasPlaces c (acts n s v o w)
    acts_has n s v o w h = acts_keeps (HasPlaces c) n s v o w
        (λ ps told place. happened_has c n ps told (λ now. puts s place now) w (puts_has c s place w h) h)
        (λ ps told place a. happened_has c n ps told (λ now. puts s place (arms a now)) w (puts_has c s place w h) h)
        (λ ps told d. happened_has c n ps told (stops_with s d) w (puts_has c s _ w h) h)
