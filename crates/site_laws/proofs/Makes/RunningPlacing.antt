-- Sites are numbered from 1.
use Rattle.std.proofs.Common.{◌≡◌, ◌≤◌, ℕ, List, [], Some, None, sym, ◌∙◌, subst}
use Rattle.locus_ids.specs.declared.config.Config.{Config}
use Rattle.wire_messages.specs.declared.packet.Packet.{Packet}
use Rattle.role_steps.specs.Views.{SiteView, Told, Outcome}
use Rattle.the_run.specs.Disks.{Booted, Whole, CutOff, boots}
use Rattle.the_run.specs.Worlds.{World, Place, Running, Stopped, happened, place_at, script_of, puts, arms, passed, stops_with, disk_of, acts, fresh, first_world}
use Rattle.the_run.specs.Runs.{boots_as}
use Rattle.the_run.specs.Kept.{Kept}
use Rattle.the_run.proofs.Boots.{at_each}
use Rattle.the_run.proofs.Events.{happened_keeps, acts_keeps, puts_other}
use Rattle.run_laws.proofs.Walks.FirstWorld.{first_places}

abbrev pub PlacesSited : World → Type 0
PlacesSited w = (s : ℕ) (p : Place) → place_at w s ≡ Some p → 1 ≤ s

happened_sited : (n : ℕ) (ps : List Packet) (told : List Told) (change : World → World) (w : World) → ((t : ℕ) (p : Place) → place_at (change w) t ≡ Some p → 1 ≤ t) → PlacesSited w → PlacesSited (happened n ps told change w)
happened_sited n ps told change w places g = happened_keeps PlacesSited n ps told change w g (λ l. g) (λ k b t. places)

puts_sited : (s : ℕ) (new : Place) (w : World) → 1 ≤ s → PlacesSited w → (t : ℕ) (p : Place) → place_at (puts s new w) t ≡ Some p → 1 ≤ t
puts_sited s new w site g t p here = at_each s t (1 ≤ t) (λ e. subst (λ (n : ℕ). 1 ≤ n) e site) (λ ne. g t p (sym (puts_other s t new w ne) ∙ here))

acts_sited : (n s : ℕ) (v : SiteView) (o : Outcome SiteView) (w : World) → 1 ≤ s → PlacesSited w → PlacesSited (acts n s v o w)
acts_sited n s v o w site g =
    acts_keeps PlacesSited n s v o w
    (λ ps told place. happened_sited n ps told (λ now. puts s place now) w (puts_sited s place w site g) g)
    (λ ps told place a. happened_sited n ps told (λ now. puts s place (arms a now)) w (puts_sited s place w site g) g)
    (λ ps told d. happened_sited n ps told (stops_with s d) w (puts_sited s (Stopped d) w site g) g)

as_sited : (n s : ℕ) (b : Booted) (w : World) → 1 ≤ s → PlacesSited w → PlacesSited (boots_as n s b w)
as_sited n s (Whole x None) w site g = happened_sited n [] _ _ w (puts_sited s (Running (fresh x.label.boot x.copies)) w site g) g
as_sited n s (Whole x (Some a)) w site g = happened_sited n [] _ _ w (puts_sited s (Running (fresh x.label.boot x.copies)) w site g) g
as_sited n s (CutOff x how) w site g = happened_sited n [] _ (stops_with s x) w (puts_sited s (Stopped x) w site g) g

pub places_kept : (c : Config) → Kept c PlacesSited
places_kept c = record {
  steps = λ n s e v w here own g. acts_sited n s v _ w (g s (Running v) here) g;
  receives = λ n x v w here sent g. acts_sited n x.packet.to v _ (passed x.number w) (g x.packet.to (Running v) here) g;
  passes = λ k w g. g;
  drops = λ k w g. g;
  recuts = λ xs w g. g;
  arming = λ a w g. g;
  voiding = λ n w g. happened_sited n [] _ (λ now. now) w g g;
  budgets = λ n w g. happened_sited n [] _ (λ now. now) w g g;
  pending = λ n w g. happened_sited n [] _ (λ now. now) w g g;
  stopping = λ n s v w here g. happened_sited n [] _ (stops_with s (disk_of v)) w (puts_sited s (Stopped (disk_of v)) w (g s (Running v) here) g) g;
  booting = λ n s d w here g. as_sited n s (boots (script_of w s) d) w (g s (Stopped d) here) g;
}

-- ---- the first world ----

pub first_sited : (c : Config) → PlacesSited (first_world c)
first_sited c = first_places c (λ s p. 1 ≤ s) (λ s own. own.0.0)
