-- The sites of the cluster have places, and no others.
use Rattle.std.proofs.Common.{◌≡◌, ◌≢◌, ℕ, Option, ◌≤◌, ◌==◌, Bool, true, false, List, [], Some, None, refl, sym, ◌∙◌, ap, arith}
use Rattle.std.proofs.lemmas.Bool.Decides.{nat_tests}
use Rattle.std.specs.Option.{is_some}
use Rattle.locus_ids.specs.declared.config.Config.{Config}
use Rattle.schedule_lines.specs.declared.line.ScheduleLine.{ScheduleLine}
use Rattle.wire_messages.specs.declared.packet.Packet.{Packet}
use Rattle.role_steps.specs.Views.{SiteView, Told, Outcome}
use Rattle.the_run.specs.Disks.{Booted, Whole, CutOff, boots}
use Rattle.the_run.specs.Kept.{Kept}
use Rattle.the_run.specs.Steps.{step}
use Rattle.the_run.specs.Worlds.{World, Place, Running, Stopped, place_at, links_of, script_of, happened, puts, arms, passed, stops_with, disk_of, acts, first_world}
use Rattle.the_run.specs.Runs.{boots_as, run_in}
use Rattle.the_run.proofs.Events.{happened_keeps, acts_keeps, puts_same, puts_other}
use Rattle.the_run.proofs.Runs.{every_run}
use Rattle.run_laws.proofs.Walks.FirstWorld.{InCluster, first_places, first_there}

-- ---- places come and go with nothing ----

pub at_each : (s t : ℕ) (P : Type 0) → (s ≡ t → P) → (s ≢ t → P) → P
at_each s t P same other = (elim (s == t) as (λ b. (s == t) ≡ b → P) [
  | true ↦ λ e. same (equal e)
  | false ↦ λ e. other (λ f. unequal f e)
]) refl
  where
    equal : (s == t) ≡ true → s ≡ t
    equal e = grind (arith, nat_tests)

    unequal : s ≡ t → (s == t) ≡ false → ⊥
    unequal f e = grind (arith, nat_tests)

abbrev Has : ℕ → Bool → World → Type 0
Has t b w = is_some (place_at w t) ≡ b

puts_has : (t s : ℕ) (b : Bool) (old new : Place) (w : World) → place_at w s ≡ Some old → Has t b w → Has t b (puts s new w)
puts_has t s b old new w here h = at_each s t (Has t b (puts s new w))
    (λ e. ap is_some (ap (place_at (puts s new w)) (sym e) ∙ puts_same s new w) ∙ (sym (ap is_some (ap (place_at w) (sym e) ∙ here)) ∙ h))
    (λ ne. ap is_some (puts_other s t new w ne) ∙ h)

happened_has : (t : ℕ) (b : Bool) (n : ℕ) (ps : List Packet) (told : List Told) (change : World → World) (w : World) → Has t b w → Has t b (change w) → Has t b (happened n ps told change w)
happened_has t b n ps told change w h g = happened_keeps (Has t b) n ps told change w h (λ l. h) (λ i j k. g)

acts_has : (t : ℕ) (b : Bool) (n s : ℕ) (v : SiteView) (o : Outcome SiteView) (w : World) → place_at w s ≡ Some (Running v) → Has t b w → Has t b (acts n s v o w)
acts_has t b n s v o w here h = acts_keeps (Has t b) n s v o w
    (λ ps told place. happened_has t b n ps told (λ now. puts s place now) w h (puts_has t s b (Running v) place w here h))
    (λ ps told place a. happened_has t b n ps told (λ now. puts s place (arms a now)) w h (puts_has t s b (Running v) place w here h))
    (λ ps told d. happened_has t b n ps told (stops_with s d) w h (puts_has t s b (Running v) _ w here h))

as_has : (t : ℕ) (b : Bool) (n s : ℕ) (p : Place) (x : Booted) (w : World) → place_at w s ≡ Some p → Has t b w → Has t b (boots_as n s x w)
as_has t b n s p (Whole y None) w here h = happened_has t b n [] _ _ w h (puts_has t s b p _ w here h)
as_has t b n s p (Whole y (Some a)) w here h = happened_has t b n [] _ _ w h (puts_has t s b p _ w here h)
as_has t b n s p (CutOff y how) w here h = happened_has t b n [] _ _ w h (puts_has t s b p _ w here h)

has_kept : (c : Config) (t : ℕ) (b : Bool) → Kept c (Has t b)
has_kept c t b = record {
  steps = λ n s e v w here own h. acts_has t b n s v (step c s (links_of w s) v e) w here h;
  receives = λ n x v w here sent h. acts_has t b n x.packet.to v _ (passed x.number w) here h;
  passes = λ k w h. h;
  drops = λ k w h. h;
  recuts = λ xs w h. h;
  arming = λ a w h. h;
  voiding = λ n w h. happened_has t b n [] _ (λ now. now) w h h;
  budgets = λ n w h. happened_has t b n [] _ (λ now. now) w h h;
  pending = λ n w h. happened_has t b n [] _ (λ now. now) w h h;
  stopping = λ n s v w here h. happened_has t b n [] _ (stops_with s (disk_of v)) w h (puts_has t s b (Running v) _ w here h);
  booting = λ n s d w here h. as_has t b n s (Stopped d) (boots (script_of w s) d) w here h;
}

has_place : (c : Config) (lines : List ScheduleLine) (t : ℕ) → is_some (place_at (run_in c lines) t) ≡ is_some (place_at (first_world c) t)
has_place c lines t = every_run c (Has t (is_some (place_at (first_world c) t))) (has_kept c t (is_some (place_at (first_world c) t))) refl lines

-- ---- in every run ----

pub placed : (c : Config) (lines : List ScheduleLine) (t : ℕ) → InCluster c t → place_at (run_in c lines) t ≡ None → ⊥
placed c lines t own e = true_false (sym (has_place c lines t ∙ ap is_some (first_there c t own)) ∙ ap is_some e)
  where
    true_false : true ≡ false → ⊥
    true_false k = cc

pub place_within : (c : Config) (lines : List ScheduleLine) (t : ℕ) (p : Place) → place_at (run_in c lines) t ≡ Some p → t ≤ c.sites
place_within c lines t p e = by_first (place_at (first_world c) t) refl
  where
    true_false : true ≡ false → ⊥
    true_false k = cc

    by_first : (o : Option Place) → place_at (first_world c) t ≡ o → t ≤ c.sites
    by_first None f = absurd (true_false (sym (ap is_some e) ∙ (has_place c lines t ∙ ap is_some f)))
    by_first (Some q) f = first_places c (λ s p. s ≤ c.sites) (λ s own. own.1) t q f
