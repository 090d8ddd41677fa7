-- What each event of a site keeps of its view, and a fresh view has, each running site has in every run.
use Rattle.std.proofs.Common.{◌≡◌, ℕ, List, [], Option, Some, None, sym, ◌∙◌, ap, subst}
use Rattle.locus_ids.specs.declared.config.Config.{Config}
use Rattle.locus_ids.specs.declared.sites.Links.{Links}
use Rattle.wire_messages.specs.declared.packet.Packet.{Packet}
use Rattle.role_steps.specs.Views.{SiteView, Told, Outcome, Event, Receives}
use Rattle.role_steps.specs.declared.copies.FileCopy.{FileCopy}
use Rattle.the_run.specs.Disks.{Disk, Booted, Whole, CutOff, boots, cut_disk}
use Rattle.the_run.specs.Kept.{Kept}
use Rattle.the_run.specs.Steps.{step}
use Rattle.the_run.specs.Worlds.{World, Place, Running, Stopped, place_at, links_of, script_of, happened, puts, arms, passed, stops_with, disk_of, acts, fresh, formatted, first_world}
use Rattle.the_run.specs.Runs.{boots_as}
use Rattle.the_run.proofs.Boots.{at_each, acts_cases}
use Rattle.the_run.proofs.Events.{happened_keeps, puts_other, puts_same}
use Rattle.run_laws.proofs.Walks.FirstWorld.{first_views}

-- each running site's view is such
abbrev pub EachView : (SiteView → Type 0) → World → Type 0
EachView P w = (s : ℕ) (v : SiteView) → place_at w s ≡ Some (Running v) → P v

-- each event keeps it, and a site that boots has it
pub record KeepsViews (c : Config) (P : SiteView → Type 0) : Type 0 where
  pub steps : (me : ℕ) (links : Links) (v : SiteView) (e : Event) → P v → P (step c me links v e).view
  pub booted : (boot : ℕ) (copies : List FileCopy) → P (fresh boot copies)

-- ---- places ----

same_running : (v u : SiteView) → ◌≡◌ {A = Option Place} (Some (Running v)) (Some (Running u)) → v ≡ u
same_running v u e = cc

never_running : (d : Disk) (v : SiteView) → ◌≡◌ {A = Option Place} (Some (Stopped d)) (Some (Running v)) → ⊥
never_running d v e = cc

-- the site runs so from now on
runs_so : (P : SiteView → Type 0) → (s : ℕ) (u : SiteView) (w : World) → P u → EachView P w → EachView P (puts s (Running u) w)
runs_so P s u w h g t v here = at_each s t (P v)
    (λ e. subst P (same_running u v (sym (puts_same s (Running u) w) ∙ (ap (place_at (puts s (Running u) w)) e ∙ here))) h)
    (λ ne. g t v (sym (puts_other s t (Running u) w ne) ∙ here))

-- it stands stopped
stops_so : (P : SiteView → Type 0) → (s : ℕ) (d : Disk) (w : World) → EachView P w → EachView P (puts s (Stopped d) w)
stops_so P s d w g t v here = at_each s t (P v)
    (λ e. absurd (never_running d v (sym (puts_same s (Stopped d) w) ∙ (ap (place_at (puts s (Stopped d) w)) e ∙ here))))
    (λ ne. g t v (sym (puts_other s t (Stopped d) w ne) ∙ here))

-- ---- events ----

happened_so : (P : SiteView → Type 0) → (n : ℕ) (ps : List Packet) (told : List Told) (change : World → World) (w : World) → EachView P w → EachView P (change w) → EachView P (happened n ps told change w)
happened_so P n ps told change w h g = happened_keeps (EachView P) n ps told change w h (λ l. h) (λ k b t. g)

acts_so : (P : SiteView → Type 0) → (n s : ℕ) (v : SiteView) (o : Outcome SiteView) (w : World) → P o.view → EachView P w → EachView P (acts n s v o w)
acts_so P n s v o w h g =
    acts_cases (EachView P) n s v o w
    (happened_so P n o.sent o.told (λ now. puts s (Running o.view) now) w g (runs_so P s o.view w h g))
    (λ a. happened_so P n o.sent o.told (λ now. puts s (Running o.view) (arms a now)) w g (runs_so P s o.view (arms a w) h g))
    (λ d a e. happened_so P n [] _ (stops_with s (cut_disk v.boot v.store d a.how a.left)) w g (stops_so P s (cut_disk v.boot v.store d a.how a.left) w g))

boots_so : (P : SiteView → Type 0) (n s : ℕ) → ((boot : ℕ) (copies : List FileCopy) → P (fresh boot copies)) → (b : Booted) (w : World) → EachView P w → EachView P (boots_as n s b w)
boots_so P n s k (Whole d None) w g = happened_so P n [] _ _ w g (runs_so P s (fresh d.label.boot d.copies) w (k d.label.boot d.copies) g)
boots_so P n s k (Whole d (Some a)) w g = happened_so P n [] _ _ w g (runs_so P s (fresh d.label.boot d.copies) w (k d.label.boot d.copies) g)
boots_so P n s k (CutOff d how) w g = happened_so P n [] _ (stops_with s d) w g (stops_so P s d w g)

-- ---- every run ----

pub views_kept : (c : Config) (P : SiteView → Type 0) → KeepsViews c P → Kept c (EachView P)
views_kept c P k = record {
  steps = λ n s e v w here own g. acts_so P n s v (step c s (links_of w s) v e) w (k.steps s (links_of w s) v e (g s v here)) g;
  receives = λ n x v w here sent g. acts_so P n x.packet.to v (step c x.packet.to (links_of (passed x.number w) x.packet.to) v (Receives x.packet)) (passed x.number w) (k.steps x.packet.to (links_of (passed x.number w) x.packet.to) v (Receives x.packet) (g x.packet.to v here)) g;
  passes = λ j w g. g;
  drops = λ j w g. g;
  recuts = λ xs w g. g;
  arming = λ a w g. g;
  voiding = λ n w g. happened_so P n [] _ (λ now. now) w g g;
  budgets = λ n w g. happened_so P n [] _ (λ now. now) w g g;
  pending = λ n w g. happened_so P n [] _ (λ now. now) w g g;
  stopping = λ n s v w here g. happened_so P n [] _ (stops_with s (disk_of v)) w g (stops_so P s (disk_of v) w g);
  booting = λ n s d w here g. boots_so P n s k.booted (boots (script_of w s) d) w g;
}

pub views_first : (c : Config) (P : SiteView → Type 0) → KeepsViews c P → EachView P (first_world c)
views_first c P k = first_views c (λ s. P) (λ s own. k.booted 1 (formatted c s))
