-- A line by which a site starts, told by the records and told by the world; and lines of a block change no boot and no circuit.
use Rattle.std.proofs.Common.{◌≡◌, ℕ, ◌≤◌, Bool, true, false, cond, not, ◌&&◌, List, Option, Some, None, refl, sym, ◌∙◌, ap, subst, ◌⊎◌, inl, inr, arith}
use Rattle.std.specs.Option.{is_some}
use Rattle.std.proofs.lemmas.Bool.Decides.{nat_tests}
use Rattle.role_steps.proofs.of_plain_facts.Options.{none_some, some_same}
use Rattle.locus_ids.specs.declared.ids.EpochId.{EpochId}
use Rattle.locus_ids.specs.declared.sites.Links.{Links}
use Rattle.locus_ids.specs.declared.config.Config.{Config}
use Rattle.locus_ids.specs.Sizes.{sites_max}
use Rattle.schedule_lines.specs.declared.line.Line.TheVariants as line
use Rattle.schedule_lines.specs.declared.line.ScheduleLine.{ScheduleLine}
use Rattle.schedule_lines.specs.declared.line.ScheduleLine.TheVariants.{Passed, Event as EventLine}
use Rattle.schedule_lines.specs.Ranges.{is_site}
use Rattle.role_steps.specs.Own.{Every}
use Rattle.role_steps.specs.Views.{SiteView, DiskWrite, Outcome, Event, Parts, Merges}
use Rattle.role_steps.specs.declared.rounds.InEpoch.{InEpoch}
use Rattle.tree_model.specs.Epochs.{is_up, epoch_of}
use Rattle.lawful_trace.specs.Places.{starts_at}
use Rattle.the_run.specs.Steps.{step, epoch_id}
use Rattle.the_run.specs.Worlds.{World, Place, Running, Stopped, place_at, boot_of, links_of, puts, acts, acts_of, happens, happens_at}
use Rattle.the_run.specs.Runs.{is_stopped, is_in_no_epoch, unless_void, acts_line, run_in}
use Rattle.the_run.proofs.Events.{happened_keeps, puts_same, puts_other}
use Rattle.row_laws.specs.Shown.{trace_of}
use Rattle.row_laws.proofs.AskedRun.{run_courses}
use Rattle.run_laws.specs.Epochs.Forming.{TableFormless}
use Rattle.row_laws.specs.Orderly.Blocks.{StartsBy, IsInBlock, StartsNobody, asked_by_merge, asked_by_part}
use Rattle.row_laws.specs.Orderly.Rounded.{GoesOn, Decides}
use Rattle.row_laws.specs.Orderly.Settling.{boot_at}
use Rattle.row_laws.proofs.Orderly.StartTurn.{first_round, merges_unwritten, parts_unwritten, merge_begun, part_begun}
use Rattle.row_laws.specs.OrderlyRows.Fits.{FitsCluster}
use Rattle.row_laws.proofs.OrderlyRows.Placed.{placed, at_each}
use Rattle.row_laws.proofs.OrderlyRows.Reached.{running_up, running_epoch}

-- ---- starts ----

-- the line starts the site, as the world stands
pub record Begins (x : ScheduleLine) (w : World) (s : ℕ) : Type 0 where
  pub polled : Links
  pub inside : IsInBlock x w
  pub starts : StartsBy x w s polled

pub site_there : (sites s : ℕ) → is_site sites s ≡ true → (1 ≤ s) × ((s ≤ sites_max) × (s ≤ sites))
site_there sites s h = (low, (high, fits))
  where
    low : 1 ≤ s
    low = grind (arith, nat_tests)

    high : s ≤ sites_max
    high = grind (arith, nat_tests)

    fits : s ≤ sites
    fits = grind (arith, nat_tests)

has_place : (c : Config) (ls : List ScheduleLine) (s : ℕ) → is_site c.sites s ≡ true → place_at (run_in c ls) s ≡ None → ⊥
has_place c ls s h = (let k : (1 ≤ s) × ((s ≤ sites_max) × (s ≤ c.sites)) = site_there c.sites s h in placed c ls s ((k.0, k.1.0), k.1.1))

abbrev part_test : ℕ → Bool → Option EpochId → Option ℕ
part_test p up e = cond (up && is_some e) (Some p) None

abbrev merge_test : ℕ → Bool → Option ℕ
merge_test p up = cond up (Some p) None

stopped_down : (c : Config) (ls : List ScheduleLine) (p : ℕ) (d : _) → place_at (run_in c ls) p ≡ Some (Stopped d) → is_up c (trace_of (run_in c ls)) p ≡ false
stopped_down c ls p d here = ((run_courses c ls).course.places p (Stopped d) here).0

part_begins : (c : Config) (ls : List ScheduleLine) (p s : ℕ) → is_site c.sites p ≡ true → starts_at c (EventLine (line.Part p)) (trace_of (run_in c ls)) ≡ Some s → Begins (EventLine (line.Part p)) (run_in c ls) s
part_begins c ls p s fits h = by_place (place_at (run_in c ls) p) refl
  where
    by_epoch : (v : SiteView) → place_at (run_in c ls) p ≡ Some (Running v) → (o : Option InEpoch) → v.epoch ≡ o → part_test p true (epoch_id o) ≡ Some s → Begins (EventLine (line.Part p)) (run_in c ls) s
    by_epoch v here None e k = absurd (none_some s k)
    by_epoch v here (Some x) e k = record { polled = asked_by_part (run_in c ls) p; inside = ap is_in_no_epoch here ∙ ap (λ (o : Option InEpoch). not (is_some o)) e; starts = (sym (some_same p s k), refl) }

    by_place : (o : Option Place) → place_at (run_in c ls) p ≡ o → Begins (EventLine (line.Part p)) (run_in c ls) s
    by_place None e = absurd (has_place c ls p fits e)
    by_place (Some (Stopped d)) e = absurd (none_some s (sym (ap (λ (b : Bool). part_test p b (epoch_of (trace_of (run_in c ls)) p)) (stopped_down c ls p d e)) ∙ h))
    by_place (Some (Running v)) e = by_epoch v e v.epoch refl (sym (ap (λ (b : Bool). part_test p b (epoch_of (trace_of (run_in c ls)) p)) (running_up c ls p v e) ∙ ap (part_test p true) (running_epoch c ls p v e)) ∙ h)

merge_begins : (c : Config) (ls : List ScheduleLine) (p s : ℕ) → is_site c.sites p ≡ true → starts_at c (EventLine (line.Merge p)) (trace_of (run_in c ls)) ≡ Some s → Begins (EventLine (line.Merge p)) (run_in c ls) s
merge_begins c ls p s fits h = by_place (place_at (run_in c ls) p) refl
  where
    by_place : (o : Option Place) → place_at (run_in c ls) p ≡ o → Begins (EventLine (line.Merge p)) (run_in c ls) s
    by_place None e = absurd (has_place c ls p fits e)
    by_place (Some (Stopped d)) e = absurd (none_some s (sym (ap (merge_test p) (stopped_down c ls p d e)) ∙ h))
    by_place (Some (Running v)) e = record { polled = asked_by_merge (run_in c ls) p; inside = ap is_stopped e; starts = (sym (some_same p s (sym (ap (merge_test p) (running_up c ls p v e)) ∙ h)), refl) }

pub line_begins : (c : Config) (ls : List ScheduleLine) (x : ScheduleLine) (s : ℕ) → FitsCluster c.sites x → starts_at c x (trace_of (run_in c ls)) ≡ Some s → Begins x (run_in c ls) s
line_begins c ls (EventLine (line.Part p)) s fits h = part_begins c ls p s fits h
line_begins c ls (EventLine (line.Merge p)) s fits h = merge_begins c ls p s fits h
line_begins c ls _ s fits h = absurd (none_some s h)

-- nobody starts
pub line_starts_none : (c : Config) (ls : List ScheduleLine) (x : ScheduleLine) → starts_at c x (trace_of (run_in c ls)) ≡ None → StartsNobody x (run_in c ls)
line_starts_none c ls (EventLine (line.Part p)) h = by_place (place_at (run_in c ls) p) refl
  where
    by_epoch : (v : SiteView) → (o : Option InEpoch) → part_test p true (epoch_id o) ≡ None → not (is_some o) ≡ true
    by_epoch v None k = refl
    by_epoch v (Some x) k = absurd (none_some p (sym k))

    by_place : (o : Option Place) → place_at (run_in c ls) p ≡ o → is_in_no_epoch (place_at (run_in c ls) p) ≡ true
    by_place None e = ap is_in_no_epoch e
    by_place (Some (Stopped d)) e = ap is_in_no_epoch e
    by_place (Some (Running v)) e = ap is_in_no_epoch e ∙ by_epoch v v.epoch (sym (ap (λ (b : Bool). part_test p b (epoch_of (trace_of (run_in c ls)) p)) (running_up c ls p v e) ∙ ap (part_test p true) (running_epoch c ls p v e)) ∙ h)
line_starts_none c ls (EventLine (line.Merge p)) h = by_place (place_at (run_in c ls) p) refl
  where
    by_place : (o : Option Place) → place_at (run_in c ls) p ≡ o → is_stopped (place_at (run_in c ls) p) ≡ true
    by_place None e = ap is_stopped e
    by_place (Some (Stopped d)) e = ap is_stopped e
    by_place (Some (Running v)) e = absurd (none_some p (sym (sym (ap (merge_test p) (running_up c ls p v e)) ∙ h)))
line_starts_none c ls _ h = tt

pub starts_same : (x : ScheduleLine) (w : World) (X Y : ℕ) (P L : Links) → StartsBy x w X P → StartsBy x w Y L → X ≡ Y
starts_same (EventLine (line.Part p)) w X Y P L h g = h.0 ∙ sym g.0
starts_same (EventLine (line.Merge p)) w X Y P L h g = h.0 ∙ sym g.0
starts_same _ w X Y P L h g = absurd h

-- who starts runs, and is a site of the cluster
pub starter_runs : (x : ScheduleLine) (w : World) (sites X : ℕ) (P : Links) → FitsCluster sites x → IsInBlock x w → StartsBy x w X P → (is_site sites X ≡ true) × ((v : SiteView) × (place_at w X ≡ Some (Running v)))
starter_runs (EventLine (line.Part p)) w sites X P fits i h = subst (λ (y : ℕ). (is_site sites y ≡ true) × ((v : SiteView) × (place_at w y ≡ Some (Running v)))) (sym h.0) (fits, by_place (place_at w p) refl i)
  where
    by_place : (o : Option Place) → place_at w p ≡ o → is_in_no_epoch o ≡ false → (v : SiteView) × (place_at w p ≡ Some (Running v))
    by_place None e k = absurd (cc)
    by_place (Some (Stopped d)) e k = absurd (cc)
    by_place (Some (Running v)) e k = (v, e)
starter_runs (EventLine (line.Merge p)) w sites X P fits i h = subst (λ (y : ℕ). (is_site sites y ≡ true) × ((v : SiteView) × (place_at w y ≡ Some (Running v)))) (sym h.0) (fits, by_place (place_at w p) refl i)
  where
    by_place : (o : Option Place) → place_at w p ≡ o → is_stopped o ≡ false → (v : SiteView) × (place_at w p ≡ Some (Running v))
    by_place None e k = absurd (cc)
    by_place (Some (Stopped d)) e k = absurd (cc)
    by_place (Some (Running v)) e k = (v, e)
starter_runs _ w sites X P fits i h = absurd h

-- ---- a line of a block ----

pub record Unmoved (w u : World) : Type 0 where
  pub boots : (t : ℕ) → boot_at u t ≡ boot_at w t
  pub circuits : u.circuits ≡ w.circuits

pub unmoved : (w : World) → Unmoved w w
unmoved w = record { boots = λ t. refl; circuits = refl }

pub unmoved_then : (w u z : World) → Unmoved w u → Unmoved u z → Unmoved w z
unmoved_then w u z h g = record { boots = λ t. g.boots t ∙ h.boots t; circuits = g.circuits ∙ h.circuits }

puts_boots : (s t : ℕ) (v u : SiteView) (w : World) → place_at w s ≡ Some (Running v) → u.boot ≡ v.boot → boot_at (puts s (Running u) w) t ≡ boot_at w t
puts_boots s t v u w here e = at_each s t (boot_at (puts s (Running u) w) t ≡ boot_at w t)
    (λ k. ap boot_of (ap (place_at (puts s (Running u) w)) (sym k) ∙ puts_same s (Running u) w) ∙ (e ∙ sym (ap boot_of (ap (place_at w) (sym k) ∙ here))))
    (λ ne. ap boot_of (puts_other s t (Running u) w ne))

acts_unmoved : (n s : ℕ) (v : SiteView) (o : Outcome SiteView) (w : World) → place_at w s ≡ Some (Running v) → o.written ≡ None → o.view.boot ≡ v.boot → Unmoved w (acts n s v o w)
acts_unmoved n s v o w here unwritten e =
    subst (λ (u : World). Unmoved w u) (ap (λ (d : Option DiskWrite). acts_of n s v o d w) (sym unwritten))
    (happened_keeps (Unmoved w) n o.sent o.told (λ now. puts s (Running o.view) now) w (unmoved w) (λ l. record { boots = λ t. refl; circuits = refl }) (λ i j k. record { boots = λ t. puts_boots s t v o.view w here e; circuits = refl }))

begun_boot : (s : ℕ) (links : Links) (v : SiteView) (P : Links) (o : Outcome SiteView) → GoesOn links v (first_round s v P) o.view ⊎ Decides s links v (first_round s v P) o → o.view.boot ≡ v.boot
begun_boot s links v P o (inl g) = g.boot
begun_boot s links v P o (inr d) = d.boot

line_is : (c : Config) (n : ℕ) (w : World) (s : ℕ) (v : SiteView) (e : Event) (b : Bool) → b ≡ false → place_at w s ≡ Some (Running v) → unless_void n b (happens c n s e) w ≡ acts n s v (step c s (links_of w s) v e) w
line_is c n w s v e b off here = ap (λ (x : Bool). unless_void n x (happens c n s e) w) off ∙ ap (λ (o : Option Place). happens_at c n s e o w) here

part_unmoved : (c : Config) (n p : ℕ) (w : World) → ((s : ℕ) (v : SiteView) → place_at w s ≡ Some (Running v) → Every TableFormless v.tables) → is_in_no_epoch (place_at w p) ≡ false → Unmoved w (acts_line c n (EventLine (line.Part p)) w)
part_unmoved c n p w ok i = by_place (place_at w p) refl i
  where
    by_epoch : (v : SiteView) → place_at w p ≡ Some (Running v) → (o : Option InEpoch) → v.epoch ≡ o → not (is_some o) ≡ false → Unmoved w (acts_line c n (EventLine (line.Part p)) w)
    by_epoch v here None e k = absurd (cc)
    by_epoch v here (Some x) e k = subst (λ (u : World). Unmoved w u) (sym (line_is c n w p v Parts (is_in_no_epoch (place_at w p)) i here))
        (acts_unmoved n p v (step c p (links_of w p) v Parts) w here (parts_unwritten c p (links_of w p) v) (begun_boot p (links_of w p) v _ (step c p (links_of w p) v Parts) (part_begun c p (links_of w p) v x e (ok p v here)).ends))

    by_place : (o : Option Place) → place_at w p ≡ o → is_in_no_epoch o ≡ false → Unmoved w (acts_line c n (EventLine (line.Part p)) w)
    by_place None e k = absurd (cc)
    by_place (Some (Stopped d)) e k = absurd (cc)
    by_place (Some (Running v)) e k = by_epoch v e v.epoch refl k

merge_unmoved : (c : Config) (n p : ℕ) (w : World) → ((s : ℕ) (v : SiteView) → place_at w s ≡ Some (Running v) → Every TableFormless v.tables) → is_stopped (place_at w p) ≡ false → Unmoved w (acts_line c n (EventLine (line.Merge p)) w)
merge_unmoved c n p w ok i = by_place (place_at w p) refl i
  where
    by_place : (o : Option Place) → place_at w p ≡ o → is_stopped o ≡ false → Unmoved w (acts_line c n (EventLine (line.Merge p)) w)
    by_place None e k = absurd (cc)
    by_place (Some (Stopped d)) e k = absurd (cc)
    by_place (Some (Running v)) e k = subst (λ (u : World). Unmoved w u) (sym (line_is c n w p v Merges (is_stopped (place_at w p)) i e))
        (acts_unmoved n p v (step c p (links_of w p) v Merges) w e (merges_unwritten c p (links_of w p) v) (begun_boot p (links_of w p) v _ (step c p (links_of w p) v Merges) (merge_begun c p (links_of w p) v (ok p v e)).ends))

pub line_unmoved : (c : Config) (n : ℕ) (x : ScheduleLine) (w : World) → ((s : ℕ) (v : SiteView) → place_at w s ≡ Some (Running v) → Every TableFormless v.tables) → IsInBlock x w → Unmoved w (acts_line c n x w)
line_unmoved c n Passed w ok i = unmoved w
line_unmoved c n (EventLine (line.Part p)) w ok i = part_unmoved c n p w ok i
line_unmoved c n (EventLine (line.Merge p)) w ok i = merge_unmoved c n p w ok i
line_unmoved c n _ w ok i = absurd i
