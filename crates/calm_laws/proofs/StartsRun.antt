-- In each world of a round the groups start in time.
use Rattle.std.proofs.Common.{◌≡◌, ℕ, List, [], ◌∷◌, map, Option, Some, None, sym, ◌∙◌, ap, subst}
use Rattle.role_steps.proofs.of_plain_facts.Options.{some_same}
use Rattle.locus_ids.specs.declared.config.Config.{Config}
use Rattle.schedule_lines.specs.declared.line.ScheduleLine.{ScheduleLine}
use Rattle.trace_book.specs.declared.record.Record.TheVariants as says
use Rattle.trace_book.specs.declared.record.StopCause.TheVariants as cause
use Rattle.wire_messages.specs.declared.packet.Packet.{Packet}
use Rattle.role_steps.specs.Views.{SiteView, Told, Shown, Outcome, Receives}
use Rattle.role_steps.specs.declared.rounds.InEpoch.{InEpoch}
use Rattle.the_run.specs.Disks.{Disk, Booted, Whole, CutOff, boots, cut_disk}
use Rattle.the_run.specs.Kept.{Kept}
use Rattle.the_run.specs.Runs.{boots_as, packet_record}
use Rattle.the_run.specs.Steps.{step}
use Rattle.the_run.specs.Worlds.{World, Running, Stopped, links_of, place_at, script_of, happened, disk_of, puts, arms, passed, cut_told, stops_with, cause_of, acts, fresh, first_world}
use Rattle.the_run.proofs.Boots.{at_each, acts_cases}
use Rattle.the_run.proofs.Events.{happened_keeps, puts_other, puts_same}
use Rattle.run_laws.proofs.Walks.FirstWorld.{first_views}
use Rattle.calm_laws.specs.Calming.{GroupsStartInTime}
use Rattle.calm_laws.specs.Rounds.{IsInRound}
use Rattle.calm_laws.proofs.Rounds.{in_round}
use Rattle.calm_laws.proofs.Starting.{InTime, step_keeps}

abbrev ViewsStart : Config → World → Type 0
ViewsStart c w = (s : ℕ) (v : SiteView) → place_at w s ≡ Some (Running v) → InTime c v.epoch v.tables

-- ---- one event ----

happens : (c : Config) (n : ℕ) (ps : List Packet) (told : List Told) (change : World → World) (w : World) → ViewsStart c (change w) → ViewsStart c w → ViewsStart c (happened n ps told change w)
happens c n ps told change w views g = happened_keeps (ViewsStart c) n ps told change w g (λ l. g) (λ k b t. views)

running_view : (v u : SiteView) → Running v ≡ Running u → v ≡ u
running_view v u e = cc

stopped_never : (d : Disk) (v : SiteView) → Stopped d ≡ Running v → ⊥
stopped_never d v e = cc

puts_running : (c : Config) (s : ℕ) (new : SiteView) (w : World) → InTime c new.epoch new.tables → ViewsStart c w → ViewsStart c (puts s (Running new) w)
puts_running c s new w h g t v here = at_each s t (InTime c v.epoch v.tables)
    (λ e. subst (λ (u : SiteView). InTime c u.epoch u.tables) (running_view new v (some_same (Running new) (Running v) (sym (puts_same s (Running new) w) ∙ (ap (place_at (puts s (Running new) w)) e ∙ here)))) h)
    (λ ne. g t v (sym (puts_other s t (Running new) w ne) ∙ here))

puts_stopped : (c : Config) (s : ℕ) (d : Disk) (w : World) → ViewsStart c w → ViewsStart c (puts s (Stopped d) w)
puts_stopped c s d w g t v here = at_each s t (InTime c v.epoch v.tables)
    (λ e. absurd (stopped_never d v (some_same (Stopped d) (Running v) (sym (puts_same s (Stopped d) w) ∙ (ap (place_at (puts s (Stopped d) w)) e ∙ here)))))
    (λ ne. g t v (sym (puts_other s t (Stopped d) w ne) ∙ here))

acts_start : (c : Config) (n s : ℕ) (v : SiteView) (o : Outcome SiteView) (w : World) → InTime c o.view.epoch o.view.tables → ViewsStart c w → ViewsStart c (acts n s v o w)
acts_start c n s v o w h g =
    acts_cases (ViewsStart c) n s v o w
    (happens c n o.sent o.told (λ now. puts s (Running o.view) now) w (puts_running c s o.view w h g) g)
    (λ a. happens c n o.sent o.told (λ now. puts s (Running o.view) (arms a now)) w (puts_running c s o.view w h g) g)
    (λ d a e. happens c n [] (cut_told s v.store d a.how a.left) (stops_with s (cut_disk v.boot v.store d a.how a.left)) w (puts_stopped c s (cut_disk v.boot v.store d a.how a.left) w g) g)

boots_start : (c : Config) (n s : ℕ) (b : Booted) (w : World) → ViewsStart c w → ViewsStart c (boots_as n s b w)
boots_start c n s (Whole x None) w g = happens c n [] (Shown (says.Up s x.label.boot) ∷ []) _ w (λ t v at. puts_running c s (fresh x.label.boot x.copies) w tt g t v at) g
boots_start c n s (Whole x (Some a)) w g = happens c n [] (Shown (says.Up s x.label.boot) ∷ []) _ w (λ t v at. puts_running c s (fresh x.label.boot x.copies) w tt g t v at) g
boots_start c n s (CutOff x how) w g = happens c n [] (Shown (says.Stopped s (cause_of how)) ∷ []) (stops_with s x) w (puts_stopped c s x w g) g

start_run : (c : Config) → Kept c (ViewsStart c)
start_run c = record {
  steps = λ n s e v w here own g. acts_start c n s v (step c s (links_of w s) v e) w (step_keeps c s (links_of w s) v e (g s v here)) g;
  receives = λ n x v w here sent g. acts_start c n x.packet.to v (step c x.packet.to (links_of (passed x.number w) x.packet.to) v (Receives x.packet)) (passed x.number w) (step_keeps c x.packet.to (links_of (passed x.number w) x.packet.to) v (Receives x.packet) (g x.packet.to v here)) g;
  passes = λ k w g. g;
  drops = λ k w g. g;
  recuts = λ xs w g. g;
  arming = λ a w g. g;
  voiding = λ n w g. happens c n [] (Shown says.Void ∷ []) (λ now. now) w g g;
  budgets = λ n w g. happens c n [] (Shown says.Budget ∷ []) (λ now. now) w g g;
  pending = λ n w g. happens c n [] (map packet_record w.underway) (λ now. now) w g g;
  stopping = λ n s v w here g. happens c n [] (Shown (says.Stopped s cause.Asked) ∷ []) (stops_with s (disk_of v)) w (puts_stopped c s (disk_of v) w g) g;
  booting = λ n s d w here g. boots_start c n s (boots (script_of w s) d) w g;
}

-- ---- the first world ----

first_start : (c : Config) → ViewsStart c (first_world c)
first_start c = first_views c (λ s v. InTime c v.epoch v.tables) (λ s own. tt)

-- ---- in a round ----

pub groups_start : (c : Config) (lines : List ScheduleLine) (n : ℕ) (w : World) → IsInRound c lines n w → GroupsStartInTime c w
groups_start c lines n w round s v e here inside = subst (λ (o : Option InEpoch). InTime c o v.tables) inside (in_round c (ViewsStart c) (start_run c) (first_start c) lines n w round s v here)
