-- After the ticks of a round each member has asked again for what it pulls.
use Rattle.std.proofs.Common.{List, Some, ap, arith, inl, ℕ, ◌≡◌, false}
use Rattle.calm_laws.proofs.Events.{Under}
use Rattle.calm_laws.proofs.Ticks.{sites_apart}
use Rattle.calm_laws.specs.Carrying.{IsMember, frame_of}
use Rattle.calm_laws.specs.Rounds.{IsCalm, after}
use Rattle.calm_laws.proofs.Convergence.Coming.{Ends}
use Rattle.calm_laws.proofs.Convergence.Noticing.{among_flat}
use Rattle.calm_laws.proofs.Convergence.PulledCarried.{next_among}
use Rattle.calm_laws.proofs.Convergence.Repeating.{HasTold, ticks_tell}
use Rattle.calm_laws.proofs.Convergence.Starting.{within_after}
use Rattle.run_laws.proofs.Epochs.Run.{run_good}
use Rattle.lawful_trace.specs.Places.{lines_before}
use Rattle.locus_ids.specs.declared.config.Config.{Config}
use Rattle.row_laws.proofs.Orderly.Formed.{among_left, among_right, order_has}
use Rattle.role_steps.specs.Epochs.{all_reports}
use Rattle.role_steps.specs.Pulling.{is_complete, next_asked, pull_packets, pull_repeats}
use Rattle.role_steps.specs.Requests.{users_repeats}
use Rattle.role_steps.specs.Storage.{store_repeats}
use Rattle.role_steps.specs.Views.{Frame, SiteView, all_sites, packet}
use Rattle.role_steps.specs.declared.pulls.Pull.{Pull}
use Rattle.role_steps.specs.declared.rounds.InEpoch.{InEpoch}
use Rattle.schedule_lines.specs.declared.line.ScheduleLine.{ScheduleLine}
use Rattle.the_run.specs.Kept.{Among}
use Rattle.the_run.specs.Runs.{run_in}
use Rattle.the_run.specs.Steps.{in_order, repeats_inside}
use Rattle.the_run.specs.Worlds.{Running, place_at}
use Rattle.wire_messages.specs.declared.packet.Packet.{Packet}

-- what a site asks again of its pulls
abbrev pull_asks : Frame → SiteView → List Packet
pull_asks f v = pull_repeats f v.pulls

asks_repeated : (f : Frame) (e : InEpoch) (a : SiteView) (q : Packet) → Among q (pull_asks f a) → Among q (repeats_inside f e a)
asks_repeated f e a q k = among_right q (in_order (all_reports f a)) _ (among_right q (users_repeats f a.users) _ (among_right q (in_order (store_repeats f a.store)) _ (among_left q (in_order (pull_repeats f a.pulls)) _ (order_has q (pull_asks f a) k))))

asks_ended : (f : Frame) (a b : SiteView) → Ends a b → pull_asks f b ≡ pull_asks f a
asks_ended f a b h = ap (λ (ps : List Pull). pull_repeats f ps) h.pulls

pub calm_asks : (c : Config) (lines : List ScheduleLine) (n : ℕ) (e : InEpoch) (k : ℕ) → IsCalm c lines n e k → (s : ℕ) → IsMember e s → (y : SiteView) → place_at (after c lines n 0) s ≡ Some (Running y) → (p : Pull) → Among p y.pulls → is_complete p ≡ false → Under (after c lines n 0).underway (packet (frame_of c e s) p.holder (next_asked p p.base p.wanted))
calm_asks c lines n e k calm s m y here p a unfinished = told y here (packet (frame_of c e s) p.holder (next_asked p p.base p.wanted)) (among_flat (pull_packets (frame_of c e s)) p (packet (frame_of c e s) p.holder (next_asked p p.base p.wanted)) y.pulls a (next_among (frame_of c e s) p unfinished))
  where
    told : HasTold pull_asks c e (after c lines n 0) s
    told = ticks_tell pull_asks asks_repeated asks_ended c e n all_sites (run_in c (lines_before lines n)) (run_good c (lines_before lines n)) sites_apart (λ z b q. calm.first.inside z q) (λ z b q. (calm.each 0 (omega arith)).inside z q) (within_after c lines n e k calm 0 (omega arith)) s m (inl (calm.sites s m))
