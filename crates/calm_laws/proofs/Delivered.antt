-- A delivery as one event: what its site has then, what it sends and what is told of it; and what a member has by the one tree.
use Rattle.std.proofs.Common.{◌≡◌, ◌≢◌, ℕ, ◌⊎◌, false, List, [], ◌++◌, Option, Some, None, refl, sym, ◌∙◌, ap, subst, inl, inr}
use Rattle.role_steps.proofs.of_plain_facts.Tests.{true_false}
use Rattle.locus_ids.specs.declared.config.Config.{Config}
use Rattle.locus_ids.specs.declared.sites.Links.{Links}
use Rattle.schedule_lines.specs.declared.line.ScheduleLine.{ScheduleLine}
use Rattle.wire_messages.specs.declared.body.Body.{Body}
use Rattle.wire_messages.specs.declared.body.Body.TheVariants as body
use Rattle.wire_messages.specs.declared.packet.Packet.{Packet}
use Rattle.role_steps.specs.Epochs.{frame_in}
use Rattle.role_steps.specs.Views.{SiteView, Told, Outcome, Receives, boot_in, quiet}
use Rattle.role_steps.specs.declared.rounds.InEpoch.{InEpoch}
use Rattle.the_run.specs.Disks.{Disk, cut_disk}
use Rattle.the_run.specs.Kept.{Among}
use Rattle.the_run.specs.Runs.{arrives}
use Rattle.the_run.specs.Steps.{is_dropped, tries_at, ends_event, whole, step}
use Rattle.the_run.specs.Worlds.{World, Limit, Place, Running, Stopped, Numbered, place_at, links_of, told_onto, puts, arms, passed, stops_with, cut_told, runs_on, acts}
use Rattle.the_run.proofs.Boots.{acts_cases}
use Rattle.the_run.proofs.Events.{puts_same}
use Rattle.run_laws.specs.Epochs.Forming.{FormsNone}
use Rattle.run_laws.specs.Epochs.Known.{Good}
use Rattle.run_laws.proofs.Epochs.Run.{good_kept, first_good}
use Rattle.store_laws.specs.OneTree.Places.{WorldFact, InsideFact, SiteIn}
use Rattle.row_laws.specs.Orderly.Calm.{IsInside, AreTogether}
use Rattle.row_laws.specs.Orderly.Numbers.{NumbersAscend}
use Rattle.row_laws.proofs.Orderly.Formed.{among_left, among_right}
use Rattle.row_laws.proofs.Orderly.Numbers.{ascend_kept, first_ascends}
use Rattle.row_laws.proofs.Orderly.Places.{view_eq}
use Rattle.row_laws.proofs.Orderly.Rounds.{next_among, happened_cases}
use Rattle.calm_laws.specs.Carrying.{IsMember, frame_of, IsAllCarried}
use Rattle.calm_laws.specs.Rounds.{Delivery}
use Rattle.calm_laws.proofs.Ends.{After, whole_after, handles, step_is}
use Rattle.calm_laws.proofs.Events.{RunsOn, Moved, Under, acts_moved, arrives_cases, others_stay}
use Rattle.calm_laws.proofs.Handing.{Hands, all_handed}
use Rattle.calm_laws.proofs.Keeping.{KeepsRoles, roles_itself}
use Rattle.calm_laws.proofs.Members.{sync_is}
use Rattle.calm_laws.proofs.Rounds.{in_round}
use Rattle.calm_laws.proofs.Rows.{TriesNone}
use Rattle.calm_laws.proofs.Ticks.{no_round}

-- ---- a delivery as one event ----

some_limit : (l : Limit) → ◌≡◌ {A = Option Limit} (Some l) None → ⊥
some_limit l e = cc

-- the site runs on, and all that the event tells is told; or it has stopped in the event
acts_told : (n s : ℕ) (v : SiteView) (o : Outcome SiteView) (w : World) → (acts n s v o w).over ≡ None → ((acts n s v o w).trace ≡ told_onto n o.told w.trace) ⊎ ((d : Disk) × (place_at (acts n s v o w) s ≡ Some (Stopped d)))
acts_told n s v o w =
    acts_cases (λ u. u.over ≡ None → (u.trace ≡ told_onto n o.told w.trace) ⊎ ((d : Disk) × (place_at u s ≡ Some (Stopped d)))) n s v o w
    (runs (λ now. now))
    (λ a. runs (arms a))
    (λ d a e. happened_cases (λ u. u.over ≡ None → (u.trace ≡ told_onto n o.told w.trace) ⊎ ((d : Disk) × (place_at u s ≡ Some (Stopped d)))) n [] (cut_told s v.store d a.how a.left) (stops_with s (cut_disk v.boot v.store d a.how a.left)) w
    (λ l e k. absurd (some_limit l (sym e ∙ k)))
    (λ l k. absurd (some_limit l k))
    (λ k b t e h. inr (cut_disk v.boot v.store d a.how a.left, puts_same s (Stopped (cut_disk v.boot v.store d a.how a.left)) w)))
  where
    runs : (change : World → World) → (runs_on n s o change w).over ≡ None → ((runs_on n s o change w).trace ≡ told_onto n o.told w.trace) ⊎ ((d : Disk) × (place_at (runs_on n s o change w) s ≡ Some (Stopped d)))
    runs change =
        happened_cases (λ u. u.over ≡ None → (u.trace ≡ told_onto n o.told w.trace) ⊎ ((d : Disk) × (place_at u s ≡ Some (Stopped d)))) n o.sent o.told (λ now. puts s (Running o.view) (change now)) w
        (λ l e k. absurd (some_limit l (sym e ∙ k)))
        (λ l k. absurd (some_limit l k))
        (λ k b t e h. inl refl)

-- The member m takes the packet p in the world w, by what its handler does (o), and the world is u then.
pub record Takes (c : Config) (e : InEpoch) (n m : ℕ) (p : Packet) (v : SiteView) (o : Outcome SiteView) (w u : World) : Type 0 where
  pub end : Outcome SiteView
  pub after : After (frame_of c e m) o.view o.sent end
  pub told : (r : Told) → Among r o.told → Among r end.told
  pub trace : u.trace ≡ told_onto n end.told w.trace
  pub here : place_at u m ≡ Some (Running end.view)
  pub others : (t : ℕ) → m ≢ t → place_at u t ≡ place_at w t
  pub stays : (y : Numbered) → Among y w.underway → Among y u.underway ⊎ (y.packet ≡ p)
  pub sent : (q : Packet) → Among q end.sent → Under u.underway q

-- what a handler leaves of its site
pub record LeavesSite (v u : SiteView) : Type 0 where
  pub boot : u.boot ≡ v.boot
  pub round : u.round ≡ v.round
  pub epoch : u.epoch ≡ v.epoch

stopped_running : (d : Disk) (v : SiteView) → ◌≡◌ {A = Option Place} (Some (Stopped d)) (Some (Running v)) → ⊥
stopped_running d v e = cc

tries_quiet : (c : Config) (m : ℕ) (b : Body) (u : SiteView) → TriesNone b → tries_at c m b u ≡ quiet u
tries_quiet c m (body.Notify file kind set size stamp vector holder) u h = absurd h
tries_quiet c m (body.Page file stamp page bytes) u h = absurd h
tries_quiet c m (body.Delta file wanted pages) u h = absurd h
tries_quiet c m _ u h = refl

pub takes_event : (c : Config) (lines : List ScheduleLine) (n : ℕ) (e : InEpoch) (x : Numbered) (w : World) (d : Delivery c lines n e x w) → FormsNone x.packet.body → TriesNone x.packet.body → LeavesSite d.view (handles c e x.packet.to x.packet d.view).view →
    Takes c e n x.packet.to x.packet d.view (handles c e x.packet.to x.packet d.view) w (arrives c n x w)
takes_event c lines n e x w d forms tries h =
    arrives_cases (λ u. AreTogether u e → u.over ≡ None → Takes c e n m x.packet d.view o w u) c n x w takes (λ gone together within. absurd (true_false (sym (gone d.view d.here) ∙ d.taken)))
    d.after d.within
  where
    m : ℕ
    m = x.packet.to

    inside : IsInside w e m
    inside = d.before.inside m d.member

    is_view : inside.view ≡ d.view
    is_view = view_eq (place_at w m) inside.view d.view inside.here d.here

    epoch : d.view.epoch ≡ Some e
    epoch = ap (λ (y : SiteView). y.epoch) (sym is_view) ∙ inside.epoch

    boot : d.view.boot ≡ boot_in e.members.boot m
    boot = ap (λ (y : SiteView). y.boot) (sym is_view) ∙ inside.boot

    none : d.view.round ≡ None
    none = no_round w m d.view e (in_round c Good (good_kept c) (first_good c) lines n w d.round) d.here epoch

    o : Outcome SiteView
    o = handles c e m x.packet d.view

    is_step : (links : Links) → step c m links d.view (Receives x.packet) ≡ whole c m links o (tries_at c m x.packet.body)
    is_step links = step_is c e m links x.packet d.view forms epoch boot d.taken

    after : (links : Links) → After (frame_of c e m) o.view o.sent (step c m links d.view (Receives x.packet))
    after links =
        subst (λ (z : Outcome SiteView). After (frame_of c e m) o.view o.sent z) (sym (is_step links))
        (by_quiet (tries_at c m x.packet.body o.view) (tries_quiet c m x.packet.body o.view tries))
      where
        by_quiet : (a : Outcome SiteView) → tries_at c m x.packet.body o.view ≡ quiet o.view → After (frame_of c e m) o.view o.sent (whole c m links o (tries_at c m x.packet.body))
        by_quiet a q =
            subst (λ (b : ℕ). After (frame_in c m b e) o.view o.sent (whole c m links o (tries_at c m x.packet.body))) (ap (λ (z : Outcome SiteView). z.view.boot) q ∙ (h.boot ∙ boot))
            (whole_after c m links o (tries_at c m x.packet.body) e
            (ap (λ (z : Outcome SiteView). z.view.round) q ∙ (h.round ∙ none))
            (ap (λ (z : Outcome SiteView). z.view.epoch) q ∙ (h.epoch ∙ epoch))
            (subst (λ (z : Outcome SiteView). KeepsRoles o.view z.view) (sym q) (roles_itself o.view))
            (ap (λ (z : Outcome SiteView). z.view.users) q))

    told : (links : Links) (r : Told) → Among r o.told → Among r (step c m links d.view (Receives x.packet)).told
    told links r a = subst (λ (z : Outcome SiteView). Among r z.told) (sym (is_step links)) (among_right r tried.told (o.told ++ (ends_event c m links tried.view).told) (among_left r o.told (ends_event c m links tried.view).told a))
      where
        tried : Outcome SiteView
        tried = tries_at c m x.packet.body o.view

    takes : (v : SiteView) → place_at w m ≡ Some (Running v) → is_dropped x.packet v ≡ false → AreTogether (acts n m v (step c m (links_of (passed x.number w) m) v (Receives x.packet)) (passed x.number w)) e →
        (acts n m v (step c m (links_of (passed x.number w) m) v (Receives x.packet)) (passed x.number w)).over ≡ None → Takes c e n m x.packet d.view o w (acts n m v (step c m (links_of (passed x.number w) m) v (Receives x.packet)) (passed x.number w))
    takes v here taken = subst (λ (y : SiteView). AreTogether (acts n m y (step c m (links_of (passed x.number w) m) y (Receives x.packet)) (passed x.number w)) e → (acts n m y (step c m (links_of (passed x.number w) m) y (Receives x.packet)) (passed x.number w)).over ≡ None →
        Takes c e n m x.packet d.view o w (acts n m y (step c m (links_of (passed x.number w) m) y (Receives x.packet)) (passed x.number w))) (view_eq (place_at w m) d.view v d.here here) done
      where
        links : Links
        links = links_of (passed x.number w) m

        end : Outcome SiteView
        end = step c m links d.view (Receives x.packet)

        u : World
        u = acts n m d.view end (passed x.number w)

        done : AreTogether u e → u.over ≡ None → Takes c e n m x.packet d.view o w u
        done together within = by_run k.ran (acts_told n m d.view end (passed x.number w) within)
          where
            k : Moved n m end (passed x.number w) u
            k = acts_moved n m d.view end (passed x.number w) within

            runs : (s : Disk) → place_at u m ≡ Some (Stopped s) → ⊥
            runs s stop = (let i : IsInside u e m = together.inside m d.member in stopped_running s i.view (sym stop ∙ i.here))

            later : (y : Numbered) → Among y (passed x.number w).underway ⊎ (y.packet ≡ x.packet) → Among y u.underway ⊎ (y.packet ≡ x.packet)
            later y (inl a) = inl (k.stays y a)
            later y (inr is) = inr is

            by_run : RunsOn n m end (passed x.number w) u ⊎ ((s : Disk) × (place_at u m ≡ Some (Stopped s))) → (u.trace ≡ told_onto n end.told w.trace) ⊎ ((s : Disk) × (place_at u m ≡ Some (Stopped s))) → Takes c e n m x.packet d.view o w u
            by_run (inr stop) t = absurd (runs stop.0 stop.1)
            by_run (inl run) (inr stop) = absurd (runs stop.0 stop.1)
            by_run (inl run) (inl trace) = record {
              end = end;
              after = after links;
              told = told links;
              trace = trace;
              here = run.here;
              others = k.others;
              stays = λ y a. later y (others_stay x w (in_round c NumbersAscend (ascend_kept c) (first_ascends c) lines n w d.round) (next_among w w.over x d.next) y a);
              sent = run.sent;
            }

-- where the whole event hands on what was carried, all stays carried
pub event_row : (c : Config) (e : InEpoch) (n m : ℕ) (p : Packet) (v : SiteView) (o : Outcome SiteView) (w u : World) → place_at w m ≡ Some (Running v) → (t : Takes c e n m p v o w u) → Hands c e m (place_at w) (place_at u) p v t.end.view t.end.sent → IsAllCarried c e w → IsAllCarried c e u
event_row c e n m p v o w u here t hands old = all_handed c e m (place_at w) (place_at u) p v t.end.view t.end.sent w.underway u.underway hands (λ group css sync. (sync_is c e group css sync).1) here t.here t.others t.stays t.sent old

-- ---- the facts of a member ----

pub inside_fact : (c : Config) (e : InEpoch) (w : World) (s : ℕ) (v : SiteView) → WorldFact c w → AreTogether w e → IsMember e s → place_at w s ≡ Some (Running v) → InsideFact c (frame_of c e s) w.trace v
inside_fact c e w s v facts together member here = subst (λ (b : ℕ). InsideFact c (frame_in c s b e) w.trace v) (ap (λ (y : SiteView). y.boot) (sym is) ∙ inside.boot) (subst (λ (o : Option InEpoch). SiteIn c s w.trace v o) (ap (λ (y : SiteView). y.epoch) (sym is) ∙ inside.epoch) (facts.places s (Running v) here))
  where
    inside : IsInside w e s
    inside = together.inside s member

    is : inside.view ≡ v
    is = view_eq (place_at w s) inside.view v inside.here here
