-- Line by line: what sites do keeps the numbers low.
use Rattle.std.proofs.Common.{◌≡◌, ◌≤◌, ℕ, ◌+◌, Bool, true, false, cond, List, [], ◌∷◌, length, map, Option, Some, None, refl, subst, arith}
use Rattle.locus_ids.specs.declared.config.Config.{Config}
use Rattle.schedule_lines.specs.declared.line.ScheduleLine.{ScheduleLine}
use Rattle.trace_book.specs.declared.record.Record.TheVariants as says
use Rattle.role_steps.specs.Own.{Every}
use Rattle.role_steps.specs.Views.{Calls, DiskWrite, Event, GivesUp, Merges, Outcome, Parts, Receives, Shown, SiteView, Ticks, Told}
use Rattle.role_steps.specs.declared.rounds.InEpoch.{InEpoch}
use Rattle.the_run.specs.Disks.{Armed, Booted, CutOff, Disk, Whole, boots, cut_disk, is_on_disk}
use Rattle.the_run.specs.Kept.{IsOwn, WasSent}
use Rattle.the_run.specs.Runs.{boots_as, packet_record, rearms}
use Rattle.the_run.specs.Steps.{step}
use Rattle.the_run.specs.Worlds.{Line, Numbered, Place, Running, World, acts, arms, cause_of, cut_told, disk_of, fresh, happened, links_of, loses, number_of, passed, place_at, puts, script_of, stops_with, told_onto}
use Rattle.the_run.proofs.Boots.{acts_cases, every_weaker}
use Rattle.the_run.proofs.Events.{puts_same}
use Rattle.the_run.proofs.InsideSync.{every_without}
use Rattle.tree_laws.specs.Serials.{opens_asked}
use Rattle.run_laws.specs.Naming.{DeedsOf}
use Rattle.rest_laws.specs.of_row_laws.ByLine.{KeptIn}
use Rattle.rest_laws.specs.of_row_laws.Events.{SiteTold, causes_of}
use Rattle.rest_laws.specs.of_row_laws.Inward.{RoleWrite}
use Rattle.rest_laws.specs.of_row_laws.Voids.{LinesFit}
use Rattle.rest_laws.proofs.of_row_laws.AskedRun.{Courses, courses_kept, own_given}
use Rattle.rest_laws.proofs.of_row_laws.Causes.{comes_own, sent_polls}
use Rattle.rest_laws.proofs.of_row_laws.StepForms.{step_forms}
use Rattle.rest_laws.specs.of_store_laws.OneTree.Places.{SiteIn, WorldFact}
use Rattle.rest_laws.specs.of_store_laws.OneTree.Rest.{AllRest, IsRest}
use Rattle.rest_laws.specs.of_store_laws.OneTree.Roles.{EventFact, RolesDo}
use Rattle.rest_laws.proofs.of_store_laws.OneTree.Run.{arrives_fact, event_fact}
use Rattle.rest_laws.proofs.of_store_laws.OneTree.Staying.{stays}
use Rattle.rest_laws.proofs.of_store_laws.OneTree.Steps.{DoesWith, step_fine}
use Rattle.tree_laws.specs.Doing.{WriteFact}
use Rattle.packet_laws.proofs.Fitting.CountsRun.{counts_low}
use Rattle.packet_laws.proofs.Fitting.FormingRun.{sent_comes}
use Rattle.packet_laws.proofs.Fitting.Lists.{Comes}
use Rattle.packet_laws.proofs.Values.Steps.{Done, Sent}
use Rattle.packet_laws.proofs.Formats.Run.{PacketsStand, kept_stand}
use Rattle.packet_laws.proofs.Formats.Standing.{EventStands, next_done, sent_stands}
use Rattle.packet_laws.proofs.Reaching.Lines.{EachLow, Still, all_own, all_still, site_own, up_low, version_still}
use Rattle.packet_laws.proofs.Reaching.Worlds.{IsNumbered, Meant, Reached, Then, happened_reached, underway_still}

-- ---- what a site has counted ----

site_counts : (c : Config) (s : ℕ) (t : List Line) (v : SiteView) (o : Option InEpoch) → SiteIn c s t v o → v.users.serials ≡ opens_asked c t s
site_counts c s t v None h = h.users.always.serials
site_counts c s t v (Some e) h = h.users.inside.always.serials

-- ---- an event of a site ----

-- what stands at a moment
record Now (c : Config) (w : World) : Type 0 where
  stand : PacketsStand c w
  reached : IsRest c w.trace → Reached c w

-- what an event brings
record Brings (c : Config) (w : World) (s : ℕ) (v : SiteView) (e : Event) : Type 0 where
  comes : Comes e
  stands : IsRest c w.trace → EventStands w.trace e
  fact : IsRest c w.trace → EventFact c w.trace s v e
  told : Every (SiteTold s (causes_of s (links_of w s) v e)) (step c s (links_of w s) v e).told
  written : RoleWrite (step c s (links_of w s) v e).written

stops_reached : (c : Config) (n s : ℕ) (d : Disk) (told : List Told) (w : World) → Every Still told → (IsRest c w.trace → Reached c w) → Then c (happened n [] told (stops_with s d) w)
stops_reached c n s d told w still g = happened_reached c n [] told (stops_with s d) w refl (λ low r new k. (tt, all_still c n told w.trace still k.lines)) g

says_reached : (c : Config) (n : ℕ) (told : List Told) (w : World) → (IsRest c w.trace → Every Still told) → (IsRest c w.trace → Reached c w) → Then c (happened n [] told (λ now. now) w)
says_reached c n told w still g = happened_reached c n [] told (λ now. now) w refl (λ low r new k. (tt, all_still c n told w.trace (still r) k.lines)) g

cut_still : (s : ℕ) (d : DiskWrite) (a : Armed) (b : Bool) → RoleWrite (Some d) → Every Still (cond b (Shown d.says ∷ Shown (says.Stopped s (cause_of a.how)) ∷ []) (Shown (says.Stopped s (cause_of a.how)) ∷ []))
cut_still s d a true h = (version_still d.says h, (tt, tt))
cut_still s d a false h = (tt, tt)

does : (c : Config) → RolesDo c → length c.packs ≤ 4 → (n s : ℕ) (e : Event) (v : SiteView) (w : World) → place_at w s ≡ Some (Running v) → Brings c w s v e → Now c w → Then c (acts n s v (step c s (links_of w s) v e) w)
does c roles few n s e v w here b now = acts_cases (Then c) n s v o w
    (happened_reached c n o.sent o.told (λ x. puts s (Running o.view) x) w refl (λ low r new k. both r new k (low s o.view (puts_same s (Running o.view) w)).serials) now.reached)
    (λ a. happened_reached c n o.sent o.told (λ x. puts s (Running o.view) (arms a x)) w refl (λ low r new k. both r new k (low s o.view (puts_same s (Running o.view) w)).serials) now.reached)
    (λ d a q. stops_reached c n s (cut_disk v.boot v.store d a.how a.left) (cut_told s v.store d a.how a.left) w (cut_still s d a (is_on_disk v.store d a.how a.left) (subst RoleWrite q b.written)) now.reached)
  where
    o : Outcome SiteView
    o = step c s (links_of w s) v e

    facts : IsRest c w.trace → WorldFact c w
    facts r = now.stand.holds r

    done : IsRest c w.trace → Done c v.epoch o
    done r = next_done c w (record { followed = (facts r).followed; rest = r }) few (facts r) now.stand.good (now.stand.values r (facts r).followed) s v here (counts_low w now.stand.calling s v here).calls e b.comes (b.stands r) (b.fact r)

    fine : IsRest c w.trace → AllRest c n w.trace o.told → DoesWith c n w.trace s (WriteFact c n w.trace s v.store) o
    fine r new = step_fine c roles (stays c) n s (links_of w s) w.trace v e (record { followed = (facts r).followed; rest = r }) ((facts r).places s (Running v) here) (b.fact r) new

    counted : IsRest c w.trace → AllRest c n w.trace o.told → o.view.users.serials ≤ 134479872 → opens_asked c (told_onto n o.told w.trace) s ≤ 134479872
    counted r new low = subst (λ (m : ℕ). m ≤ 134479872) (site_counts c s (told_onto n o.told w.trace) o.view o.view.epoch (fine r new).view) low

    both : IsRest c w.trace → AllRest c n w.trace o.told → Reached c w → o.view.users.serials ≤ 134479872 → Every Meant o.sent × EachLow c (told_onto n o.told w.trace)
    both r new k low = (
      every_weaker (Sent v.epoch) Meant o.sent (λ p q. q.to) (done r).sent,
      all_own c n s o.told w.trace (site_own c n s (causes_of s (links_of w s) v e) o.told w.trace b.told (fine r new).own) (counted r new low) k.lines,
    )

-- ---- boots ----

boot_underway : (a : Option Armed) (s : ℕ) (p : Place) (w : World) → (rearms s a (puts s p w)).underway ≡ w.underway
boot_underway None s p w = refl
boot_underway (Some a) s p w = refl

booted : (c : Config) (n s : ℕ) (b : Booted) (w : World) → (IsRest c w.trace → Reached c w) → Then c (boots_as n s b w)
booted c n s (Whole x a) w g =
    let new : Place = Running (fresh x.label.boot x.copies) in
    happened_reached c n [] (Shown (says.Up s x.label.boot) ∷ []) (λ now. rearms s a (puts s new now)) w (boot_underway a s new w) (λ low r rest k. (tt, up_low c n s x.label.boot w.trace k.lines)) g
booted c n s (CutOff x how) w g = stops_reached c n s x _ w (tt, tt) g

-- ---- packets that pass ----

pass_reached : (c : Config) (k : ℕ) (w : World) → (IsRest c w.trace → Reached c w) → IsRest c w.trace → Reached c (passed k w)
pass_reached c k w g r = (let h : Reached c w = g r in record { listed = every_without (IsNumbered w.packets) number_of k w.underway h.listed; lines = h.lines })

drop_reached : (c : Config) (k : ℕ) (w : World) → (IsRest c w.trace → Reached c w) → IsRest c w.trace → Reached c (loses k w)
drop_reached c k w g r = (let h : Reached c w = g r in record { listed = every_without (IsNumbered w.packets) number_of k w.underway h.listed; lines = h.lines })

-- ---- all lines ----

own_comes : (e : Event) → IsOwn e → Comes e
own_comes (Receives p) h = absurd h
own_comes (Calls process words) h = tt
own_comes Ticks h = tt
own_comes Parts h = tt
own_comes Merges h = tt
own_comes GivesUp h = tt

own_stands : (t : List Line) (e : Event) → IsOwn e → EventStands t e
own_stands t (Receives p) h = absurd h
own_stands t (Calls process words) h = tt
own_stands t Ticks h = tt
own_stands t Parts h = tt
own_stands t Merges h = tt
own_stands t GivesUp h = tt

pub record Walks (c : Config) (lines : List ScheduleLine) (n : ℕ) (w : World) : Type 0 where
  pub courses : Courses c lines n w
  pub stand : PacketsStand c w
  pub reached : IsRest c w.trace → Reached c w

module _ (c : Config) (lines : List ScheduleLine) (fit : LinesFit c lines) (roles : RolesDo c) (few : length c.packs ≤ 4) where
  on : KeptIn c lines (Courses c lines)
  on = courses_kept c lines

  st : KeptIn c lines (λ n w. PacketsStand c w)
  st = kept_stand c lines fit roles few

  now_of : (n : ℕ) (w : World) → Walks c lines n w → Now c w
  now_of n w g = record { stand = g.stand; reached = g.reached }

  own_brings : (n s : ℕ) (e : Event) (v : SiteView) (w : World) → place_at w s ≡ Some (Running v) → IsOwn e → (IsRest c w.trace → EventFact c w.trace s v e) → Courses c lines n w → Brings c w s v e
  own_brings n s e v w here own fact courses =
      let f = step_forms (DeedsOf w.trace s) s c (links_of w s) v e (courses.good.views s v here) (courses.course.places s (Running v) here).2 (comes_own e own) in
      record { comes = own_comes e own; stands = λ r. own_stands w.trace e own; fact = fact; told = f.told; written = f.written }

  sent_brings : (n : ℕ) (x : Numbered) (v : SiteView) (w : World) → place_at w x.packet.to ≡ Some (Running v) → WasSent w x → Walks c lines n w → Brings c (passed x.number w) x.packet.to v (Receives x.packet)
  sent_brings n x v w here sent g =
      let f = step_forms (DeedsOf w.trace x.packet.to) x.packet.to c (links_of (passed x.number w) x.packet.to) v (Receives x.packet) (g.courses.good.views x.packet.to v here) (g.courses.course.places x.packet.to (Running v) here).2 (sent_polls c lines n w x sent g.courses.course) in
      record {
        comes = sent_comes w x sent g.stand.good;
        stands = λ r. sent_stands c w (g.stand.values r (g.stand.holds r).followed) x sent;
        fact = λ r. (refl, arrives_fact c w x v (g.stand.holds r) sent here);
        told = f.told;
        written = f.written;
      }

  pub walks_kept : KeptIn c lines (Walks c lines)
  walks_kept = record {
    begins = λ n w le q g. record { courses = on.begins n w le q g.courses; stand = st.begins n w le q g.stand; reached = g.reached };
    ticks = λ n most s v w at here g. (let stand = st.ticks n most s v w at here g.stand in record {
      courses = on.ticks n most s v w at here g.courses;
      stand = stand;
      reached = does c roles few n s Ticks v w here (own_brings n s Ticks v w here tt (λ r. tt) g.courses) (now_of n w g) (counts_low _ stand.calling);
    });
    receives = λ n l x v w at d here sent g. (let stand = st.receives n l x v w at d here sent g.stand in record {
      courses = on.receives n l x v w at d here sent g.courses;
      stand = stand;
      reached = does c roles few n x.packet.to (Receives x.packet) v (passed x.number w) here (sent_brings n x v w here sent g) (record { stand = st.passes n x.number w g.stand; reached = pass_reached c x.number w g.reached }) (counts_low _ stand.calling);
    });
    passes = λ n k w g. record { courses = on.passes n k w g.courses; stand = st.passes n k w g.stand; reached = pass_reached c k w g.reached };
    drops = λ n k w g. record { courses = on.drops n k w g.courses; stand = st.drops n k w g.stand; reached = drop_reached c k w g.reached };
    budgets = λ n most w at g. (let stand = st.budgets n most w at g.stand in record { courses = on.budgets n most w at g.courses; stand = stand; reached = says_reached c n (Shown says.Budget ∷ []) w (λ r. (tt, tt)) g.reached (counts_low _ stand.calling) });
    voiding = λ n l w le at void g. (let stand = st.voiding n l w le at void g.stand in record { courses = on.voiding n l w le at void g.courses; stand = stand; reached = says_reached c (n + 1) (Shown says.Void ∷ []) w (λ r. (tt, tt)) g.reached (counts_low _ stand.calling) });
    steps = λ n s l e v w le at gives here g. (let stand = st.steps n s l e v w le at gives here g.stand in record {
      courses = on.steps n s l e v w le at gives here g.courses;
      stand = stand;
      reached = does c roles few (n + 1) s e v w here (own_brings n s e v w here (own_given w l s e gives) (λ r. event_fact c lines (n + 1) s l e v w fit at gives here) g.courses) (now_of n w g) (counts_low _ stand.calling);
    });
    cutting = λ n a b w le at cut g. record { courses = on.cutting n a b w le at cut g.courses; stand = st.cutting n a b w le at cut g.stand; reached = λ r. (let k : Reached c w = g.reached r in record { listed = k.listed; lines = k.lines }) };
    mending = λ n a b w le at cut g. record { courses = on.mending n a b w le at cut g.courses; stand = st.mending n a b w le at cut g.stand; reached = λ r. (let k : Reached c w = g.reached r in record { listed = k.listed; lines = k.lines }) };
    arming = λ n l a w le at it g. record { courses = on.arming n l a w le at it g.courses; stand = st.arming n l a w le at it g.stand; reached = λ r. (let k : Reached c w = g.reached r in record { listed = k.listed; lines = k.lines }) };
    pending = λ n w le at g. (let stand = st.pending n w le at g.stand in record {
      courses = on.pending n w le at g.courses;
      stand = stand;
      reached = says_reached c (n + 1) (map packet_record w.underway) w (λ r. underway_still c w (few_packets w g.stand) g.stand.good (g.reached r)) g.reached (counts_low _ stand.calling);
    });
    stopping = λ n s v w le at here g. (let stand = st.stopping n s v w le at here g.stand in record { courses = on.stopping n s v w le at here g.courses; stand = stand; reached = stops_reached c (n + 1) s (disk_of v) _ w (tt, tt) g.reached (counts_low _ stand.calling) });
    booting = λ n s d w le at here g. (let stand = st.booting n s d w le at here g.stand in record { courses = on.booting n s d w le at here g.courses; stand = stand; reached = booted c (n + 1) s (boots (script_of w s) d) w g.reached (counts_low _ stand.calling) });
  }
    where
      few_packets : (w : World) → PacketsStand c w → w.packets ≤ 134479872
      few_packets w stand = let room = stand.counts.room in omega (arith, room)
