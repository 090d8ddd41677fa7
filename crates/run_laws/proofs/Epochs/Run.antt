-- In every run ids are known, rounds wait, and polls name their receiver.
use Rattle.std.proofs.lemmas.Bool.Decides.{nat_tests}
use Rattle.std.proofs.Common.{◌≡◌, ℕ, ◌+◌, ◌≤◌, ◌⊎◌, Bool, true, false, List, [], ◌∷◌, map, Option, Some, None, refl, sym, ◌∙◌, ap, subst, inl, inr, arith}
use Rattle.the_run.proofs.of_plain_facts.Options.{none_some, some_same}
use Rattle.the_run.proofs.of_plain_facts.Tests.{true_false}
use Rattle.locus_ids.specs.declared.ids.EpochId.{EpochId}
use Rattle.locus_ids.specs.declared.config.Config.{Config}
use Rattle.schedule_lines.specs.declared.line.ScheduleLine.{ScheduleLine}
use Rattle.trace_book.specs.declared.record.Record.TheVariants as says
use Rattle.wire_messages.specs.declared.packet.Packet.{Packet}
use Rattle.wire_messages.specs.declared.body.Body.{Body}
use Rattle.wire_messages.specs.declared.body.Body.TheVariants as body
use Rattle.the_run.specs.of_role_steps.Own.{Every}
use Rattle.the_run.specs.of_role_steps.Views.{SiteView, Told, Shown, Outcome, Event, Calls, Receives, Ticks, Parts, Merges, GivesUp, boot_in}
use Rattle.the_run.specs.of_role_steps.declared.rounds.InEpoch.{InEpoch}
use Rattle.the_run.specs.of_role_steps.declared.rounds.Round.{Round}
use Rattle.the_run.specs.of_role_steps.declared.synchronizing.SyncTable.{SyncTable}
use Rattle.the_run.proofs.of_role_steps.Sending.{every_append}
use Rattle.the_run.specs.Disks.{Disk, Booted, Whole, CutOff, boots, cut_disk}
use Rattle.the_run.specs.Joins.{IsAtMost}
use Rattle.the_run.specs.Kept.{WasSent, IsOwn, Kept}
use Rattle.the_run.specs.Laws.{boot_on}
use Rattle.the_run.specs.Steps.{step}
use Rattle.the_run.specs.Worlds.{World, Place, Running, Stopped, Numbered, number_of, place_at, boot_of, is_cut, link_of, links_of, script_of, happened, numbered_from, disk_of, puts, arms, passed, stops_with, cut_told, cause_of, acts, fresh, formatted, first_world, no_epoch}
use Rattle.the_run.specs.Runs.{boots_as, packet_record, run_in}
use Rattle.the_run.proofs.Boots.{at_each, puts_rises, Reached, boots_reached, acts_cases, every_newest, every_numbered, every_weaker}
use Rattle.the_run.proofs.Events.{happened_keeps, puts_other, puts_same}
use Rattle.the_run.proofs.InsideSync.{every_without}
use Rattle.the_run.proofs.Joining.{same_at_most}
use Rattle.the_run.proofs.Runs.{every_run}
use Rattle.run_laws.proofs.Run.{found_among}
use Rattle.run_laws.proofs.Walks.FirstWorld.{first_views}
use Rattle.run_laws.specs.Epochs.Forming.{TableFormless}
use Rattle.run_laws.specs.Epochs.Known.{Places, boots_on, IsKnown, NamesKnown, IdsAreKnown, IsOwnRound, RoundsWait, NamesReceiver, PollsNameTheirReceiver, FormFact, PacketFact, NumberedFact, ViewFact, Good}
use Rattle.run_laws.proofs.Epochs.Boots.{at_most_trans, boots_bounded, cond_at_most}
use Rattle.run_laws.proofs.Epochs.Parts.{Ids, Now, SentFact, Site, Fine}
use Rattle.run_laws.proofs.Epochs.Steps.{EventFact, Missing, step_fine, step_missing}

-- ---- what stays known ----

-- a site that runs has run in that boot before and has promised no more then, or it has booted since
abbrev pub WentOn : Places → ℕ → SiteView → Type 0
WentOn at s v = ((u : SiteView) × (at s ≡ Some (Running u)) × (u.boot ≡ v.boot) × IsAtMost u.promised v.promised) ⊎ (boots_on at s + 1 ≤ v.boot)

pub record Later (at now : Places) : Type 0 where
  pub boots : (s : ℕ) → boots_on at s ≤ boots_on now s
  pub went : (s : ℕ) (v : SiteView) → now s ≡ Some (Running v) → WentOn at s v

pub known_later : (at now : Places) (id : EpochId) → Later at now → IsKnown at id → IsKnown now id
known_later at now id l k = record {
  had = (let a : boots_on at id.site ≤ boots_on now id.site = l.boots id.site in let b : id.boot ≤ boots_on at id.site = k.had in omega (arith, a, b));
  risen = λ v here same. by_case v same (l.went id.site v here);
}
  where
    by_case : (v : SiteView) → v.boot ≡ id.boot → WentOn at id.site v → IsAtMost id v.promised
    by_case v same (inl g) = at_most_trans id g.0.promised v.promised (k.risen g.0 g.1 (g.2 ∙ same)) g.3
    by_case v same (inr g) = absurd (let b : id.boot ≤ boots_on at id.site = k.had in omega (arith, g, same, b))

own_later : (a b : ℕ → ℕ) (s : ℕ) (v : SiteView) (r : Round) → ((t : ℕ) → a t ≤ b t) → IsOwnRound a s v r → IsOwnRound b s v r
own_later a b s v r h o = record { promised = o.promised; site = o.site; boot = o.boot; joins_later = o.joins_later; others = o.others; had = λ t. (let x : a t ≤ b t = h t in let y : boot_in r.polled.boot t ≤ a t = o.had t in omega (arith, x, y)) }

form_later : (a b : ℕ → ℕ) (p : Packet) (x : Body) → ((t : ℕ) → a t ≤ b t) → FormFact a p x → FormFact b p x
form_later a b p body.Poll h k = record { site = k.site; boot = k.boot; had = (let i : a p.to ≤ b p.to = h p.to in let j : p.to_boot ≤ a p.to = k.had in omega (arith, i, j)) }
form_later a b p (body.Refuse theirs) h k = k
form_later a b p _ h k = tt

view_later : (at now : Places) (s : ℕ) (v : SiteView) → Later at now → ViewFact at s v → ViewFact now s v
view_later at now s v l h = record { known = known_later at now v.promised l h.known; round = λ r e. own_later (boots_on at) (boots_on now) s v r l.boots (h.round r e); missing = h.missing; inside = h.inside; tables = h.tables; booted = h.booted }

packets_later : (at now : Places) (xs : List Numbered) → Later at now → Every (NumberedFact at) xs → Every (NumberedFact now) xs
packets_later at now xs l h = every_weaker (NumberedFact at) (NumberedFact now) xs (λ x k. (known_later at now x.packet.epoch l k.0, form_later (boots_on at) (boots_on now) x.packet x.packet.body l.boots k.1)) h

pub same_later : (at : Places) → Later at at
same_later at = record { boots = λ s. omega arith; went = λ s v here. inl (v, here, refl, same_at_most v.promised) }

-- ---- one event ----

happened_good : (n : ℕ) (ps : List Packet) (told : List Told) (change : World → World) (w : World) → Later (place_at w) (place_at (change w)) → ((s : ℕ) (v : SiteView) → place_at (change w) s ≡ Some (Running v) → ViewFact (place_at (change w)) s v) →
    (change w).sent ≡ w.sent → (change w).underway ≡ w.underway → Every (PacketFact (place_at (change w))) ps → Good w → Good (happened n ps told change w)
happened_good n ps told change w later views sent underway new g =
    happened_keeps Good n ps told change w g
    (λ l. record { packets = g.packets; underway = g.underway; views = g.views })
    (λ k b t. record {
      packets = every_newest F (numbered_from (w.packets + 1) ps) (change w).sent added (subst (λ (xs : List Numbered). Every F xs) (sym sent) (packets_later (place_at w) (place_at (change w)) w.sent later g.packets));
      underway = every_append F (change w).underway (numbered_from (w.packets + 1) ps) (subst (λ (xs : List Numbered). Every F xs) (sym underway) (packets_later (place_at w) (place_at (change w)) w.underway later g.underway)) added;
      views = views;
    })
  where
    F : Numbered → Type 0
    F = NumberedFact (place_at (change w))

    added : Every F (numbered_from (w.packets + 1) ps)
    added = every_numbered (PacketFact (place_at (change w))) (w.packets + 1) ps new

-- an event of the world itself, which changes no place
told_good : (n : ℕ) (told : List Told) (w : World) → Good w → Good (happened n [] told (λ now. now) w)
told_good n told w g = happened_good n [] told (λ now. now) w (same_later (place_at w)) g.views refl refl tt g

-- ---- one place ----

pub running_view : (v u : SiteView) → Running v ≡ Running u → v ≡ u
running_view v u e = cc

pub stopped_never : (d : Disk) (v : SiteView) → Stopped d ≡ Running v → ⊥
stopped_never d v e = cc

pub place_there : (s : ℕ) (new : Place) (w : World) (u : SiteView) → place_at (puts s new w) s ≡ Some (Running u) → new ≡ Running u
place_there s new w u h = some_same new (Running u) (sym (puts_same s new w) ∙ h)

-- one place changed, and how its site went on
pub puts_later : (s : ℕ) (old new : Place) (w : World) → place_at w s ≡ Some old → boot_on (Some old) ≤ boot_on (Some new) → ((v : SiteView) → new ≡ Running v → WentOn (place_at w) s v) → Later (place_at w) (place_at (puts s new w))
puts_later s old new w here le went = record {
  boots = puts_rises s old new w here le;
  went = λ t v h. at_each s t (WentOn (place_at w) t v)
      (λ e. subst (λ (y : ℕ). WentOn (place_at w) y v) e (went v (place_there s new w v (ap (place_at (puts s new w)) e ∙ h))))
      (λ ne. inl (v, sym (puts_other s t new w ne) ∙ h, refl, same_at_most v.promised));
}

pub puts_views : (s : ℕ) (new : Place) (w : World) → Later (place_at w) (place_at (puts s new w)) → Good w → ((v : SiteView) → new ≡ Running v → ViewFact (place_at (puts s new w)) s v) →
    (t : ℕ) (v : SiteView) → place_at (puts s new w) t ≡ Some (Running v) → ViewFact (place_at (puts s new w)) t v
puts_views s new w later g fine t v h = at_each s t (ViewFact (place_at (puts s new w)) t v)
    (λ e. subst (λ (y : ℕ). ViewFact (place_at (puts s new w)) y v) e (fine v (place_there s new w v (ap (place_at (puts s new w)) e ∙ h))))
    (λ ne. view_later (place_at w) (place_at (puts s new w)) t v later (g.views t v (sym (puts_other s t new w ne) ∙ h)))

-- ---- a stop, a step and a boot ----

stops_good : (n s : ℕ) (old : Place) (d : Disk) (told : List Told) (w : World) → place_at w s ≡ Some old → boot_on (Some old) ≤ d.label.boot → Good w → Good (happened n [] told (stops_with s d) w)
stops_good n s old d told w here le g = happened_good n [] told (stops_with s d) w later (puts_views s (Stopped d) w later g (λ v e. absurd (stopped_never d v e))) refl refl tt g
  where
    later : Later (place_at w) (place_at (puts s (Stopped d) w))
    later = puts_later s old (Stopped d) w here le (λ v e. absurd (stopped_never d v e))

acts_good : (n s : ℕ) (v : SiteView) (o : Outcome SiteView) (w : World) → place_at w s ≡ Some (Running v) → Fine (IsKnown (place_at w)) (boots_on (place_at w)) s v.boot v.promised o → Missing o.view → Good w → Good (acts n s v o w)
acts_good n s v o w here f missing g =
    acts_cases Good n s v o w
    (happened_good n o.sent o.told (λ now. puts s (Running o.view) now) w later views refl refl sent g)
    (λ a. happened_good n o.sent o.told (λ now. puts s (Running o.view) (arms a now)) w later views refl refl sent g)
    (λ d a e. stops_good n s (Running v) (cut_disk v.boot v.store d a.how a.left) (cut_told s v.store d a.how a.left) w here (omega arith) g)
  where
    now : Places
    now = place_at (puts s (Running o.view) w)

    boot_is : o.view.boot ≡ v.boot
    boot_is = f.view.boot_is

    later : Later (place_at w) now
    later = puts_later s (Running v) (Running o.view) w here (omega (arith, boot_is))
        (λ u e. subst (λ (y : SiteView). WentOn (place_at w) s y) (running_view o.view u e) (inl (v, here, sym boot_is, f.rises)))

    booted : boots_on now s ≡ v.boot
    booted = ap boot_on (puts_same s (Running o.view) w) ∙ boot_is

    known : (id : EpochId) → Now (IsKnown (place_at w)) s v.boot o.view.promised id → IsKnown now id
    known id (inl k) = known_later (place_at w) now id later k
    known id (inr k) = record {
      had = (let a : boots_on now id.site ≡ v.boot = ap (boots_on now) k.0 ∙ booted in let b : id.boot ≡ v.boot = k.1 in omega (arith, a, b));
      risen = λ u h same. subst (λ (y : SiteView). IsAtMost id y.promised) (running_view o.view u (place_there s (Running o.view) w u (ap now (sym k.0) ∙ h))) k.2;
    }

    mine : ViewFact now s o.view
    mine = record {
      known = known o.view.promised f.view.known;
      round = λ r e. own_later (boots_on (place_at w)) (boots_on now) s o.view r later.boots (f.view.round r e);
      missing = missing;
      inside = f.view.inside;
      tables = f.view.tables;
      booted = (let b : 1 ≤ v.boot = (g.views s v here).booted in omega (arith, b, boot_is));
    }

    views : (t : ℕ) (u : SiteView) → now t ≡ Some (Running u) → ViewFact now t u
    views = puts_views s (Running o.view) w later g (λ u e. subst (λ (y : SiteView). ViewFact now s y) (running_view o.view u e) mine)

    sent : Every (PacketFact now) o.sent
    sent = every_weaker (SentFact (IsKnown (place_at w)) (boots_on (place_at w)) s v.boot o.view.promised) (PacketFact now) o.sent
        (λ p k. (known p.epoch k.0, form_later (boots_on (place_at w)) (boots_on now) p p.body later.boots k.1)) f.sent

at_most_first : (id : EpochId) → IsAtMost no_epoch id
at_most_first id = grind (arith, nat_tests)

fresh_fact : (at : Places) (s : ℕ) (v : SiteView) → v.promised ≡ no_epoch → v.round ≡ None → v.epoch ≡ None → v.tables ≡ [] → 1 ≤ v.boot → ViewFact at s v
fresh_fact at s v p r e t b = record {
  known = subst (λ (id : EpochId). IsKnown at id) (sym p) (record { had = omega arith; risen = λ u h same. at_most_first u.promised });
  round = λ q h. absurd (none_some q (sym r ∙ h));
  missing = λ q h none. absurd (none_some q (sym r ∙ h));
  inside = λ x h. absurd (none_some x (sym e ∙ h));
  tables = subst (λ (ts : List SyncTable). Every TableFormless ts) (sym t) tt;
  booted = b;
}

boots_good : (n s : ℕ) (d x : Disk) (change : World → World) (w : World) → place_at w s ≡ Some (Stopped d) → d.label.boot + 1 ≤ x.label.boot → place_at (change w) ≡ place_at (puts s (Running (fresh x.label.boot x.copies)) w) → (change w).sent ≡ w.sent → (change w).underway ≡ w.underway → Good w →
    Good (happened n [] (Shown (says.Up s x.label.boot) ∷ []) change w)
boots_good n s d x change w here above same sent underway g =
    happened_good n [] (Shown (says.Up s x.label.boot) ∷ []) change w (subst (λ (at : Places). Later (place_at w) at) (sym same) later)
    (subst (λ (at : Places). (t : ℕ) (u : SiteView) → at t ≡ Some (Running u) → ViewFact at t u) (sym same) views) sent underway tt g
  where
    view : SiteView
    view = fresh x.label.boot x.copies

    later : Later (place_at w) (place_at (puts s (Running view) w))
    later = puts_later s (Stopped d) (Running view) w here (omega (arith, above)) (λ u e. inr (let a : boots_on (place_at w) s ≡ d.label.boot = ap boot_on here in let b : x.label.boot ≡ u.boot = ap (λ (y : SiteView). y.boot) (running_view view u e) in omega (arith, a, b, above)))

    views : (t : ℕ) (u : SiteView) → place_at (puts s (Running view) w) t ≡ Some (Running u) → ViewFact (place_at (puts s (Running view) w)) t u
    views = puts_views s (Running view) w later g (λ u e. subst (λ (y : SiteView). ViewFact (place_at (puts s (Running view) w)) s y) (running_view view u e) (fresh_fact _ s view refl refl refl refl (omega (arith, above))))

as_good : (n s : ℕ) (d : Disk) (b : Booted) (w : World) → place_at w s ≡ Some (Stopped d) → Reached d.label.boot (d.label.boot + 1) b → Good w → Good (boots_as n s b w)
as_good n s d (Whole x None) w here r g = boots_good n s d x _ w here r refl refl refl g
as_good n s d (Whole x (Some a)) w here r g = boots_good n s d x _ w here r refl refl refl g
as_good n s d (CutOff x how) w here r g = stops_good n s (Stopped d) x (Shown (says.Stopped s (cause_of how)) ∷ []) w here r g

-- ---- every event and change ----

link_had : (w : World) (s t : ℕ) → link_of w s t ≤ boots_on (place_at w) t
link_had w s t = cond_at_most (is_cut w s t) 0 (boot_of (place_at w t)) (boots_on (place_at w) t) (omega arith) (by_place (place_at w t))
  where
    by_place : (o : Option Place) → boot_of o ≤ boot_on o
    by_place None = omega arith
    by_place (Some (Running v)) = omega arith
    by_place (Some (Stopped d)) = omega arith

pub links_had : (w : World) (s t : ℕ) → boot_in (links_of w s).boot t ≤ boots_on (place_at w) t
links_had w s t = boots_bounded (link_of w s) (boots_on (place_at w)) (link_had w s) t

pub site_of : (w : World) (s : ℕ) (v : SiteView) → place_at w s ≡ Some (Running v) → Good w → Site (IsKnown (place_at w)) (boots_on (place_at w)) s v.boot v
site_of w s v here g = let h : ViewFact (place_at w) s v = g.views s v here in record { boot_is = refl; known = inl h.known; round = h.round; inside = h.inside; tables = h.tables }

pub was_sent : (w : World) (x : Numbered) → WasSent w x → Good w → NumberedFact (place_at w) x
was_sent w x (inl a) g = found_among (NumberedFact (place_at w)) x w.sent g.packets a
was_sent w x (inr a) g = found_among (NumberedFact (place_at w)) x w.underway g.underway a

pub own_event : (K : Ids) (bs : ℕ → ℕ) (e : Event) → IsOwn e → EventFact K bs e
own_event K bs (Calls process words) h = tt
own_event K bs (Receives p) h = absurd h
own_event K bs Ticks h = tt
own_event K bs Parts h = tt
own_event K bs Merges h = tt
own_event K bs GivesUp h = tt

passed_good : (k : ℕ) (w : World) → Good w → Good (passed k w)
passed_good k w g = record { packets = g.packets; underway = every_without (NumberedFact (place_at w)) number_of k w.underway g.underway; views = g.views }

steps_good : (c : Config) (n s : ℕ) (e : Event) (v : SiteView) (w : World) → place_at w s ≡ Some (Running v) → EventFact (IsKnown (place_at w)) (boots_on (place_at w)) e → Good w → Good (acts n s v (step c s (links_of w s) v e) w)
steps_good c n s e v w here fact g =
    acts_good n s v (step c s (links_of w s) v e) w here
    (step_fine (IsKnown (place_at w)) (boots_on (place_at w)) s v.boot c (links_of w s) v e (links_had w s) (site_of w s v here g) fact)
    (step_missing (IsKnown (place_at w)) (boots_on (place_at w)) s v.boot c (links_of w s) v e (links_had w s) (site_of w s v here g) fact (g.views s v here).missing) g

pub good_kept : (c : Config) → Kept c Good
good_kept c = record {
  steps = λ n s e v w here own g. steps_good c n s e v w here (own_event (IsKnown (place_at w)) (boots_on (place_at w)) e own) g;
  receives = λ n x v w here sent g. steps_good c n x.packet.to (Receives x.packet) v (passed x.number w) here (was_sent w x sent g) (passed_good x.number w g);
  passes = λ k w g. passed_good k w g;
  drops = λ k w g. (let p : Good (passed k w) = passed_good k w g in record { packets = p.packets; underway = p.underway; views = p.views });
  recuts = λ xs w g. record { packets = g.packets; underway = g.underway; views = g.views };
  arming = λ a w g. record { packets = g.packets; underway = g.underway; views = g.views };
  voiding = λ n w g. told_good n (Shown says.Void ∷ []) w g;
  budgets = λ n w g. told_good n (Shown says.Budget ∷ []) w g;
  pending = λ n w g. told_good n (map packet_record w.underway) w g;
  stopping = λ n s v w here g. stops_good n s (Running v) (disk_of v) _ w here (omega arith) g;
  booting = λ n s d w here g. as_good n s d (boots (script_of w s) d) w here (boots_reached (script_of w s) d) g;
}

-- ---- the first world ----

pub first_good : (c : Config) → Good (first_world c)
first_good c = record { packets = tt; underway = tt; views = first_views c (ViewFact (place_at (first_world c))) (λ s own. fresh_fact (place_at (first_world c)) s (fresh 1 (formatted c s)) refl refl refl refl (omega arith)) }

-- ---- the laws ----

pub run_good : (c : Config) (lines : List ScheduleLine) → Good (run_in c lines)
run_good c lines = every_run c Good (good_kept c) (first_good c) lines

pub run_known : (c : Config) (lines : List ScheduleLine) → IdsAreKnown (run_in c lines)
run_known c lines = let g : Good (run_in c lines) = run_good c lines in record { packets = every_weaker (NumberedFact (place_at (run_in c lines))) (NamesKnown (run_in c lines)) (run_in c lines).sent (λ x k. k.0) g.packets; promised = λ s v here. (g.views s v here).known }

pub run_names_receiver : (c : Config) (lines : List ScheduleLine) → PollsNameTheirReceiver (run_in c lines)
run_names_receiver c lines = let g : Good (run_in c lines) = run_good c lines in every_weaker (NumberedFact (place_at (run_in c lines))) (NamesReceiver (run_in c lines)) (run_in c lines).sent (λ x k. k.1) g.packets

is_outside : (o : Option InEpoch) (installed : Bool) → installed ≡ false → ((e : InEpoch) → o ≡ Some e → installed ≡ true) → o ≡ None
is_outside None installed h k = refl
is_outside (Some e) installed h k = absurd (true_false (sym (k e refl) ∙ h))

pub view_outside : (at : Places) (s : ℕ) (v : SiteView) → ViewFact at s v → v.installed ≡ false → v.epoch ≡ None
view_outside at s v h waits = is_outside v.epoch v.installed waits (λ e here. (h.inside e here).1)

pub run_waits : (c : Config) (lines : List ScheduleLine) → RoundsWait (run_in c lines)
run_waits c lines s v r here e =
    let h : ViewFact (place_at (run_in c lines)) s v = (run_good c lines).views s v here in
    record { own = h.round r e; outside = view_outside (place_at (run_in c lines)) s v h (h.round r e).joins_later; missing = h.missing r e }
