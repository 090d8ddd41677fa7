-- After the ticks of a calm round the request of each waiting call of a member is under way, and each report that isn't answered.
use Rattle.std.proofs.Common.{◌≡◌, ◌≢◌, ℕ, ◌==◌, ◌⊎◌, Bool, true, false, not, ◌&&◌, List, [], ◌∷◌, ◌++◌, Option, Some, None, refl, sym, ◌∙◌, ap, subst, inl, inr, arith}
use Rattle.std.proofs.lemmas.Bool.Decides.{nat_tests}
use Rattle.std.specs.List.{flat_map}
use Rattle.role_steps.proofs.of_plain_facts.Options.{none_some, some_same}
use Rattle.role_steps.proofs.of_plain_facts.Tests.{both_true, true_false}
use Rattle.locus_ids.specs.declared.config.Config.{Config}
use Rattle.locus_ids.specs.declared.sites.Links.{Links}
use Rattle.wire_messages.specs.declared.packet.Packet.{Packet}
use Rattle.role_steps.specs.Epochs.{frame_in, report_packets, all_reports, poll_repeats, install_repeats}
use Rattle.role_steps.specs.Requests.{request_packets, users_repeats}
use Rattle.role_steps.specs.Views.{Frame, SiteView, Outcome, Ticks, boot_in, all_sites}
use Rattle.role_steps.specs.declared.rounds.InEpoch.{InEpoch}
use Rattle.role_steps.specs.declared.rounds.Round.{Round}
use Rattle.role_steps.specs.declared.users.WaitingCall.{WaitingCall}
use Rattle.the_run.specs.Disks.{Disk}
use Rattle.the_run.specs.Kept.{Among}
use Rattle.the_run.specs.Runs.{ticks_to}
use Rattle.the_run.specs.Steps.{in_order, adopts_in, repeats_inside, repeats_of, repeats, ends_event, step}
use Rattle.the_run.specs.Worlds.{World, Place, Running, Stopped, Numbered, place_at, links_of, acts, happens, happens_at}
use Rattle.the_run.proofs.Boots.{at_each}
use Rattle.the_run.proofs.Growing.{acts_touches}
use Rattle.run_laws.specs.Epochs.Forming.{TableFormless, FormlessSite}
use Rattle.run_laws.specs.Epochs.Known.{Good}
use Rattle.run_laws.proofs.Epochs.Run.{good_kept}
use Rattle.run_laws.proofs.Epochs.Forms.{adopts_of_formless}
use Rattle.row_laws.specs.Orderly.Calm.{IsInside}
use Rattle.row_laws.proofs.Orderly.Blocks.{happened_within}
use Rattle.row_laws.proofs.Orderly.Formed.{among_left, among_right, order_has}
use Rattle.row_laws.proofs.Orderly.Places.{view_eq}
use Rattle.row_laws.proofs.Orderly.Rounds.{RoundKept, ticks_kept}
use Rattle.role_steps.specs.Own.{Every}
use Rattle.calm_laws.specs.Carrying.{IsMember, frame_of}
use Rattle.calm_laws.proofs.Calls.{IsSent, OnlyCalls}
use Rattle.calm_laws.proofs.Ends.{ends_calls}
use Rattle.calm_laws.proofs.Events.{Under, RunsOn, Moved, acts_moved}
use Rattle.calm_laws.proofs.Rounds.{round_kept}

-- ---- one tick ----

among_flat : {A B : Type 0} (g : A → List B) (x : A) (y : B) (xs : List A) → Among x xs → Among y (g x) → Among y (flat_map g xs)
among_flat g x y [] a b = absurd a
among_flat {B = B} g x y (z ∷ zs) (inl e) b = among_left y (g z) (flat_map g zs) (subst (λ (t : _). Among {A = B} y (g t)) e b)
among_flat g x y (z ∷ zs) (inr a) b = among_right y (g z) (flat_map g zs) (among_flat g x y zs a b)

-- a tick of a member sends all of its requests and reports
pub record Asks (c : Config) (e : InEpoch) (s : ℕ) (o : Outcome SiteView) : Type 0 where
  pub calls : (y : WaitingCall) → Among y o.view.users.waiting → IsSent (frame_of c e s) y o.sent
  pub reports : (g : ℕ) → Among g o.view.reports → (p : Packet) → Among p (report_packets (frame_of c e s) o.view g) → Among p o.sent

-- what a member sends again has both
repeated : (c : Config) (e : InEpoch) (s : ℕ) (a : SiteView) (q : Packet) → a.epoch ≡ Some e → a.boot ≡ boot_in e.members.boot s → Among q (all_reports (frame_of c e s) a) ⊎ Among q (users_repeats (frame_of c e s) a.users) → Among q (repeats c s a)
repeated c e s a q inside boot h = by_epoch a.epoch inside
  where
    in_frame : (f : Frame) → Among q (all_reports f a) ⊎ Among q (users_repeats f a.users) → Among q (repeats_inside f e a)
    in_frame f (inl k) = among_left q (in_order (all_reports f a)) _ (order_has q (all_reports f a) k)
    in_frame f (inr k) = among_right q (in_order (all_reports f a)) _ (among_left q (users_repeats f a.users) _ k)

    by_epoch : (o : Option InEpoch) → o ≡ Some e → Among q (repeats_of c s o a)
    by_epoch None k = absurd (none_some e k)
    by_epoch (Some d) k =
        subst (λ (i : InEpoch). Among q (repeats_of c s (Some i) a)) (sym (some_same d e k))
        (among_right q (in_order (poll_repeats s a a.round ++ install_repeats s a e)) (repeats_inside (frame_in c s a.boot e) e a)
        (subst (λ (b : ℕ). Among q (repeats_inside (frame_in c s b e) e a)) (sym boot) (in_frame (frame_of c e s) h)))

tick_asks : (c : Config) (e : InEpoch) (s : ℕ) (links : Links) (v : SiteView) → Every TableFormless v.tables → v.round ≡ None → v.epoch ≡ Some e → v.boot ≡ boot_in e.members.boot s → Asks c e s (step c s links v Ticks)
tick_asks c e s links v formless none inside boot = record {
  calls = λ y m. calls y (k.calls y m);
  reports = λ g m p n. sends p (inl (inl (reports g (subst (λ (x : SiteView). Among g x.reports) k.same m) p (subst (λ (x : SiteView). Among p (report_packets f x g)) k.same n))));
}
  where
    f : Frame
    f = frame_of c e s

    a : Outcome SiteView
    a = adopts_in c s v

    last : Outcome SiteView
    last = ends_event c s links a.view

    formed : FormlessSite v a
    formed = adopts_of_formless c s v.epoch v formless

    a_boot : a.view.boot ≡ boot_in e.members.boot s
    a_boot = formed.boot ∙ boot

    k : OnlyCalls f a.view last
    k = subst (λ (b : ℕ). OnlyCalls (frame_in c s b e) a.view last) a_boot (ends_calls c s links a.view e (formed.round ∙ none) (formed.epoch ∙ inside))

    sends : (q : Packet) → (Among q (all_reports f a.view) ⊎ Among q (users_repeats f a.view.users)) ⊎ Among q last.sent → Among q (step c s links v Ticks).sent
    sends q (inl h) = among_right q a.sent _ (among_left q (repeats c s a.view) (in_order last.sent) (repeated c e s a.view q (formed.epoch ∙ inside) a_boot h))
    sends q (inr h) = among_right q a.sent _ (among_right q (repeats c s a.view) (in_order last.sent) (order_has q last.sent h))

    calls : (y : WaitingCall) → Among y a.view.users.waiting ⊎ IsSent f y last.sent → IsSent f y (step c s links v Ticks).sent
    calls y (inl m) p n = sends p (inl (inr (among_flat (λ (w : WaitingCall). request_packets f w w.asking) y p a.view.users.waiting m n)))
    calls y (inr h) p n = sends p (inr (h p n))

    reports : (g : ℕ) → Among g a.view.reports → (p : Packet) → Among p (report_packets f a.view g) → Among p (all_reports f a.view)
    reports g m p n = among_flat (report_packets f a.view) g p a.view.reports m n

-- ---- in the world ----

pub record HasAsked (c : Config) (e : InEpoch) (w : World) (s : ℕ) : Type 0 where
  pub calls : (v : SiteView) (y : WaitingCall) → place_at w s ≡ Some (Running v) → Among y v.users.waiting → (p : Packet) → Among p (request_packets (frame_of c e s) y y.asking) → Under w.underway p
  pub reports : (v : SiteView) (g : ℕ) → place_at w s ≡ Some (Running v) → Among g v.reports → (p : Packet) → Among p (report_packets (frame_of c e s) v g) → Under w.underway p

under_later : (w u : World) (p : Packet) → ((y : Numbered) → Among y w.underway → Among y u.underway) → Under w.underway p → Under u.underway p
under_later w u p stays h = record { letter = h.letter; there = stays h.letter h.there; is = h.is }

asked_later : (c : Config) (e : InEpoch) (w u : World) (t : ℕ) → place_at u t ≡ place_at w t → ((y : Numbered) → Among y w.underway → Among y u.underway) → HasAsked c e w t → HasAsked c e u t
asked_later c e w u t same stays h = record {
  calls = λ v y here m p n. under_later w u p stays (h.calls v y (sym same ∙ here) m p n);
  reports = λ v g here m p n. under_later w u p stays (h.reports v g (sym same ∙ here) m p n);
}

stopped_running : (d : Disk) (v : SiteView) → ◌≡◌ {A = Option Place} (Some (Stopped d)) (Some (Running v)) → ⊥
stopped_running d v e = cc

none_running : (v : SiteView) → ◌≡◌ {A = Option Place} None (Some (Running v)) → ⊥
none_running v e = cc

-- what a tick leaves of this site and of each other
record Ticked (c : Config) (e : InEpoch) (s : ℕ) (w u : World) : Type 0 where
  own : IsMember e s → HasAsked c e u s
  others : (t : ℕ) → s ≢ t → HasAsked c e w t → HasAsked c e u t

-- in an epoch a site has no round
pub no_round : (w : World) (s : ℕ) (v : SiteView) (e : InEpoch) → Good w → place_at w s ≡ Some (Running v) → v.epoch ≡ Some e → v.round ≡ None
no_round w s v e good here inside = by_round v.round refl
  where
    false_true : false ≡ true → ⊥
    false_true q = cc

    by_round : (r : Option Round) → v.round ≡ r → r ≡ None
    by_round None h = refl
    by_round (Some r) h = absurd (false_true (sym ((good.views s v here).round r h).joins_later ∙ ((good.views s v here).inside e inside).1))

one_tick : (c : Config) (e : InEpoch) (n s : ℕ) (w : World) → Good w → (IsMember e s → IsInside w e s) → (IsMember e s → IsInside (happens c n s Ticks w) e s) → (happens c n s Ticks w).over ≡ None → Ticked c e s w (happens c n s Ticks w)
one_tick c e n s w good inside_before = by_place (place_at w s) refl
  where
    quiet_tick : ((v : SiteView) → place_at w s ≡ Some (Running v) → ⊥) → (IsMember e s → IsInside w e s) → w.over ≡ None → Ticked c e s w w
    quiet_tick never later within = record { own = λ m. (let k : IsInside w e s = inside_before m in absurd (never k.view k.here)); others = λ t ne h. h }

    by_place : (o : Option Place) → place_at w s ≡ o → (IsMember e s → IsInside (happens_at c n s Ticks o w) e s) → (happens_at c n s Ticks o w).over ≡ None → Ticked c e s w (happens_at c n s Ticks o w)
    by_place None here = quiet_tick (λ v h. none_running v (sym here ∙ h))
    by_place (Some (Stopped d)) here = quiet_tick (λ v h. stopped_running d v (sym here ∙ h))
    by_place (Some (Running v)) here = λ later within. running v here later within
      where
        running : (v : SiteView) → place_at w s ≡ Some (Running v) → (IsMember e s → IsInside (acts n s v (step c s (links_of w s) v Ticks) w) e s) → (acts n s v (step c s (links_of w s) v Ticks) w).over ≡ None → Ticked c e s w (acts n s v (step c s (links_of w s) v Ticks) w)
        running v here later within = record { own = λ m. over m k.ran; others = λ t ne h. asked_later c e w u t (k.others t ne) k.stays h }
          where
            o : Outcome SiteView
            o = step c s (links_of w s) v Ticks

            u : World
            u = acts n s v o w

            k : Moved n s o w u
            k = acts_moved n s v o w within

            over : IsMember e s → RunsOn n s o w u ⊎ ((d : Disk) × (place_at u s ≡ Some (Stopped d))) → HasAsked c e u s
            over m (inr stop) = (let i : IsInside u e s = later m in absurd (stopped_running stop.0 i.view (sym stop.1 ∙ i.here)))
            over m (inl run) =
                let i : IsInside w e s = inside_before m in
                let is_v : i.view ≡ v = view_eq (place_at w s) i.view v i.here here in
                let inside : v.epoch ≡ Some e = ap (λ (x : SiteView). x.epoch) (sym is_v) ∙ i.epoch in
                let asks : Asks c e s o = tick_asks c e s (links_of w s) v (good.views s v here).tables (no_round w s v e good here inside) inside (ap (λ (x : SiteView). x.boot) (sym is_v) ∙ i.boot) in
                record {
                  calls = λ z y there a p n. run.sent p (asks.calls y (subst (λ (x : SiteView). Among y x.users.waiting) (view_eq (place_at u s) z o.view there run.here) a) p n);
                  reports = λ z g there a p n. (let eq : z ≡ o.view = view_eq (place_at u s) z o.view there run.here in
                      run.sent p (asks.reports g (subst (λ (x : SiteView). Among g x.reports) eq a) p (subst (λ (x : SiteView). Among p (report_packets (frame_of c e s) x g)) eq n)));
                }

-- ---- limits ----

pub over_round : (c : Config) (n : ℕ) (first : World) → RoundKept c n (λ (u : World). u.over ≡ None → first.over ≡ None)
over_round c n first = record {
  ticks = λ s v w here p k. p (acts_moved n s v (step c s (links_of w s) v Ticks) w k).within;
  receives = λ x v w here a undropped p k. p (acts_moved n x.packet.to v _ _ k).within;
  drops = λ x w a dropped p k. p k;
  budgets = λ w p k. p (happened_within n [] _ (λ now. now) w k);
}

-- ---- all ticks ----

-- no site of the list stands twice in it
abbrev pub AreApart : List ℕ → Type 0
AreApart [] = Unit {0}
AreApart (s ∷ ss) = (Among s ss → ⊥) × AreApart ss

abbrev is_fresh : ℕ → List ℕ → Bool
is_fresh s [] = true
is_fresh s (t ∷ ts) = not (s == t) && is_fresh s ts

abbrev are_fresh : List ℕ → Bool
are_fresh [] = true
are_fresh (s ∷ ss) = is_fresh s ss && are_fresh ss

fresh_apart : (s : ℕ) (ss : List ℕ) → is_fresh s ss ≡ true → Among s ss → ⊥
fresh_apart s [] h a = a
fresh_apart s (t ∷ ts) h (inl e) = true_false (sym (both_true (not (s == t)) (is_fresh s ts) h).0 ∙ ap not (equal s t e))
  where
    equal : (i j : ℕ) → i ≡ j → (i == j) ≡ true
    equal i j e = grind (arith, nat_tests)
fresh_apart s (t ∷ ts) h (inr a) = fresh_apart s ts (both_true (not (s == t)) (is_fresh s ts) h).1 a

apart_by : (ss : List ℕ) → are_fresh ss ≡ true → AreApart ss
apart_by [] h = tt
apart_by (s ∷ ss) h = (let k : (is_fresh s ss ≡ true) × (are_fresh ss ≡ true) = both_true (is_fresh s ss) (are_fresh ss) h in (fresh_apart s ss k.0, apart_by ss k.1))

pub sites_apart : AreApart all_sites
sites_apart = apart_by all_sites refl

-- a tick touches no other site
tick_touches : (c : Config) (n s t : ℕ) (w : World) → (s ≡ t → ⊥) → place_at (happens c n s Ticks w) t ≡ place_at w t
tick_touches c n s t w ne = by_place (place_at w s)
  where
    by_place : (o : Option Place) → place_at (happens_at c n s Ticks o w) t ≡ place_at w t
    by_place None = refl
    by_place (Some (Stopped d)) = refl
    by_place (Some (Running v)) = (acts_touches n s v (step c s (links_of w s) v Ticks) w).others t ne

ticks_touch : (c : Config) (n : ℕ) (ss : List ℕ) (t : ℕ) (w : World) → (Among t ss → ⊥) → place_at (ticks_to c n ss w) t ≡ place_at w t
ticks_touch c n [] t w none = refl
ticks_touch c n (s ∷ ss) t w none = ticks_touch c n ss t (happens c n s Ticks w) (λ a. none (inr a)) ∙ tick_touches c n s t w (λ eq. none (inl (sym eq)))

inside_at : (e : InEpoch) (t : ℕ) (w u : World) → place_at u t ≡ place_at w t → IsInside w e t → IsInside u e t
inside_at e t w u same k = record { view = k.view; here = same ∙ k.here; boot = k.boot; epoch = k.epoch }

-- where the members are inside before and after all ticks, each has asked
pub ticks_ask : (c : Config) (e : InEpoch) (n : ℕ) (ss : List ℕ) (w : World) → Good w → AreApart ss → ((s : ℕ) → Among s ss → IsMember e s → IsInside w e s) → ((s : ℕ) → Among s ss → IsMember e s → IsInside (ticks_to c n ss w) e s) → (ticks_to c n ss w).over ≡ None →
    (t : ℕ) → IsMember e t → Among t ss ⊎ HasAsked c e w t → HasAsked c e (ticks_to c n ss w) t
ticks_ask c e n [] w good apart before after within t m (inl a) = absurd a
ticks_ask c e n [] w good apart before after within t m (inr h) = h
ticks_ask c e n (s ∷ ss) w good apart before after within t m h = ticks_ask c e n ss u good_u apart.1 before_u (λ x a. after x (inr a)) within t m (next h)
  where
    u : World
    u = happens c n s Ticks w

    good_u : Good u
    good_u = ticks_kept c n Good (round_kept c n Good (good_kept c)) (s ∷ []) w good

    within_u : u.over ≡ None
    within_u = ticks_kept c n (λ (z : World). z.over ≡ None → u.over ≡ None) (over_round c n u) ss u (λ z. z) within

    before_u : (x : ℕ) → Among x ss → IsMember e x → IsInside u e x
    before_u x a k = inside_at e x w u (tick_touches c n s x w (λ eq. apart.0 (subst (λ (y : ℕ). Among y ss) (sym eq) a))) (before x (inr a) k)

    one : Ticked c e s w u
    one = one_tick c e n s w good (λ k. before s (inl refl) k) (λ k. inside_at e s (ticks_to c n ss u) u (sym (ticks_touch c n ss s u apart.0)) (after s (inl refl) k)) within_u

    next : Among t (s ∷ ss) ⊎ HasAsked c e w t → Among t ss ⊎ HasAsked c e u t
    next (inl (inl eq)) = inr (subst (λ (x : ℕ). HasAsked c e u x) (sym eq) (one.own (λ z. m (ap (boot_in e.members.boot) eq ∙ z))))
    next (inl (inr a)) = inl a
    next (inr g) = at_each s t (Among t ss ⊎ HasAsked c e u t) (λ eq. inr (subst (λ (x : ℕ). HasAsked c e u x) eq (one.own (λ z. m (ap (boot_in e.members.boot) (sym eq) ∙ z))))) (λ ne. inr (one.others t ne g))
