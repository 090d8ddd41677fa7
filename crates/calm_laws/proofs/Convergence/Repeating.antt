-- After the ticks of a round each member has sent again what it sends at each tick, of a kind that doesn't change as the tick ends.
use Rattle.std.proofs.Common.{◌≡◌, ◌≢◌, ℕ, ◌⊎◌, List, [], ◌∷◌, ◌++◌, Option, Some, None, refl, sym, ◌∙◌, ap, subst, inl, inr}
use Rattle.role_steps.proofs.of_plain_facts.Options.{none_some, some_same}
use Rattle.locus_ids.specs.declared.config.Config.{Config}
use Rattle.locus_ids.specs.declared.sites.Links.{Links}
use Rattle.wire_messages.specs.declared.packet.Packet.{Packet}
use Rattle.role_steps.specs.Epochs.{frame_in, poll_repeats, install_repeats}
use Rattle.role_steps.specs.Own.{Every}
use Rattle.role_steps.specs.Views.{Frame, SiteView, Outcome, Ticks, boot_in}
use Rattle.role_steps.specs.declared.rounds.InEpoch.{InEpoch}
use Rattle.the_run.specs.Disks.{Disk}
use Rattle.the_run.specs.Kept.{Among}
use Rattle.the_run.specs.Runs.{ticks_to}
use Rattle.the_run.specs.Steps.{in_order, adopts_in, repeats_inside, repeats_of, repeats, ends_event, step}
use Rattle.the_run.specs.Worlds.{World, Place, Running, Stopped, Numbered, place_at, links_of, acts, happens, happens_at}
use Rattle.the_run.proofs.Boots.{at_each}
use Rattle.the_run.proofs.Growing.{acts_touches}
use Rattle.run_laws.specs.Epochs.Forming.{TableFormless, FormlessSite}
use Rattle.run_laws.specs.Epochs.Known.{Good}
use Rattle.run_laws.proofs.Epochs.Run.{good_kept}
use Rattle.run_laws.proofs.Epochs.Forms.{adopts_of_formless}
use Rattle.row_laws.specs.Orderly.Calm.{IsInside}
use Rattle.row_laws.proofs.Orderly.Formed.{among_left, among_right}
use Rattle.row_laws.proofs.Orderly.Places.{view_eq}
use Rattle.row_laws.proofs.Orderly.Rounds.{ticks_kept}
use Rattle.calm_laws.specs.Carrying.{IsMember, frame_of}
use Rattle.calm_laws.proofs.Events.{Under, RunsOn, Moved, acts_moved}
use Rattle.calm_laws.proofs.Rounds.{round_kept}
use Rattle.calm_laws.proofs.Ticks.{AreApart, no_round, over_round}
use Rattle.calm_laws.proofs.Convergence.Coming.{Ends, ends_keep}

-- what a site sends again at each tick
abbrev pub Says : Type 0
Says = Frame → SiteView → List Packet

-- all of it is under way
abbrev pub HasTold : Says → Config → InEpoch → World → ℕ → Type 0
HasTold told c e w s = (v : SiteView) → place_at w s ≡ Some (Running v) → (q : Packet) → Among q (told (frame_of c e s) v) → Under w.underway q

-- a tick touches no other site
pub tick_touches : (c : Config) (n s t : ℕ) (w : World) → (s ≡ t → ⊥) → place_at (happens c n s Ticks w) t ≡ place_at w t
tick_touches c n s t w ne = by_place (place_at w s)
  where
    by_place : (o : Option Place) → place_at (happens_at c n s Ticks o w) t ≡ place_at w t
    by_place None = refl
    by_place (Some (Stopped d)) = refl
    by_place (Some (Running v)) = (acts_touches n s v (step c s (links_of w s) v Ticks) w).others t ne

pub ticks_touch : (c : Config) (n : ℕ) (ss : List ℕ) (t : ℕ) (w : World) → (Among t ss → ⊥) → place_at (ticks_to c n ss w) t ≡ place_at w t
ticks_touch c n [] t w none = refl
ticks_touch c n (s ∷ ss) t w none = ticks_touch c n ss t (happens c n s Ticks w) (λ a. none (inr a)) ∙ tick_touches c n s t w (λ eq. none (inl (sym eq)))

inside_at : (e : InEpoch) (t : ℕ) (w u : World) → place_at u t ≡ place_at w t → IsInside w e t → IsInside u e t
inside_at e t w u same k = record { view = k.view; here = same ∙ k.here; boot = k.boot; epoch = k.epoch }

under_later : (w u : World) (q : Packet) → ((y : Numbered) → Among y w.underway → Among y u.underway) → Under w.underway q → Under u.underway q
under_later w u q stays h = record { letter = h.letter; there = stays h.letter h.there; is = h.is }

told_later : (told : Says) (c : Config) (e : InEpoch) (w u : World) (t : ℕ) → place_at u t ≡ place_at w t → ((y : Numbered) → Among y w.underway → Among y u.underway) → HasTold told c e w t → HasTold told c e u t
told_later told c e w u t same stays h v here q a = under_later w u q stays (h v (sym same ∙ here) q a)

stopped_running : (d : Disk) (v : SiteView) → ◌≡◌ {A = Option Place} (Some (Stopped d)) (Some (Running v)) → ⊥
stopped_running d v e = cc

none_running : (v : SiteView) → ◌≡◌ {A = Option Place} None (Some (Running v)) → ⊥
none_running v e = cc

-- what a tick leaves of this site and of each other
record Ticked (told : Says) (c : Config) (e : InEpoch) (s : ℕ) (w u : World) : Type 0 where
  own : IsMember e s → HasTold told c e u s
  others : (t : ℕ) → s ≢ t → HasTold told c e w t → HasTold told c e u t

-- each of its packets is one that a site repeats in its epoch, and it is what the tick's end leaves to be said
module _ (told : Says) (repeated : (f : Frame) (e : InEpoch) (v : SiteView) (q : Packet) → Among q (told f v) → Among q (repeats_inside f e v)) (ended : (f : Frame) (a b : SiteView) → Ends a b → told f b ≡ told f a) where
  -- a member sends it again at its tick
  in_epoch : (c : Config) (e : InEpoch) (s : ℕ) (a : SiteView) (q : Packet) → a.epoch ≡ Some e → a.boot ≡ boot_in e.members.boot s → Among q (told (frame_of c e s) a) → Among q (repeats c s a)
  in_epoch c e s a q inside boot h = by_epoch a.epoch inside
    where
      by_epoch : (o : Option InEpoch) → o ≡ Some e → Among q (repeats_of c s o a)
      by_epoch None k = absurd (none_some e k)
      by_epoch (Some d) k =
          subst (λ (i : InEpoch). Among q (repeats_of c s (Some i) a)) (sym (some_same d e k))
          (among_right q (in_order (poll_repeats s a a.round ++ install_repeats s a e)) (repeats_inside (frame_in c s a.boot e) e a)
          (subst (λ (b : ℕ). Among q (repeats_inside (frame_in c s b e) e a)) (sym boot) (repeated (frame_of c e s) e a q h)))

  tick_tells : (c : Config) (e : InEpoch) (s : ℕ) (links : Links) (v : SiteView) → Every TableFormless v.tables → v.round ≡ None → v.epoch ≡ Some e → v.boot ≡ boot_in e.members.boot s → (q : Packet) → Among q (told (frame_of c e s) (step c s links v Ticks).view) → Among q (step c s links v Ticks).sent
  tick_tells c e s links v formless none inside boot q h = among_right q a.sent _ (among_left q (repeats c s a.view) (in_order last.sent) (in_epoch c e s a.view q (formed.epoch ∙ inside) (formed.boot ∙ boot) (subst (λ (qs : List Packet). Among q qs) (ended (frame_of c e s) a.view last.view ends) h)))
    where
      a : Outcome SiteView
      a = adopts_in c s v

      last : Outcome SiteView
      last = ends_event c s links a.view

      formed : FormlessSite v a
      formed = adopts_of_formless c s v.epoch v formless

      ends : Ends a.view last.view
      ends = ends_keep c s links a.view e (formed.round ∙ none) (formed.epoch ∙ inside)

  one_tick : (c : Config) (e : InEpoch) (n s : ℕ) (w : World) → Good w → (IsMember e s → IsInside w e s) → (IsMember e s → IsInside (happens c n s Ticks w) e s) → (happens c n s Ticks w).over ≡ None → Ticked told c e s w (happens c n s Ticks w)
  one_tick c e n s w good inside_before = by_place (place_at w s) refl
    where
      quiet_tick : ((v : SiteView) → place_at w s ≡ Some (Running v) → ⊥) → (IsMember e s → IsInside w e s) → w.over ≡ None → Ticked told c e s w w
      quiet_tick never later within = record { own = λ m. (let k : IsInside w e s = inside_before m in absurd (never k.view k.here)); others = λ t ne h. h }

      by_place : (o : Option Place) → place_at w s ≡ o → (IsMember e s → IsInside (happens_at c n s Ticks o w) e s) → (happens_at c n s Ticks o w).over ≡ None → Ticked told c e s w (happens_at c n s Ticks o w)
      by_place None here = quiet_tick (λ v h. none_running v (sym here ∙ h))
      by_place (Some (Stopped d)) here = quiet_tick (λ v h. stopped_running d v (sym here ∙ h))
      by_place (Some (Running v)) here = λ later within. running v here later within
        where
          running : (v : SiteView) → place_at w s ≡ Some (Running v) → (IsMember e s → IsInside (acts n s v (step c s (links_of w s) v Ticks) w) e s) → (acts n s v (step c s (links_of w s) v Ticks) w).over ≡ None → Ticked told c e s w (acts n s v (step c s (links_of w s) v Ticks) w)
          running v here later within = record { own = λ m. over m k.ran; others = λ t ne h. told_later told c e w u t (k.others t ne) k.stays h }
            where
              o : Outcome SiteView
              o = step c s (links_of w s) v Ticks

              u : World
              u = acts n s v o w

              k : Moved n s o w u
              k = acts_moved n s v o w within

              over : IsMember e s → RunsOn n s o w u ⊎ ((d : Disk) × (place_at u s ≡ Some (Stopped d))) → HasTold told c e u s
              over m (inr stop) z there q a = (let i : IsInside u e s = later m in absurd (stopped_running stop.0 i.view (sym stop.1 ∙ i.here)))
              over m (inl run) z there q a =
                  let i : IsInside w e s = inside_before m in
                  let is_v : i.view ≡ v = view_eq (place_at w s) i.view v i.here here in
                  let inside : v.epoch ≡ Some e = ap (λ (x : SiteView). x.epoch) (sym is_v) ∙ i.epoch in
                  run.sent q (tick_tells c e s (links_of w s) v (good.views s v here).tables (no_round w s v e good here inside) inside (ap (λ (x : SiteView). x.boot) (sym is_v) ∙ i.boot) q
                  (subst (λ (x : SiteView). Among q (told (frame_of c e s) x)) (view_eq (place_at u s) z o.view there run.here) a))

  -- where the members are inside before and after all ticks, each has sent again what it sends at its ticks
  pub ticks_tell : (c : Config) (e : InEpoch) (n : ℕ) (ss : List ℕ) (w : World) → Good w → AreApart ss → ((s : ℕ) → Among s ss → IsMember e s → IsInside w e s) → ((s : ℕ) → Among s ss → IsMember e s → IsInside (ticks_to c n ss w) e s) → (ticks_to c n ss w).over ≡ None → (t : ℕ) →
      IsMember e t → Among t ss ⊎ HasTold told c e w t → HasTold told c e (ticks_to c n ss w) t
  ticks_tell c e n [] w good apart before after within t m (inl a) = absurd a
  ticks_tell c e n [] w good apart before after within t m (inr h) = h
  ticks_tell c e n (s ∷ ss) w good apart before after within t m h = ticks_tell c e n ss u good_u apart.1 before_u (λ x a. after x (inr a)) within t m (next h)
    where
      u : World
      u = happens c n s Ticks w

      good_u : Good u
      good_u = ticks_kept c n Good (round_kept c n Good (good_kept c)) (s ∷ []) w good

      within_u : u.over ≡ None
      within_u = ticks_kept c n (λ (z : World). z.over ≡ None → u.over ≡ None) (over_round c n u) ss u (λ z. z) within

      before_u : (x : ℕ) → Among x ss → IsMember e x → IsInside u e x
      before_u x a k = inside_at e x w u (tick_touches c n s x w (λ eq. apart.0 (subst (λ (y : ℕ). Among y ss) (sym eq) a))) (before x (inr a) k)

      one : Ticked told c e s w u
      one = one_tick c e n s w good (λ k. before s (inl refl) k) (λ k. inside_at e s (ticks_to c n ss u) u (sym (ticks_touch c n ss s u apart.0)) (after s (inl refl) k)) within_u

      next : Among t (s ∷ ss) ⊎ HasTold told c e w t → Among t ss ⊎ HasTold told c e u t
      next (inl (inl eq)) = inr (subst (λ (x : ℕ). HasTold told c e u x) (sym eq) (one.own (λ z. m (ap (boot_in e.members.boot) eq ∙ z))))
      next (inl (inr a)) = inl a
      next (inr g) = at_each s t (Among t ss ⊎ HasTold told c e u t) (λ eq. inr (subst (λ (x : ℕ). HasTold told c e u x) eq (one.own (λ z. m (ap (boot_in e.members.boot) (sym eq) ∙ z))))) (λ ne. inr (one.others t ne g))
