-- In every run each packet is of one of the sites, in a boot of it.
use Rattle.std.proofs.Common.{◌≡◌, ◌≤◌, ℕ, ◌+◌, List, [], Some, None, refl, sym, ◌∙◌, ap, subst, arith}
use Rattle.role_steps.proofs.of_plain_facts.Options.{some_same}
use Rattle.locus_ids.specs.declared.config.Config.{Config}
use Rattle.wire_messages.specs.declared.packet.Packet.{Packet}
use Rattle.role_steps.specs.Own.{Every, IsOwn as IsOwnPacket, Sends}
use Rattle.role_steps.specs.Views.{SiteView, Told, Outcome, Receives, all_sites}
use Rattle.the_run.specs.Disks.{Disk, Booted, Whole, CutOff, boots, cut_disk}
use Rattle.the_run.specs.Steps.{step}
use Rattle.the_run.specs.Worlds.{World, Place, Running, Stopped, number_of, links_of, place_at, script_of, happened, numbered_from, disk_of, puts, arms, passed, stops_with, acts, fresh, first_world}
use Rattle.the_run.specs.Runs.{boots_as}
use Rattle.the_run.specs.Kept.{Among, Kept}
use Rattle.the_run.proofs.Boots.{Reached, boots_reached, at_each, acts_cases, every_newest, every_numbered, every_weaker}
use Rattle.the_run.proofs.Events.{happened_keeps, puts_other, puts_same}
use Rattle.the_run.proofs.InsideSync.{every_without}
use Rattle.role_steps.proofs.Sending.{every_append}
use Rattle.the_run.proofs.StepSends.{step_sends}
use Rattle.run_laws.proofs.Walks.FirstWorld.{first_places, in_all_sites}
use Rattle.site_laws.specs.Makes.Made.{IsSender, NumberedSender, IsPlaced, WorldSent}

places_of : (s : ℕ) (new : Place) (w : World) → IsPlaced s new → ((t : ℕ) (p : Place) → place_at w t ≡ Some p → IsPlaced t p) → (t : ℕ) (p : Place) → place_at (puts s new w) t ≡ Some p → IsPlaced t p
places_of s new w h g t p here = at_each s t (IsPlaced t p)
    (λ e. subst (λ (n : ℕ). IsPlaced n p) e (subst (IsPlaced s) (some_same new p (sym (puts_same s new w) ∙ (ap (place_at (puts s new w)) e ∙ here))) h))
    (λ ne. g t p (sym (puts_other s t new w ne) ∙ here))

happened_sent : (n : ℕ) (ps : List Packet) (told : List Told) (change : World → World) (w : World) → (change w).sent ≡ w.sent → (change w).underway ≡ w.underway → ((t : ℕ) (p : Place) → place_at (change w) t ≡ Some p → IsPlaced t p) → Every IsSender ps → WorldSent w → WorldSent (happened n ps told change w)
happened_sent n ps told change w sent underway places h g =
    happened_keeps WorldSent n ps told change w g
    (λ l. record { places = g.places; senders = g.senders; underway = g.underway })
    (λ k b t. record { places = places; senders = every_newest NumberedSender (numbered_from (w.packets + 1) ps) (change w).sent (every_numbered IsSender (w.packets + 1) ps h) (subst (Every NumberedSender) (sym sent) g.senders); underway = every_append NumberedSender (change w).underway (numbered_from (w.packets + 1) ps) (subst (Every NumberedSender) (sym underway) g.underway) (every_numbered IsSender (w.packets + 1) ps h) })

own_sender : (s boot : ℕ) (p : Packet) → Among s all_sites → 1 ≤ boot → IsOwnPacket s boot p → IsSender p
own_sender s boot p site low own = record { site = subst (λ (n : ℕ). Among n all_sites) (sym own.site) site; boot = subst (λ (n : ℕ). 1 ≤ n) (sym own.number) low }

acts_sent : (n s : ℕ) (v : SiteView) (o : Outcome SiteView) (w : World) → place_at w s ≡ Some (Running v) → Sends s v.boot o → WorldSent w → WorldSent (acts n s v o w)
acts_sent n s v o w here own g =
    acts_cases WorldSent n s v o w
    (happened_sent n o.sent o.told (λ now. puts s (Running o.view) now) w refl refl (places_of s (Running o.view) w runs g.places) sent g)
    (λ a. happened_sent n o.sent o.told (λ now. puts s (Running o.view) (arms a now)) w refl refl (places_of s (Running o.view) w runs g.places) sent g)
    (λ d a e. happened_sent n [] _ (stops_with s (cut_disk v.boot v.store d a.how a.left)) w refl refl (places_of s (Stopped (cut_disk v.boot v.store d a.how a.left)) w (record { site = old.site; boot = old.boot }) g.places) tt g)
  where
    old : IsPlaced s (Running v)
    old = g.places s (Running v) here

    runs : IsPlaced s (Running o.view)
    runs = record { site = old.site; boot = subst (λ (n : ℕ). 1 ≤ n) (sym own.view) old.boot }

    sent : Every IsSender o.sent
    sent = every_weaker (IsOwnPacket s v.boot) IsSender o.sent (λ p h. own_sender s v.boot p old.site old.boot h) own.sent

as_sent : (n s : ℕ) (d : Disk) (b : Booted) (w : World) → place_at w s ≡ Some (Stopped d) → Reached d.label.boot (d.label.boot + 1) b → WorldSent w → WorldSent (boots_as n s b w)
as_sent n s d (Whole x None) w here r g = happened_sent n [] _ _ w refl refl (λ t p at. places_of s (Running (fresh x.label.boot x.copies)) w (record { site = (g.places s (Stopped d) here).site; boot = rises d.label.boot x.label.boot r }) g.places t p at) tt g
  where
    rises : (a b : ℕ) → a + 1 ≤ b → 1 ≤ b
    rises a b h = omega (arith, h)
as_sent n s d (Whole x (Some a)) w here r g = happened_sent n [] _ _ w refl refl (λ t p at. places_of s (Running (fresh x.label.boot x.copies)) w (record { site = (g.places s (Stopped d) here).site; boot = rises d.label.boot x.label.boot r }) g.places t p at) tt g
  where
    rises : (a b : ℕ) → a + 1 ≤ b → 1 ≤ b
    rises a b h = omega (arith, h)
as_sent n s d (CutOff x how) w here r g = happened_sent n [] _ _ w refl refl (places_of s (Stopped x) w (record { site = (g.places s (Stopped d) here).site; boot = keeps d.label.boot x.label.boot (g.places s (Stopped d) here).boot r }) g.places) tt g
  where
    keeps : (a b : ℕ) → 1 ≤ a → a ≤ b → 1 ≤ b
    keeps a b p h = omega (arith, p, h)

passed_sent : (k : ℕ) (w : World) → WorldSent w → WorldSent (passed k w)
passed_sent k w g = record { places = g.places; senders = g.senders; underway = every_without NumberedSender number_of k w.underway g.underway }

pub sent_kept : (c : Config) → Kept c WorldSent
sent_kept c = record {
  steps = λ n s e v w here own g. acts_sent n s v (step c s (links_of w s) v e) w here (step_sends c s v.boot (links_of w s) v e refl) g;
  receives = λ n x v w here sent g. acts_sent n x.packet.to v (step c x.packet.to (links_of (passed x.number w) x.packet.to) v (Receives x.packet)) (passed x.number w) here (step_sends c x.packet.to v.boot (links_of (passed x.number w) x.packet.to) v (Receives x.packet) refl) (passed_sent x.number w g);
  passes = λ k w g. passed_sent k w g;
  drops = λ k w g. (let p : WorldSent (passed k w) = passed_sent k w g in record { places = p.places; senders = p.senders; underway = p.underway });
  recuts = λ xs w g. record { places = g.places; senders = g.senders; underway = g.underway };
  arming = λ a w g. record { places = g.places; senders = g.senders; underway = g.underway };
  voiding = λ n w g. happened_sent n [] _ _ w refl refl g.places tt g;
  budgets = λ n w g. happened_sent n [] _ _ w refl refl g.places tt g;
  pending = λ n w g. happened_sent n [] _ _ w refl refl g.places tt g;
  stopping = λ n s v w here g. happened_sent n [] _ _ w refl refl (places_of s (Stopped (disk_of v)) w (record { site = (g.places s (Running v) here).site; boot = (g.places s (Running v) here).boot }) g.places) tt g;
  booting = λ n s d w here g. as_sent n s d (boots (script_of w s) d) w here (boots_reached (script_of w s) d) g;
}

pub first_sent : (c : Config) → WorldSent (first_world c)
first_sent c = record { places = first_places c IsPlaced (λ s own. record { site = in_all_sites c s own; boot = omega arith }); senders = tt; underway = tt }
