-- Each packet that is underway is among those that were sent.
use Rattle.std.proofs.Common.{◌≡◌, ℕ, ◌+◌, ◌==◌, ◌⊎◌, true, false, List, [], ◌∷◌, ◌++◌, Some, None, refl, sym, subst, inl, inr}
use Rattle.locus_ids.specs.declared.config.Config.{Config}
use Rattle.wire_messages.specs.declared.packet.Packet.{Packet}
use Rattle.role_steps.specs.Tables.{without_row}
use Rattle.role_steps.specs.Views.{SiteView, Told, Outcome}
use Rattle.the_run.specs.Disks.{Booted, Whole, CutOff, boots, cut_disk}
use Rattle.the_run.specs.Worlds.{World, Running, Numbered, number_of, happened, newest_onto, numbered_from, cut_told, puts, arms, passed, stops_with, acts, script_of, first_world}
use Rattle.the_run.specs.Runs.{boots_as}
use Rattle.the_run.specs.Kept.{Among, WasSent, Kept}
use Rattle.the_run.proofs.Boots.{acts_cases}
use Rattle.the_run.proofs.Events.{happened_keeps}
use Rattle.site_laws.proofs.Packs.WriterAsksRun.{newest_leads, newest_has}

abbrev pub UnderwaySent : World → Type 0
UnderwaySent w = (x : Numbered) → Among x w.underway → Among x w.sent

pub sent_among : (w : World) (x : Numbered) → WasSent w x → UnderwaySent w → Among x w.sent
sent_among w x (inl a) h = a
sent_among w x (inr a) h = h x a

among_either : (x : Numbered) (xs ys : List Numbered) → Among x (xs ++ ys) → Among x xs ⊎ Among x ys
among_either x [] ys h = inr h
among_either x (y ∷ xs) ys (inl e) = inl (inl e)
among_either x (y ∷ xs) ys (inr h) = more (among_either x xs ys h)
  where
    more : Among x xs ⊎ Among x ys → Among x (y ∷ xs) ⊎ Among x ys
    more (inl a) = inl (inr a)
    more (inr a) = inr a

by_head : (x y : Numbered) (xs ys : List Numbered) → (Among x xs → Among x ys) → Among x (y ∷ xs) → Among x (y ∷ ys)
by_head x y xs ys f (inl e) = inl e
by_head x y xs ys f (inr g) = inr (f g)

among_without : (k : ℕ) (x : Numbered) (xs : List Numbered) → Among x (without_row number_of k xs) → Among x xs
among_without k x [] h = h
among_without k x (y ∷ ys) h =
    (elim (number_of y == k) as (λ b. Among x (elim b [ true ↦ ys | false ↦ y ∷ without_row number_of k ys ]) → Among x (y ∷ ys)) [
      | true ↦ λ g. inr g
      | false ↦ λ g. by_head x y (without_row number_of k ys) ys (among_without k x ys) g
    ]) h

happened_sent : (n : ℕ) (ps : List Packet) (told : List Told) (change : World → World) (w : World) → (change w).sent ≡ w.sent → (change w).underway ≡ w.underway → UnderwaySent w → UnderwaySent (happened n ps told change w)
happened_sent n ps told change w sent underway h =
    happened_keeps UnderwaySent n ps told change w h (λ l. h)
    (λ k b t x a. either x (among_either x (change w).underway new a))
  where
    new : List Numbered
    new = numbered_from (w.packets + 1) ps

    either : (x : Numbered) → Among x (change w).underway ⊎ Among x new → Among x (newest_onto new (change w).sent)
    either x (inl a) = newest_leads new (change w).sent x (subst (λ (xs : List Numbered). Among x xs) (sym sent) (h x (subst (λ (xs : List Numbered). Among x xs) underway a)))
    either x (inr a) = newest_has new (change w).sent x a

acts_sent : (n s : ℕ) (v : SiteView) (o : Outcome SiteView) (w : World) → UnderwaySent w → UnderwaySent (acts n s v o w)
acts_sent n s v o w h =
    acts_cases UnderwaySent n s v o w
    (happened_sent n o.sent o.told (λ now. puts s (Running o.view) now) w refl refl h)
    (λ a. happened_sent n o.sent o.told (λ now. puts s (Running o.view) (arms a now)) w refl refl h)
    (λ d a e. happened_sent n [] (cut_told s v.store d a.how a.left) (stops_with s (cut_disk v.boot v.store d a.how a.left)) w refl refl h)

as_sent : (n s : ℕ) (b : Booted) (w : World) → UnderwaySent w → UnderwaySent (boots_as n s b w)
as_sent n s (Whole x None) w h = happened_sent n [] _ _ w refl refl h
as_sent n s (Whole x (Some a)) w h = happened_sent n [] _ _ w refl refl h
as_sent n s (CutOff x how) w h = happened_sent n [] _ (stops_with s x) w refl refl h

passed_sent : (k : ℕ) (w : World) → UnderwaySent w → UnderwaySent (passed k w)
passed_sent k w h x a = h x (among_without k x w.underway a)

pub underway_kept : (c : Config) → Kept c UnderwaySent
underway_kept c = record {
  steps = λ n s e v w here own h. acts_sent n s v _ w h;
  receives = λ n x v w here sent h. acts_sent n x.packet.to v _ (passed x.number w) (passed_sent x.number w h);
  passes = λ k w h. passed_sent k w h;
  drops = λ k w h. passed_sent k w h;
  recuts = λ xs w h. h;
  arming = λ a w h. h;
  voiding = λ n w h. happened_sent n [] _ (λ now. now) w refl refl h;
  budgets = λ n w h. happened_sent n [] _ (λ now. now) w refl refl h;
  pending = λ n w h. happened_sent n [] _ (λ now. now) w refl refl h;
  stopping = λ n s v w here h. happened_sent n [] _ (stops_with s _) w refl refl h;
  booting = λ n s d w here h. as_sent n s (boots (script_of w s) d) w h;
}

pub first_underway : (c : Config) → UnderwaySent (first_world c)
first_underway c x a = absurd a
