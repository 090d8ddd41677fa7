-- The end of a round: no notice is under way to a member any more, so no version is due there, and the one that was on its way is held.
use Rattle.std.proofs.Common.{◌≡◌, ℕ, ◌≤◌, ◌==◌, Bool, true, false, ◌&&◌, List, [], ◌∷◌, ◌++◌, Option, None, refl, sym, ◌∙◌, ap, subst, inl, inr, arith}
use Rattle.role_steps.proofs.of_plain_facts.Numbers.{equal}
use Rattle.role_steps.proofs.of_plain_facts.Tests.{both_true}
use Rattle.locus_ids.specs.declared.config.Config.{Config}
use Rattle.trace_book.specs.Same.{same_epoch}
use Rattle.role_steps.specs.Own.{Every}
use Rattle.role_steps.specs.Views.{boot_in}
use Rattle.role_steps.specs.declared.rounds.InEpoch.{InEpoch}
use Rattle.the_run.specs.Kept.{Among}
use Rattle.the_run.specs.Runs.{can_come, next_packet_of, next_packet}
use Rattle.the_run.specs.Worlds.{World, Limit, Numbered, is_cut, is_up}
use Rattle.the_run.proofs.Boots.{at_each}
use Rattle.site_laws.specs.Makes.Made.{IsSender, NumberedSender}
use Rattle.row_laws.specs.Orderly.Calm.{AreTogether}
use Rattle.row_laws.proofs.Orderly.Places.{is_up_linked}
use Rattle.calm_laws.specs.Carrying.{IsMember}
use Rattle.calm_laws.specs.Calming.{ReachThemselves}
use Rattle.calm_laws.proofs.Lists.{every_among, none_passes}
use Rattle.calm_laws.proofs.Members.{member_runs}
use Rattle.calm_laws.specs.Convergence.Offers.{is_for, names_to, named}

-- ---- no packet for a member is under way ----

nothing_can : (w : World) → w.over ≡ None → next_packet w ≡ None → (y : Numbered) → Among y w.underway → can_come w y ≡ true → ⊥
nothing_can w within nothing = none_passes (can_come w) w.underway (ap (λ (o : Option Limit). next_packet_of w o) (sym within) ∙ nothing)

-- a packet that is for a member comes from a member
pub from_member : (e : InEpoch) (s : ℕ) (x : Numbered) → IsSender x.packet → is_for e s x.packet ≡ true → (x.packet.to ≡ s) × IsMember e x.packet.from
from_member e s x sender h =
    let a : ((x.packet.to == s) ≡ true) × _ = both_true (x.packet.to == s) _ h in
    let b : _ × ((same_epoch e.id x.packet.epoch && (boot_in e.members.boot x.packet.from == x.packet.from_boot)) ≡ true) = both_true (x.packet.to_boot == boot_in e.members.boot s) _ a.1 in
    let d : _ × ((boot_in e.members.boot x.packet.from == x.packet.from_boot) ≡ true) = both_true (same_epoch e.id x.packet.epoch) _ b.1 in
    (equal x.packet.to s a.0, λ z. low x.packet.from_boot sender.boot (sym (equal (boot_in e.members.boot x.packet.from) x.packet.from_boot d.1) ∙ z))
  where
    low : (n : ℕ) → 1 ≤ n → n ≡ 0 → ⊥
    low n le z = omega (arith, le, z)

pub for_none : (c : Config) (e : InEpoch) (w : World) (s : ℕ) → AreTogether w e → ReachThemselves e w → w.over ≡ None → next_packet w ≡ None → Every NumberedSender w.underway → IsMember e s → (x : Numbered) → Among x w.underway → is_for e s x.packet ≡ true → ⊥
for_none c e w s together reach within nothing senders m x there h = nothing_can w within nothing x there comes
  where
    k : (x.packet.to ≡ s) × IsMember e x.packet.from
    k = from_member e s x (every_among NumberedSender x w.underway there senders) h

    uncut : is_cut w x.packet.from s ≡ false
    uncut = at_each x.packet.from s (is_cut w x.packet.from s ≡ false) (λ eq. subst (λ (t : ℕ). is_cut w x.packet.from t ≡ false) eq (reach x.packet.from k.1)) (λ ne. together.connected x.packet.from s k.1 m ne)

    comes : can_come w x ≡ true
    comes = ap (λ (t : ℕ). is_up w x.packet.from t) k.0 ∙ is_up_linked w x.packet.from s (member_runs e w x.packet.from together k.1) (member_runs e w s together m) uncut

pub none_named : (e : InEpoch) (s : ℕ) (xs : List Numbered) → ((x : Numbered) → Among x xs → is_for e s x.packet ≡ true → ⊥) → named e s xs ≡ []
none_named e s [] h = refl
none_named e s (x ∷ xs) h = over (is_for e s x.packet) refl (none_named e s xs (λ y a. h y (inr a)))
  where
    over : (b : Bool) → is_for e s x.packet ≡ b → named e s xs ≡ [] → names_to b x.packet.body ++ named e s xs ≡ []
    over true k n = absurd (h x (inl refl) k)
    over false k n = n
