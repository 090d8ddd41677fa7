-- Members of an epoch that are together: they run, and packets come from each to each.
use Rattle.std.proofs.Common.{◌≡◌, ◌≢◌, ℕ, true, false, ◌&&◌, Option, Some, None, sym, ◌∙◌, ap, subst, arith}
use Rattle.std.proofs.lemmas.Bool.Decides.{nat_tests}
use Rattle.role_steps.proofs.of_plain_facts.Tests.{both_true}
use Rattle.locus_ids.specs.Sites.{has}
use Rattle.locus_ids.specs.declared.config.Config.{Config}
use Rattle.wire_messages.specs.declared.body.Body.{Body}
use Rattle.wire_messages.specs.declared.packet.Packet.{Packet}
use Rattle.role_steps.specs.Tables.{first_that}
use Rattle.role_steps.specs.Views.{all_sites, is_member, pack_sites, sync_site}
use Rattle.role_steps.specs.declared.rounds.InEpoch.{InEpoch}
use Rattle.the_run.specs.Kept.{Among}
use Rattle.the_run.specs.Runs.{can_come, next_packet_of, next_packet}
use Rattle.the_run.specs.Worlds.{World, Limit, Numbered, boot_of, is_cut, is_up}
use Rattle.the_run.proofs.Boots.{at_each}
use Rattle.row_laws.specs.Orderly.Calm.{IsInside, AreTogether}
use Rattle.row_laws.specs.Orderly.Settling.{boot_at}
use Rattle.row_laws.proofs.Orderly.Places.{is_up_linked}
use Rattle.calm_laws.specs.Carrying.{IsMember, Goes}
use Rattle.calm_laws.specs.Calming.{ReachThemselves}
use Rattle.calm_laws.proofs.Lists.{none_passes, first_passes}

-- who is in the list by the test is a member
pub member_of : (e : InEpoch) (s : ℕ) → is_member e.members s ≡ true → IsMember e s
member_of e s h z = grind (arith, nat_tests)

-- the synchronization site of a group is a member that has a pack of it
pub sync_is : (c : Config) (e : InEpoch) (group css : ℕ) → sync_site c e.members group ≡ Some css → (has (pack_sites c group) css ≡ true) × IsMember e css
sync_is c e group css h =
    let k : (has (pack_sites c group) css ≡ true) × (is_member e.members css ≡ true) = both_true (has (pack_sites c group) css) (is_member e.members css) (first_passes (λ s. has (pack_sites c group) s && is_member e.members s) all_sites css h) in
    (k.0, member_of e css k.1)

pub member_runs : (e : InEpoch) (w : World) (s : ℕ) → AreTogether w e → IsMember e s → boot_at w s ≢ 0
member_runs e w s h m = (let k : IsInside w e s = h.inside s m in λ z. m (sym (ap boot_of k.here ∙ k.boot) ∙ z))

-- no limit is passed, and no packet can come: so none that can come is under way
nothing_can : (w : World) → w.over ≡ None → next_packet w ≡ None → first_that (can_come w) w.underway ≡ None
nothing_can w within nothing = ap (λ (o : Option Limit). next_packet_of w o) (sym within) ∙ nothing

-- none is under way between members then
pub nothing_goes : (c : Config) (e : InEpoch) (w : World) (from to : ℕ) (b : Body) (z : Numbered) → AreTogether w e → ReachThemselves e w → w.over ≡ None → next_packet w ≡ None → Among z w.underway → Goes c e from to b z.packet → ⊥
nothing_goes c e w from to b z together reach within nothing there g = none_passes (can_come w) w.underway (nothing_can w within nothing) z there comes
  where
    uncut : is_cut w from to ≡ false
    uncut = at_each from to (is_cut w from to ≡ false) (λ eq. subst (λ (t : ℕ). is_cut w from t ≡ false) eq (reach from g.sender)) (λ ne. together.connected from to g.sender g.receiver ne)

    comes : can_come w z ≡ true
    comes = ap (λ (p : Packet). is_up w p.from p.to) g.is ∙ is_up_linked w from to (member_runs e w from together g.sender) (member_runs e w to together g.receiver) uncut
