-- A packet that a member takes in its epoch is of that epoch.
use Rattle.std.proofs.Common.{◌≡◌, ◌≢◌, ℕ, ◌==◌, Bool, true, false, ◌&&◌, ◌||◌, not, Some, refl, sym, ◌∙◌, ap, arith}
use Rattle.std.proofs.lemmas.Bool.Decides.{nat_tests}
use Rattle.role_steps.proofs.of_plain_facts.Tests.{both_true, true_false}
use Rattle.trace_book.specs.Same.{same_epoch}
use Rattle.wire_messages.specs.declared.packet.Packet.{Packet}
use Rattle.role_steps.specs.Views.{SiteView, boot_in}
use Rattle.role_steps.specs.declared.rounds.InEpoch.{InEpoch}
use Rattle.the_run.specs.Steps.{is_dropped, is_forming, is_framed}
use Rattle.tree_laws.proofs.Names.{same_epoch_eq}

framed : (p : Packet) (v : SiteView) → is_forming p ≡ false → is_dropped p v ≡ false → is_framed p v.epoch ≡ true
framed p v forms taken = undropped (p.to_boot == v.boot) (is_forming p) (is_framed p v.epoch) forms taken
  where
    undropped : (a f b : Bool) → f ≡ false → not (a && (f || b)) ≡ false → b ≡ true
    undropped true false true q h = refl
    undropped true false false q h = absurd (true_false h)
    undropped true true b q h = absurd (true_false q)
    undropped false f b q h = absurd (true_false h)

pub came_in : (e : InEpoch) (p : Packet) (v : SiteView) → v.epoch ≡ Some e → is_forming p ≡ false → is_dropped p v ≡ false → p.epoch ≡ e.id
came_in e p v inside forms taken = sym (same_epoch_eq e.id p.epoch (both_true (same_epoch e.id p.epoch) (boot_in e.members.boot p.from == p.from_boot) (ap (is_framed p) (sym inside) ∙ framed p v forms taken)).0)

pub from_member : (e : InEpoch) (p : Packet) (v : SiteView) → v.epoch ≡ Some e → is_forming p ≡ false → is_dropped p v ≡ false → (p.from_boot ≡ 0 → ⊥) → boot_in e.members.boot p.from ≢ 0
from_member e p v inside forms taken boot z = boot (sym (same_number (boot_in e.members.boot p.from) p.from_boot (both_true (same_epoch e.id p.epoch) (boot_in e.members.boot p.from == p.from_boot) (ap (is_framed p) (sym inside) ∙ framed p v forms taken)).1) ∙ z)
  where
    same_number : (a b : ℕ) → (a == b) ≡ true → a ≡ b
    same_number a b h = grind (arith, nat_tests)
