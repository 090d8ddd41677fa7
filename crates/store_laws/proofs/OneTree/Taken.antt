-- A packet that a site takes is of its epoch, and of the boot of a member.
use Rattle.std.proofs.Common.{◌≡◌, ℕ, ◌==◌, nat_lt, Bool, true, false, not, ◌&&◌, ◌||◌, Option, Some, refl, sym, subst}
use Rattle.role_steps.proofs.of_plain_facts.Numbers.{equal}
use Rattle.role_steps.proofs.of_plain_facts.Tests.{both_true, not_false, or_other}
use Rattle.trace_book.specs.Same.{same_epoch}
use Rattle.wire_messages.specs.Bodies.{kind_number}
use Rattle.wire_messages.specs.declared.packet.Packet.{Packet}
use Rattle.wire_messages.specs.declared.body.Body.{Body}
use Rattle.role_steps.specs.Views.{SiteView, boot_in}
use Rattle.role_steps.specs.declared.rounds.InEpoch.{InEpoch}
use Rattle.the_run.specs.Steps.{is_dropped, is_forming, is_framed}
use Rattle.tree_laws.proofs.Names.{same_epoch_eq}

-- it is the epoch of the site
pub taken_epoch : (p : Packet) (x : Body) (v : SiteView) (e : InEpoch) → p.body ≡ x → nat_lt (kind_number x) 6 ≡ false → is_dropped p v ≡ false → v.epoch ≡ Some e → p.epoch ≡ e.id
taken_epoch p x v e q inside h here =
    let forming : is_forming p ≡ false = subst (λ (y : Body). nat_lt (kind_number y) 6 ≡ false) (sym q) inside in
    let a : ((p.to_boot == v.boot) ≡ true) × ((is_forming p || is_framed p v.epoch) ≡ true) = both_true (p.to_boot == v.boot) (is_forming p || is_framed p v.epoch) (not_false ((p.to_boot == v.boot) && (is_forming p || is_framed p v.epoch)) h) in
    let b : is_framed p (Some e) ≡ true = subst (λ (o : Option InEpoch). is_framed p o ≡ true) here (or_other (is_forming p) (is_framed p v.epoch) forming a.1) in
    sym (same_epoch_eq e.id p.epoch (both_true (same_epoch e.id p.epoch) (boot_in e.members.boot p.from == p.from_boot) b).0)

-- and its sender is a member with its boot number
pub taken_boot : (p : Packet) (x : Body) (v : SiteView) (e : InEpoch) → p.body ≡ x → nat_lt (kind_number x) 6 ≡ false → is_dropped p v ≡ false → v.epoch ≡ Some e → boot_in e.members.boot p.from ≡ p.from_boot
taken_boot p x v e q inside h here =
    let forming : is_forming p ≡ false = subst (λ (y : Body). nat_lt (kind_number y) 6 ≡ false) (sym q) inside in
    let a : ((p.to_boot == v.boot) ≡ true) × ((is_forming p || is_framed p v.epoch) ≡ true) = both_true (p.to_boot == v.boot) (is_forming p || is_framed p v.epoch) (not_false ((p.to_boot == v.boot) && (is_forming p || is_framed p v.epoch)) h) in
    let b : is_framed p (Some e) ≡ true = subst (λ (o : Option InEpoch). is_framed p o ≡ true) here (or_other (is_forming p) (is_framed p v.epoch) forming a.1) in
    equal (boot_in e.members.boot p.from) p.from_boot (both_true (same_epoch e.id p.epoch) (boot_in e.members.boot p.from == p.from_boot) b).1
