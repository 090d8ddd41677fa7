use Rattle.std.proofs.Common.{true, false, Ok, Some, subst, sym, ◌∙◌, ap, Bool}
use Rattle.std.specs.Prelude.{Option}
use Rattle.pack_layout.specs.declared.slot.Slot.{Slot}
use Rattle.pack_layout.specs.declared.half.Half.TheVariants.{First, Second}
use Rattle.pack_layout.specs.Layout.{slot_at}
use Rattle.pack_slots.specs.declared.inode_copy.InodeCopy.{InodeCopy}
use Rattle.pack_slots.specs.Slots.{IsRead, IsSlotFound}
use Rattle.pack_slots.proofs.Reading.{alone, first_wins, second_wins}
use Rattle.pack_slots.proofs.slots.choose.Goals as goal

pub returns-in-Some-true-clause-found : goal.returns-in-Some-true-clause-found
returns-in-Some-true-clause-found c base ino image a b =
    let one = subst (λ (o : Option Slot). IsRead ino (slot_at base ino First) image (Ok o)) c.in-Some-Some.is-0 a in
    let two = subst (λ (o : Option Slot). IsRead ino (slot_at base ino Second) image (Ok o)) c.in-Some-Some.is-1 b in
    let newer_is = sym c.newer.ensures ∙ c.in-Some-true.is ∙ ap (λ (f : Bool). Some f) c.in-Some-true.field-0-test in
    subst (λ (copy : InodeCopy). IsSlotFound base ino image (Some copy) true) (sym c.slot_copy-in-Some-true.ensures) (second_wins base ino image _ _ one two newer_is)

pub returns-in-Some-false-clause-found : goal.returns-in-Some-false-clause-found
returns-in-Some-false-clause-found c base ino image a b =
    let one = subst (λ (o : Option Slot). IsRead ino (slot_at base ino First) image (Ok o)) c.in-Some-Some.is-0 a in
    let two = subst (λ (o : Option Slot). IsRead ino (slot_at base ino Second) image (Ok o)) c.in-Some-Some.is-1 b in
    let newer_is = sym c.newer.ensures ∙ c.in-Some-false.is ∙ ap (λ (f : Bool). Some f) c.in-Some-false.field-0-test in
    subst (λ (copy : InodeCopy). IsSlotFound base ino image (Some copy) true) (sym c.slot_copy-in-Some-false.ensures) (first_wins base ino image _ _ one two newer_is)

pub returns-in-None-Some-clause-found : goal.returns-in-None-Some-clause-found
returns-in-None-Some-clause-found c base ino image a b =
    let one = subst (λ (o : Option Slot). IsRead ino (slot_at base ino First) image (Ok o)) c.in-None-Some.is-0 a in
    let two = subst (λ (o : Option Slot). IsRead ino (slot_at base ino Second) image (Ok o)) c.in-None-Some.is-1 b in
    subst (λ (copy : InodeCopy). IsSlotFound base ino image (Some copy) false) (sym c.slot_copy.ensures) (alone base ino Second image c.in-None-Some.slot two one)

pub returns-in-Some-None-clause-found : goal.returns-in-Some-None-clause-found
returns-in-Some-None-clause-found c base ino image a b =
    let one = subst (λ (o : Option Slot). IsRead ino (slot_at base ino First) image (Ok o)) c.in-Some-None.is-0 a in
    let two = subst (λ (o : Option Slot). IsRead ino (slot_at base ino Second) image (Ok o)) c.in-Some-None.is-1 b in
    subst (λ (copy : InodeCopy). IsSlotFound base ino image (Some copy) false) (sym c.slot_copy-in-Some-None.ensures) (alone base ino First image c.in-Some-None.slot one two)
