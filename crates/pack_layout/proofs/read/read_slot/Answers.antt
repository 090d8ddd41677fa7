use Rattle.std.proofs.Common.{◌≡◌, ◌∙◌, ap, sym, refl, subst, Ok, Some}
use Rattle.std.proofs.lemmas.Bool.{both_ways}
use Rattle.pack_layout.specs.declared.slot.Slot.{Slot}
use Rattle.pack_layout.specs.Layout.{slot_bytes, IsSlot}
use Rattle.pack_layout.proofs.Slots.{only, differ, same_slot, same_answer, no_answer}
use Rattle.pack_layout.proofs.read.read_slot.Goals as goal
use Rattle.pack_layout.proofs.read.read_slot.Goals.{else-slot-ino-via-then-slot-ino+else-is_slot, else-slot-ino-via-else-slot-ino}

pub returns-in_default-clause-slot : goal.returns-in_default-clause-slot
returns-in_default-clause-slot c s = (λ e. absurd (no_answer _ s e), λ p. absurd (differ c.read_whole.result c.in_default.field-0 s c.in_default.is (c.read_whole.ensures.exact ∙ only c.args.bytes.now s p.0 p.1)))

pub returns-in_default-clause-bad : goal.returns-in_default-clause-bad
returns-in_default-clause-bad c = (λ _. (c.if-bytes-ne-OPEN_GATE.false, λ s e is here. differ c.read_whole.result c.in_default.field-0 s c.in_default.is (c.read_whole.ensures.exact ∙ only c.args.bytes.now s e is)), λ _. refl)

pub returns-then-is_slot-clause-slot : goal.returns-then-is_slot-clause-slot
returns-then-is_slot-clause-slot c s =
    let stands = c.in-Ok.ensures.found in (
      λ e. subst (λ (t : Slot). (c.args.bytes.now ≡ slot_bytes t) × IsSlot t × (t.ino ≡ c.args.ino)) (same_answer s c.in-Ok.slot e) (stands, c.is_slot.ensures.0 c.if-is_slot.true, c.if-slot-ino.true),
      λ p. ap (λ (t : Slot). Ok (Some t)) (same_slot c.read_whole.result s c.in-Ok.slot c.in-Ok.is (c.read_whole.ensures.exact ∙ only c.args.bytes.now s p.0 p.1)),
    )

pub returns-then-is_slot-clause-bad : goal.returns-then-is_slot-clause-bad
returns-then-is_slot-clause-bad c =
    let stands = c.in-Ok.ensures.found in
    (λ e. absurd cc, λ p. absurd (p.1 c.in-Ok.slot stands (c.is_slot.ensures.0 c.if-is_slot.true) c.if-slot-ino.true))

pub returns-else-slot-ino-clause-slot : goal.returns-else-slot-ino-clause-slot
returns-else-slot-ino-clause-slot c s = (
  λ e. absurd (no_answer _ s e),
  λ p.
      let same : c.in-Ok.slot ≡ s = same_slot c.read_whole.result s c.in-Ok.slot c.in-Ok.is (c.read_whole.ensures.exact ∙ only c.args.bytes.now s p.0 p.1) in
      let is : IsSlot c.in-Ok.slot = subst (λ (t : Slot). IsSlot t) (sym same) p.1 in
      let here : c.in-Ok.slot.ino ≡ c.args.ino = ap (λ (t : Slot). t.ino) same ∙ p.2 in
      absurd (elim c.else-slot-ino.branch [
        | else-slot-ino-via-then-slot-ino+else-is_slot w ↦ both_ways w.is_slot.result w.if-is_slot.false (w.is_slot.ensures.1 is)
        | else-slot-ino-via-else-slot-ino w ↦ w.if-slot-ino.false here
      ]),
)

pub returns-else-slot-ino-clause-bad : goal.returns-else-slot-ino-clause-bad
returns-else-slot-ino-clause-bad c = (
  λ _. (
    c.if-bytes-ne-OPEN_GATE.false,
    λ s e is_slot place.
        let same : c.in-Ok.slot ≡ s = same_slot c.read_whole.result s c.in-Ok.slot c.in-Ok.is (c.read_whole.ensures.exact ∙ only c.args.bytes.now s e is_slot) in
        let is : IsSlot c.in-Ok.slot = subst (λ (t : Slot). IsSlot t) (sym same) is_slot in
        let here : c.in-Ok.slot.ino ≡ c.args.ino = ap (λ (t : Slot). t.ino) same ∙ place in
        elim c.else-slot-ino.branch [
          | else-slot-ino-via-then-slot-ino+else-is_slot w ↦ both_ways w.is_slot.result w.if-is_slot.false (w.is_slot.ensures.1 is)
          | else-slot-ino-via-else-slot-ino w ↦ w.if-slot-ino.false here
        ],
  ),
  λ _. refl,
)
