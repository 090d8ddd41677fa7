use Rattle.std.proofs.Common.{subst}
use Rattle.std.specs.Prelude.{Option, Result}
use Rattle.pack_layout.specs.declared.half.Half.TheVariants.{First, Second}
use Rattle.pack_layout.specs.declared.slot.Slot.{Slot}
use Rattle.pack_layout.specs.declared.slot.BadSlot.{BadSlot}
use Rattle.pack_layout.specs.Layout.{slot_at}
use Rattle.pack_slots.specs.Slots.{IsGoodInode, IsRead}
use Rattle.pack_slots.proofs.Reading.{bad_slot, if_err}
use Rattle.pack_slots.proofs.slots.both.Goals as goal

pub returns-in_err-first-clause-bad : goal.returns-in_err-first-clause-bad
returns-in_err-first-clause-bad c base ino image a b =
    if_err c.from_residual.result (IsGoodInode base ino image → ⊥)
    (bad_slot base ino image First c.in_err-first.field-0.0 (subst (λ (r : Result (Option Slot) BadSlot). IsRead ino (slot_at base ino First) image r) c.in_err-first.was a))

pub returns-in_err-second-clause-bad : goal.returns-in_err-second-clause-bad
returns-in_err-second-clause-bad c base ino image a b =
    if_err c.from_residual-in_err-second.result (IsGoodInode base ino image → ⊥)
    (bad_slot base ino image Second c.in_err-second.field-0.0 (subst (λ (r : Result (Option Slot) BadSlot). IsRead ino (slot_at base ino Second) image r) c.in_err-second.was b))
